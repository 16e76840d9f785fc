-- Commits one after the other, with which a table line is kept in a file.
use Rattle.std.proofs.Common.{◌≡◌, ⊎_elim, inl, inr, ℕ, ◌≤◌, true, Option, None, Some, refl, sym, subst, ◌∙◌, arith}
use Rattle.os_line_file.specs.declared.folder.LineFolder as folder
use Rattle.os_line_file.specs.Folder.{Texts, LeavesOnly}
use Rattle.cli_volume.specs.declared.kept.KeptLine.{KeptLine}
use Rattle.cli_volume.specs.declared.lines.Devices.{Devices}
use Rattle.cli_volume.specs.Kept.{IsLineSince, KeepsFile, KeepsFileOf}

-- a folder's moment is one of those since an earlier one
abbrev pub CountsNow : {F : Type 0} → folder.Ghosts F → Type 0
CountsNow facts = (f : _) (t : ℕ) (c : Texts) → t ≤ facts.moment f → facts.may_leave f c → facts.left_since f t c

-- since a folder's moment there is no other
abbrev pub OnlyNow : {F : Type 0} → folder.Ghosts F → Type 0
OnlyNow facts = (f : _) (c : Texts) → facts.left_since f (facts.moment f) c → facts.may_leave f c

-- what a crash leaves in one run and then in another, of which it leaves nothing else
pub joined : {F : Type 0} (facts : folder.Ghosts F) (a b c : F) (P Q : Texts → Type 0)
    → LeavesOnly facts.moment facts.left_since a b P → LeavesOnly facts.moment facts.left_since b c Q
    → ((d : Texts) → Q d → P d) → LeavesOnly facts.moment facts.left_since a c P
joined facts a b c P Q first then weaker = record {
  later = omega (arith, first.later, then.later);
  each = λ d left. ⊎_elim (λ early. first.each d early) (λ late. weaker d late) (then.before (facts.moment a) d first.later left);
  before = λ t d early left. ⊎_elim (λ past. first.before t d early past) (λ late. inr (weaker d late))
      (then.before t d (omega (arith, early, first.later)) left);
}

-- a line that FILE may have is one of those that it may have had since
pub same_line : {F : Type 0} (facts : folder.Ghosts F) (old : F) (on : Devices) (c d : Texts) → d.line ≡ c.line
    → IsLineSince facts old on c → IsLineSince facts old on d
same_line facts old on c d same is =
    ⊎_elim (λ seen. inl (same ∙ seen))
    (λ rest. inr (⊎_elim (λ left. inl (left.0, left.1, same ∙ left.2)) (λ made. inr (made.0, made.1, same ∙ made.2)) rest)) is

-- those since a later moment are those since an earlier one
pub since_earlier : {F : Type 0} (facts : folder.Ghosts F) → CountsNow facts → (a b : F) (on : Devices)
    → LeavesOnly facts.moment facts.left_since a b (IsLineSince facts a on) → IsLineSince facts a on (facts.seen b)
    → (c : Texts) → IsLineSince facts b on c → IsLineSince facts a on c
since_earlier facts counts a b on moments seen c is =
    ⊎_elim (λ same. same_line facts a on (facts.seen b) c same seen)
    (λ rest. ⊎_elim
    (λ left. same_line facts a on left.0 c left.2 (moments.each left.0 (counts b (facts.moment a) left.0 moments.later left.1)))
    (λ made. inr (inr made)) rest) is

-- no commit leaves it as it is
pub as_it_is : {F : Type 0} (facts : folder.Ghosts F) → OnlyNow facts → (a : KeptLine F) → KeepsFile facts a a
as_it_is facts only a = record {
  devices = refl;
  any_moment = record {
    later = omega arith;
    each = λ c left. inr (inl (c, only a.file.folder c left, refl));
    before = λ t c early left. inl left;
  };
  seen = inr (inl refl);
  stopped = λ is. refl;
}

-- commits, and then others
pub goes_on : {F : Type 0} (facts : folder.Ghosts F) → CountsNow facts → (a b c : KeptLine F) → KeepsFile facts a b → KeepsFile facts b c
    → KeepsFile facts a c
goes_on facts counts a b c one two =
    ⊎_elim (λ stopped. let P : KeptLine _ → Type 0 = λ l. KeepsFile facts a l in subst P (sym (two.stopped stopped)) one)
    (λ seen.
    let on : (d : Texts) → IsLineSince facts b.file.folder b.devices d → IsLineSince facts a.file.folder a.devices d =
    λ d is. since_earlier facts counts a.file.folder b.file.folder a.devices one.any_moment seen d
    (let P : Devices → Type 0 = λ v. IsLineSince facts b.file.folder v d in subst P one.devices is) in
    record {
      devices = two.devices ∙ one.devices;
      any_moment = joined facts a.file.folder b.file.folder c.file.folder (IsLineSince facts a.file.folder a.devices)
          (IsLineSince facts b.file.folder b.devices) one.any_moment two.any_moment on;
      seen = ⊎_elim (λ stops. inl stops) (λ then. inr (on (facts.seen c.file.folder) then)) two.seen;
      stopped = λ is. let same = one.stopped is in
          two.stopped (let P : KeptLine _ → Type 0 = λ l. l.is_stopped ≡ true in subst P (sym same) is) ∙ same;
    })
    one.seen

pub file_as_it_is : {F : Type 0} (facts : folder.Ghosts F) → OnlyNow facts → (a : Option (KeptLine F)) → KeepsFileOf facts a a
file_as_it_is facts only None = tt
file_as_it_is facts only (Some a) = as_it_is facts only a

pub file_goes_on : {F : Type 0} (facts : folder.Ghosts F) → CountsNow facts → (a b c : Option (KeptLine F)) → KeepsFileOf facts a b
    → KeepsFileOf facts b c → KeepsFileOf facts a c
file_goes_on facts counts None None None one two = tt
file_goes_on facts counts None None (Some c) one two = two
file_goes_on facts counts None (Some b) c one two = absurd one
file_goes_on facts counts (Some a) None c one two = absurd one
file_goes_on facts counts (Some a) (Some b) None one two = two
file_goes_on facts counts (Some a) (Some b) (Some c) one two = goes_on facts counts a b c one two
