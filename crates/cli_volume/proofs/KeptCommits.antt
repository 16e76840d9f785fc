-- What a commit does to a table line that is kept in a file.
use Rattle.std.proofs.Common.{◌≡◌, ◌⊎◌, ⊎_elim, inl, inr, ℕ, ◌<◌, List, Bool, true, false, Option, None, Some, refl, sym, ap, subst, ◌∙◌}
use Rattle.std.proofs.Common.{Result, Ok, Err}
use Rattle.os_line_file.specs.declared.folder.LineFolder as folder
use Rattle.verity_commit.specs.declared.notice.Notice as notice
use Rattle.verity_edit.specs.declared.command.Committed.{Committed}
use Rattle.os_line_file.specs.Folder.{Texts, replaced, KeepsLine, LeavesOnly}
use Rattle.verity_line_file.specs.Lines.{text_of}
use Rattle.verity_line_file.specs.Standing.{Replaces}
use Rattle.verity_superblock.specs.Superblock.{Volume}
use Rattle.cli_faults.specs.declared.fault.Fault.{Fault}
use Rattle.cli_faults.specs.declared.fault.Fault.TheVariants.{Store}
use Rattle.verity_store.specs.declared.fault.StoreFault.TheVariants.{Device}
use Rattle.cli_volume.specs.declared.kept.KeptLine.{KeptLine}
use Rattle.cli_volume.specs.declared.lines.Devices.{Devices}
use Rattle.cli_volume.specs.Kept.{WasBegun, IsLineSince, KeepsFile, HoldsLine, holding}
use Rattle.cli_volume.specs.Keeping.{CountsNow, OnlyNow, as_it_is, joined}
use Rattle.cli_volume.specs.Lines.{volume_line}
use Rattle.cli_volume.specs.Noting.{HasKeeper, IsNoted}

weaker : {F : Type 0} (facts : folder.Ghosts F) (a b : F) (P Q : Texts → Type 0) → ((c : Texts) → P c → Q c)
    → LeavesOnly facts.moment facts.left_since a b P → LeavesOnly facts.moment facts.left_since a b Q
weaker facts a b P Q f only = record {
  later = only.later;
  each = λ c left. f c (only.each c left);
  before = λ t c early left. ⊎_elim inl (λ p. inr (f c p)) (only.before t c early left);
}

running : {X : Type 0} (b : Bool) → b ≡ false → b ≡ true → X
running b one two = absurd (cc)

-- FILE stayed while FILE.next was made anew
module _ {F : Type 0} (facts : folder.Ghosts F) (counts : CountsNow facts) (only : OnlyNow facts) (a : KeptLine F)
    (runs : a.is_stopped ≡ false) where
  stayed : (b : KeptLine F) → b.devices ≡ a.devices
      → LeavesOnly facts.moment facts.left_since a.file.folder b.file.folder (KeepsLine (facts.may_leave a.file.folder))
      → (b.is_stopped ≡ true) ⊎ ((facts.seen b.file.folder).line ≡ (facts.seen a.file.folder).line) → KeepsFile facts a b
  stayed b devices moments end = record {
    devices = devices;
    any_moment = weaker facts a.file.folder b.file.folder (KeepsLine (facts.may_leave a.file.folder))
        (IsLineSince facts a.file.folder a.devices) (λ c left. inr (inl left)) moments;
    seen = ⊎_elim (λ stops. inl stops) (λ same. inr (inl same)) end;
    stopped = λ is. running a.is_stopped runs is;
  }

  -- the line wasn't begun
  pub after_declined : (b : KeptLine F) → b.devices ≡ a.devices → b.is_stopped ≡ true
      → LeavesOnly facts.moment facts.left_since a.file.folder b.file.folder (KeepsLine (facts.may_leave a.file.folder))
      → KeepsFile facts a b
  after_declined b devices stops moments = stayed b devices moments (inl stops)

  -- nothing was told of a commit
  pub after_nothing : (b : KeptLine F) → b ≡ a → KeepsFile facts a b
  after_nothing b same = let P : KeptLine F → Type 0 = λ l. KeepsFile facts a l in subst P (sym same) (as_it_is facts only a)

  module _ (volume : Volume) (root : List ℕ) (mid : KeptLine F)
      (begun : WasBegun facts a.file.folder mid.file.folder (volume_line a.devices volume root))
      (same : mid ≡ record a { file = mid.file }) where
    line_same : (facts.seen mid.file.folder).line ≡ (facts.seen a.file.folder).line
    line_same = ap (λ (t : Texts). t.line) begun.begun.seen

    next_is : (facts.seen mid.file.folder).next ≡ Some (text_of (volume_line a.devices volume root))
    next_is = ap (λ (t : Texts). t.next) begun.begun.seen

    devices_same : mid.devices ≡ a.devices
    devices_same = ap (λ (l : KeptLine F). l.devices) same

    -- the line was begun, and the commit failed later
    pub after_begun : KeepsFile facts a mid
    after_begun = stayed mid devices_same begun.any_moment (inr line_same)

    amid : (c : Texts) → Replaces (facts.seen mid.file.folder) (facts.may_leave mid.file.folder) c
        → IsLineSince facts a.file.folder a.devices c
    amid c left = ⊎_elim
        (λ may. inr (inl (begun.any_moment.each c (counts mid.file.folder (facts.moment a.file.folder) c begun.any_moment.later may))))
        (λ replaces. ⊎_elim (λ is. inl (ap (λ (t : Texts). t.line) is ∙ line_same))
        (λ taken. inr (inr (volume, root, taken.0 ∙ next_is))) replaces) left

    -- the line was begun, and then FILE.next was to take FILE's place
    pub after_finish : (b : KeptLine F) → b.devices ≡ mid.devices
        → LeavesOnly facts.moment facts.left_since mid.file.folder b.file.folder
        (Replaces (facts.seen mid.file.folder) (facts.may_leave mid.file.folder))
        → (b.is_stopped ≡ true) ⊎ (facts.seen b.file.folder ≡ replaced (facts.seen mid.file.folder)) → KeepsFile facts a b
    after_finish b devices moments end = record {
      devices = devices ∙ devices_same;
      any_moment = joined facts a.file.folder mid.file.folder b.file.folder (IsLineSince facts a.file.folder a.devices)
          (Replaces (facts.seen mid.file.folder) (facts.may_leave mid.file.folder)) after_begun.any_moment moments amid;
      seen = ⊎_elim (λ stops. inl stops)
          (λ done. inr (inr (inr (volume, root, ap (λ (t : Texts). t.line) done ∙ next_is)))) end;
      stopped = λ is. running a.is_stopped runs is;
    }

    -- and took it
    pub holds_after : (b : KeptLine F) → b.devices ≡ mid.devices
        → facts.seen b.file.folder ≡ replaced (facts.seen mid.file.folder) → HoldsLine facts b volume root
    holds_after b devices done =
        let on : b.devices ≡ a.devices = devices ∙ devices_same in
        let P : Devices → Type 0 = λ d. facts.seen b.file.folder ≡ holding (volume_line d volume root) in
        subst P (sym on) (done ∙ ap replaced begun.begun.seen)

-- the notice of a commit that begins the line
abbrev pub line_notice : {F : Type 0} → folder.Ghosts F → notice.Ghosts (KeptLine F) Fault
line_notice facts = record {
  noted = λ old new volume committed. WasBegun facts old.file.folder new.file.folder (volume_line old.devices volume committed.root)
      × (new ≡ record old { file = new.file });
  declined = λ old new fault. (new.devices ≡ old.devices) × (new.is_stopped ≡ true)
      × LeavesOnly facts.moment facts.left_since old.file.folder new.file.folder (KeepsLine (facts.may_leave old.file.folder))
      × (fault ≡ Store Device → facts.failures old.file.folder < facts.failures new.file.folder);
}

-- what a notice was told of a commit that is answered, and of one that failed
pub noted_of : {N F : Type 0} (facts : notice.Ghosts N F) (old new : N) (volume : Volume) (done : Result Committed F)
    (committed : Committed)
    → done ≡ Ok committed → IsNoted facts old new volume done → facts.noted old new volume committed
noted_of facts old new volume done committed is told = let P : Result Committed _ → Type 0 = λ d. IsNoted facts old new volume d in
    subst P is told

pub failed_of : {N F : Type 0} (facts : notice.Ghosts N F) (old new : N) (volume : Volume) (done : Result Committed F) (e : F)
    → done ≡ Err e → IsNoted facts old new volume done
    → (new ≡ old) ⊎ (((fault : F) × facts.declined old new fault)
    ⊎ ((other : Volume) × (committed : Committed) × facts.noted old new other committed))
failed_of facts old new volume done e is told = let P : Result Committed _ → Type 0 = λ d. IsNoted facts old new volume d in
    subst P is told

-- a keeper that was there before is there as it was
pub has_itself : {K : Type 0} (keeper : Option K) → HasKeeper keeper keeper
has_itself None = tt
has_itself (Some keeper) = refl

pub had_none : {K : Type 0} (old new : Option K) → old ≡ None → HasKeeper old new
had_none old new none = let P : Option _ → Type 0 = λ k. HasKeeper k new in subst P (sym none) tt

pub has_still : {K : Type 0} (old mid new : Option K) (keeper now : K) → HasKeeper old mid → mid ≡ Some keeper → new ≡ Some now
    → now ≡ keeper → HasKeeper old new
has_still None mid new keeper now has is ends same = tt
has_still (Some first) mid new keeper now has is ends same = ends ∙ ap Some same ∙ sym is ∙ has
