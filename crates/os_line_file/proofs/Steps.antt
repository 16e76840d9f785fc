-- What a crash may leave of a folder along its steps.
use Rattle.std.proofs.Common.{◌≡◌, refl, sym, ap, subst, ◌∙◌, ◌⊎◌, inl, inr, ℕ, ◌<◌, ◌≤◌, List, [], ◌∷◌, length, Some, None, arith}
use Rattle.os_line_file.specs.Folder.{Texts, with_next, replaced, KeepsLine, MayReplace, MayRemove, IsDurable, Elapses}
use Rattle.os_line_file.specs.Log.{Step, Wrote, Replaced, Removed, Kept, Log, applied, after, InPart, InParts, seen_of, Leaves}
use Rattle.os_line_file.specs.Log.{MightHaveLeft, LeftSince, next_moment, stepped, synced}

-- a step that is cut short may have been done
whole : (step : Step) (old : Texts) → InPart step old (applied step old)
whole (Wrote text) old = refl
whole Replaced old = inr (refl, inr refl)
whole Removed old = (refl, inr refl)

done : (durable : Texts) (steps : List Step) → InParts durable steps (after durable steps)
done durable [] = refl
done durable (step ∷ earlier) = (after durable earlier, done durable earlier, whole step (after durable earlier))

-- what is seen is one of what a crash may leave
pub seen_left : (kept : Kept) → Leaves kept (seen_of kept)
seen_left kept = done kept.durable kept.steps

-- from one log to another a crash leaves what has P
abbrev pub Goes : (old new : Log) → (Texts → Type 0) → Type 0
Goes old new P = Elapses (length old.past) (length new.past) (LeftSince old) (LeftSince new) P

pub stays : (log : Log) (P : Texts → Type 0) → Goes log log P
stays log P = record { later = omega arith; nothing_else = λ t c le left. inl left; keeps = λ t c le left. left }

older : (kept : Kept) (log : Log) (P : Texts → Type 0) → ((c : Texts) → Leaves kept c → P c) → (t : ℕ) (c : Texts)
    → LeftSince (next_moment kept log) t c → LeftSince log t c ⊎ P c
older kept log P here t c (inl now) = inr (here c now)
older kept log P here t c (inr (inl before)) = inl (inl before.1)
older kept log P here t c (inr (inr past)) = inl (inr past)

newer : (kept : Kept) (log : Log) (t : ℕ) (c : Texts) → t ≤ length log.past → LeftSince log t c → LeftSince (next_moment kept log) t c
newer kept log t c le (inl now) = inr (inl (le, now))
newer kept log t c le (inr past) = inr (inr past)

pub one : (kept : Kept) (log : Log) (P : Texts → Type 0) → ((c : Texts) → Leaves kept c → P c) → Goes log (next_moment kept log) P
one kept log P here = record {
  later = omega arith;
  nothing_else = λ t c le left. older kept log P here t c left;
  keeps = λ t c le left. newer kept log t c le left;
}

either : {A B C : Type 0} → A ⊎ C → (A → B ⊎ C) → B ⊎ C
either (inl a) f = f a
either (inr c) f = inr c

pub joined : (old mid new : Log) (P : Texts → Type 0) → Goes old mid P → Goes mid new P → Goes old new P
joined old mid new P first second = record {
  later = omega (arith, first.later, second.later);
  nothing_else = λ t c le left. either (second.nothing_else t c (omega (arith, le, first.later)) left)
      (λ was. first.nothing_else t c le was);
  keeps = λ t c le left. second.keeps t c (omega (arith, le, first.later)) (first.keeps t c le left);
}

-- FILE.next is begun to be made anew
pub write_cut : (old new : Log) (text : List ℕ) → new ≡ stepped (Wrote text) old → Goes old new (KeepsLine (Leaves old.kept))
write_cut old new text e = subst (λ (l : Log). Goes old l (KeepsLine (Leaves old.kept))) (sym e)
    (one (record { durable = old.kept.durable; steps = Wrote text ∷ old.kept.steps }) old (KeepsLine (Leaves old.kept)) (λ c left. left))

after_sync : (old mid new : Log) (P : Texts → Type 0) → Goes old mid P → P (seen_of mid.kept) → new ≡ synced mid → Goes old new P
after_sync old mid new P first last e = subst (λ (l : Log). Goes old l P) (sym e)
    (joined old mid (synced mid) P first
    (one (record { durable = seen_of mid.kept; steps = [] }) mid P (λ c left. subst P (sym left) last)))

-- and it is made
pub write_done : (old mid new : Log) (text : List ℕ) → mid ≡ stepped (Wrote text) old → new ≡ synced mid
    → Goes old new (KeepsLine (Leaves old.kept))
write_done old mid new text e f = after_sync old mid new (KeepsLine (Leaves old.kept)) (write_cut old mid text e)
    (seen_of old.kept, seen_left old.kept, ap (λ (l : Log). (seen_of l.kept).line) e) f

from_seen : (seen c : Texts) → InParts seen (Replaced ∷ []) c → MayReplace seen c
from_seen seen c (mid, same, part) = subst (λ (d : Texts). MayReplace d c) same part

-- FILE.next, which is on the device, is begun to be put in FILE's place
pub replace_cut : (old mid new : Log) → mid ≡ synced old → new ≡ stepped Replaced mid → Goes old new (MayReplace (seen_of old.kept))
replace_cut old mid new e f =
    let P : Texts → Type 0 = MayReplace (seen_of old.kept) in
    let next : Log = stepped Replaced (synced old) in
    let is : new ≡ next = f ∙ ap (λ (l : Log). stepped Replaced l) e in
    subst (λ (l : Log). Goes old l P) (sym is)
    (joined old (synced old) next P
    (one (record { durable = seen_of old.kept; steps = [] }) old P (λ c left. inl left))
    (one (record { durable = seen_of old.kept; steps = Replaced ∷ [] }) (synced old) P (λ c left. from_seen (seen_of old.kept) c left)))

pub replace_done : (old mid half new : Log) → mid ≡ synced old → half ≡ stepped Replaced mid → new ≡ synced half
    → Goes old new (MayReplace (seen_of old.kept))
replace_done old mid half new e f g =
    let is : half ≡ stepped Replaced (synced old) = f ∙ ap (λ (l : Log). stepped Replaced l) e in
    after_sync old half new (MayReplace (seen_of old.kept)) (replace_cut old mid half e f)
    (inr (ap (λ (l : Log). (seen_of l.kept).line) is, inr (ap (λ (l : Log). (seen_of l.kept).next) is))) g

removed_from_seen : (seen c : Texts) → InParts seen (Removed ∷ []) c → MayRemove seen c
removed_from_seen seen c (mid, same, part) = subst (λ (d : Texts). MayRemove d c) same part

as_it_was : (seen c : Texts) → c ≡ seen → MayRemove seen c
as_it_was seen c same = (ap (λ (d : Texts). d.line) same, inl (ap (λ (d : Texts). d.next) same))

-- FILE.next is begun to be removed, once both files are on the device
pub remove_cut : (old mid new : Log) → mid ≡ synced old → new ≡ stepped Removed mid → Goes old new (MayRemove (seen_of old.kept))
remove_cut old mid new e f =
    let P : Texts → Type 0 = MayRemove (seen_of old.kept) in
    let next : Log = stepped Removed (synced old) in
    let is : new ≡ next = f ∙ ap (λ (l : Log). stepped Removed l) e in
    subst (λ (l : Log). Goes old l P) (sym is)
    (joined old (synced old) next P
    (one (record { durable = seen_of old.kept; steps = [] }) old P (λ c left. as_it_was (seen_of old.kept) c left))
    (one (record { durable = seen_of old.kept; steps = Removed ∷ [] }) (synced old) P
    (λ c left. removed_from_seen (seen_of old.kept) c left)))

pub remove_done : (old mid half new : Log) → mid ≡ synced old → half ≡ stepped Removed mid → new ≡ synced half
    → Goes old new (MayRemove (seen_of old.kept))
remove_done old mid half new e f g =
    let is : half ≡ stepped Removed (synced old) = f ∙ ap (λ (l : Log). stepped Removed l) e in
    after_sync old half new (MayRemove (seen_of old.kept)) (remove_cut old mid half e f)
    (ap (λ (l : Log). (seen_of l.kept).line) is, inr (ap (λ (l : Log). (seen_of l.kept).next) is)) g

-- after a sync a crash leaves what is seen
pub sync_durable : (mid new : Log) → new ≡ synced mid → IsDurable (seen_of new.kept) (Leaves new.kept)
sync_durable mid new e = subst (λ (l : Log). IsDurable (seen_of l.kept) (Leaves l.kept)) (sym e) (λ c left. left)
