-- That what three devices in memory do is what is asked of `Disks`.
use Rattle.std.proofs.Common.{◌≡◌, ◌⊎◌, inl, inr, ⊎_elim, refl, ℕ, ◌+◌, ◌≤◌, List, [], ◌∷◌, ◌++◌, length, take, drop, sym, ap, ◌∙◌}
use Rattle.std.proofs.Common.{subst, arith}
use Rattle.std.proofs.lemmas.List.{append_assoc, drop_all}
use Rattle.std.proofs.Common.{append-nil, ◌-◌}
use Rattle.verity_store.specs.RawFile.{overwritten}
use Rattle.verity_disks.specs.declared.disks.Device.{Device}
use Rattle.verity_disks.specs.declared.disks.Device.TheVariants.{Data, Hash, Journal}
use Rattle.verity_disks.specs.Disks.{Contents, put, Stretched, Follows, Stays, Only, Elapses}
use Rattle.verity_disks.specs.Tearing.{Step, Kept, Three, applied, InPart, replay, read_of, InParts, MayLeave, kept_of, with_kept}
use Rattle.verity_disks.specs.Tearing.{stepped, kept_whole, all_read, AllMayLeave, MightHaveLeft}
use Rattle.verity_disks.proofs.Moments.{put_self, reached_self}

-- a call, before which the moment was kept
pub time_goes : (old new : Three) (past past' : List Three) → past' ≡ old ∷ past
    → Elapses (length past) (length past') (λ t c. AllMayLeave old c ⊎ MightHaveLeft t past c) (λ t c. AllMayLeave new c ⊎
    MightHaveLeft t past' c) (AllMayLeave new)
time_goes old new past past' is = subst (λ (l : List Three). Elapses (length past) (length l) (λ t c. AllMayLeave old c ⊎
    MightHaveLeft t past c) (λ t c. AllMayLeave new c ⊎ MightHaveLeft t l c) (AllMayLeave new)) (sym is) (record {
      later = omega arith;
      nothing_else = λ t c le left. ⊎_elim (λ now. inr now) (λ kept.
          ⊎_elim (λ here. inl (inl here.1)) (λ there. inl (inr there)) kept) left;
      keeps = λ t c le left. ⊎_elim (λ now. inr (inl (le, now))) (λ there. inr (inr there)) left;
    })

-- a write that reaches the end, and one that doesn't
pub over_end : (at : ℕ) (new bytes next : List ℕ) → length bytes - at ≤ length new → next ≡ take at bytes ++ new →
    next ≡ overwritten at new bytes
over_end at new bytes next long is =
    is ∙ ap (λ (l : List ℕ). take at bytes ++ l) (sym (append-nil new)
    ∙ ap (λ (l : List ℕ). new ++ l) (sym (drop_all (at + length new) bytes (omega (arith, long)))))

pub over_inside : (at : ℕ) (new bytes next : List ℕ) → next ≡ (take at bytes ++ new) ++ drop (at + length new) bytes →
    next ≡ overwritten at new bytes
over_inside at new bytes next is = is ∙ append_assoc (take at bytes) new (drop (at + length new) bytes)

-- the last step apart
last_step : (bytes : List ℕ) (log : List Step) (step : Step) (c : List ℕ) → InParts bytes (log ++ step ∷ []) c → (d : List ℕ) ×
    InParts bytes log d × InPart step d c
last_step bytes [] step c (mid, part, is) = (bytes, refl, subst (λ (l : List ℕ). InPart step bytes l) (sym is) part)
last_step bytes (first ∷ log) step c (mid, part, rest) = let r = last_step mid log step c rest in (r.0, (mid, part, r.1), r.2)

read_last : (bytes : List ℕ) (log : List Step) (step : Step) → replay bytes (log ++ step ∷ []) ≡ applied step (replay bytes log)
read_last bytes [] step = refl
read_last bytes (first ∷ log) step = read_last (applied first bytes) log step

-- what is read goes on with the log
pub reads_on : (durable seen next : List ℕ) (log longer : List Step) (step : Step) → seen ≡ replay durable log →
    next ≡ applied step seen → longer ≡ log ++ step ∷ [] → next ≡ replay durable longer
reads_on durable seen next log longer step was is more = is ∙ ap (λ (l : List ℕ). applied step l) was
    ∙ sym (read_last durable log step) ∙ ap (λ (l : List Step). replay durable l) (sym more)

pub read_stepped : (step : Step) (kept : Kept) → read_of (stepped step kept) ≡ applied step (read_of kept)
read_stepped step kept = read_last kept.durable kept.log step

-- what may be left after a step was there before, or is left of it in part
may_leave_stepped : (step : Step) (kept : Kept) → InPart step (read_of kept) (applied step (read_of kept)) → (c : List ℕ) →
    MayLeave (stepped step kept) c → (d : List ℕ) × MayLeave kept d × InPart step d c
may_leave_stepped step kept whole c (inl is) =
    (read_of kept, inl refl, subst (λ (l : List ℕ). InPart step (read_of kept) l) (sym (is ∙ read_stepped step kept)) whole)
may_leave_stepped step kept whole c (inr parts) = let r = last_step kept.durable kept.log step c parts in (r.0, inr r.1, r.2)

pub seen_put : (device : Device) (kept : Kept) (three : Three) →
    all_read (with_kept device kept three) ≡ put device (read_of kept) (all_read three)
seen_put device kept three = λ i other. at_put device kept three other i where
  at_put : (device : Device) (kept : Kept) (three : Three) (other : Device) →
      all_read (with_kept device kept three) other ≡ put device (read_of kept) (all_read three) other
  at_put Data kept three Data = refl
  at_put Data kept three Hash = refl
  at_put Data kept three Journal = refl
  at_put Hash kept three Data = refl
  at_put Hash kept three Hash = refl
  at_put Hash kept three Journal = refl
  at_put Journal kept three Data = refl
  at_put Journal kept three Hash = refl
  at_put Journal kept three Journal = refl

-- what may be left of one of three after another was put in its place
left_here : (device : Device) (kept : Kept) (three : Three) (c : Contents) → AllMayLeave (with_kept device kept three) c →
    MayLeave kept (c device)
left_here Data kept three c left = left Data
left_here Hash kept three c left = left Hash
left_here Journal kept three c left = left Journal

-- and of all three, where something that may be left of the former is in its place
left_put : (device : Device) (kept : Kept) (three : Three) (c : Contents) (b : List ℕ) → MayLeave (kept_of three device) b →
    AllMayLeave (with_kept device kept three) c → (other : Device) → MayLeave (kept_of three other) (put device b c other)
left_put Data kept three c b here left Data = here
left_put Data kept three c b here left Hash = left Hash
left_put Data kept three c b here left Journal = left Journal
left_put Hash kept three c b here left Data = left Data
left_put Hash kept three c b here left Hash = here
left_put Hash kept three c b here left Journal = left Journal
left_put Journal kept three c b here left Data = left Data
left_put Journal kept three c b here left Hash = left Hash
left_put Journal kept three c b here left Journal = here

at_back : (device : Device) (b : List ℕ) (c : Contents) (other : Device) → c other ≡ put device (c device) (put device b c) other
at_back Data b c Data = refl
at_back Data b c Hash = refl
at_back Data b c Journal = refl
at_back Hash b c Data = refl
at_back Hash b c Hash = refl
at_back Hash b c Journal = refl
at_back Journal b c Data = refl
at_back Journal b c Hash = refl
at_back Journal b c Journal = refl

back : (device : Device) (b : List ℕ) (c : Contents) → c ≡ put device (c device) (put device b c)
back device b c = λ i other. at_back device b c other i

put_at : (device : Device) (b : List ℕ) (c : Contents) → put device b c device ≡ b
put_at Data b c = refl
put_at Hash b c = refl
put_at Journal b c = refl

-- a step more on a device
pub step_follows : (device : Device) (step : Step) (three : Three) →
    InPart step (all_read three device) (applied step (all_read three device))
    → Follows device (InPart step) (AllMayLeave three) (AllMayLeave (with_kept device (stepped step (kept_of three device)) three))
step_follows device step three whole c left =
    let kept = stepped step (kept_of three device) in
    let r = may_leave_stepped step (kept_of three device) whole (c device) (left_here device kept three c left) in (
      put device r.0 c,
      left_put device kept three c r.0 r.1 left,
      c device,
      subst (λ (l : List ℕ). InPart step l (c device))
          (sym (put_at device r.0 c)) r.2,
      back device r.0 c,
    )

-- nothing was done
pub nothing_follows : (device : Device) (step : List ℕ → List ℕ → Type 0) (three : Three) → ((b : List ℕ) → step b b) →
    Follows device step (AllMayLeave three) (AllMayLeave three)
nothing_follows device step three still c left = reached_self device step (AllMayLeave three) c (still (c device)) left

-- the same of devices that are known by what is said of them
pub step_crash : (device : Device) (step : Step) (three next : Three) → next ≡ with_kept device (stepped step (kept_of three device)) three
    → InPart step (all_read three device) (applied step (all_read three device)) →
    Follows device (InPart step) (AllMayLeave three) (AllMayLeave next)
step_crash device step three next is whole = subst (λ (t : Three). Follows device (InPart step) (AllMayLeave three) (AllMayLeave t))
    (sym is) (step_follows device step three whole)

read_here : (three : Three) (device : Device) → read_of (kept_of three device) ≡ all_read three device
read_here three device = refl

pub step_seen : (device : Device) (step : Step) (three next : Three) → next ≡ with_kept device (stepped step (kept_of three device)) three
    → all_read next ≡ put device (applied step (all_read three device)) (all_read three)
step_seen device step three next is =
    ap all_read is ∙ seen_put device (stepped step (kept_of three device)) three
    ∙ ap (λ (l : List ℕ). put device l (all_read three)) (read_stepped step (kept_of three device))

pub still_crash : (device : Device) (step : List ℕ → List ℕ → Type 0) (three next : Three) → next ≡ three →
    ((b : List ℕ) → step b b) → Follows device step (AllMayLeave three) (AllMayLeave next)
still_crash device step three next is still = subst (λ (t : Three). Follows device step (AllMayLeave three) (AllMayLeave t))
    (sym is) (nothing_follows device step three still)

-- a sync
pub sync_stays : (device : Device) (three : Three) →
    Stays (AllMayLeave three) (AllMayLeave (with_kept device (kept_whole (kept_of three device)) three))
sync_stays device three c left =
    let kept = kept_whole (kept_of three device) in
    let same : c device ≡ read_of (kept_of three device) = ⊎_elim (λ e. e) (λ e. e) (left_here device kept three c left) in
    λ other. subst (λ (f : Contents). MayLeave (kept_of three other) (f other)) (sym (put_self device c))
    (left_put device kept three c (c device) (inl same) left other)

pub sync_only : (device : Device) (three : Three) →
    Only device (all_read three) (AllMayLeave (with_kept device (kept_whole (kept_of three device)) three))
sync_only device three c left = ⊎_elim (λ e. e) (λ e. e) (left_here device (kept_whole (kept_of three device)) three c left)

pub sync_seen : (device : Device) (three : Three) → all_read (with_kept device (kept_whole (kept_of three device)) three) ≡ all_read three
sync_seen device three = seen_put device (kept_whole (kept_of three device)) three ∙ sym (put_self device (all_read three))

pub stretched_self : (n : ℕ) (b : List ℕ) → Stretched n b b
stretched_self n b = record { front = refl; no_shorter = omega arith; no_longer = omega arith }
