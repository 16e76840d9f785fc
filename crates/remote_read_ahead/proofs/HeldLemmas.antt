-- What a window holds is what a read of the file below gives.
use Rattle.std.proofs.Common.{refl, ◌≡◌, ℕ, ◌+◌, ◌-◌, ◌<◌, ◌≤◌, Option, None, Some, List, [], length, take, drop}
use Rattle.std.proofs.Common.{sym, ap, ◌∙◌, arith, subst}
use Rattle.std.proofs.lemmas.List.{take-take, drop-take, drop-drop}
use Rattle.std.specs.Prelude.{All, slice_index_or}
use Rattle.verity_store.specs.RawFile.{Reads}
use Rattle.remote_read_ahead.specs.declared.window.Window.{Window}
use Rattle.remote_read_ahead.specs.Held.{Holds, IsHeld, IsEmpty, Spans, SpansAt}

-- what was read is held,
pub held_from_read : (known : Option (List ℕ)) (at : ℕ) (given : List ℕ) → Reads known at given → Holds known at given
held_from_read None at given is = refl
held_from_read (Some bytes) at given is = sym is

-- and so is nothing
held_none : (known : Option (List ℕ)) (at : ℕ) → Holds known at []
held_none None at = refl
held_none (Some bytes) at = refl

pub held_empty : (known : Option (List ℕ)) (w : Window) → IsEmpty w → IsHeld known w
held_empty known w none = subst (Holds known w.start) (sym none) (held_none known w.start)

pub all_empty : (known : Option (List ℕ)) (windows : List Window) → All IsEmpty windows → All (IsHeld known) windows
all_empty known windows none = λ k d within. held_empty known (slice_index_or windows k d) (none k d within)

-- a part of the front is a part of the whole
part_of_front : (from n m : ℕ) (xs : List ℕ) → from + n ≤ m → take n (drop from (take m xs)) ≡ take n (drop from xs)
part_of_front from n m xs within =
    let all : from + (m - from) ≡ m = omega arith in
    ap (λ (k : ℕ). take n (drop from (take k xs))) (sym all) ∙ ap (take n) (drop-take from (m - from) xs)
    ∙ take-take n (m - from) (drop from xs) (omega arith)

-- a part of a window is what the file has there
pub read_from_held : (known : Option (List ℕ)) (w : Window) (at : ℕ) (out : List ℕ) → IsHeld known w → Spans w at (length out)
    → out ≡ take (length out) (drop (at - w.start) w.bytes.items) → Reads known at out
read_from_held None w at out held spans is = tt
read_from_held (Some bytes) w at out held spans is =
    let from : ℕ = at - w.start in
    let n : ℕ = length out in
    let place : w.start + from ≡ at = omega (arith, spans.0) in
    is ∙ ap (λ (xs : List ℕ). take n (drop from xs)) (sym held)
    ∙ part_of_front from n (length w.bytes.items) (drop w.start bytes) (omega (arith, spans.0, spans.1))
    ∙ ap (take n) (drop-drop from w.start bytes)
    ∙ ap (λ (k : ℕ). take n (drop k bytes)) place

-- the same of a window in a list, which is that of the file's windows
pub read_from_one : (known : Option (List ℕ)) (windows list : List Window) (index : ℕ) (w : Window) (at asked : ℕ) (out : List ℕ)
    → All (IsHeld known) windows → list ≡ windows → index < length list → SpansAt list index at asked → w ≡ slice_index_or windows index w
    → length out ≡ asked → out ≡ take (length out) (drop (at - w.start) w.bytes.items) → Reads known at out
read_from_one known windows list index w at asked out held same within spans this len is =
    let inside : index < length windows = subst (λ (ws : List Window). index < length ws) same within in
    let wide : SpansAt windows index at asked = subst (λ (ws : List Window). SpansAt ws index at asked) same spans in
    read_from_held known w at out (subst (IsHeld known) (sym this) (held index w inside))
    (subst (λ n. Spans w at n) (sym len) (subst (λ v. Spans v at asked) (sym this) (wide w))) is
