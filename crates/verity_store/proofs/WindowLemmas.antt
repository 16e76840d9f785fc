-- The first bytes of a file that is written over, or filled with zeros behind them.
use Rattle.std.proofs.Common.{◌≡◌, refl, ℕ, ◌+◌, ◌-◌, ◌<◌, ◌≤◌, Option, None, Some, List, [], ◌++◌, length, take, drop, replicate}
use Rattle.std.proofs.Common.{length-drop, length-append, append_assoc, sym, ap, subst, ◌∙◌, arith}
use Rattle.std.proofs.lemmas.List.{length-replicate, append-nil, length-take-le, take-append-drop, take-take, take-append-le}
use Rattle.std.proofs.lemmas.List.{drop-drop, drop-take, take_at, drop_at, take_all, drop_all, replicate-append-replicate}
use Rattle.verity_store.specs.RawFile.{overwritten, with_length, known_len, HasLength, Reads, Writes, MayWrite, SetsLength}
use Rattle.verity_store.specs.Window.{first_bytes, bytes_behind}
use Rattle.verity_store.proofs.FileLemmas.{length-overwritten}

take-overwritten : (n at : ℕ) (w b : List ℕ) → n ≤ at → at ≤ length b → take n (overwritten at w b) ≡ take n b
take-overwritten n at w b front fits =
    let len : length (take at b) ≡ at = length-take-le at b fits in
    take-append-le n (take at b) (w ++ drop (at + length w) b) (omega arith) ∙ take-take n at b front

-- what is written, and all in front of it
start_of : (at : ℕ) (w b : List ℕ) → at ≤ length b → take (at + length w) (overwritten at w b) ≡ take at b ++ w
start_of at w b fits =
    let len : length (take at b ++ w) ≡ at + length w = length-append (take at b) w
    ∙ ap (λ (k : ℕ). k + length w) (length-take-le at b fits) in
    ap (take (at + length w)) (sym (append_assoc (take at b) w (drop (at + length w) b)))
    ∙ take_at (take at b ++ w) (drop (at + length w) b) (at + length w) len

end_of : (at : ℕ) (w b : List ℕ) → at ≤ length b → drop (at + length w) (overwritten at w b) ≡ drop (at + length w) b
end_of at w b fits =
    let len : length (take at b ++ w) ≡ at + length w = length-append (take at b) w
    ∙ ap (λ (k : ℕ). k + length w) (length-take-le at b fits) in
    ap (drop (at + length w)) (sym (append_assoc (take at b) w (drop (at + length w) b)))
    ∙ drop_at (take at b ++ w) (drop (at + length w) b) (at + length w) len

drop-overwritten : (n at : ℕ) (w b : List ℕ) → at + length w ≤ n → at ≤ length b → drop n (overwritten at w b) ≡ drop n b
drop-overwritten n at w b behind fits =
    let end : ℕ = at + length w in
    let all : end + (n - end) ≡ n = omega arith in
    ap (λ (k : ℕ). drop k (overwritten at w b)) (sym all) ∙ sym (drop-drop (n - end) end (overwritten at w b))
    ∙ ap (drop (n - end)) (end_of at w b fits) ∙ drop-drop (n - end) end b ∙ ap (λ (k : ℕ). drop k b) all

-- a write inside the first bytes is a write of them
inside : (n at : ℕ) (w b : List ℕ) → at + length w ≤ n → n ≤ length b → take n (overwritten at w b) ≡ overwritten at w (take n b)
inside n at w b within fits =
    let end : ℕ = at + length w in
    let rest : ℕ = n - end in
    let all : end + rest ≡ n = omega arith in
    let tail : List ℕ = drop end b in
    let front : List ℕ = take at b ++ w in
    let len : length front ≡ end = length-append (take at b) w ∙ ap (λ (k : ℕ). k + length w) (length-take-le at b (omega arith)) in
    let tail_len : length (take rest tail) ≡ rest = length-take-le rest tail (simp length-drop (omega arith)) in
    let cut : List ℕ = front ++ take rest tail in
    let cut_len : length cut ≡ n = length-append front (take rest tail) ∙ (omega arith) in
    let split : overwritten at w b ≡ cut ++ drop rest tail =
    sym (append_assoc (take at b) w tail) ∙ ap (λ (xs : List ℕ). front ++ xs) (sym (take-append-drop rest tail))
    ∙ sym (append_assoc front (take rest tail) (drop rest tail)) in
    let kept : take rest tail ≡ drop end (take n b) = sym (drop-take end rest b) ∙ ap (λ (k : ℕ). drop end (take k b)) all in
    ap (take n) split ∙ take_at cut (drop rest tail) n cut_len
    ∙ append_assoc (take at b) w (take rest tail)
    ∙ ap (λ (xs : List ℕ). take at b ++ (w ++ xs)) kept
    ∙ ap (λ (xs : List ℕ). xs ++ (w ++ drop end (take n b))) (sym (take-take at n b (omega arith)))

-- two writes, one behind the other, are one
joined : (at : ℕ) (v w b : List ℕ) → at ≤ length b → overwritten (at + length v) w (overwritten at v b) ≡ overwritten at (v ++ w) b
joined at v w b fits =
    let mid : List ℕ = overwritten at v b in
    let end : ℕ = at + length v in
    let far : end + length w ≡ at + length (v ++ w) = simp length-append (omega arith) in
    ap (λ (xs : List ℕ). xs ++ (w ++ drop (end + length w) mid)) (start_of at v b fits)
    ∙ ap (λ (xs : List ℕ). (take at b ++ v) ++ (w ++ xs)) (drop-overwritten (end + length w) at v b (omega arith) fits)
    ∙ append_assoc (take at b) v (w ++ drop (end + length w) b)
    ∙ ap (λ (xs : List ℕ). take at b ++ xs) (sym (append_assoc v w (drop (end + length w) b)))
    ∙ ap (λ (k : ℕ). take at b ++ ((v ++ w) ++ drop k b)) far

nothing : (at : ℕ) (b : List ℕ) → overwritten at [] b ≡ b
nothing at b = let none : at + 0 ≡ at = omega arith in
    ap (λ (k : ℕ). take at b ++ drop k b) none ∙ take-append-drop at b

grown : (n m : ℕ) (b : List ℕ) → n ≤ m → m ≤ length b → take m (overwritten n (replicate (m - n) 0) b) ≡ with_length m (take n b)
grown n m b more fits =
    let zeros : List ℕ = replicate (m - n) 0 in
    let len : length zeros ≡ m - n = length-replicate (m - n) 0 in
    let taken : length (take m b) ≡ m = length-take-le m b fits in
    let short : length (take n b) ≡ n = length-take-le n b (omega arith) in
    inside m n zeros b (omega arith) fits
    ∙ ap (λ (xs : List ℕ). xs ++ (zeros ++ drop (n + length zeros) (take m b))) (take-take n m b more)
    ∙ ap (λ (xs : List ℕ). take n b ++ (zeros ++ xs)) (drop_all (n + length zeros) (take m b) (omega arith))
    ∙ ap (λ (xs : List ℕ). take n b ++ xs) (append-nil zeros)
    ∙ ap (λ (k : ℕ). take n b ++ replicate (m - k) 0) (sym short)
    ∙ ap (λ (xs : List ℕ). xs ++ replicate (m - length (take n b)) 0) (sym (take_all m (take n b) (omega arith)))

narrowed : (n m : ℕ) (b : List ℕ) → n ≤ m → m ≤ length b → take n b ≡ with_length n (take m b)
narrowed n m b less fits =
    let taken : length (take m b) ≡ m = length-take-le m b fits in
    let none : n - length (take m b) ≡ 0 = omega arith in
    sym (take-take n m b less) ∙ sym (append-nil (take n (take m b)))
    ∙ ap (λ (k : ℕ). take n (take m b) ++ replicate k 0) (sym none)

pub window_length : (len room : ℕ) (known : Option (List ℕ)) → HasLength known room → len ≤ room → HasLength (first_bytes len known) len
window_length len room None whole within = refl
window_length len room (Some bytes) whole within = length-take-le len bytes (omega arith)

pub window_known : (len room end : ℕ) (known : Option (List ℕ)) → HasLength known room → len ≤ room →
    end ≤ known_len (first_bytes len known) end → end ≤ known_len known end
window_known len room end None whole within fits = omega arith
window_known len room end (Some bytes) whole within fits =
    let taken : length (take len bytes) ≡ len = length-take-le len bytes (omega arith) in omega arith

pub window_reads : (len room at : ℕ) (known : Option (List ℕ)) (given : List ℕ) → HasLength known room → len ≤ room →
    at + length given ≤ len
    → Reads known at given → Reads (first_bytes len known) at given
window_reads len room at None given whole within fits is = tt
window_reads len room at (Some bytes) given whole within fits is =
    let count : ℕ = length given in
    let rest : at + (len - at) ≡ len = omega arith in
    is ∙ sym (take-take count (len - at) (drop at bytes) (omega arith))
    ∙ ap (take count) (sym (drop-take at (len - at) bytes) ∙ ap (λ (k : ℕ). drop at (take k bytes)) rest)

pub window_writes : (len room at : ℕ) (old new : Option (List ℕ)) (written : List ℕ) → HasLength old room → len ≤ room →
    at + length written ≤ len
    → Writes old new at written → Writes (first_bytes len old) (first_bytes len new) at written
window_writes len room at None new written whole within fits is = ap (first_bytes len) is
window_writes len room at (Some bytes) new written whole within fits is =
    ap (first_bytes len) is ∙ ap Some (inside len at written bytes fits (omega arith))

-- a write keeps the length,
pub window_whole : (room at : ℕ) (old new : Option (List ℕ)) (written : List ℕ) → HasLength old room → at + length written ≤ room
    → Writes old new at written → HasLength new room
window_whole room at None new written whole fits is = rw is refl
window_whole room at (Some bytes) new written whole fits is = rw is (length-overwritten at written bytes (omega arith) ∙ whole)

-- what is in front of it,
pub window_front : (n room at : ℕ) (old new : Option (List ℕ)) (written : List ℕ) → HasLength old room → n ≤ at → at ≤ room
    → Writes old new at written → first_bytes n new ≡ first_bytes n old
window_front n room at None new written whole front fits is = ap (first_bytes n) is
window_front n room at (Some bytes) new written whole front fits is =
    ap (first_bytes n) is ∙ ap Some (take-overwritten n at written bytes front (omega arith))

-- and what is behind it
pub window_behind : (n room at : ℕ) (old new : Option (List ℕ)) (written : List ℕ) → HasLength old room → at + length written ≤ n →
    at ≤ room
    → Writes old new at written → bytes_behind n new ≡ bytes_behind n old
window_behind n room at None new written whole behind fits is = ap (bytes_behind n) is
window_behind n room at (Some bytes) new written whole behind fits is =
    ap (bytes_behind n) is ∙ ap Some (drop-overwritten n at written bytes behind (omega arith))

pub zeros_none : (at : ℕ) (known : Option (List ℕ)) → Writes known known at (replicate (at - at) 0)
zeros_none at None = refl
zeros_none at (Some bytes) = let none : at - at ≡ 0 = omega arith in
    rw none (ap Some (sym (nothing at bytes)))

pub zeros_more : (from at count room : ℕ) (old mid new : Option (List ℕ)) → HasLength old room → from ≤ at → at ≤ room
    → Writes old mid from (replicate (at - from) 0) → Writes mid new at (replicate count 0) →
    Writes old new from (replicate (at + count - from) 0)
zeros_more from at count room None mid new whole order fits was is =
    subst (λ known. Writes known new at (replicate count 0)) was is
zeros_more from at count room (Some bytes) mid new whole order fits was is =
    let zeros : List ℕ = replicate (at - from) 0 in
    let more : List ℕ = replicate count 0 in
    let place : from + length zeros ≡ at = simp length-replicate (omega arith) in
    let all : (at - from) + count ≡ at + count - from = omega arith in
    let written : Writes (Some (overwritten from zeros bytes)) new at more = subst (λ known. Writes known new at more) was is in
    written
    ∙ ap (λ (k : ℕ). Some (overwritten k more (overwritten from zeros bytes))) (sym place)
    ∙ ap Some (joined from zeros more bytes (omega arith))
    ∙ ap (λ (xs : List ℕ). Some (overwritten from xs bytes)) (replicate-append-replicate (at - from) count 0
    ∙ ap (λ (k : ℕ). replicate k 0) all)

pub window_grows : (len n room : ℕ) (old new : Option (List ℕ)) → HasLength old room → len ≤ n → n ≤ room
    → Writes old new len (replicate (n - len) 0) → SetsLength (first_bytes len old) (first_bytes n new) n
window_grows len n room None new whole more fits is = ap (first_bytes n) is
window_grows len n room (Some bytes) new whole more fits is =
    ap (first_bytes n) is ∙ ap Some (grown len n bytes more (omega arith))

pub window_narrows : (len n room : ℕ) (known : Option (List ℕ)) → HasLength known room → n ≤ len → len ≤ room
    → SetsLength (first_bytes len known) (first_bytes n known) n
window_narrows len n room None whole less fits = refl
window_narrows len n room (Some bytes) whole less fits = ap Some (narrowed n len bytes less (omega arith))

-- a write that would end outside is of a file of which nothing is known
pub window_outside : (len room at : ℕ) (known : Option (List ℕ)) (block : List ℕ) → HasLength known room → len ≤ room
    → at + length block ≤ known_len (first_bytes len known) (at + length block) → len < at + length block
    → MayWrite (first_bytes len known) (first_bytes len known) at (length block)
window_outside len room at None block whole within fits outside = (block, refl, refl)
window_outside len room at (Some bytes) block whole within fits outside =
    let taken : length (take len bytes) ≡ len = length-take-le len bytes (omega arith) in absurd (omega arith)
