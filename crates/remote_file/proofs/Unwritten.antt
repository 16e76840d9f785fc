-- Bytes that stay as they are, as bytes that were written over by themselves.
use Rattle.std.proofs.Common.{refl, ◌≡◌, ℕ, ◌+◌, ◌≤◌, Option, None, Some, List, ◌++◌, length, take, drop, replicate}
use Rattle.std.proofs.Common.{sym, ap, ◌∙◌, arith, length-take-le, length-drop, take-append-drop}
use Rattle.std.proofs.lemmas.List.{drop-drop, length-replicate}
use Rattle.verity_store.specs.RawFile.{known_len, overwritten, MayWrite}

itself : (at n : ℕ) (bytes written : List ℕ) → written ≡ take n (drop at bytes) → length written ≡ n → bytes ≡ overwritten at written bytes
itself at n bytes written is len =
    let rest : drop (at + length written) bytes ≡ drop n (drop at bytes) =
    ap (λ k. drop (at + k) bytes) len ∙ sym (drop-drop n at bytes) in
    sym (take-append-drop at bytes)
    ∙ ap (λ xs. take at bytes ++ xs) (sym (take-append-drop n (drop at bytes)))
    ∙ ap (λ xs. take at bytes ++ (xs ++ drop n (drop at bytes))) (sym is)
    ∙ ap (λ xs. take at bytes ++ (written ++ xs)) (sym rest)

pub unwritten : (known : Option (List ℕ)) (at n : ℕ) → at + n ≤ known_len known (at + n) → MayWrite known known at n
unwritten None at n fits = (replicate n 0, length-replicate n 0, refl)
unwritten (Some bytes) at n fits =
    let written : List ℕ = take n (drop at bytes) in
    let long : n ≤ length (drop at bytes) = omega (arith, length-drop at bytes, fits) in
    let len : length written ≡ n = length-take-le n (drop at bytes) long in
    (written, len, ap Some (itself at n bytes written refl len))
