-- A script that is read up to a byte behind the most that it may have.
use Rattle.std.proofs.Common.{◌≡◌, ◌≤◌, ℕ, ◌+◌, List, [], ◌++◌, length, take, Option, Some, None, IfSome, ap, ◌∙◌, arith}
use Rattle.std.specs.Option.{option_map}
use Rattle.std.proofs.lemmas.List.{take_all, length-take}

-- where no more was read, it is all of it
pub read_whole : (most limit : ℕ) → limit ≡ most + 1 → (known : Option (List ℕ)) (old items : List ℕ) → old ≡ []
    → IfSome (option_map (take limit) known) (λ bytes. items ≡ old ++ bytes) → length items ≤ most → IfSome known (λ bytes. items ≡ bytes)
read_whole most limit behind None old items empty read short = tt
read_whole most limit behind (Some bytes) old items empty read short =
    let all = read ∙ ap (λ front. front ++ take limit bytes) empty in
    let len = ap length all ∙ length-take limit bytes in
    all ∙ take_all limit bytes (omega (arith, len, short, behind))
