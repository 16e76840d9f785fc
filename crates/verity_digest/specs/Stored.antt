-- The fields of a digest, from its bytes.
use Rattle.std.proofs.Common.{◌≡◌, ℕ, ◌-◌, List, ◌++◌, length, take, drop, replicate, ◌==◌, if◌then◌else◌, sym, ap, ◌∙◌, arith}
use Rattle.std.proofs.lemmas.List.{length-take-le, take-append-drop, take_all, append-nil}
use Rattle.verity_digest.specs.declared.digest.Digest.TheInside.{Inside}
use Rattle.verity_digest.specs.declared.algorithm.Algorithm.{Algorithm}
use Rattle.verity_digest.specs.declared.algorithm.Algorithm.TheVariants.{Sha256, Sha512}
use Rattle.verity_digest.specs.Hash.{size_of}
use Rattle.verity_digest.specs.Padded.{shown, stored, IsPadded}

-- stored computes by the length of the bytes, so each algorithm has its case
stored_parts : (bytes : List ℕ) (a : Algorithm) → length bytes ≡ 64 → drop (size_of a) bytes ≡ replicate (64 - size_of a) 0 →
    stored (take (size_of a) bytes) ≡ record { bytes = bytes; algorithm = a }
stored_parts bytes Sha256 len free =
    let short : length (take 32 bytes) ≡ 32 = length-take-le 32 bytes (omega arith) in
    let whole : take 32 bytes ++ replicate (64 - length (take 32 bytes)) 0 ≡ bytes =
    ap (λ n. take 32 bytes ++ replicate (64 - n) 0) short ∙ ap (λ back. take 32 bytes ++ back) (sym free) ∙ take-append-drop 32 bytes in
    ap (λ n. record {
      bytes = take 32 bytes ++ replicate (64 - length (take 32 bytes)) 0;
      algorithm = if n == 32 then Sha256 else Sha512;
    }) short
    ∙ ap (λ b. record { bytes = b; algorithm = Sha256 }) whole
stored_parts bytes Sha512 len free =
    let long : length (take 64 bytes) ≡ 64 = length-take-le 64 bytes (omega arith) in
    let whole : take 64 bytes ++ replicate (64 - length (take 64 bytes)) 0 ≡ bytes =
    ap (λ n. take 64 bytes ++ replicate (64 - n) 0) long ∙ append-nil (take 64 bytes) ∙ take_all 64 bytes (omega arith) in
    ap (λ n. record {
      bytes = take 64 bytes ++ replicate (64 - length (take 64 bytes)) 0;
      algorithm = if n == 32 then Sha256 else Sha512;
    }) long
    ∙ ap (λ b. record { bytes = b; algorithm = Sha512 }) whole

pub stored-shown : (d : Inside) → IsPadded d → stored (shown d) ≡ d
stored-shown d padded = stored_parts d.bytes d.algorithm padded.len padded.free
