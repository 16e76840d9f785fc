use Rattle.std.proofs.Common.{◌≡◌, ℕ, ◌+◌, ◌-◌, ◌*◌, ◌/◌, ◌%◌, ◌<◌, ◌≤◌, ◌∷◌, ◌++◌, ◌∙◌, replicate, length, refl, ap, sym, arith}
use Rattle.std.proofs.Math.Nat.{mul-le-mul_left}
use Rattle.sha2.specs.Sha256.{digest_bytes, hash_after, initial_hash_256, padded_message, padding, sha256}
use Rattle.verity_digest_lanes.specs.Lanes.{lane, piece_at}
use Rattle.std.specs.Fork.{slice_chunk}
use Rattle.verity_digest_lanes.proofs.Parts.{hashed_next, length_block, length_message, length_padding, message_parts, whole_in_block}
use Rattle.verity_digest_lanes.proofs.messages.digest_eight.Goals as goal
use Rattle.verity_digest_lanes.proofs.messages.digest_eight.Goals.{then-from-salt+then-from-total, else-from-salt}

-- a lane's block is whole
whole : (size j n : ℕ) → j < 8 → n ≡ 8 * size → (j + 1) * size ≤ n
whole size j n lt e =
    let next : j + 1 ≤ 8 = omega arith in
    omega (arith, mul-le-mul_left size next)

pub chunks-init : goal.chunks-init
unfolding hash_after
chunks-init c = (refl, λ j lt. c.initial_state-state.ensures j lt)

pub chunks-preserved : goal.chunks-preserved
chunks-preserved c =
    let salt = c.args.salt.now in
    let blocks = c.args.blocks.now in
    let size = c.args.size in
    let from = 64 * c.chunks.k in
    elim c.if-from-salt.branch [
      | then-from-salt+then-from-total w ↦ (
        ap length w.room-is ∙ c.chunks.invariant.0,
        λ j lt.
            let fits = whole size j (length blocks) lt c.requires in
            let len : length salt + size ≡ length salt + length (slice_chunk blocks size j) =
            ap (λ k. length salt + k) (sym (length_block blocks size j fits)) in
            hashed_next (lane j c.chunks.state) _ initial_hash_256 (padded_message (salt ++ slice_chunk blocks size j)) c.chunks.k _
            (c.chunks.invariant.1 j lt) (ap (lane j) w.state-is ∙ w.compress.ensures j lt)
            (whole_in_block salt blocks (padding (length salt + size)) 64 size j from (omega arith) (omega arith) fits
            ∙ ap (λ l. piece_at 64 l from) (message_parts padding salt (slice_chunk blocks size j) (padding (length salt + size))
            (length salt + size) len refl)),
      )
      | else-from-salt w ↦ (
        ap length w.room-is ∙ omega arith,
        λ j lt.
            let fits = whole size j (length blocks) lt c.requires in
            let len : length salt + size ≡ length salt + length (slice_chunk blocks size j) =
            ap (λ k. length salt + k) (sym (length_block blocks size j fits)) in
            let place : j * 64 + 0 ≡ j * 64 = omega arith in
            hashed_next (lane j c.chunks.state) _ initial_hash_256 (padded_message (salt ++ slice_chunk blocks size j)) c.chunks.k _
            (c.chunks.invariant.1 j lt) (ap (lane j) w.state-is ∙ w.compress-else-from-salt.ensures j lt)
            (ap (piece_at 64 w.fill_lanes.new.room) place ∙ w.fill_lanes.ensures j lt
            ∙ ap (λ l. piece_at 64 l from) (message_parts padding salt (slice_chunk blocks size j) _ (length salt + size) len
            (c.padding-pad_len.ensures.value ∙ ap (λ b. 0x80 ∷ replicate ((119 - (length salt + size) % 64) % 64) 0 ++ b)
            c.to_be_bytes.ensures))),
      )
    ]

pub returns : goal.returns
unfolding sha256
returns c = λ j lt.
    let salt = c.args.salt.now in
    let size = c.args.size in
    let block = slice_chunk c.args.blocks.now size j in
    let fits = whole size j (length c.args.blocks.now) lt c.requires in
    let len : length salt + size ≡ length salt + length block =
    ap (λ k. length salt + k) (sym (length_block c.args.blocks.now size j fits)) in
    let long = length_message padding salt block (length salt + size) len in
    let done : c.chunks.k ≡ length (padded_message (salt ++ block)) / 64 =
    omega (arith, long, length_padding (length salt + size), c.padding-pad_len.ensures.len) in
    c.lanes.invariant.1 j (omega arith)
    ∙ ap (λ h. digest_bytes h 8) (c.chunks.invariant.1 j lt ∙ ap (hash_after initial_hash_256 (padded_message (salt ++ block))) done)
