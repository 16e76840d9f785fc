use Rattle.std.proofs.Common.{ℕ, ◌<◌, arith}
use Rattle.verity_chain.proofs.TableLaws.{row_len-first}
use Rattle.verity_pull.specs.Pull.{pull_given}
use Rattle.verity_pull.specs.Over.{was_given}
use Rattle.verity_pull.proofs.PullLaw.{sized_given}
use Rattle.verity_pull.proofs.OverLaw.{sized_was, settled_own}
use Rattle.verity_pull.proofs.laws.pulled_over_block_by_block.Goals as goal

pub returns : goal.returns
returns g c = λ t root image old front old_data old_hash marks mark l k s h ok fits old_fits local_size data_size hash_size old_size pulled
    told n low.
    let L = g.L.BlockStore in
    let K = g.K.BlockStore in
    let S = g.S.BlockStore in
    let H = g.H.BlockStore in
    settled_own t root image old ok fits old_fits (pull_given L S H t marks l s h) (was_given K t mark k)
    (sized_given L S H t marks l s h local_size data_size hash_size) (sized_was K t mark k root old_size) L 0 n n old_data l
    (omega (arith, low, row_len-first t)) told (pulled.data_blocks n low)
