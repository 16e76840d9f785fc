use Rattle.verity_line_file.proofs.Tops as tops
use Rattle.verity_line_file.proofs.laws.shows_its_line.Goals as goal

pub returns : goal.returns
returns c = tops.shows_its_line c.has_no_level.ensures c.hashes_all.ensures c.counts_blocks.ensures c.places_blocks.ensures
    c.orders_levels.ensures c.names_digests.ensures
