use Rattle.std.proofs.Common.{◌≡◌, ℕ, rules, sym, subst, ◌∙◌}
use Rattle.std.specs.Io.KnownBytes.{Appends}
use Rattle.cli_volume.specs.Lines.{superblock_lines}
use Rattle.cli_dump.proofs.Printing.{blames_none, never_s1, where_done}
use Rattle.cli_dump.proofs.dumping.dump.Goals as goal

pub returns-clause-printed : goal.returns-clause-printed
returns-clause-printed g c =
    let read = c.in_ok-superblock.ensures in
    let before = g.W.Write.contents c.args.output.now in
    let after = g.W.Write.contents c.print_superblock.new.output in
    where_done c.print_superblock.result (λ printed. record {
      offset = c.in_ok-offset.offset;
      volume = c.in_ok-superblock.superblock;
      opened = c.in_ok-hash.hash;
      source = c.in_ok-hash_store.hash_store;
      left = c.superblock_in.new.hash_store;
      asked = sym c.number.ensures ∙ c.in_ok-offset.was;
      is_opened = c.in_ok-hash.ensures.opened;
      there = c.in_ok-hash_store.ensures.lies;
      given = read.given;
      profile = read.profile;
      begins = read.begins;
      printed = subst (λ (n : ℕ). Appends before after (superblock_lines c.in_ok-superblock.superblock n)) read.start printed;
    }) c.print_superblock.ensures.printed

pub returns-clause-blames : goal.returns-clause-blames
returns-clause-blames g c = blames_none c.print_superblock.result c.args.words.now c.print_superblock.ensures.refused

pub returns-clause-system : goal.returns-clause-system
returns-clause-system g c = never_s1 c.print_superblock.result _ c.print_superblock.ensures.refused
