use Rattle.std.proofs.Common.{◌≡◌, ◌-◌, ◌^◌, ap, sym, subst, ◌∙◌}
use Rattle.verity_build.specs.Parameters.{Parameters}
use Rattle.cli_faults.specs.declared.command.Command.TheVariants as commands
use Rattle.os_files.specs.declared.part.Part.TheVariants.{AtMost}
use Rattle.cli_format.specs.Made.{LiesFor}
use Rattle.cli_format.specs.Sliced.{asked_for}
use Rattle.cli_format.proofs.Moving.{slice_moved}
use Rattle.cli_format.proofs.slicing.make_slice.Goals as goal

pub returns : goal.returns
returns g c =
    let shape = c.args.shape.now in
    let asked : Parameters = asked_for shape c.args.salt_bytes.now in
    let params : c.new-params.result ≡ asked = c.new-params.ensures ∙ ap (asked_for shape) c.in_ok-salt.ensures.value in
    let opened = c.in_ok-hash_store.ensures.opened in
    let lies = g.S.System.lies c.open_beside.new.system opened.opened (AtMost (2 ^ 64 - 1)) in
    record {
      made = slice_moved g.S.Store.BlockStore _ _ _ _ _ _ _ _ _
          (λ s is. subst (LiesFor commands.Slice g.S.System g.S.Store.BlockStore c.args.system.now c.args.words.now.data_path.now shape)
          (sym is) c.in_ok-data_store.ensures.lies)
          (λ s s' both. record {
            between = c.open_beside.new.system;
            opened = opened.opened;
            is_opened = opened.is_opened;
            locked = opened.locked;
            there = subst lies (sym both.0) opened.there;
            closed = subst (λ t. g.S.System.closes c.open_beside.new.system c.args.words.now.hash_path.now t c.close.new.self) (sym both.1)
                c.in_ok-close.ensures.closed;
          })
          params c.in_ok-run.ensures;
    }
