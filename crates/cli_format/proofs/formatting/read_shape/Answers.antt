use Rattle.std.proofs.Common.{rules}
use Rattle.cli_faults.specs.declared.failure.Word.TheVariants as word
use Rattle.cli_format.proofs.Blaming.{argument_of_number, argument_of_uuid, misread_data_block_size, never_s1}
use Rattle.cli_format.proofs.formatting.read_shape.Goals as goal

pub returns-in_err-uuid-clause-system : goal.returns-in_err-uuid-clause-system
returns-in_err-uuid-clause-system c =
    never_s1 c.from_residual-in_err-uuid.result c.args.words.now.uuid.now c.in_err-uuid.field-0.0 c.from_residual-in_err-uuid.ensures.1
    (search rules)

pub returns-in_err-uuid-clause-argument : goal.returns-in_err-uuid-clause-argument
returns-in_err-uuid-clause-argument c =
    argument_of_uuid c.from_residual-in_err-uuid.result c.args.words.now.uuid.now c.in_err-uuid.field-0.0
    c.from_residual-in_err-uuid.ensures.1 (search rules)

pub returns-in_err-block_size-clause-argument : goal.returns-in_err-block_size-clause-argument
returns-in_err-block_size-clause-argument c =
    argument_of_number c.from_residual.result word.DataBlockSize c.args.words.now.data_block_size.now c.in_err-block_size.field-0.0
    c.from_residual.ensures.1 (search rules)

pub returns-in_err-block_size-2-clause-argument : goal.returns-in_err-block_size-2-clause-argument
returns-in_err-block_size-2-clause-argument c =
    argument_of_number c.from_residual-in_err-block_size-2.result word.HashBlockSize c.args.words.now.hash_block_size.now
    c.in_err-block_size-2.field-0.0 c.from_residual-in_err-block_size-2.ensures.1 (search rules)

pub returns-in_err-number-clause-argument : goal.returns-in_err-number-clause-argument
returns-in_err-number-clause-argument c =
    argument_of_number c.from_residual-in_err-number.result word.HashOffset c.args.words.now.hash_offset.now c.in_err-number.field-0.0
    c.from_residual-in_err-number.ensures.1 (search rules)

pub returns-in_err-block_size-clause-blames : goal.returns-in_err-block_size-clause-blames
returns-in_err-block_size-clause-blames c =
    misread_data_block_size c.from_residual.result c.args.words.now c.in_err-block_size.field-0.0 c.from_residual.ensures.1 (search rules)
