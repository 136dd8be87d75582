use Rattle.std.proofs.Common.{sym}
use Rattle.lx_model.specs.Program.{home_or_kernel}
use Rattle.lx_image_code.specs.Jumps.{image_blocks, numbers_at, types_in}
use Rattle.lx_image_code.proofs.Found.{block_found, no_block}
use Rattle.lx_image_code.proofs.jumps.first_block.Goals as goal

pub returns-in-Some : goal.returns-in-Some
returns-in-Some c = λ code has.
    let n = c.args.number in
    block_found code n c.args.label.now c.block_named.result (c.block_named.ensures (types_in code.program n) (numbers_at code.program (home_or_kernel code.program n)) (image_blocks code n) (has.each n c.in-Some.tables.now (sym c.in-Some.ensures)))

pub returns-in-None : goal.returns-in-None
returns-in-None c = λ code has. no_block code c.args.number c.args.label.now c.args.jumps.now has.count (sym c.in-None.ensures)
