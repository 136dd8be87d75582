use Rattle.std.proofs.Common.{◌∙◌, ap, List}
use Rattle.std.specs.Prelude.{slice_get}
use Rattle.lx_ir.specs.declared.module.Block.{Block}
use Rattle.lx_image_check.proofs.OneBlock.{one_some, one_none}
use Rattle.lx_image_check.proofs.wrappers.lines_of.Goals as goal

pub returns-in-Some : goal.returns-in-Some
returns-in-Some c =
    c.as_slice.ensures ∙ one_some c.args.wrapper.now c.in-Some.block.now c.requires (c.in-Some.ensures ∙ ap (λ (bs : List Block). slice_get bs 0) c.blocks_of.ensures)

pub returns-in-None : goal.returns-in-None
returns-in-None c = one_none c.args.wrapper.now c.requires (c.in-None.ensures ∙ ap (λ (bs : List Block). slice_get bs 0) c.blocks_of.ensures)
