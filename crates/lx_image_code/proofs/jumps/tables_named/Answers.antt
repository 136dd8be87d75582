use Rattle.std.proofs.Common.{◌≡◌, ◌∙◌, ap, sym, subst, true, List, Some}
use Rattle.lx_ir.specs.declared.module.Block.{Block}
use Rattle.lx_model.specs.declared.program.Program.{Program}
use Rattle.lx_model.specs.Program.{Home, module_of}
use Rattle.lx_images.specs.Image.{image_of_entry}
use Rattle.lx_code.specs.Fits.{AreTablesOf}
use Rattle.lx_code.specs.Reach.{are_sized}
use Rattle.lx_image_code.specs.Code.{code_of}
use Rattle.lx_image_code.specs.Jumps.{blocks_or_none, numbers_at, text_of_entry}
use Rattle.lx_image_code.proofs.Sized.{sized_entry}
use Rattle.lx_image_code.proofs.jumps.tables_named.Goals as goal

pub new-requires : goal.new-requires
new-requires c =
    let images = c.args.images.now in
    let e = Some c.args.entry.now in
    let code = code_of c.args.code.now images in
    let blocks : c.blocks_named-blocks.result.now ≡ blocks_or_none (image_of_entry code e) =
    c.blocks_named-blocks.ensures ∙ ap (λ (p : Program). blocks_or_none (image_of_entry (code_of p images) e)) c.program.ensures.whole in
    subst (λ (h : Home). are_sized (module_of c.args.code.now h).types c.blocks_named-blocks.result.now ≡ true) (sym c.home_named.ensures)
    (subst (λ (bs : List Block). are_sized (text_of_entry c.args.code.now e).types bs ≡ true) (sym blocks) (sized_entry code e c.program.ensures.reach c.requires))

pub returns : goal.returns
returns c =
    let images = c.args.images.now in
    let e = Some c.args.entry.now in
    let code = code_of c.args.code.now images in
    let t = c.in_ok-tables.tables in
    let blocks : c.blocks_named-blocks.result.now ≡ blocks_or_none (image_of_entry code e) =
    c.blocks_named-blocks.ensures ∙ ap (λ (p : Program). blocks_or_none (image_of_entry (code_of p images) e)) c.program.ensures.whole in
    let p = c.args.code.now in
    let home = c.home_named.result in
    subst (λ (h : Home). AreTablesOf (module_of p h).types (numbers_at p h) (blocks_or_none (image_of_entry code e)) t) c.home_named.ensures
    (subst (λ (bs : List Block). AreTablesOf (module_of p home).types (numbers_at p home) bs t) blocks c.in_ok-tables.ensures)
