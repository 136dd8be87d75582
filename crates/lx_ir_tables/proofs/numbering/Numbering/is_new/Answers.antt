use Rattle.std.proofs.Common.{ap, ◌∙◌}
use Rattle.std.specs.Prelude.{slice_get}
use Rattle.lx_ir_tables.specs.Numbering.{is_free}
use Rattle.lx_ir_tables.proofs.Noting.{new_by}
use Rattle.lx_ir_tables.proofs.numbering.Numbering.is_new.Goals as goal

pub returns : goal.returns
returns c =
    c.is_free.ensures
    ∙ ap (λ t. is_free (slice_get t c.args.name)) c.as_slice.ensures.value
    ∙ new_by c.self.inside.table.items c.self.inside.things.items c.args.name c.args.self.now c.self.invariant.0 c.self.view_is
