use Rattle.std.proofs.Common.{◌∙◌, refl, ap, Some}
use Rattle.lx_ir.specs.declared.instr.Op.{Op}
use Rattle.lx_image_steps.proofs.Tabled.{edge_known}
use Rattle.lx_image_steps.proofs.steps.add_phi.Goals as goal

pub edge_value-word-requires-clause-found : goal.edge_value-word-requires-clause-found
edge_value-word-requires-clause-found c =
    edge_known c.edge_in_table-found.result _ c.in-Phi.to c.in-Phi.ty c.in-Phi.edges c.as_slice.result.now _ _ (c.requires.op ∙ ap (λ (o : Op). Some o) c.in-Phi.is)
    c.as_slice.ensures refl c.edge_in_table-found.ensures
