use Rattle.std.proofs.Common.{◌∙◌}
use Rattle.lx_ir_verify.proofs.FittingEdges.{fits_by_tables}
use Rattle.lx_ir_verify.proofs.phis.edges_fit.Goals as goal

pub returns : goal.returns
returns c =
    c.are_matched.ensures
    ∙ fits_by_tables c.args.f.now c.args.join.now.name.now c.args.edges.now c.args.join.now.before.now.keys c.in_ok-firsts.firsts.entries c.requires c.in_ok-firsts.ensures
