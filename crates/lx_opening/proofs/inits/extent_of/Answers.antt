use Rattle.std.proofs.Common.{arith}
use Rattle.lx_opening.proofs.Items.{fit_end, sum_is}
use Rattle.lx_opening.proofs.inits.extent_of.Goals as goal

pub overflow_add-result : goal.overflow_add-result
overflow_add-result c =
    let e = sum_is c.args.text.now.types c.args.packed c.args.taken c.args.ty.now c.start_behind-start.result c.size_of.result c.start_behind-start.ensures c.size_of.ensures in
    omega (arith, e, fit_end c.args.text.now.types c.args.at c.args.packed c.args.taken c.args.ty.now c.requires)

pub returns-clause-end : goal.returns-clause-end
returns-clause-end c = sum_is c.args.text.now.types c.args.packed c.args.taken c.args.ty.now c.start_behind-start.result c.size_of.result c.start_behind-start.ensures c.size_of.ensures

pub returns-clause-near : goal.returns-clause-near
returns-clause-near c =
    let e = sum_is c.args.text.now.types c.args.packed c.args.taken c.args.ty.now c.start_behind-start.result c.size_of.result c.start_behind-start.ensures c.size_of.ensures in
    omega (arith, e, fit_end c.args.text.now.types c.args.at c.args.packed c.args.taken c.args.ty.now c.requires)
