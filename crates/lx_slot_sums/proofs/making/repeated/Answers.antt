use Rattle.std.proofs.Common.{refl}
use Rattle.lx_slot_sums.proofs.Laying.{sum_is}
use Rattle.lx_slot_sums.proofs.making.repeated.Goals as goal

pub returns : goal.returns
returns c = λ f h.
    let b = sum_is c.args.sums.now c.args.all.now c.args.inside f 0 c.sum_at-begin.result c.sum_at-begin.ensures h in
    let e = sum_is c.args.sums.now c.args.all.now c.args.inside f c.args.size c.sum_at-end.result c.sum_at-end.ensures h in
    record { size_is = refl; count_is = refl; inside_is = refl; begin_is = b; end_is = e; between_is = c.join.ensures _ _ b e }
