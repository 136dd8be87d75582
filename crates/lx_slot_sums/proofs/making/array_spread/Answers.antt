use Rattle.std.proofs.Common.{subst, sym, arith}
use Rattle.lx_slot_sums.specs.Spreads.{IsSpread}
use Rattle.lx_slot_sums.proofs.Laying.{point_says, repeat_says}
use Rattle.lx_slot_sums.proofs.making.array_spread.Goals as goal

pub returns-then-size-eq0 : goal.returns-then-size-eq0
returns-then-size-eq0 c = λ f h.
    let p = point_says c.args.sums.now c.args.all.now.items c.in_ok-edges.edges.items f c.args.count c.args.size c.sum_if-begin.result
    c.if-size-eq0.true c.in_ok-edges.ensures (c.sum_if-begin.ensures f (subst (λ xs. IsSpread c.args.sums.now xs c.args.inside f) (sym c.deref.ensures.value) h)) in
    record { ordered = p.rising; right = p.right }

pub returns : goal.returns
returns c = λ f h.
    repeat_says c.args.sums.now c.args.all.now.items c.repeated.result f c.args.size c.args.count c.args.inside (omega (arith, c.if-size-eq0.false))
    (c.repeated.ensures f (subst (λ xs. IsSpread c.args.sums.now xs c.args.inside f) (sym c.deref-2.ensures.value) h)) h
