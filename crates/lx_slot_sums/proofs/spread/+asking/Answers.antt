use Rattle.std.proofs.Common.{◌∙◌, sym, subst}
use Rattle.lx_slot_sums.specs.Spreads.{Answers}
use Rattle.lx_slot_sums.proofs.Answering.{none_is, said_inside, said_sum}
use Rattle.lx_slot_sums.proofs.spread.+asking.Goals as goal

pub sum_at-returns-in-None : goal.sum_at-returns-in-None
sum_at-returns-in-None t c = λ s a. c.no_sum.ensures ∙ none_is c.args.spreads.now c.args.offset s (subst (λ w. Answers c.args.spreads.now w c.args.offset s) c.in-None.is a)

pub sum_of-returns-in-Sum : goal.sum_of-returns-in-Sum
sum_of-returns-in-Sum t c = λ s a. said_sum c.args.spreads.now c.args.number c.args.offset c.in-Some.spread.now s c.in-Sum.sum c.in-Some.ensures c.in-Sum.ensures a

pub sum_of-returns-in-Inside : goal.sum_of-returns-in-Inside
sum_of-returns-in-Inside t c = λ s a.
    c.sum_at.ensures s
    (subst (λ xs. Answers xs c.in-Inside.inside c.in-Inside.rest s) (sym c.spreads_before.ensures)
    (said_inside c.args.spreads.now c.args.number c.args.offset c.in-Some.spread.now s c.in-Inside.inside c.in-Inside.rest c.in-Some.ensures c.in-Inside.ensures a))
