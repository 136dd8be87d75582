use Rattle.std.proofs.Common.{refl, sym, ◌∙◌}
use Rattle.lx_words.proofs.Options.{no_value}
use Rattle.lx_interp.proofs.Marking.{passed_on, passed_step, taken_marks}
use Rattle.lx_interp.proofs.runner.Runner.pass_marks.Goals as goal

pub returns-in-Some-clause-goes_on : goal.returns-in-Some-clause-goes_on
returns-in-Some-clause-goes_on c =
    let p = c.args.code.now in
    let old = c.args.self.now in
    let took = c.take_marks-self.ensures in
    passed_on p old _ _ c.take_marks-self.new.self c.take_marks-self.result c.requires
    (no_value old.due (sym c.is_some.ensures ∙ c.if-is_some.false))
    (no_value old.marks (sym c.is_some-else-is_some.ensures ∙ c.if-is_some-2.false))
    c.in-Some.is (taken_marks p _ c.take_marks-self.new.self c.take_marks-self.result took.step took.there took.stays)
    refl refl refl refl refl refl refl refl refl refl

pub returns-in-Some-clause-step : goal.returns-in-Some-clause-step
returns-in-Some-clause-step c =
    let p = c.args.code.now in
    let old = c.args.self.now in
    let took = c.take_marks-self.ensures in
    passed_step p old _ _ c.take_marks-self.new.self c.take_marks-self.result
    (no_value old.due (sym c.is_some.ensures ∙ c.if-is_some.false))
    (no_value old.marks (sym c.is_some-else-is_some.ensures ∙ c.if-is_some-2.false))
    c.in-Some.is (taken_marks p _ c.take_marks-self.new.self c.take_marks-self.result took.step took.there took.stays)
    refl refl refl refl refl refl refl refl
