use Rattle.std.proofs.lemmas.Result.{err_from_is_err_and}
use Rattle.std.proofs.Common.{◌≡◌, false, refl, sym, ap, ◌∙◌}
use Rattle.lx_model.specs.Next.{has_action}
use Rattle.lx_interp.proofs.Takings.{goes_to_action, lacks_action, roomier_stays}
use Rattle.lx_interp.proofs.runner.Runner.act.Goals as goal

pub returns-then-not-has_action-clause-steps : goal.returns-then-not-has_action-clause-steps
returns-then-not-has_action-clause-steps c =
    let p = c.args.code.now in
    let old = c.args.self.now in
    let lacks : c.has_action.result ≡ false = c.if-not-has_action.true in
    let has =
    sym lacks
    ∙ c.has_action.ensures.has
    ∙ ap (λ x. has_action x c.function-function.result c.args.post c.args.index) c.program_code.ensures
    ∙ ap (λ n. has_action p.program n c.args.post c.args.index) c.function-function.ensures in
    lacks_action p old c.stop.new.self c.args.post c.args.index c.requires.line has (c.stop.ensures.stops p)

pub returns-clause-steps : goal.returns-clause-steps
returns-clause-steps c =
    let p = c.args.code.now in
    let old = c.args.self.now in
    let has =
    sym c.if-not-has_action.false
    ∙ c.has_action.ensures.has
    ∙ ap (λ x. has_action x c.function-function.result c.args.post c.args.index) c.program_code.ensures
    ∙ ap (λ n. has_action p.program n c.args.post c.args.index) c.function-function.ensures in
    goes_to_action p old _ c.perform.new.self c.args.post c.args.index c.value-value.result refl refl refl refl refl (c.prepare_line.ensures.rest p) c.prepare_line.ensures.top c.requires.line has c.value-value.ensures
    (c.in_ok-perform.ensures.steps p c.in_ok-prepare_line.ensures.prepared)

pub returns-in_err-prepare_line-clause-stays : goal.returns-in_err-prepare_line-clause-stays
returns-in_err-prepare_line-clause-stays c =
    let p = c.args.code.now in
    let e = err_from_is_err_and c.from_residual.result c.from_residual.ensures.1 in
    rw e.1 (roomier_stays p c.args.self.now (record c.args.self.now { stack = c.prepare_line.new.self; room = c.self-1.given.0 }) c.requires.request refl refl refl refl refl refl refl (c.prepare_line.ensures.rest p))
