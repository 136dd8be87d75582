use Rattle.std.proofs.lemmas.Result.{err_from_is_err_and}
use Rattle.std.proofs.Common.{refl, subst, ◌∙◌}
use Rattle.lx_image_code.specs.Wrappers.{wrapper_lines}
use Rattle.lx_frames.specs.Stack.{CanEnter}
use Rattle.lx_interp.proofs.Takings.{calls_entering, roomier_stays}
use Rattle.lx_interp.proofs.runner.Runner.call_entering.Goals as goal

pub returns-clause-steps : goal.returns-clause-steps
returns-clause-steps c =
    let p = c.args.code.now in
    calls_entering p c.args.self.now _ c.ask_enter.new.self c.args.function c.args.args (wrapper_lines p c.args.wrapper) refl refl refl refl refl (c.prepare_entry.ensures.rest p)
    (c.ask_enter.ensures.steps p (c.in_ok-copy.ensures ∙ c.as_slice.ensures) (subst (λ k. CanEnter p c.prepare_entry.new.self k 3) c.len.ensures c.in_ok-prepare_entry.ensures.prepared) c.in_ok-prepare_entry.ensures.shadow)

pub returns-in_err-prepare_entry-clause-stays : goal.returns-in_err-prepare_entry-clause-stays
returns-in_err-prepare_entry-clause-stays c =
    let p = c.args.code.now in
    let e = err_from_is_err_and c.from_residual-in_err-prepare_entry.result c.from_residual-in_err-prepare_entry.ensures.1 in
    rw e.1 (roomier_stays p c.args.self.now (record c.args.self.now { stack = c.prepare_entry.new.self; room = c.self-1.given.0 }) c.requires.request refl refl refl refl refl refl refl (c.prepare_entry.ensures.rest p))
