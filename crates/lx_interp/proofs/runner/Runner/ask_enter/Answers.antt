use Rattle.std.proofs.Common.{List, length, refl, sym, subst}
use Rattle.lx_words.specs.Word.{Word}
use Rattle.lx_model.specs.declared.request.Way.TheVariants.{Direct}
use Rattle.lx_image_code.specs.Wrappers.{wrapper_lines}
use Rattle.lx_frames.specs.Stack.{CanEnter}
use Rattle.lx_interp.proofs.Takings.{asks_enter}
use Rattle.lx_interp.proofs.runner.Runner.ask_enter.Goals as goal

pub returns-clause-steps : goal.returns-clause-steps
returns-clause-steps c = λ p same enter room.
    let old = c.args.self.now in
    let h = c.push_wrapper.ensures in
    let able = subst (λ (xs : List Word). CanEnter p old.stack (length xs) 3) (sym same) enter in
    asks_enter p old _ c.top-who.result c.args.function c.args.args c.args.copy (wrapper_lines p c.args.wrapper) same c.top-who.ensures refl refl refl refl refl refl refl
    (h.frames p) h.shadow (h.ready p (Direct c.args.function) able room)
