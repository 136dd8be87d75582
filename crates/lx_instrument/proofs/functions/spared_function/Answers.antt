use Rattle.std.proofs.Common.{◌∙◌}
use Rattle.std.proofs.lemmas.Result.{IfOk-weaker}
use Rattle.lx_instrument.specs.Made.{function_by}
use Rattle.lx_instrument.proofs.functions.spared_function.Goals as goal

pub returns : goal.returns
returns c =
    IfOk-weaker c.function_by.result _ _ (λ g p. p ∙ (λ j. function_by c.args.numbers.now (λ o. c.in_ok-rooms.ensures o j) c.args.f.now)) c.function_by.ensures
