use Rattle.std.proofs.Common.{Ok, ap, sym, ◌∙◌}
use Rattle.std.proofs.lemmas.Result.{err_from_is_err_and}
use Rattle.lx_script.specs.Reading.{names_of}
use Rattle.lx_script.proofs.Loops.{one_argument, at_fuel, argument_fails, fewer_words, none_of}
use Rattle.lx_script.proofs.reading.arguments.Goals as goal

pub returns-in_err-argument : goal.returns-in_err-argument
returns-in_err-argument c =
    let p = err_from_is_err_and c.from_residual.result c.from_residual.ensures.1 in
    rw (p.1, p.2) (argument_fails (names_of c.args.modules.now) c.loop-arguments.s c.loop-arguments.arguments c.in_err-argument.field-0.0 _ c.in_err-argument.ensures c.loop-arguments.invariant)

pub loop-arguments-smaller : goal.loop-arguments-smaller
loop-arguments-smaller c =
    fewer_words (names_of c.args.modules.now) c.loop-arguments.s c.next_argument.new.s c.in-Some.argument (c.in_ok-argument.ensures ∙ ap (λ a. Ok (a, c.next_argument.new.s)) c.in-Some.is)

pub loop-arguments-preserved : goal.loop-arguments-preserved
loop-arguments-preserved c =
    rw c.in_ok-push.ensures.items
    (sym (one_argument (names_of c.args.modules.now) c.loop-arguments.s c.next_argument.new.s c.loop-arguments.arguments c.in-Some.argument (c.in_ok-argument.ensures ∙ ap (λ a. Ok (a, c.next_argument.new.s)) c.in-Some.is)) ∙ c.loop-arguments.invariant)

pub returns : goal.returns
returns c = sym c.loop-arguments.invariant ∙ at_fuel (names_of c.args.modules.now) c.loop-arguments.s c.next_argument.new.s c.loop-arguments.arguments (c.in_ok-argument.ensures ∙ ap (λ a. Ok (a, c.next_argument.new.s)) (none_of c.in_ok-argument.field-0 c.in_default.not-Some))
