use Rattle.std.proofs.Common.{◌≡◌, ◌∙◌, sym, ap, subst, ℕ, ◌<◌, List, [], ◌∷◌, ◌++◌, length, slice_get, arith}
use Rattle.std.proofs.lemmas.Result.{err_from_is_err_and}
use Rattle.std.proofs.lemmas.Iterator.Consumers.{YieldsList-turn, YieldsList-end}
use Rattle.std.proofs.lemmas.Iterator.Adapters.{YieldsList-from_vec}
use Rattle.lx_ir.specs.declared.module.Module.{Module}
use Rattle.lx_link.specs.Answers.{module_file}
use Rattle.lx_input.specs.Checks.{VerifyTurn}
use Rattle.lx_input.proofs.Each.{HasPassed, goes_on, ends_early, ends, grown}
use Rattle.lx_input.proofs.checks.verify_modules.Goals as goal

pub loop-read-preserved : goal.loop-read-preserved
loop-read-preserved c =
    let gives = c.into_iter-read-iterator.ensures.into_iter_gives in
    let e = YieldsList-from_vec c.args.modules.items gives.0 (omega (arith, gives.1, c.args.modules.ok.0)) in
    let turn = YieldsList-turn e c.loop-read.yielded c.loop-read.read-iterator c.loop-read.yielded_by c.next.result c.next.new.self c.in-Some.read c.in-Some.is c.next.ensures.steps in
    let below : length c.loop-read.yielded < length c.args.names.now = omega (arith, turn.0, c.requires.as_many) in
    let place : c.len.result ≡ length c.loop-read.yielded = omega (arith, c.len.ensures, ap length c.loop-read.invariant.0) in
    let called = c.file_at-file.ensures ∙ ap (λ (k : ℕ). module_file (slice_get c.args.names.now k)) place in (
      c.in_ok-verify_next.ensures.items ∙ ap (λ (xs : List Module). xs ++ c.in-Some.read ∷ []) c.loop-read.invariant.0,
      subst (HasPassed VerifyTurn c.args.names.now c.args.modules.items) (sym (grown c.loop-read.yielded c.in-Some.read))
          (goes_on VerifyTurn c.args.names.now c.args.modules.items (length c.loop-read.yielded) c.file_at-file.result.now c.in-Some.read called below turn.0 turn.1 c.loop-read.invariant.1
          c.in_ok-verify_next.ensures.turn),
    )

pub returns-in_err-verify_next-clause-turn : goal.returns-in_err-verify_next-clause-turn
returns-in_err-verify_next-clause-turn c =
    let p = err_from_is_err_and c.from_residual.result c.from_residual.ensures.1 in
    let gives = c.into_iter-read-iterator.ensures.into_iter_gives in
    let e = YieldsList-from_vec c.args.modules.items gives.0 (omega (arith, gives.1, c.args.modules.ok.0)) in
    let turn = YieldsList-turn e c.loop-read.yielded c.loop-read.read-iterator c.loop-read.yielded_by c.next.result c.next.new.self c.in-Some.read c.in-Some.is c.next.ensures.steps in
    let below : length c.loop-read.yielded < length c.args.names.now = omega (arith, turn.0, c.requires.as_many) in
    let place : c.len.result ≡ length c.loop-read.yielded = omega (arith, c.len.ensures, ap length c.loop-read.invariant.0) in
    let called = c.file_at-file.ensures ∙ ap (λ (k : ℕ). module_file (slice_get c.args.names.now k)) place in
    rw (p.1, p.2)
    (ends_early VerifyTurn c.args.names.now c.args.modules.items (length c.loop-read.yielded) c.file_at-file.result.now c.in-Some.read called below turn.0 turn.1 c.loop-read.invariant.1
    c.in_err-verify_next.field-0.0 c.in_err-verify_next.ensures.turn)

pub returns-clause-turn : goal.returns-clause-turn
returns-clause-turn c =
    let gives = c.into_iter-read-iterator.ensures.into_iter_gives in
    let e = YieldsList-from_vec c.args.modules.items gives.0 (omega (arith, gives.1, c.args.modules.ok.0)) in
    let all = YieldsList-end e c.loop-read.yielded c.loop-read.read-iterator c.loop-read.yielded_by c.next.result c.next.new.self c.in-None.is c.next.ensures.steps in
    ends VerifyTurn c.args.names.now c.args.modules.items (length c.loop-read.yielded) c.requires.as_many (omega (arith, all.1)) c.loop-read.invariant.1
