use Rattle.std.proofs.Common.{◌≡◌, ◌∙◌, sym, ap, ℕ, ◌+◌, ◌<◌, List, [], ◌∷◌, ◌++◌, length, map, take, slice_get, arith}
use Rattle.std.proofs.lemmas.Result.{err_from_is_err_and}
use Rattle.std.proofs.lemmas.List.{take_more}
use Rattle.lx_ir.specs.declared.module.Module.{Module}
use Rattle.lx_slot_types.specs.declared.Marked.{Marked}
use Rattle.lx_propagate.specs.Slots.{annotated_of}
use Rattle.lx_link.specs.Answers.{module_file}
use Rattle.lx_input.specs.Checks.{PropagateTurn}
use Rattle.lx_input.proofs.Each.{goes_on, ends_early, ends, marked_so_far}
use Rattle.lx_input.proofs.Agreeing.{all_agree}
use Rattle.lx_input.proofs.checks.annotate_modules.Goals as goal
use Rattle.lx_words.proofs.Lists.{map_append}

pub loop-verified-preserved : goal.loop-verified-preserved
loop-verified-preserved c =
    let i = c.args.interface.now in
    let below : c.loop-verified.verified-index < length c.args.names.now = omega (arith, c.loop-verified-test.true, c.requires) in
    let place : c.len.result ≡ c.loop-verified.verified-index =
    c.len.ensures ∙ marked_so_far (annotated_of i) c.args.modules.now c.loop-verified.verified-index c.loop-verified.list c.loop-verified-test.true c.loop-verified.invariant.0 in
    let called = c.file_at-file.ensures ∙ ap (λ (k : ℕ). module_file (slice_get c.args.names.now k)) place in
    let more : take (c.loop-verified.verified-index + 1) c.args.modules.now ≡ take c.loop-verified.verified-index c.args.modules.now ++ c.verified-item.result ∷ [] =
    take_more c.args.modules.now c.loop-verified.verified-index c.verified-item.result c.loop-verified-test.true
    ∙ ap (λ (x : Module). take c.loop-verified.verified-index c.args.modules.now ++ x ∷ []) (sym c.verified-item.is) in (
      c.in_ok-annotate_next.ensures.items ∙ ap (λ (xs : List (List Marked)). xs ++ annotated_of i c.verified-item.result ∷ []) c.loop-verified.invariant.0
          ∙ sym (map_append (annotated_of i) (take c.loop-verified.verified-index c.args.modules.now) (c.verified-item.result ∷ [])) ∙ ap (map (annotated_of i)) (sym more),
      goes_on (PropagateTurn i) c.args.names.now c.args.modules.now c.loop-verified.verified-index c.file_at-file.result.now c.verified-item.result called below c.loop-verified-test.true c.verified-item.is c.loop-verified.invariant.1
          c.in_ok-annotate_next.ensures.turn,
    )

pub returns-in_err-annotate_next-clause-turn : goal.returns-in_err-annotate_next-clause-turn
returns-in_err-annotate_next-clause-turn c =
    let p = err_from_is_err_and c.from_residual.result c.from_residual.ensures.1 in
    let i = c.args.interface.now in
    let below : c.loop-verified.verified-index < length c.args.names.now = omega (arith, c.loop-verified-test.true, c.requires) in
    let place : c.len.result ≡ c.loop-verified.verified-index =
    c.len.ensures ∙ marked_so_far (annotated_of i) c.args.modules.now c.loop-verified.verified-index c.loop-verified.list c.loop-verified-test.true c.loop-verified.invariant.0 in
    let called = c.file_at-file.ensures ∙ ap (λ (k : ℕ). module_file (slice_get c.args.names.now k)) place in
    rw (p.1, p.2)
    (ends_early (PropagateTurn i) c.args.names.now c.args.modules.now c.loop-verified.verified-index c.file_at-file.result.now c.verified-item.result called below c.loop-verified-test.true c.verified-item.is c.loop-verified.invariant.1
    c.in_err-annotate_next.field-0.0 c.in_err-annotate_next.ensures.turn)

pub returns-clause-turn : goal.returns-clause-turn
returns-clause-turn c =
    ends (PropagateTurn c.args.interface.now) c.args.names.now c.args.modules.now c.loop-verified.verified-index c.requires c.loop-verified-test.false c.loop-verified.invariant.1

pub returns-clause-agree : goal.returns-clause-agree
returns-clause-agree c =
    all_agree c.args.interface.now c.args.names.now c.args.modules.now c.requires
    (ends (PropagateTurn c.args.interface.now) c.args.names.now c.args.modules.now c.loop-verified.verified-index c.requires c.loop-verified-test.false c.loop-verified.invariant.1)
