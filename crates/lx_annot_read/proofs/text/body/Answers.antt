use Rattle.std.proofs.Common.{◌≡◌, Ok, ◌∙◌, sym, subst}
use Rattle.std.proofs.lemmas.Result.{err_from_is_err_and}
use Rattle.lx_annot_read.specs.Faults.{Fails}
use Rattle.lx_annot_read.specs.Texts.{next_at}
use Rattle.lx_annot_read.proofs.Bodies.{goes_on, goes_wrong, ends}
use Rattle.lx_annot_read.proofs.text.body.Goals as goal

pub loop-first-preserved : goal.loop-first-preserved
loop-first-preserved c = record {
  so_far = goes_on c.args.text.now c.args.stop c.args.version c.loop-first.draft.interface c.add_next.new.draft.interface c.in-Some.first.now c.loop-first.rest.now c.in_ok-rest.rest.now _ c.loop-first.invariant.so_far (sym c.in-Some.ensures.value) (subst (λ v. next_at c.args.text.now c.args.stop v c.in-Some.first.now.line c.loop-first.draft.interface c.loop-first.rest.now ≡ Ok (c.add_next.new.draft.interface, c.in_ok-rest.rest.now)) c.loop-first.invariant.version c.in_ok-rest.ensures.reads) c.in_ok-rest.ensures.shrinks;
  version = c.in_ok-rest.ensures.version ∙ c.loop-first.invariant.version;
  tabled = c.in_ok-rest.ensures.tabled;
  within = c.in_ok-rest.ensures.within;
}

pub returns-in_err-rest : goal.returns-in_err-rest
returns-in_err-rest c =
    let p = err_from_is_err_and c.from_residual.result c.from_residual.ensures.1 in
    rw (p.1, p.2) (goes_wrong c.args.text.now c.args.stop c.args.version c.loop-first.draft.interface c.in-Some.first.now c.loop-first.rest.now c.in_err-rest.field-0.0 _ c.loop-first.invariant.so_far (sym c.in-Some.ensures.value) (subst (λ v. Fails c.in_err-rest.field-0.0 (next_at c.args.text.now c.args.stop v c.in-Some.first.now.line c.loop-first.draft.interface c.loop-first.rest.now)) c.loop-first.invariant.version c.in_err-rest.ensures.reads))

pub returns : goal.returns
returns c = ends c.args.text.now c.args.stop c.args.version c.loop-first.draft.interface c.loop-first.rest.now _ c.loop-first.invariant.so_far (sym c.in_default.ensures.value)
