use Rattle.std.proofs.Common.{sym, subst, drop, List, ap, ◌∙◌, ◌+◌, ◌∷◌, add-one}
use Rattle.std.proofs.lemmas.List.{drop_all}
use Rattle.lx_words.proofs.Lists.{drop_next}
use Rattle.lx_ir.specs.declared.instr.Argument.{Argument}
use Rattle.lx_code.proofs.Ways.{Leads, leads_all, leads_on}
use Rattle.lx_code.proofs.routes.legs_of.Goals as goal

pub loop-index-preserved : goal.loop-index-preserved
loop-index-preserved c =
    let types = c.args.text.now.types in
    let start = c.args.ty.now in
    let xs = c.args.indices.now in
    let k = c.loop-index.index-index in
    let inner = c.loop-index.inner.now in
    let legs = c.loop-index.legs in
    let item = c.index-item.result in
    leads_on types start inner c.in-Some.step.ty.now xs (drop (k + 1) xs) item legs c.push.new.self c.in-Some.step.leg
    (subst (Leads types start xs legs inner) (drop_next xs k item c.loop-index-test.true c.index-item.is ∙ ap (λ j. item ∷ drop j xs) (sym (add-one k))) c.loop-index.invariant)
    c.in-Some.ensures.leg c.in-Some.ensures.sized c.in_ok-push-in-Some.ensures.items

pub returns : goal.returns
returns c =
    let types = c.args.text.now.types in
    let xs = c.args.indices.now in
    leads_all types c.args.ty.now c.loop-index.inner.now xs c.loop-index.legs
    (subst (Leads types c.args.ty.now xs c.loop-index.legs c.loop-index.inner.now) (drop_all c.loop-index.index-index xs c.loop-index-test.false) c.loop-index.invariant)
