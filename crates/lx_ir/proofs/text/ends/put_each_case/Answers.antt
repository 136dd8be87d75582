use Rattle.std.proofs.Common.{◌++◌, codes}
use Rattle.lx_words.proofs.Lists.{next_text, all_texts, joined_two}
use Rattle.lx_ir.specs.Text.{case_text}
use Rattle.lx_ir.proofs.text.ends.put_each_case.Goals as goal

pub loop-case-preserved : goal.loop-case-preserved
loop-case-preserved c =
    next_text (λ x. codes " " ++ case_text c.args.scope.m.now c.args.scope.f.now c.args.ty x) c.args.cases.now c.loop-case.case-index c.case-item.result c.case-item.result _ _ _ c.loop-case-test.true c.case-item.is c.loop-case.invariant
    (joined_two _ _ _ _ _ c.in_ok-put.ensures c.in_ok-put_case.ensures)

pub returns : goal.returns
returns c = all_texts (λ x. codes " " ++ case_text c.args.scope.m.now c.args.scope.f.now c.args.ty x) c.args.cases.now c.loop-case.case-index _ _ c.loop-case-test.false c.loop-case.invariant
