use Rattle.std.proofs.Common.{◌≡◌, ◌++◌, take, flat_map, codes}
use Rattle.lx_ir.specs.Text.{case_text}
use Rattle.lx_ir.proofs.text.ends.put_each_case.Given as goal

abbrev pub invariant-loop-case : goal.invariant-loop-case
invariant-loop-case l = l.out.items ≡ l.initial.out.items ++ flat_map (λ x. codes " " ++ case_text l.scope.m.now l.scope.f.now l.ty x) (take l.case-index l.cases)
