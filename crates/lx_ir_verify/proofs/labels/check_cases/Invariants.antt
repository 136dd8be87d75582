use Rattle.std.proofs.Common.{◌≡◌, drop, map}
use Rattle.lx_ir.specs.Faults.{first_some}
use Rattle.lx_ir_verify.specs.Shown.{missing_fault}
use Rattle.lx_ir_verify.proofs.labels.check_cases.Given as goal

abbrev pub invariant-loop-case : goal.invariant-loop-case
invariant-loop-case l = first_some (missing_fault l.f l.line) (map (λ c. c.label) l.cases) ≡ first_some (missing_fault l.f l.line) (map (λ c. c.label) (drop l.case-index l.cases))
