use Rattle.std.proofs.Common.{◌≡◌, drop, map}
use Rattle.lx_ir.specs.Faults.{first_some}
use Rattle.lx_ir_verify.specs.Shown.{missing_fault}
use Rattle.lx_ir_verify.proofs.labels.check_edges.Given as goal

abbrev pub invariant-loop-edge : goal.invariant-loop-edge
invariant-loop-edge l = first_some (missing_fault l.f l.line) (map (λ e. e.label) l.edges) ≡ first_some (missing_fault l.f l.line) (map (λ e. e.label) (drop l.edge-index l.edges))
