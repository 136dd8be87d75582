use Rattle.std.proofs.Common.{◌≡◌, drop, map}
use Rattle.lx_ir.specs.Layout.{width_of}
use Rattle.lx_model.specs.Program.{are_declared}
use Rattle.lx_call_targets.proofs.signatures.are_declared.Given as goal

abbrev pub invariant-loop-i : goal.invariant-loop-i
invariant-loop-i l =
    are_declared l.declared (map (λ x. width_of x.ty) l.parameters)
    ≡ are_declared (drop l.i l.declared) (map (λ x. width_of x.ty) (drop l.i l.parameters))
