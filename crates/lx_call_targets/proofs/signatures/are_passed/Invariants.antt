use Rattle.std.proofs.Common.{◌≡◌, drop, map}
use Rattle.lx_ir.specs.Layout.{width_of}
use Rattle.lx_model.specs.Program.{same_widths}
use Rattle.lx_call_targets.proofs.signatures.are_passed.Given as goal

abbrev pub invariant-loop-i : goal.invariant-loop-i
invariant-loop-i l =
    same_widths (map (λ x. x.width) l.args) (map (λ x. width_of x.ty) l.parameters)
    ≡ same_widths (map (λ x. x.width) (drop l.i l.args)) (map (λ x. width_of x.ty) (drop l.i l.parameters))
