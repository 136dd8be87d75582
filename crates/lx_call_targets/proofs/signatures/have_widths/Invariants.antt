use Rattle.std.proofs.Common.{◌≡◌, drop, map}
use Rattle.lx_ir.specs.Layout.{width_of}
use Rattle.lx_model.specs.Program.{same_widths}
use Rattle.lx_call_targets.proofs.signatures.have_widths.Given as goal

abbrev pub invariant-loop-i : goal.invariant-loop-i
invariant-loop-i l =
    same_widths l.widths (map (λ x. width_of x.ty) l.parameters)
    ≡ same_widths (drop l.i l.widths) (map (λ x. width_of x.ty) (drop l.i l.parameters))
