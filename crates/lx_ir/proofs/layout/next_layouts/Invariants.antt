use Rattle.std.proofs.Common.{◌≡◌, take, map}
use Rattle.lx_ir.specs.Fitting.{fit_type}
use Rattle.lx_ir.proofs.layout.next_layouts.Given as goal

abbrev pub invariant-loop-named : goal.invariant-loop-named
invariant-loop-named l = l.next ≡ map (λ e. fit_type l.layouts e.ty) (take l.named-index l.types)
