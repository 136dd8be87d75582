use Rattle.std.proofs.Common.{◌≡◌, map, take}
use Rattle.lx_ir.specs.Fitting.{starts_of}
use Rattle.lx_ir.proofs.named.all_starts.Given as goal

abbrev pub invariant-loop-named : goal.invariant-loop-named
invariant-loop-named l = l.starts ≡ map (λ e. starts_of l.layouts e.ty) (take l.named-index l.types)
