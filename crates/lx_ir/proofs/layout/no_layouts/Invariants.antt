use Rattle.std.proofs.Common.{◌≡◌, take, map, None}
use Rattle.lx_ir.proofs.layout.no_layouts.Given as goal

abbrev pub invariant-loop : goal.invariant-loop
invariant-loop l = l.layouts ≡ map (λ e. None) (take l.index l.types)
