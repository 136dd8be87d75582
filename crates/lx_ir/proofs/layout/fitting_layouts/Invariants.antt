use Rattle.std.proofs.Common.{◌≡◌}
use Rattle.lx_ir.specs.Fitting.{layouts_through}
use Rattle.lx_ir.proofs.layout.fitting_layouts.Given as goal

abbrev pub invariant-loop : goal.invariant-loop
invariant-loop l = l.layouts ≡ layouts_through l.types l.counter
