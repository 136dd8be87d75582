use Rattle.std.proofs.Common.{drop}
use Rattle.lx_code.proofs.Ways.{Leads}
use Rattle.lx_code.proofs.routes.legs_of.Given as goal

abbrev pub invariant-loop-index : goal.invariant-loop-index
invariant-loop-index l = Leads l.text.types l.ty l.indices l.legs l.inner (drop l.index-index l.indices)
