use Rattle.std.proofs.Common.{drop}
use Rattle.lx_surface.specs.declared.work.Work.{Work}
use Rattle.lx_surface.specs.Begun.{DeclaresFrom}
use Rattle.lx_surface.proofs.opening.declare_each.Given as goal

abbrev pub invariant-loop-function : goal.invariant-loop-function
invariant-loop-function l = record {
  rest : (last : Work) → DeclaresFrom l.names l.work last l.module (drop l.function-index l.functions) → DeclaresFrom l.names l.initial.work last l.module l.functions;
}
