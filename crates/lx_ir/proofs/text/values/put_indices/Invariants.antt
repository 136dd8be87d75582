use Rattle.std.proofs.Common.{◌≡◌, ◌++◌, take, flat_map, codes}
use Rattle.lx_ir.specs.Text.{argument_text}
use Rattle.lx_ir.proofs.text.values.put_indices.Given as goal

abbrev pub invariant-loop-index : goal.invariant-loop-index
invariant-loop-index l = l.out.items ≡ l.initial.out.items ++ flat_map (λ a. codes ", " ++ argument_text l.scope.m.now l.scope.f.now a) (take l.index-index l.indices)
