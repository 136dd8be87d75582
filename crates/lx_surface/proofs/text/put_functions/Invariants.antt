use Rattle.std.proofs.Common.{◌≡◌, ◌++◌, take}
use Rattle.std.specs.List.{flat_map, enumerate_from}
use Rattle.lx_surface.specs.Text.{function_line}
use Rattle.lx_surface.proofs.text.put_functions.Given as goal

abbrev pub invariant-loop-place : goal.invariant-loop-place
invariant-loop-place l = l.out.items ≡ l.fn.out.items ++ flat_map (function_line l.scope.program.now l.scope.bound.now l.scope.home l.scope.name.now) (take l.place (enumerate_from 0 l.functions))
