use Rattle.std.proofs.Common.{◌≡◌, ◌++◌, take}
use Rattle.std.specs.List.{flat_map, enumerate_from}
use Rattle.lx_surface.specs.Text.{type_line}
use Rattle.lx_surface.proofs.text.put_types.Given as goal

abbrev pub invariant-loop-place : goal.invariant-loop-place
invariant-loop-place l = l.out.items ≡ l.fn.out.items ++ flat_map (type_line l.scope.bound.now l.scope.home l.scope.name.now) (take l.place (enumerate_from 0 l.types))
