use Rattle.std.proofs.Common.{◌≡◌, ◌++◌, take, map}
use Rattle.lx_ir.specs.Text.{edge_text, comma_list}
use Rattle.lx_ir.proofs.text.values.put_edges.Given as goal

abbrev pub invariant-loop-i : goal.invariant-loop-i
invariant-loop-i l = l.out.items ≡ l.initial.out.items ++ comma_list (map (edge_text l.scope.m.now l.scope.f.now) (take l.i l.edges))
