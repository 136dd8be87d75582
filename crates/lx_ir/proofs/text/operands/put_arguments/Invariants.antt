use Rattle.std.proofs.Common.{◌≡◌, ◌++◌, take, map}
use Rattle.lx_ir.specs.Text.{argument_text, comma_list}
use Rattle.lx_ir.proofs.text.operands.put_arguments.Given as goal

abbrev pub invariant-loop-i : goal.invariant-loop-i
invariant-loop-i l =
    l.out.items ≡ l.initial.out.items ++ comma_list (map (argument_text l.scope.m.now l.scope.f.now) (take l.i l.arguments))
