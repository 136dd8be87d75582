use Rattle.std.proofs.Common.{◌≡◌, ◌++◌, take, map}
use Rattle.lx_ir.specs.Text.{scalar_text, comma_list}
use Rattle.lx_ir.proofs.text.functions.put_parameter_types.Given as goal

abbrev pub invariant-loop-i : goal.invariant-loop-i
invariant-loop-i l = l.out.items ≡ l.initial.out.items ++ comma_list (map (λ p. scalar_text p.ty) (take l.i l.parameters))
