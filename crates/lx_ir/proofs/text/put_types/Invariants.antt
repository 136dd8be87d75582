use Rattle.std.proofs.Common.{◌≡◌, ◌++◌, take, flat_map}
use Rattle.lx_ir.specs.Text.{named_type_text}
use Rattle.lx_ir.proofs.text.put_types.Given as goal

abbrev pub invariant-loop-entry : goal.invariant-loop-entry
invariant-loop-entry l = l.out.items ≡ l.initial.out.items ++ flat_map (named_type_text l.m) (take l.entry-index l.entry-items)
