use Rattle.std.proofs.Common.{◌≡◌, ◌++◌, take, flat_map}
use Rattle.lx_ir.specs.Text.{global_var_text}
use Rattle.lx_ir.proofs.text.put_globals.Given as goal

abbrev pub invariant-loop-global : goal.invariant-loop-global
invariant-loop-global l = l.out.items ≡ l.initial.out.items ++ flat_map (global_var_text l.m) (take l.global-index l.global-items)
