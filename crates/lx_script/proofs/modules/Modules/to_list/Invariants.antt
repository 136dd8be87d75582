use Rattle.std.proofs.Common.{◌≡◌, ◌++◌}
use Rattle.lx_script.proofs.Table.{modules_in}
use Rattle.lx_script.proofs.modules.Modules.to_list.Given as goal

abbrev pub invariant-loop-name : goal.invariant-loop-name
invariant-loop-name l = l.list ++ modules_in l.name-iterator ≡ l.self
