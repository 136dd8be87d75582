use Rattle.std.proofs.Common.{◌≡◌, ◌≤◌, drop}
use Rattle.std.specs.Prelude.{fold}
use Rattle.lx_ir_read.specs.Fault.{no_parameters, count_token}
use Rattle.lx_ir_read.proofs.what.numbered_in.Given as goal

abbrev pub invariant-loop-token : goal.invariant-loop-token
invariant-loop-token l = record { count : fold (count_token l.names) l.count (drop l.token-index l.before) ≡ fold (count_token l.names) no_parameters l.before; few : l.count.numbered ≤ l.token-index }
