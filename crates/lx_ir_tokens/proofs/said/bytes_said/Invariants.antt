use Rattle.std.proofs.Common.{◌≡◌, ◌++◌, length}
use Rattle.lx_ir_tokens.specs.Said.{bytes_said, unescaped}
use Rattle.lx_ir_tokens.proofs.said.bytes_said.Given as goal

abbrev pub invariant-loop-byte : goal.invariant-loop-byte
invariant-loop-byte l = l.said.items ++ unescaped l.rest ≡ bytes_said l.fn.bytes

abbrev pub decreases-loop-byte : goal.decreases-loop-byte
decreases-loop-byte l = length l.rest
