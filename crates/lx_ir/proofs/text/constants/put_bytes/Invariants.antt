use Rattle.std.proofs.Common.{◌≡◌, ◌++◌, take, flat_map}
use Rattle.lx_ir.specs.Text.{byte_text}
use Rattle.lx_ir.proofs.text.constants.put_bytes.Given as goal

abbrev pub invariant-loop-byte : goal.invariant-loop-byte
invariant-loop-byte l = l.out.items ≡ l.initial.out.items ++ flat_map byte_text (take l.byte-index l.bytes)
