use Rattle.std.proofs.Common.{◌≡◌, ◌-◌, ◌++◌, length, take}
use Rattle.lx_caps.specs.Memory.{bytes_of}
use Rattle.lx_memory.proofs.numbers.put_number.Given as goal

abbrev pub invariant-loop-byte : goal.invariant-loop-byte
invariant-loop-byte l =
    take l.byte-index l.bytes ++ bytes_of (length l.bytes - l.byte-index) l.rest ≡ bytes_of (length l.bytes) l.number
