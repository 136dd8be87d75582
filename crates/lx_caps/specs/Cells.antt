-- How much room a capability takes.
use Rattle.std.specs.Prelude.{ℕ, ◌+◌, ◌/◌}
use Rattle.lx_caps.specs.declared.Cap.{Cap}
use Rattle.lx_caps.specs.declared.Cap.TheVariants.{Write, Call, Ref}

-- how much of a store's room a capability takes at most: a range of bytes lies in this many parts of 64 bytes
abbrev pub cells : Cap → ℕ
cells (Write at size) = size / 64 + 2
cells (Call at) = 1
cells (Ref ty at) = 1
