-- The parts of memory, 64 bytes each, and the pieces of a range in them.
use Rattle.std.specs.Prelude.{ℕ, ◌+◌, ◌-◌, ◌/◌, ◌%◌, Bool, ◌&&◌, nat_eq, nat_le, nat_lt, Option, Some, None, if◌then◌else◌}
use Rattle.lx_cap_nodes.specs.declared.piece.Piece.{Piece}

-- the byte is one of the `size` bytes from `at`
abbrev pub in_range : ℕ → ℕ → ℕ → Bool
in_range at size b = nat_le at b && nat_lt b (at + size)

-- the byte lies in the piece of a part
abbrev pub lies_in : Piece → ℕ → Bool
lies_in p b = nat_eq p.part (b / 64) && (nat_le p.from (b % 64) && nat_lt (b % 64) p.to)

-- the number of a part's list, where the part lies in memory
abbrev pub part_list : ℕ → Option ℕ
part_list p =
    if nat_le 0x40000 p && nat_lt p 0x44000
    then Some (p - 0x40000)
    else (if nat_le 0x80000 p && nat_lt p 0x84000 then Some (p - 0x80000 + 0x4000) else (if nat_le 0xc0000 p && nat_lt p 0xc4000 then Some (p - 0xc0000 + 0x8000) else None))
