-- Ranges of addresses, and where their bytes are kept.
use Rattle.std.specs.Prelude.{◌≡◌, ℕ, ◌+◌, ◌-◌, ◌*◌, nat_lt, Option, Some, None, Result, MatchResult, if◌then◌else◌}
use Rattle.lx_caps.specs.Regions.{mapped, first_unmapped, region_size, globals_start, heap_start, stacks_start}
use Rattle.lx_memory.specs.declared.range.Unmapped.{Unmapped}

-- how many bytes the three regions have
abbrev pub memory_size : ℕ
memory_size = 3 * region_size

-- the place of the byte at a mapped address, where the regions are kept one behind the other
abbrev pub place_of : ℕ → ℕ
place_of a =
    if nat_lt a heap_start
    then a - globals_start
    else (if nat_lt a stacks_start then region_size + (a - heap_start) else 2 * region_size + (a - stacks_start))

-- the first byte of the range that lies in no region, if one does
abbrev pub range_fault : ℕ → ℕ → Option ℕ
range_fault at size = if mapped at size then None else Some (first_unmapped at)

-- the first byte that lies in no region of the range that is written or, where that lies in memory,
-- of the range that is read
abbrev pub copy_fault : ℕ → ℕ → ℕ → Option ℕ
copy_fault to from size = if mapped to size then range_fault from size else range_fault to size

-- the answer is an error exactly where there is such a byte, and then names it
abbrev pub IsFault : {T : Type 0} → Option ℕ → Result T Unmapped → Type 0
IsFault fault result = MatchResult result (λ _. fault ≡ None) (λ error. fault ≡ Some error.at)
