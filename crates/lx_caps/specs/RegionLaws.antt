-- What it means to lie in memory, in the words of the bytes.
use Rattle.std.specs.Prelude.{◌≡◌, ◌↔◌, ◌⊎◌, ℕ, ◌+◌, ◌<◌, ◌≤◌, false, IsTrue}
use Rattle.lx_caps.specs.Regions.{region_size, globals_start, heap_start, stacks_start, mapped, first_unmapped}

-- a region begins there
abbrev pub IsRegion : ℕ → Type 0
IsRegion start = (start ≡ globals_start) ⊎ ((start ≡ heap_start) ⊎ (start ≡ stacks_start))

-- the byte lies in the region that begins there
abbrev pub LiesIn : ℕ → ℕ → Type 0
LiesIn start b = (start ≤ b) × (b < start + region_size)

-- the byte lies in some region
abbrev pub LiesInMemory : ℕ → Type 0
LiesInMemory b = (start : ℕ) × IsRegion start × LiesIn start b

-- the first of the bytes from `at` to `at + size - 1` that lies in no region
pub record IsFirstOutside (at size b : ℕ) : Type 0 where
  pub from : at ≤ b
  pub within : b < at + size
  pub outside : ¬ LiesInMemory b
  pub before : (a : ℕ) → at ≤ a → a < b → LiesInMemory a

pub record RegionLaws : Type 0 where
  -- a range is mapped exactly where it is empty or all its bytes lie in one region
  pub in_one : (at size : ℕ) → IsTrue (mapped at size) ↔ ((size ≡ 0) ⊎ ((start : ℕ) × IsRegion start × ((b : ℕ) → at ≤ b → b < at + size → LiesIn start b)))
  -- regions do not touch, so it is enough that each byte lies in some region
  pub byte_by_byte : (at size : ℕ) → IsTrue (mapped at size) ↔ ((b : ℕ) → at ≤ b → b < at + size → LiesInMemory b)
  -- a range that is not mapped has a first byte outside
  pub first_outside : (at size : ℕ) → mapped at size ≡ false → IsFirstOutside at size (first_unmapped at)
