-- What it means to be free and to be allocated, in the words of bytes and addresses.
use Rattle.std.specs.Prelude.{◌≡◌, ◌≢◌, ◌↔◌, ◌⊎◌, ℕ, ◌+◌, ◌%◌, ◌<◌, ◌≤◌, IsTrue, [], ◌∷◌}
use Rattle.lx_caps.specs.Regions.{region_size, heap_start}
use Rattle.lx_caps.specs.Heap.{Blocks, is_free, alloc_address}

-- no byte of the range stands in a live block
abbrev pub IsApart : Blocks → ℕ → ℕ → Type 0
IsApart [] at size = Unit {0}
IsApart (block ∷ blocks) at size =
    ((b : ℕ) → at ≤ b → b < at + size → ¬ ((block.at ≤ b) × (b < block.at + block.size))) × IsApart blocks at size

-- the range lies in the heap, and its bytes stand in no live block
pub record IsFree (blocks : Blocks) (at size : ℕ) : Type 0 where
  pub from : heap_start ≤ at
  pub to : at + size ≤ heap_start + region_size
  pub apart : IsApart blocks at size

-- a block may be allocated there
pub record Fits (blocks : Blocks) (size at : ℕ) : Type 0 where
  pub aligned : at % 16 ≡ 0
  pub is_free : IsFree blocks at size

-- the least address where it may
pub record IsLeastFit (blocks : Blocks) (size at : ℕ) : Type 0 where
  pub fits : Fits blocks size at
  pub least : (other : ℕ) → Fits blocks size other → at ≤ other

pub record HeapLaws : Type 0 where
  pub free : (blocks : Blocks) (at size : ℕ) → IsTrue (is_free blocks at size) ↔ IsFree blocks at size
  -- no address is given exactly where no bytes are asked for or they fit nowhere
  pub none : (blocks : Blocks) (size : ℕ) → (alloc_address blocks size ≡ 0) ↔ ((size ≡ 0) ⊎ ((at : ℕ) → ¬ Fits blocks size at))
  -- an address that is given is the least of all that fit
  pub some : (blocks : Blocks) (size : ℕ) → alloc_address blocks size ≢ 0 → IsLeastFit blocks size (alloc_address blocks size)
