-- What a heap keeps of the blocks that are live.
use Rattle.std.specs.Prelude.{◌≡◌, ℕ, zero, suc, ◌+◌, ◌%◌, ◌<◌, ◌≤◌, List, [], ◌∷◌, Option, Some, None, Bool, ◌&&◌, nat_eq, nat_le, if◌then◌else◌}
use Rattle.std.specs.List.{list_any}
use Rattle.lx_caps.specs.declared.Block.{Block}
use Rattle.lx_caps.specs.Regions.{region_size, heap_start, align_up}
use Rattle.lx_caps.specs.Heap.{Blocks}

abbrev pub heap_end : ℕ
heap_end = heap_start + region_size

-- blocks one behind the other, from an address on and up to the heap's end: each has bytes, and begins at an address
-- divisible by 16
abbrev pub IsAscending : ℕ → List Block → Type 0
IsAscending from [] = from ≤ heap_end
IsAscending from (b ∷ bs) = (from ≤ b.at) × (b.at % 16 ≡ 0) × (0 < b.size) × IsAscending (b.at + b.size) bs

abbrev pub same_block : Block → Block → Bool
same_block a b = nat_eq a.at b.at && nat_eq a.size b.size

abbrev pub has_block : List Block → Block → Bool
has_block blocks b = list_any (same_block b) blocks

-- a heap keeps the live blocks, whatever their order
abbrev pub KeepsBlocks : List Block → Blocks → Type 0
KeepsBlocks kept blocks = (b : Block) → has_block kept b ≡ has_block blocks b

-- the blocks with one more, where an address was given
abbrev pub with_block : ℕ → ℕ → Blocks → Blocks
with_block zero size blocks = blocks
with_block (suc a) size blocks = record { at = suc a; size = size } ∷ blocks

-- a place among blocks, and an address there
pub record Gap : Type 0 where
  pub place : ℕ
  pub at : ℕ

abbrev pub gap : ℕ → ℕ → Option Gap
gap place at = Some (record { place = place; at = at })

-- the first gap of so many bytes between blocks, from an address on
abbrev pub first_gap : ℕ → ℕ → ℕ → List Block → Option Gap
first_gap size place at [] = if nat_le (at + size) heap_end then gap place at else None
first_gap size place at (b ∷ bs) =
    let rest = first_gap size (suc place) (align_up (b.at + b.size) 16) bs in
    if nat_le (at + size) b.at then gap place at else rest
