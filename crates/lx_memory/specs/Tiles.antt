-- The heap's places of 16 bytes as blocks, each behind the free places before it.
use Rattle.std.specs.Prelude.{◌≡◌, ◌≢◌, ℕ, zero, suc, ◌+◌, ◌*◌, ◌/◌, ◌<◌, ◌≤◌, List, [], ◌∷◌, length, slice_index}
use Rattle.lx_caps.specs.declared.Block.{Block}
use Rattle.lx_caps.specs.Regions.{heap_start}
use Rattle.lx_memory.specs.Runs.{places}

-- the address of a place
abbrev pub address : ℕ → ℕ
address place = heap_start + 16 * place

-- how many places a block of so many bytes takes
abbrev pub taken : ℕ → ℕ
taken size = (size + 15) / 16

-- the blocks of a table that has the bytes of the block that begins at each place, from a place on
abbrev pub blocks_from : ℕ → List ℕ → List Block
blocks_from place [] = []
blocks_from place (zero ∷ more) = blocks_from (place + 1) more
blocks_from place (suc n ∷ more) = record { at = address place; size = suc n } ∷ blocks_from (place + 1) more

-- a block, and how many places are free right before it
pub record Tile : Type 0 where
  pub room : ℕ
  pub size : ℕ

-- the places where the block of a tile begins and where the next tile does
abbrev pub begin : ℕ → Tile → ℕ
begin k t = k + t.room

abbrev pub behind : ℕ → Tile → ℕ
behind k t = begin k t + taken t.size

-- tables of blocks' bytes, of free places before blocks and of free runs have this tile from a place on
pub record HasTile (sizes rooms runs : ℕ → ℕ) (k : ℕ) (t : Tile) : Type 0 where
  pub some : 0 < t.size
  pub run : runs k ≡ t.room
  pub size : sizes (begin k t) ≡ t.size
  pub room : rooms (begin k t) ≡ t.room
  pub no_block : (x : ℕ) → k ≤ x → x < behind k t → x ≢ begin k t → sizes x ≡ 0
  pub no_run : (x : ℕ) → k < x → x < behind k t → runs x ≡ 0

-- and these have no block from a place on
pub record HasEnd (sizes runs : ℕ → ℕ) (k : ℕ) : Type 0 where
  pub run : k + runs k ≡ places
  pub no_block : (x : ℕ) → k ≤ x → sizes x ≡ 0
  pub no_run : (x : ℕ) → k < x → runs x ≡ 0

-- the tables have these tiles one behind the other, and the heap ends behind them
abbrev pub AreTiles : (ℕ → ℕ) → (ℕ → ℕ) → (ℕ → ℕ) → ℕ → List Tile → Type 0
AreTiles sizes rooms runs k [] = HasEnd sizes runs k
AreTiles sizes rooms runs k (t ∷ ts) = HasTile sizes rooms runs k t × AreTiles sizes rooms runs (behind k t) ts

-- the tables of a heap: each place lies in one tile, or in the run at the heap's end
pub record IsHeap (sizes rooms runs : List ℕ) : Type 0 where
  pub sizes_len : length sizes ≡ places
  pub rooms_len : length rooms ≡ places
  pub runs_len : length runs ≡ places
  pub tiles : List Tile
  pub tiled : AreTiles (slice_index sizes) (slice_index rooms) (slice_index runs) 0 tiles
