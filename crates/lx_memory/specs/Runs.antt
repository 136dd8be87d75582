-- The free runs of the heap's places.
use Rattle.std.specs.Prelude.{◌≡◌, ◌≢◌, ℕ, ◌+◌, ◌*◌, ◌/◌, ◌<◌, ◌≤◌, max, List, length, Option, MatchOption, slice_index}

-- how many places of 16 bytes the heap has
unfoldable pub places : ℕ
places = 0x10000

-- a node has the greater of its two halves
abbrev pub IsGreater : List ℕ → ℕ → Type 0
IsGreater nodes k = slice_index nodes k ≡ max (slice_index nodes (2 * k)) (slice_index nodes (2 * k + 1))

-- each node has the greater of its halves, but for the one above the node that is named
abbrev pub AreGreater : List ℕ → ℕ → Type 0
AreGreater nodes node = (k : ℕ) → 0 < k → k < places → k ≢ node / 2 → IsGreater nodes k

-- a tree of the places, where each node has the greater of its halves
pub record IsTree (nodes : List ℕ) : Type 0 where
  pub len : length nodes ≡ 2 * places
  pub all : AreGreater nodes 1

-- the first place whose length is at least this one, if any is
abbrev pub IsFirst : ℕ → List ℕ → Option ℕ → Type 0
IsFirst n lengths first =
    MatchOption first ((p : ℕ) → p < places → slice_index lengths p < n) (λ g. (g < places) × (n ≤ slice_index lengths g) × ((p : ℕ) → p < g → slice_index lengths p < n))
