-- The bits of a mask of 64.
use Rattle.std.specs.Prelude.{◌≡◌, ℕ, ◌<◌, ◌≤◌, true, false, Option, Some, None}
use Rattle.lx_cap_nodes.specs.Bits.{is_set}

-- the first place from the given one on at which a bit is set, or none
abbrev pub IsNextSet : ℕ → ℕ → Option ℕ → Type 0
IsNextSet mask place None = (k : ℕ) → place ≤ k → k < 64 → is_set mask k ≡ false
IsNextSet mask place (Some at) = (place ≤ at) × (at < 64) × ((k : ℕ) → place ≤ k → k < at → is_set mask k ≡ false) × (is_set mask at ≡ true)
