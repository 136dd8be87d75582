-- The bytes of parts of memory.
use Rattle.std.specs.Prelude.{◌≡◌, ℕ, ◌+◌, ◌*◌, ◌/◌, ◌%◌, ◌<◌, ◌≤◌, Bool, ◌&&◌, nat_eq, List, [], ◌∷◌}
use Rattle.std.specs.List.{list_any}
use Rattle.lx_cap_lists.specs.declared.PartBytes.{PartBytes}
use Rattle.lx_cap_nodes.specs.Bits.{is_set}

-- the byte is one of these bytes of a part
abbrev pub has_byte : ℕ → PartBytes → Bool
has_byte b x = nat_eq x.part (b / 64) && is_set x.mask (b % 64)

-- the byte is among the bytes of these parts
abbrev pub is_among : ℕ → List PartBytes → Bool
is_among b xs = list_any (λ x. has_byte b x) xs

-- of the part's bytes, those that pass the test are these
abbrev pub IsPartOf : (ℕ → Bool) → PartBytes → Type 0
IsPartOf p x = (k : ℕ) → k < 64 → p (x.part * 64 + k) ≡ is_set x.mask k

-- the parts stand in order, from a number on
abbrev pub Rises : ℕ → List PartBytes → Type 0
Rises low [] = Unit {0}
Rises low (x ∷ xs) = (low ≤ x.part) × Rises x.part xs
