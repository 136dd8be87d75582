-- Blocks by their names: a map from names to the numbers of blocks.
use Rattle.std.specs.Prelude.{◌≡◌, ℕ, Bool, false, Option, Some, None, List, nat_eq, bytes_eq, position}
use Rattle.std.specs.Borrow.{Bor}
use Rattle.std.specs.Map.{lookup}
use Rattle.lx_ir.specs.declared.module.Block.{Block}

-- what a map has at a name
abbrev pub at_name : List (Bor (List ℕ) × ℕ) → List ℕ → Option ℕ
at_name table name = lookup (λ k. bytes_eq name k.now) table

-- the block has this name
abbrev pub is_named : List ℕ → Block → Bool
is_named name b = bytes_eq b.name name

-- the map has the number of the first block of each name
abbrev pub HasNumbers : List Block → List (Bor (List ℕ) × ℕ) → Type 0
HasNumbers blocks table = (name : List ℕ) → at_name table name ≡ position (is_named name) blocks

-- there is a number, and it is this one
abbrev pub is_number : Option ℕ → ℕ → Bool
is_number None n = false
is_number (Some k) n = nat_eq k n
