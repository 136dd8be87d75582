-- The operands of a phi by the numbers of the blocks that they are from.
use Rattle.std.specs.Prelude.{◌≡◌, ℕ, Bool, true, false, ◌&&◌, Option, Some, None, List, nat_eq, bytes_eq, find, option_map}
use Rattle.std.specs.List.{list_any}
use Rattle.std.specs.Map.{lookup}
use Rattle.lx_ir.specs.declared.instr.Edge.{Edge}
use Rattle.lx_ir.specs.declared.module.Block.{Block}
use Rattle.lx_ir.specs.declared.module.Function.{Function}
use Rattle.lx_ir.specs.declared.module.Value.{Value}
use Rattle.lx_ir.specs.Faults.{block_number, has_block, same_value}
use Rattle.lx_ir_walks.specs.Numbers.{is_number}

-- what a map has at a number
abbrev pub at_number : List (ℕ × Value) → ℕ → Option Value
at_number table n = lookup (nat_eq n) table

-- the edge's label names the block with this number
abbrev pub is_from : Function → ℕ → Edge → Bool
is_from f n e = is_number (block_number f e.label) n

-- the map has the first operand from each block
abbrev pub HasFirsts : Function → List Edge → List (ℕ × Value) → Type 0
HasFirsts f edges table = (n : ℕ) → at_number table n ≡ option_map (λ e. e.value) (find (is_from f n) edges)

-- there is an operand, and this one is the same
abbrev pub is_first : Option Value → Value → Bool
is_first None v = false
is_first (Some u) v = same_value u v

abbrev pub edge_at : List ℕ → List (ℕ × Value) → Value → Option ℕ → Bool
edge_at before firsts v None = false
edge_at before firsts v (Some n) = list_any (nat_eq n) before && is_first (at_number firsts n) v

-- the edge is from a block among these, with the first operand from there
abbrev pub edge_by : Function → List ℕ → List (ℕ × Value) → Edge → Bool
edge_by f before firsts e = edge_at before firsts e.value (block_number f e.label)

-- the names of these blocks are names of the function's blocks
abbrev pub AreBlocksOf : Function → List Block → Type 0
AreBlocksOf f blocks = (label : List ℕ) → list_any (λ b. bytes_eq b.name label) blocks ≡ true → has_block f label ≡ true
