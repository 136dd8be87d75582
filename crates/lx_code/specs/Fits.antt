-- Tables that fit the blocks of a function.
use Rattle.std.specs.Prelude.{◌≡◌, ℕ, Bool, true, false, ◌&&◌, Option, Some, List, IsSome, length, nat_eq, nat_lt, slice_get, option_map, option_and_then, ⊤}
use Rattle.std.specs.List.{list_all}
use Rattle.std.specs.Map.{lookup}
use Rattle.lx_ir.specs.declared.instr.Op.{Op}
use Rattle.lx_ir.specs.declared.instr.Op.TheVariants as op
use Rattle.lx_ir.specs.declared.module.Block.{Block}
use Rattle.lx_ir.specs.declared.types.NamedType.{NamedType}
use Rattle.lx_ir.specs.Layout.{layout, layout_of}
use Rattle.lx_code.specs.Firsts.{HasCases, HasNames, Numbers, is_fixed, is_from, is_named}
use Rattle.lx_code.specs.Routes.{IsRoute}
use Rattle.lx_code.specs.declared.instructions.Table.{Table}
use Rattle.lx_code.specs.declared.instructions.Table.TheVariants.{Cases, Edges, Room, Route}
use Rattle.lx_code.specs.declared.code_tables.CodeTables.{CodeTables}

-- the number of a block, and the place of an instruction there
abbrev pub Place : Type 0
Place = ℕ × ℕ

abbrev pub same_place : Place → Place → Bool
same_place x y = nat_eq x.0 y.0 && nat_eq x.1 y.1

-- what a map has at a place
abbrev pub at_place : {A : Type 0} → List (Place × A) → ℕ → ℕ → Option A
at_place table b k = lookup (same_place (b, k)) table

-- the instruction at a place
abbrev pub op_at : List Block → ℕ → ℕ → Option Op
op_at blocks b k = option_map (λ i. i.op) (option_and_then (λ x. slice_get x.instrs k) (slice_get blocks b))

-- the instruction is decided by a table: it is a switch of more than eight cases, each of which is a constant, or a phi of more
-- than eight edges
abbrev pub wants_table : Op → Bool
wants_table (op.Switch ty v otherwise cases) = list_all is_fixed cases && nat_lt 8 (length cases)
wants_table (op.Phi to ty edges) = nat_lt 8 (length edges)
wants_table _ = false

-- the table has the first of the instruction's cases, each of which is a constant, the first of its edges, the room of its type,
-- or the route of its indices; a switch and a phi have tables of no other kind
abbrev pub FitsOp : List NamedType → Numbers → Op → Table → Type 0
FitsOp types numbers (op.Switch ty v otherwise cases) (Cases table) = (list_all is_fixed cases ≡ true) × HasCases numbers cases table.entries
FitsOp types numbers (op.Phi to ty edges) (Edges table) = HasNames is_from edges table.entries
FitsOp types numbers (op.Alloca to ty) (Room room) = layout room.size room.align ≡ layout_of types ty
FitsOp types numbers (op.GetElementPtr to ty base indices) (Route route) = IsRoute types ty indices route
FitsOp types numbers (op.Switch ty v otherwise cases) _ = ⊥
FitsOp types numbers (op.Phi to ty edges) _ = ⊥
FitsOp types numbers _ _ = ⊤

-- where there is an instruction and a table, they fit
abbrev pub FitsAt : List NamedType → Numbers → Option Op → Option Table → Type 0
FitsAt types numbers (Some o) (Some table) = FitsOp types numbers o table
FitsAt types numbers _ _ = ⊤

abbrev pub HasTables : List NamedType → Numbers → List Block → List (Place × Table) → Type 0
HasTables types numbers blocks table = (b k : ℕ) → FitsAt types numbers (op_at blocks b k) (at_place table b k)

-- where there is an instruction that is decided by a table, there is a table
abbrev pub HasIfLarge : Option Op → Option Table → Type 0
HasIfLarge here found = (o : Op) → here ≡ Some o → wants_table o ≡ true → IsSome found

abbrev pub HasEachLarge : List Block → List (Place × Table) → Type 0
HasEachLarge blocks table = (b k : ℕ) → HasIfLarge (op_at blocks b k) (at_place table b k)

-- what has a table in one map has one in another
abbrev pub KeepsEach : List (Place × Table) → List (Place × Table) → Type 0
KeepsEach old new = (b k : ℕ) → IsSome (at_place old b k) → IsSome (at_place new b k)

-- the tables are those of the blocks in a text with these types, whose constants come to these numbers: of the first block of each label, and of
-- some instructions, among them each large switch and phi
pub record AreTablesOf (types : List NamedType) (numbers : Numbers) (blocks : List Block) (t : CodeTables) : Type 0 where
  pub labels : HasNames is_named blocks t.labels.entries
  pub tables : HasTables types numbers blocks t.tables.entries
  pub large : HasEachLarge blocks t.tables.entries
