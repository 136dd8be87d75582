-- Which programs a machine runs: those whose numbers fit their types, and whose types lie within the limits.
use Rattle.std.specs.Prelude.{◌≡◌, ℕ, ◌≤◌, Bool, true, false, IsTrue, Option, Some, None, List, length, slice_get}
use Rattle.std.specs.List.{list_all}
use Rattle.lx_ir.specs.declared.types.NamedType.{NamedType}
use Rattle.lx_ir.specs.declared.module.Function.{Function}
use Rattle.lx_ir.specs.declared.module.Module.{Module}
use Rattle.lx_ir.specs.Lookup.{blocks_of}
use Rattle.lx_model.specs.declared.program.Program.{Program}
use Rattle.lx_model.specs.Next.{actions_of}
use Rattle.lx_code.specs.declared.code.ActionCounts.{ActionCounts}
pub use Rattle.lx_code.specs.Sized.{is_sized, are_sized_instrs, are_sized}

-- the types of a function's instructions are within the limits, and those of a text's functions
abbrev pub is_sized_function : List NamedType → Function → Bool
is_sized_function types f = are_sized types (blocks_of f)

abbrev pub is_sized_module : Module → Bool
is_sized_module m = list_all (is_sized_function m.types) m.functions

-- a program whose functions and slots a `u32` numbers, and whose types are within the limits
pub record IsWithinReach (p : Program) : Type 0 where
  pub functions : length p.functions ≤ 4294967296
  pub slots : length p.interface.slots ≤ 4294967296
  pub kernel : IsTrue (is_sized_module p.kernel)
  pub modules : IsTrue (list_all (λ m. is_sized_module m.«module») p.modules)

-- how many actions a function has behind or before its body, by a table
abbrev pub count_in : Bool → Option ActionCounts → ℕ
count_in post None = 0
count_in true (Some c) = c.post
count_in false (Some c) = c.pre

-- the table has the number of actions of each function; a function that it lacks has none
abbrev pub CountsActions : Program → List ActionCounts → Type 0
CountsActions p table = (n : ℕ) → (post : Bool) → count_in post (slice_get table n) ≡ length (actions_of p n post)
