-- What names stand for while a text is read. A name is its number in the table of names.
use Rattle.std.specs.Prelude.{ℕ, Bool, true, false, Option, Some, None, List, [], slice_get, unwrap_or}
use Rattle.std.specs.Option.{option_flatten}
use Rattle.lx_ir.specs.declared.types.NamedType.{NamedType}
use Rattle.lx_ir.specs.declared.module.Symbol.{Symbol}
use Rattle.lx_ir.specs.Fitting.{Layouts}
use Rattle.lx_ir_offsets.specs.Shapes.{Shape}
use Rattle.lx_ir.specs.declared.module.Symbol.TheVariants.{Global}

pub record Context : Type 0 where
  pub types : List (Option ℕ)
  pub symbols : List (Option Symbol)
  pub registers : List (Option ℕ)
  -- the types by their numbers, and their layouts
  pub named : List NamedType
  pub layouts : Layouts
  -- their shapes, where types have to be within the limits as they are written
  pub limits : Option (List Shape)
  -- the names of the text, and what its byte strings say
  pub names : List (List ℕ)
  pub complete : Bool

-- what a name stands for in a table
abbrev pub entry : {A : Type 0} → List (Option A) → ℕ → Option A
entry table name = option_flatten (slice_get table name)

-- what is kept of a name that names nothing
abbrev pub nothing : ℕ
nothing = 4294967295

-- what a name stands for, where names that name nothing may stand
abbrev pub unless_complete : {A : Type 0} → Bool → A → Option A → Option A
unless_complete complete other (Some x) = Some x
unless_complete true other None = None
unless_complete false other None = Some other

-- the number of the type that a name names
abbrev pub type_number : Context → ℕ → Option ℕ
type_number c name = unless_complete c.complete nothing (entry c.types name)

-- the function or global that a name names
abbrev pub symbol_of : Context → ℕ → Option Symbol
symbol_of c name = unless_complete c.complete (Global nothing) (entry c.symbols name)

abbrev pub register_or : Option ℕ → ℕ
register_or None = nothing
register_or (Some r) = r

-- the number of the register that a name names
abbrev pub register_number : Context → ℕ → ℕ
register_number c name = register_or (entry c.registers name)

-- the bytes that a byte string says
abbrev pub bytes_of : Context → ℕ → List ℕ
bytes_of c name = unwrap_or (slice_get c.names name) []
