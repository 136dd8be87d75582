-- What is known of the sums of an interface and a module, and of the spreads of its types.
use Rattle.std.specs.Prelude.{◌≡◌, ℕ, Option, Some, List, map, slice_get}
use Rattle.std.specs.Option.{option_flatten}
use Rattle.lx_annot.specs.declared.interface.Interface.{Interface}
use Rattle.lx_ir.specs.declared.module.Module.{Module}
use Rattle.lx_slot_types.specs.Sites.{FieldName, global_fields_at, named_fields_at}
use Rattle.lx_slot_sums.specs.declared.spread.Spread.{Spread}
use Rattle.lx_slot_sums.specs.Classes.{IsClassed}
use Rattle.lx_slot_sums.specs.Fields.{HasFields, Table, number_among}
use Rattle.lx_slot_sums.specs.Spreads.{IsSpread, Keeps, Says}
use Rattle.lx_slot_sums.specs.Sums.{Typing}
use Rattle.lx_slot_sums.specs.Within.{HasLawfulTypes}

-- the fields that begin at an offset of a named type; a lawful one goes through at most 64 names, one in another
abbrev pub named_fields : Module → ℕ → ℕ → List FieldName
named_fields m n o = named_fields_at m.types 64 n o

-- the number of the spread of the type or the global with a number, if it has one
abbrev pub known : List (Option ℕ) → ℕ → Option ℕ
known numbers n = option_flatten (slice_get numbers n)

-- what is known of named types are their spreads
unfoldable pub AreNamed : Typing → List Spread → List (Option ℕ) → Type 0
AreNamed t xs named = (n k : ℕ) → known named n ≡ Some k → IsSpread t xs (Some k) (named_fields t.text n)

-- each global has the spread of its type
unfoldable pub AreGlobals : Typing → List Spread → List (Option ℕ) → Type 0
AreGlobals t xs globals = (n : ℕ) → IsSpread t xs (known globals n) (global_fields_at t.text n)

-- the spread of a type is made: what was kept is kept, and what is known of named types is right
pub record IsMade (t : Typing) (old new : List Spread) (named : List (Option ℕ)) (spread : Option ℕ) (fields : ℕ → List FieldName) : Type 0 where
  pub kept : Keeps old new
  pub right : AreNamed t new named
  pub made : IsSpread t new spread fields

-- the classes of the slot types, the sums of typed fields and the numbers of the names of types are those of this interface and this
-- module, which is within the limits
pub record IsSummed (i : Interface) (m : Module) (classes : List ℕ) (typed : Table) (names : List (Option ℕ)) : Type 0 where
  pub classes_are : IsClassed i classes
  pub typed_are : HasFields i typed
  pub names_are : names ≡ map (λ t. number_among i.fields t.name) m.types
  pub lawful : HasLawfulTypes m

-- a spread is put behind the others
unfoldable pub Joins : List Spread → List Spread → List (Option ℕ) → List (Option ℕ) → Spread → ℕ → Type 0
Joins old new named names x n =
    (t : Typing) → (fields : ℕ → List FieldName) → Says t old x fields → AreNamed t old named → IsMade t old new names (Some n) fields
