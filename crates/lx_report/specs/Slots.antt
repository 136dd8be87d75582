-- Tables of the slot types that functions of modules get.
use Rattle.std.specs.Prelude.{◌≡◌, ℕ, Bool, true, false, Some, List, [], ◌∷◌, ◌++◌, length, slice_get}
use Rattle.lx_annot.specs.declared.interface.Interface.{Interface}
use Rattle.lx_ir.specs.declared.module.Module.{Module}
use Rattle.lx_model.specs.declared.program.ProgramModule.{ProgramModule}
use Rattle.lx_model.specs.Program.{module_or_empty}
use Rattle.lx_model.specs.declared.request.Outcome.{Outcome}
use Rattle.lx_model.specs.declared.request.Outcome.TheVariants.{Refused}
use Rattle.lx_model.specs.declared.request.Refusal.TheVariants.{OtherAnnotation}
use Rattle.lx_propagate.specs.declared.slots.SlotTypes.{SlotTypes}
use Rattle.lx_propagate.specs.Told.{HasSlotTypes}

-- each table is that of the module with its number; there may be fewer tables than modules
unfoldable pub AreTypesOf : Interface → List ProgramModule → List SlotTypes → Type 0
AreTypesOf i ms tables = (k : ℕ) → (types : SlotTypes) → slice_get tables k ≡ Some types → HasSlotTypes i (module_or_empty (slice_get ms k)) types

-- the tables are those of so many modules
unfoldable pub AreFirstTypes : Interface → List ProgramModule → ℕ → List SlotTypes → Type 0
AreFirstTypes i ms k tables = (length tables ≡ k) × AreTypesOf i ms tables

-- the table of a module comes behind the others
unfoldable pub AddsTypes : Interface → Module → List SlotTypes → List SlotTypes → Type 0
AddsTypes i m old new = (types : SlotTypes) × HasSlotTypes i m types × (new ≡ old ++ types ∷ [])

-- the text of the reply has the annotation of a function
abbrev pub tells_annotation : Outcome → Bool
tells_annotation (Refused (OtherAnnotation who at slot function)) = true
tells_annotation o = false
