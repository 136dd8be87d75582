-- Where the annotations of functions stand in an interface.
use Rattle.std.specs.Prelude.{◌≡◌, ℕ, ◌≤◌, Option, Some, None, List, length, option_and_then, option_map, slice_get}
use Rattle.lx_annot.specs.declared.action.Annotation.{Annotation}
use Rattle.lx_annot.specs.declared.interface.Interface.{Interface}
use Rattle.lx_annot.specs.Items.{items_of}
use Rattle.lx_model.specs.declared.program.Program.{Program}
use Rattle.lx_model.specs.Program.{annotation_of, slot_annotation}
use Rattle.lx_serve.specs.declared.source.Source.{Source}
use Rattle.lx_serve.specs.declared.source.Source.TheVariants.{Slot, Export}

-- the annotation of an export, by the export's number
abbrev pub export_at : Interface → ℕ → Option Annotation
export_at i k = option_map (λ e. e.annotation) (slice_get i.exports k)

-- the annotation that stands there
abbrev pub annotation_at : Interface → Source → Option Annotation
annotation_at i (Slot k) = slot_annotation i k
annotation_at i (Export k) = export_at i k

-- the source in a table of them, where a function has one
abbrev pub source_of : Option (Option Source) → Option Source
source_of (Some source) = source
source_of None = None

-- the table tells of each function where its annotation stands
abbrev pub Knows : Program → List (Option Source) → Type 0
Knows p sources = (n : ℕ) → option_and_then (annotation_at p.interface) (source_of (slice_get sources n)) ≡ annotation_of p n

-- a linked program: its iterators have at most 16 items, and 32 bits number its functions
pub record IsLinked (p : Program) : Type 0 where
  pub iterators : (k : ℕ) → length (items_of (slice_get p.interface.iterators k)) ≤ 16
  pub functions : length p.functions ≤ 0x100000000
