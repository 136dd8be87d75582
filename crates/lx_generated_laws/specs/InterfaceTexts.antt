-- Short forms for the interfaces of the worked rows.
use Rattle.std.specs.Prelude.{ℕ, Option, List}
use Rattle.lx_annot.specs.Action.{Action}
use Rattle.lx_annot.specs.declared.action.Annotation.{Annotation}
use Rattle.lx_annot.specs.declared.action.Who.{Who}
use Rattle.lx_annot.specs.declared.expr.Ty.{Ty}
use Rattle.lx_annot.specs.declared.interface.Export.{Export}
use Rattle.lx_annot.specs.declared.interface.Field.{Field}
use Rattle.lx_annot.specs.declared.interface.Parameter.{Parameter}
use Rattle.lx_annot.specs.declared.interface.Slot.{Slot}

abbrev pub parameter : List ℕ → Ty → Parameter
parameter name t = record { name = name; ty = t }

abbrev pub annotated : Option Who → List Action → List Action → Annotation
annotated who before behind = record { principal = who; pre = before; post = behind }

-- the last of each is its line

abbrev pub slot : List ℕ → List Parameter → Ty → Annotation → ℕ → Slot
slot name params ret annotation row = record { name = name; params = params; ret = ret; annotation = annotation; line = row }

abbrev pub export : List ℕ → List Parameter → Ty → Annotation → ℕ → Export
export name params ret annotation row = record { name = name; params = params; ret = ret; annotation = annotation; line = row }

-- a field of a struct by its index, and the number of its slot type
abbrev pub field : List ℕ → ℕ → ℕ → ℕ → Field
field name index there row = record { name = name; index = index; slot = there; line = row }
