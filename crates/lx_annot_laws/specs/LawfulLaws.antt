-- Interfaces that are read are lawful.
use Rattle.std.specs.Prelude.{◌≡◌, ℕ, ◌<◌, ◌^◌, List, [], All, filter, length}
use Rattle.lx_annot.specs.declared.action.Annotation.{Annotation}
use Rattle.lx_annot.specs.declared.interface.Slot.{Slot}
use Rattle.lx_annot.specs.declared.interface.Export.{Export}
use Rattle.lx_annot.specs.declared.interface.Interface.{Interface}
use Rattle.lx_annot.specs.Action.{is_lend}
use Rattle.lx_annot_read.specs.declared.head.Version.TheVariants as versions
use Rattle.lx_annot_read.specs.Texts.{SaysInterface}
use Rattle.lx_annot_laws.specs.Statements.{IsInterface}
use Rattle.lx_annot.specs.Lawful.{IsLawfulInterface}

-- What is read of a text is a lawful interface; the text is one that the reader takes.
abbrev pub ReadIsLawful : Type 0
ReadIsLawful = (text : List ℕ) (i : Interface) → length text < 2 ^ 32 → SaysInterface text i → IsLawfulInterface i

-- no action before the body is a lend, so that in a lawful interface none behind it ends a loan
abbrev pub LendsNothing : Annotation → Type 0
LendsNothing a = filter is_lend a.pre ≡ []

-- The slots and exports of a text of version 1 lend nothing.
abbrev pub FirstVersionLendsNothing : Type 0
FirstVersionLendsNothing =
    (text : List ℕ) (i : Interface) (is : IsInterface text i) → is.version ≡ versions.One → All (λ (x : Slot). LendsNothing x.annotation) i.slots × All (λ (x : Export). LendsNothing x.annotation) i.exports
