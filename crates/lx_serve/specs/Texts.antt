-- The canonical texts of what an interface annotates.
use Rattle.std.specs.Prelude.{◌≡◌, ℕ, Option, Some, None, List, [], map, slice_get, unwrap_or}
use Rattle.lx_annot.specs.Canonical.{canonical}
use Rattle.lx_annot.specs.declared.interface.Export.{Export}
use Rattle.lx_annot.specs.declared.interface.Interface.{Interface}
use Rattle.lx_annot.specs.declared.interface.Slot.{Slot}
use Rattle.lx_serve.specs.declared.source.Source as source
use Rattle.lx_serve.specs.declared.source.Source.TheVariants as at
use Rattle.lx_serve.specs.declared.texts.Texts.{Texts}

abbrev pub slot_text : Interface → Slot → List ℕ
slot_text i = λ s. canonical i s.annotation

abbrev pub export_text : Interface → Export → List ℕ
export_text i = λ e. canonical i e.annotation

-- the texts of the annotations of slot types and of exports
pub record HasTexts (i : Interface) (texts : Texts) : Type 0 where
  pub slots : texts.slots ≡ map (slot_text i) i.slots
  pub exports : texts.exports ≡ map (export_text i) i.exports

-- the text with this number; past the last there is none
abbrev pub text_at : List (List ℕ) → ℕ → List ℕ
text_at texts k = unwrap_or (slice_get texts k) []

-- the text of the annotation that stands there; none is the empty one
abbrev pub text_of_source : Texts → Option source.Source → List ℕ
text_of_source texts (Some (at.Slot k)) = text_at texts.slots k
text_of_source texts (Some (at.Export k)) = text_at texts.exports k
text_of_source texts None = []
