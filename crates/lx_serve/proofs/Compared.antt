-- Annotations are compared by the texts that were made of them.
use Rattle.std.proofs.Common.{◌≡◌, ◌∙◌, refl, ap, ℕ, Bool, Option, Some, None, List, [], map}
use Rattle.std.specs.Prelude.{bytes_eq, option_and_then, option_map, slice_get, unwrap_or}
use Rattle.std.proofs.lemmas.Option.{slice_get-map}
use Rattle.lx_annot.specs.Canonical.{canonical}
use Rattle.lx_annot.specs.declared.action.Annotation.{Annotation}
use Rattle.lx_annot.specs.declared.interface.Interface.{Interface}
use Rattle.lx_model.specs.declared.program.Program.{Program}
use Rattle.lx_model.specs.Enter.{annotation_text, same_annotation}
use Rattle.lx_model.specs.Program.{no_annotation, slot_annotation}
use Rattle.lx_serve.specs.Sources.{Knows, annotation_at, source_of}
use Rattle.lx_serve.specs.Texts.{HasTexts, text_at, text_of_source}
use Rattle.lx_serve.specs.declared.source.Source.{Source}
use Rattle.lx_serve.specs.declared.source.Source.TheVariants.{Slot, Export}
use Rattle.lx_serve.specs.declared.texts.Texts.{Texts}

text_found : {A : Type 0} (i : Interface) (f : A → Annotation) (o : Option A) → unwrap_or (option_map (λ x. canonical i (f x)) o) [] ≡ canonical i (unwrap_or (option_map f o) no_annotation)
text_found i f None = refl
text_found i f (Some x) = refl

text_listed : {A : Type 0} (i : Interface) (f : A → Annotation) (xs : List A) (k : ℕ) → text_at (map (λ x. canonical i (f x)) xs) k ≡ canonical i (unwrap_or (option_map f (slice_get xs k)) no_annotation)
text_listed i f xs k = ap (λ o. unwrap_or o []) (slice_get-map (λ x. canonical i (f x)) xs k) ∙ text_found i f (slice_get xs k)

slot_told : (p : Program) (texts : Texts) (k : ℕ) → HasTexts p.interface texts → text_at texts.slots k ≡ annotation_text p (slot_annotation p.interface k)
slot_told p texts k has = ap (λ l. text_at l k) has.slots ∙ text_listed p.interface (λ s. s.annotation) p.interface.slots k

source_told : (p : Program) (texts : Texts) (o : Option Source) → HasTexts p.interface texts → text_of_source texts o ≡ annotation_text p (option_and_then (annotation_at p.interface) o)
source_told p texts (Some (Slot k)) has = slot_told p texts k has
source_told p texts (Some (Export k)) has = ap (λ l. text_at l k) has.exports ∙ text_listed p.interface (λ e. e.annotation) p.interface.exports k
source_told p texts None has = refl

-- a function has the annotation of a slot type exactly where the texts are the same
pub same_told : (p : Program) (texts : Texts) (sources : List (Option Source)) (ty n : ℕ) (same : Bool) → same ≡ bytes_eq (text_at texts.slots ty) (text_of_source texts (source_of (slice_get sources n)))
    → HasTexts p.interface texts → Knows p sources → same ≡ same_annotation p ty n
same_told p texts sources ty n same is has knows =
    let one = slot_told p texts ty has in
    let other = source_told p texts (source_of (slice_get sources n)) has ∙ ap (annotation_text p) (knows n) in
    is ∙ (λ j. bytes_eq (one j) (other j))
