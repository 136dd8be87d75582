-- Annotations of exports, by their places.
use Rattle.std.proofs.Common.{◌≡◌, ◌∙◌, refl, sym, ap, ℕ, List, Option, Some, None}
use Rattle.std.specs.Prelude.{position, option_map, slice_get}
use Rattle.lx_words.proofs.Lists.{none_found}
use Rattle.lx_annot.specs.declared.action.Annotation.{Annotation}
use Rattle.lx_annot.specs.declared.interface.Export.{Export}
use Rattle.lx_annot.specs.declared.interface.Interface.{Interface}
use Rattle.lx_model.specs.Program.{export_annotation}
use Rattle.lx_name_tables.specs.Places.{is_export}
use Rattle.lx_name_tables.proofs.Firsts.{found_at}

abbrev told : Option Export → Option Annotation
told found = option_map (λ e. e.annotation) found

-- the annotation at the first place of a name is the name's, where both look at one interface
pub annotation_found : (j i : Interface) (name : List ℕ) (k : ℕ) (x : Option Annotation) → j ≡ i → Some k ≡ position (is_export name) j.exports
    → x ≡ option_map (λ e. e.annotation) (slice_get i.exports k) → x ≡ export_annotation i name
annotation_found j i name k x same place is =
    let there = ap (λ (n : Interface). position (is_export name) n.exports) (sym same) ∙ sym place in
    is ∙ ap told (found_at (is_export name) i.exports k (slice_get i.exports k) there refl)

pub no_annotation_found : (j i : Interface) (name : List ℕ) → j ≡ i → None ≡ position (is_export name) j.exports → None ≡ export_annotation i name
no_annotation_found j i name same place =
    let there = ap (λ (n : Interface). position (is_export name) n.exports) (sym same) ∙ sym place in
    ap told (none_found (is_export name) i.exports there)
