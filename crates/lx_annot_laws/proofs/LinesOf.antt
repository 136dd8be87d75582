-- A printed text is its first line and those of its statements.
use Rattle.std.proofs.Common.{◌≡◌, ℕ, List, [], ◌∷◌, ◌++◌, map, refl, sym, ap, ◌∙◌, codes}
use Rattle.std.specs.Prelude.{flat_map}
use Rattle.std.specs.List.{concat}
use Rattle.std.proofs.lemmas.List.Folds.{concat-append}
use Rattle.lx_annot.specs.declared.interface.Interface.{Interface}
use Rattle.lx_cproto_print.specs.Printed.{reftype_line, iterator_line, slot_line, field_line, export_line, interface_text}
use Rattle.lx_annot_laws.proofs.Pieces.{regroup}
use Rattle.lx_annot_laws.specs.RoundTripLaws.{lines_of}

each_line : {X : Type 0} (f : X → List ℕ) (xs : List X) → flat_map f xs ≡ concat (map f xs)
each_line f [] = refl
each_line f (x ∷ xs) = ap (λ t. f x ++ t) (each_line f xs)

-- lists of lines in a row
five_joined : (a b c d e : List (List ℕ)) → concat (a ++ b ++ c ++ d ++ e) ≡ concat a ++ concat b ++ concat c ++ concat d ++ concat e
five_joined a b c d e =
    concat-append (a ++ b ++ c ++ d) e
    ∙ ap (λ t. t ++ concat e) (concat-append (a ++ b ++ c) d)
    ∙ ap (λ t. t ++ concat d ++ concat e) (concat-append (a ++ b) c)
    ∙ ap (λ t. t ++ concat c ++ concat d ++ concat e) (concat-append a b)

grouped : (h a b c d e : List ℕ) → h ++ a ++ b ++ c ++ d ++ e ≡ h ++ (a ++ b ++ c ++ d ++ e)
grouped h a b c d e = sym (regroup h (a ∷ b ∷ c ∷ d ∷ e ∷ [])) ∙ ap (λ t. h ++ t) (regroup a (b ∷ c ∷ d ∷ e ∷ []))

pub text_is_lines : (i : Interface) → interface_text i ≡ codes "interface 2\n" ++ concat (lines_of i)
text_is_lines i =
    let a = each_line reftype_line i.reftypes in
    let b = each_line (iterator_line i) i.iterators in
    let c = each_line (slot_line i) i.slots in
    let d = each_line (field_line i) i.fields in
    let e = each_line (export_line i) i.exports in
    let whole = five_joined (map reftype_line i.reftypes) (map (iterator_line i) i.iterators) (map (slot_line i) i.slots) (map (field_line i) i.fields) (map (export_line i) i.exports) in
    grouped (codes "interface 2\n") (flat_map reftype_line i.reftypes) (flat_map (iterator_line i) i.iterators) (flat_map (slot_line i) i.slots) (flat_map (field_line i) i.fields) (flat_map (export_line i) i.exports)
    ∙ (λ j. codes "interface 2\n" ++ (a j ++ b j ++ c j ++ d j ++ e j)) ∙ ap (λ t. codes "interface 2\n" ++ t) (sym whole)
