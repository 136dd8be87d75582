-- Fields that are typed: a set of places, and the list that it stands for.
use Rattle.std.proofs.Common.{◌≡◌, ◌∙◌, ℕ, Bool, false, ◌&&◌, List, [], ◌∷◌, ◌++◌, map, if◌then◌else◌, nat_eq, bytes_eq, sym, ap}
use Rattle.std.specs.Cmp.Lexicographic.{nat_list_eq_equiv}
use Rattle.std.specs.List.{list_any}
use Rattle.std.proofs.lemmas.List.{map-append}
use Rattle.lx_words.proofs.Lists.{any_mapped}
use Rattle.lx_words.proofs.Tests.{both_turned, nat_turned}
use Rattle.indexmap.specs.IndexSet.{insert_key}
use Rattle.lx_annot.specs.declared.interface.Field.{Field}
use Rattle.lx_annot.specs.declared.interface.Interface.{Interface}
use Rattle.lx_annot_read.specs.Interfaces.{is_field, is_typed}
use Rattle.lx_annot_read.specs.Typed.{is_place, field_places}

abbrev mapped_if : {A B : Type 0} → (A → B) → List A → A → Bool → List B
mapped_if view keys key found = map view (if found then keys else keys ++ key ∷ [])

-- A key whose image is new goes to the end.
pub put_last : {A B : Type 0} (view : A → B) (eq : A → A → Bool) (p : B → Bool) (keys : List A) (key : A) (old : List B) → map view keys ≡ old → ((x : A) → eq key x ≡ p (view x)) → list_any p old ≡ false → map view (insert_key eq keys key) ≡ old ++ view key ∷ []
put_last view eq p keys key old are same none =
    let alike : list_any (eq key) keys ≡ list_any (λ x. p (view x)) keys = λ j. list_any (λ x. same x j) keys in
    let absent : list_any (eq key) keys ≡ false = alike ∙ any_mapped p view keys ∙ ap (list_any p) are ∙ none in
    ap (mapped_if view keys key) absent ∙ map-append view keys (key ∷ []) ∙ ap (λ l. l ++ view key ∷ []) are

place_of_field : (struct : List ℕ) (index : ℕ) (f : Field) → is_place struct index (f.name, f.index) ≡ is_field struct index f
place_of_field struct index f =
    both_turned (bytes_eq struct f.name) (nat_eq index f.index) ∙ (λ j. nat_turned index f.index j && nat_list_eq_equiv.symm struct f.name j)

-- A place is in the set just where the field is typed.
pub typed_in : (i : Interface) (typed : List (List ℕ × ℕ)) (struct : List ℕ) (index : ℕ) → typed ≡ field_places i → list_any (is_place struct index) typed ≡ is_typed i struct index
typed_in i typed struct index are =
    ap (list_any (is_place struct index)) are
    ∙ sym (any_mapped (is_place struct index) (λ (f : Field). (f.name, f.index)) i.fields)
    ∙ (λ j. list_any (λ f. place_of_field struct index f j) i.fields)
