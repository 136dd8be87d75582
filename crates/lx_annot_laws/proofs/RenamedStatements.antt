-- The same statements of tokens with their words given anew, behind an interface with its names given anew.
use Rattle.std.proofs.Common.{◌≡◌, ℕ, List, [], ◌∷◌, ◌++◌, map, codes, refl, sym, ap, subst, ◌∙◌}
use Rattle.std.specs.Prelude.{◌||◌}
use Rattle.std.specs.List.{list_any}
use Rattle.std.proofs.lemmas.List.{map-append}
use Rattle.lx_annot.specs.declared.action.Annotation.{Annotation}
use Rattle.lx_annot.specs.declared.interface.Item.{Item}
use Rattle.lx_annot.specs.declared.interface.CapIterator.{CapIterator}
use Rattle.lx_annot.specs.declared.interface.Slot.{Slot}
use Rattle.lx_annot.specs.declared.interface.Field.{Field}
use Rattle.lx_annot.specs.declared.interface.Export.{Export}
use Rattle.lx_annot.specs.declared.interface.Interface.{Interface}
use Rattle.lx_annot_expressions.specs.Tokens.{Tok}
use Rattle.lx_annot_terms.specs.Lists.{Known}
use Rattle.lx_annot_terms.specs.Grammar.{IsKnown}
use Rattle.lx_annot_terms.specs.Signatures.{Signature}
use Rattle.lx_annot_terms.specs.ItemReading.{scope_of_items}
use Rattle.lx_annot_read.specs.declared.head.Version.{Version}
use Rattle.lx_annot_read.specs.Head.{may_lend}
use Rattle.lx_annot_read.specs.Interfaces.{iterator_names, slot_names, export_names, known_in, is_field, is_typed, greatest_index}
use Rattle.lx_annot_laws.specs.Statements.{Statement, OfReftype, OfIterator, OfSlot, OfField, OfExport, IsFresh, IsIteratorBody, IsField, IsCallable, IsStatement, IsInLine, with_statement}
use Rattle.lx_annot_laws.specs.Renaming.{IsRenaming, renamed}
use Rattle.lx_annot_laws.specs.Anew.{anew_param, anew_signature, anew_iterator, anew_slot, anew_export, unlined_iterator, unlined_slot, unlined_field, unlined_export, IsAnew}
use Rattle.lx_annot_laws.proofs.RenamedWords.{fresh_anew, number_same, struct_same}
use Rattle.lx_annot_laws.proofs.RenamedTerms.{anew_known, cut, word, known_name}
use Rattle.lx_annot_laws.proofs.RenamedClauses.{param_name, items, callable}

-- Lists of images.

pub map_map : {A B C : Type 0} (f : B → C) (g : A → B) (xs : List A) → map f (map g xs) ≡ map (λ x. f (g x)) xs
map_map f g [] = refl
map_map f g (x ∷ xs) = ap (λ ys. f (g x) ∷ ys) (map_map f g xs)

pub seen : {A B C : Type 0} (f g : A → B) (n : B → C) (xs ys : List A) → map f ys ≡ map g xs → map (λ x. n (f x)) ys ≡ map (λ x. n (g x)) xs
seen f g n xs ys e = sym (map_map n f ys) ∙ ap (map n) e ∙ map_map n g xs

grown : {A B : Type 0} (f g : A → B) (xs ys : List A) (x y : A) → map f ys ≡ map g xs → f y ≡ g x → map f (ys ++ y ∷ []) ≡ map g (xs ++ x ∷ [])
grown f g xs ys x y e h = map-append f ys (y ∷ []) ∙ ap (λ zs. zs ++ f y ∷ []) e ∙ ap (λ z. map g xs ++ z ∷ []) h ∙ sym (map-append g xs (x ∷ []))

-- Whether a field is typed does not depend on lines.

abbrev unlined_fields : List Field → List Field
unlined_fields fs = map unlined_field fs

typed_unlined : (struct : List ℕ) (index : ℕ) (fs : List Field) → list_any (is_field struct index) (unlined_fields fs) ≡ list_any (is_field struct index) fs
typed_unlined struct index [] = refl
typed_unlined struct index (f ∷ fs) = ap (λ b. is_field struct index f || b) (typed_unlined struct index fs)

-- A statement with its names given anew, in a line.
abbrev pub again : (List ℕ → List ℕ) → ℕ → Statement → Statement
again r line (OfReftype name) = OfReftype (r name)
again r line (OfIterator x) = OfIterator (record { name = r x.name; items = x.items; line = line })
again r line (OfSlot x) = OfSlot (record { name = r x.name; params = map (anew_param r) x.params; ret = x.ret; annotation = x.annotation; line = line })
again r line (OfField x) = OfField (record { name = x.name; index = x.index; slot = x.slot; line = line })
again r line (OfExport x) = OfExport (record { name = r x.name; params = map (anew_param r) x.params; ret = x.ret; annotation = x.annotation; line = line })

pub in_line : (r : List ℕ → List ℕ) (line : ℕ) (s : Statement) → IsInLine line (again r line s)
in_line r line (OfReftype name) = tt
in_line r line (OfIterator x) = refl
in_line r line (OfSlot x) = refl
in_line r line (OfField x) = refl
in_line r line (OfExport x) = refl

-- What the two interfaces name.
module _ (r : List ℕ → List ℕ) (i j : Interface) (anew : IsAnew r i j) where
  pub iterators_named : iterator_names j ≡ map r (iterator_names i)
  iterators_named = seen unlined_iterator (anew_iterator r) (λ (x : CapIterator). x.name) i.iterators j.iterators anew.iterators ∙ sym (map_map r (λ (x : CapIterator). x.name) i.iterators)

  slots_named : slot_names j ≡ map r (slot_names i)
  slots_named = seen unlined_slot (anew_slot r) (λ (x : Slot). x.name) i.slots j.slots anew.slots ∙ sym (map_map r (λ (x : Slot). x.name) i.slots)

  exports_named : export_names j ≡ map r (export_names i)
  exports_named = seen unlined_export (anew_export r) (λ (x : Export). x.name) i.exports j.exports anew.exports ∙ sym (map_map r (λ (x : Export). x.name) i.exports)

  known_anew : (v : Version) → known_in v j ≡ anew_known r (known_in v i)
  known_anew v = λ k. record { reftypes = anew.reftypes k; iterators = iterators_named k; lends = may_lend v }

  typed_anew : (struct : List ℕ) (index : ℕ) → is_typed j struct index ≡ is_typed i struct index
  typed_anew struct index =
      sym (typed_unlined struct index j.fields) ∙ ap (list_any (is_field struct index)) anew.fields ∙ typed_unlined struct index i.fields

  -- one statement more on both sides
  pub grown_anew : (line : ℕ) (s : Statement) → IsAnew r (with_statement i s) (with_statement j (again r line s))
  grown_anew line (OfReftype name) =
      record {
        reftypes = ap (λ ns. ns ++ r name ∷ []) anew.reftypes ∙ sym (map-append r i.reftypes (name ∷ []));
        iterators = anew.iterators;
        slots = anew.slots;
        fields = anew.fields;
        exports = anew.exports;
      }
  grown_anew line (OfIterator x) =
      record {
        reftypes = anew.reftypes;
        iterators = grown unlined_iterator (anew_iterator r) i.iterators j.iterators x (record { name = r x.name; items = x.items; line = line }) anew.iterators refl;
        slots = anew.slots;
        fields = anew.fields;
        exports = anew.exports;
      }
  grown_anew line (OfSlot x) =
      record {
        reftypes = anew.reftypes;
        iterators = anew.iterators;
        slots = grown unlined_slot (anew_slot r) i.slots j.slots x (record { name = r x.name; params = map (anew_param r) x.params; ret = x.ret; annotation = x.annotation; line = line }) anew.slots refl;
        fields = anew.fields;
        exports = anew.exports;
      }
  grown_anew line (OfField x) =
      record {
        reftypes = anew.reftypes;
        iterators = anew.iterators;
        slots = anew.slots;
        fields = grown unlined_field unlined_field i.fields j.fields x (record { name = x.name; index = x.index; slot = x.slot; line = line }) anew.fields refl;
        exports = anew.exports;
      }
  grown_anew line (OfExport x) =
      record {
        reftypes = anew.reftypes;
        iterators = anew.iterators;
        slots = anew.slots;
        fields = anew.fields;
        exports = grown unlined_export (anew_export r) i.exports j.exports x (record { name = r x.name; params = map (anew_param r) x.params; ret = x.ret; annotation = x.annotation; line = line }) anew.exports refl;
      }

  module _ (v : Version) (is : IsRenaming (may_lend v) r) where
    abbrev S : List Tok → List Tok
    S ts = map (renamed r) ts

    slit : (ts a b : List Tok) → ts ≡ a ++ b → S ts ≡ S a ++ S b
    slit ts a b e = cut r is ts a b e

    fresh_by : (names others : List (List ℕ)) (name : List ℕ) (ts : List Tok) → others ≡ map r names → IsFresh names name ts → IsFresh others (r name) (S ts)
    fresh_by names others name ts e (t, h, g) = subst (λ ns. IsFresh ns (r name) (S ts)) (sym e) (renamed r t, fresh_anew r is names t.kind t.bytes name h, ap S g)

    body : (known : Known) (xs : List Item) (ts : List Tok) → IsIteratorBody known xs ts → IsIteratorBody (anew_known r known) xs (S ts)
    body known xs ts (p, (a, b, o, (c, d, n, (e, f, q, (g, h, u, (k, m, x, v, y), z), w), s), l)) =
        (r p, (S a, S b, word r is (codes "(") refl a o, (S c, S d, param_name r is [] p c n, (S e, S f, word r is (codes ")") refl e q, (S g, S h, word r is (codes "{") refl g u, (S k, S m, items r is (scope_of_items p) known xs k x, word r is (codes "}") refl m v, slit h k m y), slit f g h z), slit d e f w), slit b c d s), slit ts a b l))

    field_anew : (f : Field) (line : ℕ) (ts : List Tok) → IsField i f ts → IsField j (record { name = f.name; index = f.index; slot = f.slot; line = line }) (S ts)
    field_anew f line ts (untyped, (a, b, (t, h, g), (c, d, (u, k, l), (e, m, o, x, w), v), z)) = (
      typed_anew f.name f.index ∙ untyped,
      (S a, S b, (renamed r t, struct_same r is t.kind t.bytes ∙ h, ap S g), (S c, S d, (renamed r u, number_same r is greatest_index u.kind u.bytes ∙ k, ap S l), (S e, S m, word r is (codes ":") refl e o, subst (λ names. IsKnown names f.slot (S m)) (sym slots_named) (known_name r is (slot_names i) f.slot m x), slit d e m w), slit b c d v), slit ts a b z),
    )

    called : (sig : Signature) (a : Annotation) (ts : List Tok) → IsCallable (known_in v i) sig a ts → IsCallable (known_in v j) (anew_signature r sig) a (S ts)
    called sig a ts x = subst (λ k. IsCallable k (anew_signature r sig) a (S ts)) (sym (known_anew v)) (callable r is (known_in v i) (λ e. e) sig a ts x)

    pub statement_anew : (line : ℕ) (s : Statement) (ts : List Tok) → IsStatement v i s ts → IsStatement v j (again r line s) (S ts)
    statement_anew line (OfReftype name) ts (a, b, w, x, e) =
        (S a, S b, word r is (codes "reftype") refl a w, fresh_by i.reftypes j.reftypes name b anew.reftypes x, slit ts a b e)
    statement_anew line (OfIterator s) ts (a, b, w, (c, d, x, y, u), e) =
        (S a, S b, word r is (codes "iterator") refl a w, (S c, S d, fresh_by (iterator_names i) (iterator_names j) s.name c iterators_named x, subst (λ k. IsIteratorBody k s.items (S d)) (sym (known_anew v)) (body (known_in v i) s.items d y), slit b c d u), slit ts a b e)
    statement_anew line (OfSlot s) ts (a, b, w, (c, d, x, y, u), e) =
        (S a, S b, word r is (codes "slot") refl a w, (S c, S d, fresh_by (slot_names i) (slot_names j) s.name c slots_named x, called (record { ret = s.ret; params = s.params }) s.annotation d y, slit b c d u), slit ts a b e)
    statement_anew line (OfField s) ts (a, b, w, x, e) = (S a, S b, word r is (codes "field") refl a w, field_anew s line b x, slit ts a b e)
    statement_anew line (OfExport s) ts (a, b, w, (c, d, x, y, u), e) =
        (S a, S b, word r is (codes "export") refl a w, (S c, S d, fresh_by (export_names i) (export_names j) s.name c exports_named x, called (record { ret = s.ret; params = s.params }) s.annotation d y, slit b c d u), slit ts a b e)
