-- Each line of an interface that can be said says its statement.
use Rattle.std.proofs.Common.{◌≡◌, ℕ, ◌<◌, ◌≤◌, ◌^◌, false, true, Option, Some, None, List, [], ◌∷◌, ◌++◌, length, map, All, refl, sym, ap, ◌∙◌, subst, append_assoc, bytes_eq, codes, arith}
use Rattle.std.specs.Prelude.{slice_index_or}
use Rattle.std.specs.List.{IsDistinct, list_any}
use Rattle.std.proofs.lemmas.List.{length-map}
use Rattle.std.proofs.lemmas.List.Elements.{All-weaker, All-map}
use Rattle.lx_words.specs.declared.token.TokenKind.TheVariants as kinds
use Rattle.lx_words.specs.declared.token.TokenRule.TheVariants as rules
use Rattle.lx_words.specs.declared.token.Lexeme.TheVariants as lexemes
use Rattle.lx_words.specs.Lexemes.{is_name, when, lexeme_of, lexeme_behind, other_lexeme}
use Rattle.lx_words.specs.Text.{decimal_text}
use Rattle.lx_words.specs.TextLaws.{NumberTexts}
use Rattle.lx_words.proofs.Lists.{bytes_same}
use Rattle.lx_annot.specs.declared.action.Annotation.{Annotation}
use Rattle.lx_annot.specs.declared.action.CapSpec.{CapSpec}
use Rattle.lx_annot.specs.declared.action.CapSpec.TheVariants as spec
use Rattle.lx_annot.specs.declared.interface.Parameter.{Parameter}
use Rattle.lx_annot.specs.declared.interface.Item.{Item}
use Rattle.lx_annot.specs.declared.interface.CapIterator.{CapIterator}
use Rattle.lx_annot.specs.declared.interface.Slot.{Slot}
use Rattle.lx_annot.specs.declared.interface.Field.{Field}
use Rattle.lx_annot.specs.declared.interface.Export.{Export}
use Rattle.lx_annot.specs.declared.interface.Interface.{Interface}
use Rattle.lx_annot.specs.Canonical.{Text}
use Rattle.lx_annot.specs.Expr.{Expr}
use Rattle.lx_annot.specs.Lawful.{same_field}
use Rattle.lx_annot_expressions.specs.Tokens.{Tok}
use Rattle.lx_annot_expressions.specs.Exprs.{Scope}
use Rattle.lx_annot_expressions.specs.Grammar.{Part, Is, ◌then◌}
use Rattle.lx_annot_terms.specs.Lists.{Known}
use Rattle.lx_annot_terms.specs.Signatures.{Signature, is_reserved}
use Rattle.lx_annot_terms.specs.ItemReading.{scope_of_items}
use Rattle.lx_annot_terms.specs.Grammar.{IsKnown, IsItemList, IsItemBy, IsItem}
use Rattle.lx_annot_read.specs.declared.head.Version.TheVariants as versions
use Rattle.lx_annot_read.specs.Interfaces.{iterator_names, slot_names, greatest_index}
use Rattle.lx_annot_laws.specs.Parts.{IsFurther, IsParamName, IsItems, IsSignature, IsAnnotation}
use Rattle.lx_annot_laws.specs.Statements.{Statement, OfReftype, OfIterator, OfSlot, OfField, OfExport, IsFresh, IsIteratorBody, IsCallable, IsStruct, IsIndex, IsField, IsStatement}
use Rattle.lx_annot_laws.proofs.Lawful.{iterator_name, slot_name, export_name}
use Rattle.lx_cproto_print.specs.Printed.{type_text, params_text, head_text, enclosed_text, clauses_text, callable_text, name_text, items_text, reftype_line, iterator_line, slot_line, field_line, export_line}
use Rattle.lx_annot_laws.specs.Says.{tok, Says, IsWord}
use Rattle.lx_annot_laws.proofs.Pieces.{regroup, beside, same_text, reads_as, token, word_token, word_is, space, closed, mark_is, spaced}
use Rattle.lx_annot_laws.proofs.Named.{number_lexed, number_said}
use Rattle.lx_annot_laws.proofs.Actions.{items_say}
use Rattle.lx_annot_laws.proofs.Annotations.{clauses_apart, annotation_says}
use Rattle.lx_annot_laws.specs.PrintedPartLaws.{AreFree}
use Rattle.lx_annot_laws.proofs.Signatures.{fresh_name, signature_says}
use Rattle.lx_annot_laws.specs.Sayable.{IsParamWord, IsSayableCallable, IsSayableSlot, IsSayableExport, IsSayableIterator, IsStructName, IsSayableField, IsSayable}
use Rattle.lx_annot_laws.specs.RoundTripLaws.{lines_of}
use Rattle.lx_annot_laws.proofs.Kept.{uses, fields_same}
use Rattle.lx_annot_laws.proofs.Said.{SaysLine, ends_line}
use Rattle.lx_annot_laws.proofs.Columns.{there, none_before, new_name, number_found, column, declared, Upto, further}

-- Words and marks of lines.

a_reftype : IsWord (codes "reftype")
unfolding lexeme_behind
a_reftype = refl

an_iterator : IsWord (codes "iterator")
unfolding lexeme_behind
an_iterator = refl

a_slot : IsWord (codes "slot")
unfolding lexeme_behind
a_slot = refl

a_field : IsWord (codes "field")
unfolding lexeme_behind
a_field = refl

an_export : IsWord (codes "export")
unfolding lexeme_behind
an_export = refl

a_param : IsWord (codes "p")
unfolding lexeme_behind
a_param = refl

an_open : lexeme_of rules.Interface (codes "(") ≡ Some (lexemes.Token kinds.Mark)
unfolding lexeme_behind other_lexeme
an_open = refl

a_close : lexeme_of rules.Interface (codes ")") ≡ Some (lexemes.Token kinds.Mark)
unfolding lexeme_behind other_lexeme
a_close = refl

a_brace : lexeme_of rules.Interface (codes "{") ≡ Some (lexemes.Token kinds.Mark)
unfolding lexeme_behind other_lexeme
a_brace = refl

a_last_brace : lexeme_of rules.Interface (codes "}") ≡ Some (lexemes.Token kinds.Mark)
unfolding lexeme_behind other_lexeme
a_last_brace = refl

a_colon : lexeme_of rules.Interface (codes ":") ≡ Some (lexemes.Token kinds.Mark)
unfolding lexeme_behind other_lexeme
a_colon = refl

-- a name that is none of those before
fresh_says : (names : List (List ℕ)) (name : List ℕ) → IsWord name → list_any (bytes_eq name) names ≡ false → Says name (IsFresh names name)
fresh_says names name word new = word_token {p = IsFresh names name} word (tok kinds.Word name, fresh_name names name new, refl)

line_as : {t u : Text} {p : Part} → t ≡ u → SaysLine t p → SaysLine u p
line_as {p = p} e h = subst (λ v. SaysLine v p) e h

-- Reference types.

abbrev some_reftypes : List (List ℕ) → Interface
some_reftypes old = record { reftypes = old; iterators = []; slots = []; fields = []; exports = [] }

reftype_says : (old : List (List ℕ)) (name : List ℕ) → IsWord name → list_any (bytes_eq name) old ≡ false → SaysLine (reftype_line name) (IsStatement versions.Two (some_reftypes old) (OfReftype name))
reftype_says old name word new =
    ends_line {p = Is (codes "reftype") then IsFresh old name} (spaced {p = Is (codes "reftype")} {q = IsFresh old name} (word_is a_reftype) (fresh_says old name word new))

-- Iterators. Items name no iterator.

module _ (reftypes known other : List (List ℕ)) (scope : Scope) where
  abbrev among : Known
  among = record { reftypes = reftypes; iterators = known; lends = true }

  abbrev among_others : Known
  among_others = record { reftypes = reftypes; iterators = other; lends = true }

  list_same : (l : CapSpec) (ts : List Tok) → IsItemList scope among l ts → IsItemList scope among_others l ts
  list_same (spec.Write a n) ts is = is
  list_same (spec.Call e) ts is = is
  list_same (spec.Ref t e) ts is = is
  list_same (spec.Each k e) ts is = absurd is

  item_by_same : (o : Option Expr) (l : CapSpec) (ts : List Tok) → IsItemBy scope among o l ts → IsItemBy scope among_others o l ts
  item_by_same None l ts is = list_same l ts is
  item_by_same (Some e) l ts (f, b, w, (f1, b1, c, is, w1), v) = (f, b, w, (f1, b1, c, list_same l b1 is, w1), v)

  further_same : (old xs : List Item) (ts : List Tok) → IsFurther (codes ";") (λ _. IsItem scope among) old xs ts → IsFurther (codes ";") (λ _. IsItem scope among_others) old xs ts
  further_same old [] ts is = is
  further_same old (x ∷ xs) ts (f, b, m, (f1, b1, is, more, w1), w) = (f, b, m, (f1, b1, item_by_same x.cond x.cap f1 is, further_same (old ++ x ∷ []) xs b1 more, w1), w)

  items_same : (xs : List Item) (ts : List Tok) → IsItems scope among xs ts → IsItems scope among_others xs ts
  items_same [] ts is = absurd is
  items_same (x ∷ xs) ts (le, (f, b, is, more, w)) = (le, (f, b, item_by_same x.cond x.cap f is, further_same (x ∷ []) xs b more, w))

abbrev some_iterators : Interface → List CapIterator → Interface
some_iterators i old = record { reftypes = i.reftypes; iterators = old; slots = []; fields = []; exports = [] }

-- `(p) { ITEM; .. }`
body_says : (known : Known) (items : Text) (xs : List Item) → Says items (IsItems (scope_of_items (codes "p")) known xs) → Says (codes "(p) { " ++ (items ++ codes " }")) (IsIteratorBody known xs)
body_says known items xs told =
    let close : Part = Is (codes "}") in
    let listed : Part = IsItems (scope_of_items (codes "p")) known xs in
    let name : Part = IsParamName [] (codes "p") in
    let inner = closed {p = listed then close} (codes "{") a_brace refl (space {p = listed then close} (beside {p = listed} {q = close} told refl (space {p = close} (mark_is a_last_brace)))) in
    let braced : Part = Is (codes "{") then listed then close in
    let named = beside {p = name} {q = Is (codes ")") then braced} (word_token {p = name} a_param (tok kinds.Word (codes "p"), refl, refl, refl)) refl (closed {p = braced} (codes ")") a_close refl (space {p = braced} inner)) in
    reads_as {p = Is (codes "(") then name then Is (codes ")") then braced} {q = IsIteratorBody known xs} (λ ts h. (codes "p", h)) (closed {p = name then Is (codes ")") then braced} (codes "(") an_open refl named)

iterator_grouped : (name items : Text) → (codes "iterator " ++ (name ++ (codes "(p) { " ++ (items ++ codes " }")))) ++ codes "\n" ≡ codes "iterator " ++ name ++ codes "(p) { " ++ items ++ codes " }\n"
iterator_grouped name items =
    ap (λ v. v ++ codes "\n") (regroup (codes "iterator ") (name ∷ codes "(p) { " ∷ items ∷ codes " }" ∷ [])) ∙ append_assoc (codes "iterator " ++ name ++ codes "(p) { " ++ items) (codes " }") (codes "\n")

iterator_says : NumberTexts → (i : Interface) (old : List CapIterator) (x : CapIterator) → IsSayableIterator (uses i) x → list_any (bytes_eq x.name) (map iterator_name old) ≡ false
    → SaysLine (iterator_line i x) (IsStatement versions.Two (some_iterators i old) (OfIterator x))
iterator_says texts i old x s new =
    let known = uses (some_iterators i old) in
    let body : Part = IsIteratorBody known x.items in
    let name : Part = IsFresh (map iterator_name old) x.name in
    let told = items_say texts i true s.param x.items s.items.0 s.items.1 s.items.2 in
    let here = reads_as {p = IsItems (scope_of_items (codes "p")) (uses i) x.items} {q = IsItems (scope_of_items (codes "p")) known x.items} (items_same i.reftypes (iterator_names i) (map iterator_name old) (scope_of_items (codes "p")) x.items) told in
    let named = beside {p = name} {q = body} (fresh_says (map iterator_name old) x.name s.word new) refl (body_says known (items_text i x.items) x.items here) in
    line_as {p = Is (codes "iterator") then name then body} (iterator_grouped x.name (items_text i x.items)) (ends_line {p = Is (codes "iterator") then name then body} (spaced {p = Is (codes "iterator")} {q = name then body} (word_is an_iterator) named))

-- Slots and exports.

callable_grouped : (w name ty ps c : Text) → w ++ (name ++ (codes " " ++ ((codes ": " ++ (ty ++ (codes " (" ++ (ps ++ codes ")")))) ++ c))) ≡ (w ++ name ++ codes " : " ++ ty) ++ (codes " (" ++ ps ++ codes ")") ++ c
callable_grouped w name ty ps c =
    let head : Text = w ++ name ++ codes " : " ++ ty in
    let inner : (codes ": " ++ (ty ++ (codes " (" ++ (ps ++ codes ")")))) ++ c ≡ codes ": " ++ (ty ++ (codes " (" ++ (ps ++ (codes ")" ++ c)))) =
    ap (λ v. v ++ c) (regroup (codes ": ") (ty ∷ codes " (" ∷ ps ∷ codes ")" ∷ [])) ∙ sym (regroup (codes ": ") (ty ∷ codes " (" ∷ ps ∷ codes ")" ∷ c ∷ [])) in
    let enclosed : ((head ++ codes " (") ++ ps) ++ codes ")" ≡ head ++ (codes " (" ++ ps ++ codes ")") = ap (λ v. v ++ codes ")") (append_assoc head (codes " (") ps) ∙ append_assoc head (codes " (" ++ ps) (codes ")") in
    ap (λ v. w ++ (name ++ (codes " " ++ v))) inner ∙ regroup w (name ∷ codes " : " ∷ ty ∷ codes " (" ∷ ps ∷ codes ")" ∷ c ∷ []) ∙ ap (λ v. v ++ c) enclosed

callable_line : (w : Text) (i : Interface) (name : List ℕ) (sig : Signature) (a : Annotation)
    → (w ++ codes " ") ++ (name ++ (codes " " ++ ((codes ": " ++ (type_text sig.ret ++ (codes " (" ++ (params_text sig.params ++ codes ")")))) ++ clauses_text i sig.params a)))
    ≡ head_text (w ++ codes " ") name sig.ret ++ enclosed_text sig.params ++ clauses_text i sig.params a
unfolding head_text enclosed_text
callable_line w i name sig a = callable_grouped (w ++ codes " ") name (type_text sig.ret) (params_text sig.params) (clauses_text i sig.params a)

callable_says : NumberTexts → (i : Interface) (w : Text) → IsWord w → (names : List (List ℕ)) (name : List ℕ) (sig : Signature) (a : Annotation) → IsSayableCallable (uses i) name sig a → list_any (bytes_eq name) names ≡ false
    → SaysLine (callable_text (w ++ codes " ") i name sig.params sig.ret a) (Is w then IsFresh names name then IsCallable (uses i) sig a)
callable_says texts i w word names name sig a s new =
    let words = All-weaker (λ (p : Parameter). IsParamWord p.name) (λ (p : Parameter). IsWord p.name) (λ p h. h.word) sig.params s.params.words in
    let free : AreFree sig.params = All-weaker (λ (p : Parameter). IsParamWord p.name) (λ (p : Parameter). is_reserved (tok kinds.Word p.name ∷ []) ≡ false) (λ p h. h.free) sig.params s.params.words in
    let signed = signature_says sig words free s.params.differ in
    let annotated = annotation_says texts i true sig free a s.annotation.0 s.annotation.1 s.annotation.2 in
    let callable : Part = IsCallable (uses i) sig a in
    let both = beside {p = IsSignature sig} {q = IsAnnotation sig (uses i) a} signed (clauses_apart i sig.params a) annotated in
    let named = beside {p = IsFresh names name} {q = callable} (fresh_says names name s.word new) refl (space {p = callable} both) in
    let whole = spaced {p = Is w} {q = IsFresh names name then callable} (word_is word) named in
    ends_line {p = Is w then IsFresh names name then callable} (same_text {p = Is w then IsFresh names name then callable} (callable_line w i name sig a) whole)

abbrev some_slots : Interface → List Slot → Interface
some_slots i old = record { reftypes = i.reftypes; iterators = i.iterators; slots = old; fields = []; exports = [] }

slot_says : NumberTexts → (i : Interface) (old : List Slot) (x : Slot) → IsSayableSlot (uses i) x → list_any (bytes_eq x.name) (map slot_name old) ≡ false → SaysLine (slot_line i x) (IsStatement versions.Two (some_slots i old) (OfSlot x))
slot_says texts i old x s new = callable_says texts i (codes "slot") a_slot (map slot_name old) x.name (record { ret = x.ret; params = x.params }) x.annotation s new

abbrev some_exports : Interface → List Export → Interface
some_exports i old = record { reftypes = i.reftypes; iterators = i.iterators; slots = i.slots; fields = i.fields; exports = old }

export_says : NumberTexts → (i : Interface) (old : List Export) (x : Export) → IsSayableExport (uses i) x → list_any (bytes_eq x.name) (map export_name old) ≡ false → SaysLine (export_line i x) (IsStatement versions.Two (some_exports i old) (OfExport x))
export_says texts i old x s new = callable_says texts i (codes "export") an_export (map export_name old) x.name (record { ret = x.ret; params = x.params }) x.annotation s new

-- Fields.

abbrev some_fields : Interface → List Field → Interface
some_fields i old = record { reftypes = i.reftypes; iterators = i.iterators; slots = i.slots; fields = old; exports = [] }

struct_lexed : (name : List ℕ) → is_name name ≡ true → lexeme_of rules.Interface (37 ∷ name) ≡ Some (lexemes.Token kinds.Local)
unfolding lexeme_behind
struct_lexed name h = ap (λ b. when b (lexemes.Token kinds.Local)) h

struct_says : (name : List ℕ) → IsStructName name → Says (37 ∷ name_text name) (IsStruct name)
struct_says name s = token {p = IsStruct name} kinds.Local (37 ∷ name_text name) (struct_lexed (name_text name) s.is) (tok kinds.Local (37 ∷ name_text name), ap Some s.said, refl)

index_says : NumberTexts → (n : ℕ) → n ≤ greatest_index → Says (decimal_text n) (IsIndex n)
index_says texts n le =
    let small : greatest_index < 2 ^ 128 = omega arith in
    token {p = IsIndex n} kinds.Number (decimal_text n) (number_lexed texts n) (tok kinds.Number (decimal_text n), number_said texts greatest_index n small le, refl)

known_says : (names : List (List ℕ)) (k : ℕ) → k < length names → IsDistinct bytes_eq names → All IsWord names → Says (slice_index_or names k []) (IsKnown names k)
known_says names k lt d words = word_token {p = IsKnown names k} (words k [] lt) (tok kinds.Word (slice_index_or names k []), number_found names k lt d, refl)

field_said : (struct index slot : Text) (p q r : Part) → Says (37 ∷ struct) p → Says index q → Says slot r
    → Says (codes "field %" ++ struct ++ codes " " ++ index ++ codes " : " ++ slot) (Is (codes "field") then p then q then Is (codes ":") then r)
field_said struct index slot p q r a b c =
    let behind = space {p = Is (codes ":") then r} (closed {p = r} (codes ":") a_colon refl (space {p = r} c)) in
    let numbered = space {p = q then Is (codes ":") then r} (beside {p = q} {q = Is (codes ":") then r} b refl behind) in
    let rest = beside {p = p} {q = q then Is (codes ":") then r} a refl numbered in
    same_text {p = Is (codes "field") then p then q then Is (codes ":") then r} (regroup (codes "field %") (struct ∷ codes " " ∷ index ∷ codes " : " ∷ slot ∷ []))
    (spaced {p = Is (codes "field")} {q = p then q then Is (codes ":") then r} (word_is a_field) rest)

field_says : NumberTexts → (i : Interface) (old : List Field) (x : Field) → IsSayable i → IsSayableField (length i.slots) x → list_any (same_field x) old ≡ false → SaysLine (field_line i x) (IsStatement versions.Two (some_fields i old) (OfField x))
field_says texts i old x s is new =
    let words : All IsWord (slot_names i) = All-map IsWord slot_name i.slots (All-weaker (IsSayableSlot (uses i)) (λ (y : Slot). IsWord y.name) (λ y h. h.word) i.slots s.slots) in
    let lt : x.slot < length (slot_names i) = subst (λ n. x.slot < n) (sym (length-map i.slots slot_name)) is.slot in
    let slot = known_says (slot_names i) x.slot lt s.slots_differ words in
    let said = field_said (name_text x.name) (decimal_text x.index) (slice_index_or (slot_names i) x.slot []) (IsStruct x.name) (IsIndex x.index) (IsKnown (slot_names i) x.slot) (struct_says x.name is.struct) (index_says texts x.index is.index) slot in
    ends_line {p = Is (codes "field") then IsField (some_fields i old) x}
    (reads_as {p = Is (codes "field") then IsStruct x.name then IsIndex x.index then Is (codes ":") then IsKnown (slot_names i) x.slot} {q = Is (codes "field") then IsField (some_fields i old) x} (λ ts (f, b, w, h, e). (f, b, w, (new, h), e)) said)

-- All lines.

abbrev pub statements_of : Interface → List Statement
statements_of i = map OfReftype i.reftypes ++ map OfIterator i.iterators ++ map OfSlot i.slots ++ map OfField i.fields ++ map OfExport i.exports

-- the lines of an interface say its statements
pub lines : NumberTexts → (i : Interface) → IsSayable i → Upto i (statements_of i) (lines_of i)
lines texts i s =
    let first : Upto (some_iterators i []) (map OfReftype i.reftypes) (map reftype_line i.reftypes) = record {
      said =
          column OfReftype reftype_line some_reftypes (λ old x. refl) i.reftypes
          (λ old x more e. reftype_says old x (there IsWord i.reftypes old x more e s.reftypes) (none_before bytes_eq bytes_same old x more (subst (IsDistinct bytes_eq) e s.reftypes_differ))) [] i.reftypes refl;
      end = declared OfReftype reftype_line some_reftypes (λ old x. refl) [] i.reftypes;
    } in
    let iterators = column OfIterator (iterator_line i) (some_iterators i) (λ old x. refl) i.iterators
    (λ old x more e. iterator_says texts i old x (there (IsSayableIterator (uses i)) i.iterators old x more e s.iterators) (new_name iterator_name i.iterators old x more e s.iterators_differ)) [] i.iterators refl in
    let second = further (some_iterators i []) (some_slots i []) (map OfReftype i.reftypes) (map OfIterator i.iterators) (map reftype_line i.reftypes) (map (iterator_line i) i.iterators) first iterators
    (declared OfIterator (iterator_line i) (some_iterators i) (λ old x. refl) [] i.iterators) in
    let slots = column OfSlot (slot_line i) (some_slots i) (λ old x. refl) i.slots
    (λ old x more e. slot_says texts i old x (there (IsSayableSlot (uses i)) i.slots old x more e s.slots) (new_name slot_name i.slots old x more e s.slots_differ)) [] i.slots refl in
    let third = further (some_slots i []) (some_fields i []) (map OfReftype i.reftypes ++ map OfIterator i.iterators) (map OfSlot i.slots) (map reftype_line i.reftypes ++ map (iterator_line i) i.iterators) (map (slot_line i) i.slots) second slots
    (declared OfSlot (slot_line i) (some_slots i) (λ old x. refl) [] i.slots) in
    let fields = column OfField (field_line i) (some_fields i) (λ old x. refl) i.fields
    (λ old x more e. field_says texts i old x s (there (IsSayableField (length i.slots)) i.fields old x more e s.fields) (none_before same_field fields_same old x more (subst (IsDistinct same_field) e s.fields_differ))) [] i.fields refl in
    let fourth = further (some_fields i []) (some_exports i []) (map OfReftype i.reftypes ++ map OfIterator i.iterators ++ map OfSlot i.slots) (map OfField i.fields) (map reftype_line i.reftypes ++ map (iterator_line i) i.iterators ++ map (slot_line i) i.slots) (map (field_line i) i.fields) third fields
    (declared OfField (field_line i) (some_fields i) (λ old x. refl) [] i.fields) in
    let exports = column OfExport (export_line i) (some_exports i) (λ old x. refl) i.exports
    (λ old x more e. export_says texts i old x (there (IsSayableExport (uses i)) i.exports old x more e s.exports) (new_name export_name i.exports old x more e s.exports_differ)) [] i.exports refl in
    further (some_exports i []) i (map OfReftype i.reftypes ++ map OfIterator i.iterators ++ map OfSlot i.slots ++ map OfField i.fields) (map OfExport i.exports) (map reftype_line i.reftypes ++ map (iterator_line i) i.iterators ++ map (slot_line i) i.slots ++ map (field_line i) i.fields) (map (export_line i) i.exports) fourth exports
    (declared OfExport (export_line i) (some_exports i) (λ old x. refl) [] i.exports)
