-- Interfaces of the grammar are lawful.
use Rattle.std.proofs.Common.{◌≡◌, ℕ, ◌+◌, ◌≤◌, ◌<◌, ◌^◌, ◌==◌, ◌&&◌, Bool, true, false, Option, Some, None, is_some, List, [], ◌∷◌, ◌++◌, length, map, All, refl, sym, ap, ◌∙◌, subst, append_assoc, bytes_eq, codes, arith}
use Rattle.std.specs.Prelude.{if◌then◌else◌}
use Rattle.std.specs.Cmp.{IsEquivalence}
use Rattle.std.specs.List.{IsDistinct, list_any}
use Rattle.std.proofs.lemmas.List.{length-append, length-map, map-append, append-nil}
use Rattle.std.proofs.lemmas.List.Elements.{All-nil, All-cons, All-head, All-push, All-weaker}
use Rattle.std.proofs.lemmas.Map.Keys.{IsDistinct-push}
use Rattle.std.proofs.lemmas.Slice.Eq.{bytes_eq-Decides}
use Rattle.std.proofs.lemmas.Bool.{and_parts}
use Rattle.lx_words.specs.declared.token.TokenKind.{TokenKind}
use Rattle.lx_words.specs.declared.token.TokenKind.TheVariants as kinds
use Rattle.lx_words.specs.declared.token.TokenRule.TheVariants as rules
use Rattle.lx_words.specs.declared.token.Token.{Token}
use Rattle.lx_words.proofs.Lists.{absent, bytes_same}
use Rattle.lx_words.proofs.Tests.{same_tests as true_same, equal, equal_test}
use Rattle.lx_annot.specs.declared.expr.Ty.{Ty}
use Rattle.lx_annot.specs.declared.expr.Ty.TheVariants as ty
use Rattle.lx_annot.specs.declared.action.Who.{Who}
use Rattle.lx_annot.specs.declared.action.Who.TheVariants as who
use Rattle.lx_annot.specs.declared.action.Annotation.{Annotation}
use Rattle.lx_annot.specs.declared.interface.Parameter.{Parameter}
use Rattle.lx_annot.specs.declared.interface.Item.{Item}
use Rattle.lx_annot.specs.declared.interface.CapIterator.{CapIterator}
use Rattle.lx_annot.specs.declared.interface.Slot.{Slot}
use Rattle.lx_annot.specs.declared.interface.Field.{Field}
use Rattle.lx_annot.specs.declared.interface.Export.{Export}
use Rattle.lx_annot.specs.declared.interface.Interface.{Interface}
use Rattle.lx_annot.specs.Action.{with_end}
use Rattle.lx_annot_expressions.specs.Tokens.{Tok, toks_of}
use Rattle.lx_annot_expressions.specs.Names.{number_among, fresh_of}
use Rattle.lx_annot_expressions.specs.Grammar.{◌then◌}
use Rattle.lx_annot_terms.specs.Lists.{Known}
use Rattle.lx_annot_terms.specs.Signatures.{Signature}
use Rattle.lx_annot_terms.specs.Clauses.{result_of, scope_before, scope_behind, without_lends}
use Rattle.lx_annot_terms.specs.ItemReading.{scope_of_items}
use Rattle.lx_annot_terms.specs.Grammar.{IsItem}
use Rattle.lx_annot_read.specs.declared.head.Version.{Version}
use Rattle.lx_annot_read.specs.Interfaces.{iterator_names, slot_names, export_names, known_in, is_typed, with_reftype, with_iterator, with_slot, with_field, with_export, empty}
use Rattle.lx_annot.specs.Lawful.{Nameable, Declared, IsLawfulAction, IsLawfulBehind, IsLawfulItem, IsLawfulIterator, IsLawfulPrincipal, IsLawfulCallable, IsLawfulSlot, IsLawfulExport, IsNamed, IsLawfulInterface, named_before, named_behind, result_type, types_of, declared_in, same_field}
use Rattle.lx_annot_laws.specs.Parts.{IsFurther, IsParam, IsParams, IsSignature, IsItems, IsAnnotation, Clause, Principal, Pre, Post, IsWho, IsClauses, principals, pres, posts, listed}
use Rattle.lx_annot_laws.specs.Statements.{Statement, OfReftype, OfIterator, OfSlot, OfField, OfExport, IsFresh, IsCallable, IsStatement, with_statement, AreStatements, IsInterface}
use Rattle.lx_annot_laws.proofs.GrammarNames.{expr_named, item_named, known_there}
use Rattle.lx_annot_laws.proofs.GrownNames.{callable_grows, iterator_grows}
use Rattle.lx_annot_laws.proofs.GrammarActions.{Within, action_named, no_lend}
use Rattle.lx_annot_laws.proofs.Counts.{scanned_few, counted, slow_reftypes, slow_iterators, slow_slots, slow_fields, slow_exports}

-- Names differ.

not_known : (o : Option ℕ) (bytes name : List ℕ) → (if is_some o then None else Some bytes) ≡ Some name → (o ≡ None) × (bytes ≡ name)
not_known None bytes name h = let same : bytes ≡ name = cc in (refl, same)
not_known (Some k) bytes name h = cc

fresh_by : (names : List (List ℕ)) (bytes name : List ℕ) → (number_among names bytes ≡ None) × (bytes ≡ name) → list_any (bytes_eq name) names ≡ false
fresh_by names bytes name (none, same) = subst (λ b. list_any (bytes_eq b) names ≡ false) same (absent (bytes_eq bytes) names none)

pub fresh_differs : (names : List (List ℕ)) (kind : TokenKind) (bytes name : List ℕ) → fresh_of names kind bytes ≡ Some name → list_any (bytes_eq name) names ≡ false
fresh_differs names kinds.Word bytes name h = fresh_by names bytes name (not_known (number_among names bytes) bytes name h)
fresh_differs names kinds.Local bytes name h = cc
fresh_differs names kinds.Global bytes name h = cc
fresh_differs names kinds.Number bytes name h = cc
fresh_differs names kinds.Text bytes name h = cc
fresh_differs names kinds.Bytes bytes name h = cc
fresh_differs names kinds.Mark bytes name h = cc

-- one name more, which differs from all before
module _ {X : Type 0} (name : X → List ℕ) where
  abbrev pub Differ : List X → Type 0
  Differ xs = IsDistinct bytes_eq (map name xs)

  pub differs_more : (xs : List X) (x : X) → Differ xs → list_any (bytes_eq (name x)) (map name xs) ≡ false → Differ (xs ++ x ∷ [])
  differs_more xs x d h = subst (IsDistinct bytes_eq) (sym (map-append name xs (x ∷ []))) (IsDistinct-push bytes_same (map name xs) (name x) d h)

pub fresh_more : {X : Type 0} (name : X → List ℕ) (xs : List X) (x : X) (ts : List Tok) → IsDistinct bytes_eq (map name xs) → IsFresh (map name xs) (name x) ts → IsDistinct bytes_eq (map name (xs ++ x ∷ []))
fresh_more name xs x ts d (t, h, g) = differs_more name xs x d (fresh_differs (map name xs) t.kind t.bytes (name x) h)

-- Parameters.

abbrev pub param_name : Parameter → List ℕ
param_name p = p.name

param_more : (before : List Parameter) (p : Parameter) (ts : List Tok) → Differ param_name before → IsParam before p ts → Differ param_name (before ++ p ∷ [])
param_more before p ts d (f, b, ty, (t, r, h, g), w) = differs_more param_name before p d (fresh_differs (map param_name before) t.kind t.bytes p.name h)

params_more : (before ps : List Parameter) (ts : List Tok) → Differ param_name before → IsFurther (codes ",") IsParam before ps ts → Differ param_name (before ++ ps)
params_more before [] ts d e = subst (Differ param_name) (sym (append-nil before)) d
params_more before (p ∷ ps) ts d (f, b, comma, (f1, b1, is, more, w1), w) =
    subst (Differ param_name) (append_assoc before (p ∷ []) ps) (params_more (before ++ p ∷ []) ps b1 (param_more before p f1 d is) more)

pub none_differ : Differ param_name []
unfolding IsDistinct
none_differ = tt

params_differ : (ps : List Parameter) (ts : List Tok) → IsParams ps ts → Differ param_name ps
params_differ [] ts e = none_differ
params_differ (p ∷ ps) ts (f, b, is, more, w) = params_more (p ∷ []) ps b (param_more [] p f none_differ is) more

signature_differs : (sig : Signature) (ts : List Tok) → IsSignature sig ts → Differ param_name sig.params
signature_differs sig ts (a, b, colon, (c, d, t, (e, f, round, (g, h, is, close, w3), w2), w1), w) = params_differ sig.params g is

-- Items.

items_all : (scope : List ℕ) (known : Known) (before xs : List Item) (ts : List Tok) → IsFurther (codes ";") (λ before. IsItem (scope_of_items scope) known) before xs ts → All (IsLawfulItem (length known.reftypes)) xs
items_all p known before [] ts e = All-nil (IsLawfulItem (length known.reftypes))
items_all p known before (x ∷ xs) ts (f, b, mark, (f1, b1, is, more, w1), w) =
    let k = item_named (scope_of_items p) known x f1 is in
    All-cons (IsLawfulItem (length known.reftypes)) x xs (record { condition = k.0; list = k.1 }) (items_all p known (before ++ x ∷ []) xs b1 more)

pub items_lawful : (p : List ℕ) (known : Known) (items : List Item) (name : List ℕ) (line : ℕ) (ts : List Tok) → IsItems (scope_of_items p) known items ts → IsLawfulIterator (length known.reftypes) (record { name = name; items = items; line = line })
items_lawful p known [] name line ts is = absurd is
items_lawful p known (x ∷ xs) name line ts (le, (f, b, is, more, w)) =
    let k = item_named (scope_of_items p) known x f is in
    record {
      some = omega arith;
      few = omega (arith, le);
      items = All-cons (IsLawfulItem (length known.reftypes)) x xs (record { condition = k.0; list = k.1 }) (items_all p known (x ∷ []) xs b more);
    }

-- Annotations.

pub same_result : (t : Ty) → result_of t ≡ result_type t
same_result ty.Void = refl
same_result ty.Bool = refl
same_result ty.I8 = refl
same_result ty.U8 = refl
same_result ty.I16 = refl
same_result ty.U16 = refl
same_result ty.I32 = refl
same_result ty.U32 = refl
same_result ty.I64 = refl
same_result ty.Ptr = refl

module _ (sig : Signature) (known : Known) where
  abbrev may_before : Nameable
  may_before = named_before sig.params

  abbrev may_behind : Nameable
  may_behind = named_behind sig.params sig.ret

  abbrev pub declared_there : Declared
  declared_there = record { reftypes = length known.reftypes; iterators = length known.iterators }

  who_lawful : (w : Who) (ts : List Tok) → IsWho (scope_before sig) w ts → IsLawfulPrincipal may_before (Some w)
  who_lawful who.Shared ts is = tt
  who_lawful who.Global ts is = tt
  who_lawful (who.Value e) ts (a, b, is) = expr_named (scope_before sig) e ts is

  abbrev with_result : Option Ty → Nameable
  with_result r = record { params = types_of sig.params; ret = r }

  record Clean (cs : List Clause) : Type 0 where
    principals_are : All (λ w. IsLawfulPrincipal may_before (Some w)) (principals cs)
    pres_are : All (IsLawfulAction declared_there may_before) (pres cs)
    posts_are : All (IsLawfulBehind declared_there may_behind) (posts cs)

  clean : (cs : List Clause) (ts : List Tok) → IsClauses sig known cs ts → Clean cs
  clean [] ts e = record { principals_are = All-nil (λ w. IsLawfulPrincipal may_before (Some w)); pres_are = All-nil (IsLawfulAction declared_there may_before); posts_are = All-nil (IsLawfulBehind declared_there may_behind) }
  clean (Principal w ∷ cs) ts (f, b, (f1, b1, word, (f2, b2, round, (f3, b3, is, close, w3), w2), w1), more, v) =
      let k = clean cs b more in
      record { principals_are = All-cons (λ x. IsLawfulPrincipal may_before (Some x)) w (principals cs) (who_lawful w f3 is) k.principals_are; pres_are = k.pres_are; posts_are = k.posts_are }
  clean (Pre a ∷ cs) ts (f, b, (f1, b1, word, (f2, b2, round, (f3, b3, is, close, w3), w2), w1), more, v) =
      let k = clean cs b more in
      record { principals_are = k.principals_are; pres_are = All-cons (IsLawfulAction declared_there may_before) a (pres cs) (action_named (scope_before sig) known a f3 is) k.pres_are; posts_are = k.posts_are }
  clean (Post a ∷ cs) ts (f, b, (f1, b1, word, (f2, b2, round, (f3, b3, is, close, w3), w2), w1), more, v) =
      let k = clean cs b more in
      let named = subst (λ r. IsLawfulAction declared_there (with_result r) a) (same_result sig.ret) (action_named (scope_behind sig) (without_lends known) a f3 is) in
      let one : IsLawfulBehind declared_there may_behind a = record { is = named; lends_nothing = no_lend (scope_behind sig) (without_lends known) refl a f3 is } in
      record { principals_are = k.principals_are; pres_are = k.pres_are; posts_are = All-cons (IsLawfulBehind declared_there may_behind) a (posts cs) one k.posts_are }

  one_lawful : (p : Option Who) → All (λ w. IsLawfulPrincipal may_before (Some w)) (listed p) → IsLawfulPrincipal may_before p
  one_lawful None h = tt
  one_lawful (Some w) h = All-head (λ x. IsLawfulPrincipal may_before (Some x)) w [] h

  -- clauses over parameters whose names differ
  pub annotation_lawful : (a : Annotation) (ts : List Tok) → IsDistinct bytes_eq (map (λ (p : Parameter). p.name) sig.params) → IsAnnotation sig known a ts → IsLawfulCallable declared_there sig.params sig.ret a
  annotation_lawful a ts differ (cs, are, say) =
      let k = clean cs ts are in
      record {
        names = differ;
        principal = one_lawful a.principal (subst (All (λ w. IsLawfulPrincipal may_before (Some w))) say.principal k.principals_are);
        pre = subst (All (IsLawfulAction declared_there may_before)) say.pre k.pres_are;
        post = record { written = posts cs; lawful = k.posts_are; whole = sym say.post };
      }

  callable_lawful : (a : Annotation) (ts : List Tok) → IsCallable known sig a ts → IsLawfulCallable declared_there sig.params sig.ret a
  callable_lawful a ts (f, b, is, says, w) = annotation_lawful a b (signature_differs sig f is) says

-- Fields.

pub field_means : (a b : Field) → same_field a b ≡ true → (b.index ≡ a.index) × (b.name ≡ a.name)
field_means a b h =
    let k = and_parts (b.index == a.index) (bytes_eq b.name a.name) h in
    (equal b.index a.index k.0, (bytes_eq-Decides b.name a.name).0 k.1)

pub field_from : (a b : Field) → b.index ≡ a.index → b.name ≡ a.name → same_field a b ≡ true
field_from a b e f =
    ap (λ n. (b.index == n) && bytes_eq b.name a.name) (sym e) ∙ ap (λ t. t && bytes_eq b.name a.name) (equal_test b.index) ∙ (bytes_eq-Decides b.name a.name).1 f

fields_same : IsEquivalence same_field
fields_same = record {
  refl = λ x. field_from x x refl refl;
  symm = λ x y. true_same (same_field x y) (same_field y x) (λ h. let k = field_means x y h in field_from y x (sym k.0) (sym k.1)) (λ h. let k = field_means y x h in field_from x y (sym k.0) (sym k.1));
  congr = λ x y z h. let k = field_means x y h in ap (λ n. (z.index == n) && bytes_eq z.name x.name) (sym k.0) ∙ ap (λ m. (z.index == y.index) && bytes_eq z.name m) (sym k.1);
}

abbrev pub iterator_name : CapIterator → List ℕ
iterator_name x = x.name

abbrev pub slot_name : Slot → List ℕ
slot_name x = x.name

abbrev pub export_name : Export → List ℕ
export_name x = x.name

number_of_iterators : (i : Interface) → length (iterator_names i) ≡ length i.iterators
number_of_iterators i = length-map i.iterators iterator_name

-- A statement keeps what is lawful.

pub here_is : (i : Interface) (a : Annotation) (sig : Signature) → IsLawfulCallable (record { reftypes = length i.reftypes; iterators = length (iterator_names i) }) sig.params sig.ret a → IsLawfulCallable (declared_in i) sig.params sig.ret a
here_is i a sig is = subst (λ n. IsLawfulCallable (record { reftypes = length i.reftypes; iterators = n }) sig.params sig.ret a) (number_of_iterators i) is

pub reftype_named : (i : Interface) (name : List ℕ) (ts : List Tok) → IsNamed i → IsFresh i.reftypes name ts → IsNamed (with_reftype i name)
reftype_named i name ts n (t, h, g) =
    let more : length (i.reftypes ++ name ∷ []) ≡ length i.reftypes + 1 = length-append i.reftypes (name ∷ []) in
    let le : length i.reftypes ≤ length (i.reftypes ++ name ∷ []) = omega (arith, more) in
    let within : Within (declared_in i) (declared_in (with_reftype i name)) = record { reftypes = le; iterators = omega arith } in
    record {
      reftypes = IsDistinct-push bytes_same i.reftypes name n.reftypes (fresh_differs i.reftypes t.kind t.bytes name h);
      iterator_names = n.iterator_names;
      slot_names = n.slot_names;
      export_names = n.export_names;
      fields_differ = n.fields_differ;
      iterators = All-weaker (IsLawfulIterator (length i.reftypes)) (IsLawfulIterator (length (i.reftypes ++ name ∷ []))) (λ x. iterator_grows (length i.reftypes) (length (i.reftypes ++ name ∷ [])) x le) i.iterators n.iterators;
      slots = All-weaker (IsLawfulSlot (declared_in i)) (IsLawfulSlot (declared_in (with_reftype i name))) (λ x. callable_grows (declared_in i) (declared_in (with_reftype i name)) x.params x.ret x.annotation within) i.slots n.slots;
      exports = All-weaker (IsLawfulExport (declared_in i)) (IsLawfulExport (declared_in (with_reftype i name))) (λ x. callable_grows (declared_in i) (declared_in (with_reftype i name)) x.params x.ret x.annotation within) i.exports n.exports;
      fields = n.fields;
    }

pub iterator_named : (i : Interface) (x : CapIterator) (ts : List Tok) → IsNamed i → IsFresh (iterator_names i) x.name ts → IsLawfulIterator (length i.reftypes) x → IsNamed (with_iterator i x)
iterator_named i x ts n fresh is =
    let more : length (i.iterators ++ x ∷ []) ≡ length i.iterators + 1 = length-append i.iterators (x ∷ []) in
    let within : Within (declared_in i) (declared_in (with_iterator i x)) = record { reftypes = omega arith; iterators = omega (arith, more) } in
    record {
      reftypes = n.reftypes;
      iterator_names = fresh_more iterator_name i.iterators x ts n.iterator_names fresh;
      slot_names = n.slot_names;
      export_names = n.export_names;
      fields_differ = n.fields_differ;
      iterators = All-push (IsLawfulIterator (length i.reftypes)) i.iterators x n.iterators is;
      slots = All-weaker (IsLawfulSlot (declared_in i)) (IsLawfulSlot (declared_in (with_iterator i x))) (λ y. callable_grows (declared_in i) (declared_in (with_iterator i x)) y.params y.ret y.annotation within) i.slots n.slots;
      exports = All-weaker (IsLawfulExport (declared_in i)) (IsLawfulExport (declared_in (with_iterator i x))) (λ y. callable_grows (declared_in i) (declared_in (with_iterator i x)) y.params y.ret y.annotation within) i.exports n.exports;
      fields = n.fields;
    }

pub slot_named : (i : Interface) (x : Slot) (ts : List Tok) → IsNamed i → IsFresh (slot_names i) x.name ts → IsLawfulSlot (declared_in i) x → IsNamed (with_slot i x)
slot_named i x ts n fresh is =
    let more : length (i.slots ++ x ∷ []) ≡ length i.slots + 1 = length-append i.slots (x ∷ []) in
    record {
      reftypes = n.reftypes;
      iterator_names = n.iterator_names;
      slot_names = fresh_more slot_name i.slots x ts n.slot_names fresh;
      export_names = n.export_names;
      fields_differ = n.fields_differ;
      iterators = n.iterators;
      slots = All-push (IsLawfulSlot (declared_in i)) i.slots x n.slots is;
      exports = n.exports;
      fields = All-weaker (λ (f : Field). f.slot < length i.slots) (λ (f : Field). f.slot < length (i.slots ++ x ∷ [])) (λ f lt. omega (arith, lt, more)) i.fields n.fields;
    }

pub export_named : (i : Interface) (x : Export) (ts : List Tok) → IsNamed i → IsFresh (export_names i) x.name ts → IsLawfulExport (declared_in i) x → IsNamed (with_export i x)
export_named i x ts n fresh is = record {
  reftypes = n.reftypes;
  iterator_names = n.iterator_names;
  slot_names = n.slot_names;
  export_names = fresh_more export_name i.exports x ts n.export_names fresh;
  fields_differ = n.fields_differ;
  iterators = n.iterators;
  slots = n.slots;
  exports = All-push (IsLawfulExport (declared_in i)) i.exports x n.exports is;
  fields = n.fields;
}

pub field_named : (i : Interface) (x : Field) → IsNamed i → is_typed i x.name x.index ≡ false → x.slot < length i.slots → IsNamed (with_field i x)
field_named i x n new lt = record {
  reftypes = n.reftypes;
  iterator_names = n.iterator_names;
  slot_names = n.slot_names;
  export_names = n.export_names;
  fields_differ = IsDistinct-push fields_same i.fields x n.fields_differ new;
  iterators = n.iterators;
  slots = n.slots;
  exports = n.exports;
  fields = All-push (λ (f : Field). f.slot < length i.slots) i.fields x n.fields lt;
}

statement_named : (v : Version) (i : Interface) (s : Statement) (ts : List Tok) → IsNamed i → IsStatement v i s ts → IsNamed (with_statement i s)
statement_named v i (OfReftype name) ts n (f, b, word, is, w) = reftype_named i name b n is
statement_named v i (OfIterator x) ts n (f, b, word, (f1, b1, fresh, (p, (f2, b2, round, (f3, b3, pn, (f4, b4, close, (f5, b5, brace, (f6, b6, is, end, w6), w5), w4), w3), w2)), w1), w) =
    iterator_named i x f1 n fresh (items_lawful p (known_in v i) x.items x.name x.line f6 is)
statement_named v i (OfSlot x) ts n (f, b, word, (f1, b1, fresh, is, w1), w) =
    let sig : Signature = record { ret = x.ret; params = x.params } in
    slot_named i x f1 n fresh (here_is i x.annotation sig (callable_lawful sig (known_in v i) x.annotation b1 is))
statement_named v i (OfField x) ts n (f, b, word, (new, (f1, b1, struct, (f2, b2, index, (f3, b3, colon, is, w3), w2), w1)), w) =
    field_named i x n new (subst (λ m. x.slot < m) (length-map i.slots slot_name) (known_there (slot_names i) x.slot b3 is))
statement_named v i (OfExport x) ts n (f, b, word, (f1, b1, fresh, is, w1), w) =
    let sig : Signature = record { ret = x.ret; params = x.params } in
    export_named i x f1 n fresh (here_is i x.annotation sig (callable_lawful sig (known_in v i) x.annotation b1 is))

all_named : (text : List ℕ) (v : Version) (i j : Interface) (ss : List Statement) (tokens : List Token) → IsNamed i → AreStatements text v i ss j tokens → IsNamed j
all_named text v i j [] tokens n (same, e) = subst IsNamed same n
all_named text v i j (s ∷ ss) tokens n (front, back, stands, are, e) =
    all_named text v (with_statement i s) j ss back (statement_named v i s (toks_of text front) n stands.is) are

pub none_named : IsNamed empty
unfolding IsDistinct
none_named = record {
  reftypes = tt;
  iterator_names = tt;
  slot_names = tt;
  export_names = tt;
  fields_differ = tt;
  iterators = All-nil (IsLawfulIterator 0);
  slots = All-nil (IsLawfulSlot (declared_in empty));
  exports = All-nil (IsLawfulExport (declared_in empty));
  fields = All-nil (λ (f : Field). f.slot < 0);
}

pub below : (count : ℕ) (body tokens size most : ℕ) → count ≤ 0 + body → body ≤ tokens → tokens ≤ size → size < most → count < most
below count body tokens size most a b c d = omega (arith, a, b, c, d)

-- every interface of the grammar is lawful
pub lawful : (text : List ℕ) (i : Interface) → length text < 2 ^ 32 → IsInterface text i → IsLawfulInterface i
lawful text i short is =
    let few = scanned_few rules.Interface text is.tokens is.scans in
    let size : length is.tokens ≡ length is.head + length is.body = ap length is.whole ∙ length-append is.head is.body in
    let body : length is.body ≤ length is.tokens = omega (arith, size) in
    record {
      named = all_named text is.version empty i is.statements is.body none_named is.are;
      numbered = record {
        reftypes = below (length i.reftypes) (length is.body) (length is.tokens) (length text) (2 ^ 32) (counted text is.version (λ j. length j.reftypes) slow_reftypes empty i is.statements is.body is.are) body few short;
        iterators = below (length i.iterators) (length is.body) (length is.tokens) (length text) (2 ^ 32) (counted text is.version (λ j. length j.iterators) slow_iterators empty i is.statements is.body is.are) body few short;
        slots = below (length i.slots) (length is.body) (length is.tokens) (length text) (2 ^ 32) (counted text is.version (λ j. length j.slots) slow_slots empty i is.statements is.body is.are) body few short;
        fields = below (length i.fields) (length is.body) (length is.tokens) (length text) (2 ^ 32) (counted text is.version (λ j. length j.fields) slow_fields empty i is.statements is.body is.are) body few short;
        exports = below (length i.exports) (length is.body) (length is.tokens) (length text) (2 ^ 32) (counted text is.version (λ j. length j.exports) slow_exports empty i is.statements is.body is.are) body few short;
      };
    }
