-- Declarations and members: reading and the grammar agree.
use Rattle.std.proofs.Common.{◌≡◌, ℕ, ◌≤◌, arith, Bool, true, false, Option, Some, None, is_some, List, [], ◌∷◌, ◌++◌, length, Ok, Err, ◌⊎◌, inl, inr, refl, sym, ap, ◌∙◌, subst, append_assoc, bytes_eq, codes}
use Rattle.std.specs.Prelude.{if◌then◌else◌, ◌&&◌}
use Rattle.std.proofs.lemmas.List.{length-append}
use Rattle.std.proofs.lemmas.Slice.Eq.{bytes_eq-Decides}
use Rattle.lx_words.specs.declared.token.TokenKind.{TokenKind}
use Rattle.lx_annot.specs.declared.expr.Ty.{Ty}
use Rattle.lx_annot.specs.declared.interface.CapIterator.{CapIterator}
use Rattle.lx_annot.specs.declared.interface.Slot.{Slot}
use Rattle.lx_annot.specs.declared.interface.Export.{Export}
use Rattle.lx_annot.specs.declared.interface.Item.{Item}
use Rattle.lx_annot.specs.declared.interface.Interface.{Interface}
use Rattle.lx_annot.specs.declared.interface.Parameter.{Parameter}
use Rattle.lx_annot.specs.declared.action.Annotation.{Annotation}
use Rattle.lx_annot_expressions.specs.declared.fault.FaultKind.TheVariants.{Twice}
use Rattle.lx_annot_expressions.specs.Tokens.{Tok}
use Rattle.lx_annot_expressions.specs.Reading.{Read, ◌>>=◌, at, refused, has, behind, next_at, unless_word}
use Rattle.lx_annot_expressions.specs.Names.{number_among, fresh_of, fresh_at}
use Rattle.lx_annot_expressions.specs.Grammar.{Part, Is, ◌then◌}
use Rattle.lx_annot_expressions.specs.Laws.{Reads, Finds}
use Rattle.lx_annot_expressions.proofs.Parts.{bind_ok, ok_same, pick_reads, pick_finds, next_reads, next_finds, next_token, bind_reads, last_reads, bind_finds, last_finds, Joint, Mapped}
use Rattle.lx_annot_terms.specs.Lists.{Known}
use Rattle.lx_annot_terms.specs.Signatures.{Signature}
use Rattle.lx_annot_terms.proofs.ListReads.{other_text}
use Rattle.lx_annot_read.specs.declared.head.Version.TheVariants as versions
use Rattle.lx_annot_read.specs.Interfaces.{iterator_names, slot_names, export_names, known_in, with_reftype, with_iterator, with_slot, with_field, with_export, reftype_at, iterator_body_at, iterator_at}
use Rattle.lx_annot_laws.specs.Statements.{IsFresh, IsIteratorBody}
use Rattle.lx_annot_laws.proofs.Mapping.{mapped_is}
use Rattle.lx_annot_laws.proofs.StatementLaws.{body_read, body_found}
use Rattle.lx_cproto.specs.declared.callable.Callable.{Callable}
use Rattle.lx_cproto.specs.Types.{is_void, type_at, base_at, word_type}
use Rattle.lx_cproto.specs.Params.{callable_at}
use Rattle.lx_cproto.specs.Statements.{Declared, now, may_use, prototype_at, reftype_statement_at, begins_struct, opened, closed, opening_at, closing_at, plain_member_at, absent_at, fresh_in_both, struct_type, with_slot_field, slot_behind, slot_name_at, slot_member_at, member_behind, member_at, inside_at, with_interface, outside_at, step_by, step_at}
use Rattle.lx_cproto.specs.Statements as reading
use Rattle.lx_annot_laws.specs.PrototypeParts.{Typed, Valued, IsCallable, IsFreshInBoth}
use Rattle.lx_annot_laws.specs.Declarations.{Member, Plain, Holds, Declaration, OfReftype, OfIterator, OfPrototype, OfStruct, name_of, with_member, field_of, IsPlainName, IsSlotName, IsMember, MemberInLine, IsOpening, IsClosing, IsPlain, IsInLine, with_plain}
use Rattle.lx_annot_laws.proofs.TypeFronts.{type_steady}
use Rattle.lx_annot_laws.proofs.Typing.{HasToken, is_some as is_one, then_some, typed_read, typed_found, Before}
use Rattle.lx_annot_laws.proofs.CallableLaws.{callable_read, callable_found, FoundCallable}

fresh_read : (names : List (List ℕ)) (name : List ℕ) → Reads (fresh_at names) name (IsFresh names name)
fresh_read names name = pick_reads (λ t. fresh_of names t.kind t.bytes) (unless_word Twice) name

fresh_found : (names : List (List ℕ)) → Finds (fresh_at names) (IsFresh names)
fresh_found names = pick_finds (λ t. fresh_of names t.kind t.bytes) (unless_word Twice)

fresh_some : (names : List (List ℕ)) (name : List ℕ) → HasToken (IsFresh names name)
fresh_some names name (t, f, g) = cc

-- a token behind which a part stands
abbrev pub Behind : (text : List ℕ) (q : Part) (ts us : List Tok) → Type 0
Behind text q ts us = (t : Tok) × (vs : List Tok) × (has text (t ∷ (vs ++ us)) ≡ true) × q vs × (ts ++ us ≡ t ∷ (vs ++ us))

pub word_behind : (text : List ℕ) (q : Part) (ts us : List Tok) → (Is text then q) ts → Behind text q ts us
word_behind text q ts us (f, b, (t, h, g), p, w) = (t, b, h, p, ap (λ x. x ++ us) (w ∙ ap (λ x. x ++ b) g))

-- what is found behind a token that was gone over
abbrev pub FoundBehind : Part → List Tok → List Tok → Type 0
FoundBehind q ts us = (front : List Tok) × q front × (ts ≡ front ++ us)

pub behind_word : (text : List ℕ) (q : Part) (ts us : List Tok) → has text ts ≡ true → FoundBehind q (behind ts) us → FoundBehind (Is text then q) ts us
behind_word text q ts us h (vs, p, w) =
    let n = next_token text ts h in
    (n.token ∷ vs, (n.token ∷ [], vs, (n.token, n.is, refl), p, refl), n.whole ∙ ap (λ x. n.token ∷ x) w)

abbrev export_of : List ℕ → ℕ → Callable → Export
export_of name line c = record { name = name; params = c.signature.params; ret = c.signature.ret; annotation = c.annotation; line = line }

abbrev slot_of : List ℕ → ℕ → Callable → Slot
slot_of name line c = record { name = name; params = c.signature.params; ret = c.signature.ret; annotation = c.annotation; line = line }

-- Outside structs.

module _ (i : Interface) where
  -- a reference type

  abbrev reftype_begun : Read (List ℕ) → Read Interface
  reftype_begun r = r >>= λ n. Ok (with_reftype i n.0, n.1)

  abbrev reftype_end : Read (List ℕ) → Read Interface
  reftype_end r = reftype_begun r >>= λ j. next_at (codes ";") j.1 >>= λ e. Ok (j.0, e.1)

  abbrev reftype_all : List Tok → Read Interface
  reftype_all ts = reftype_end (fresh_at i.reftypes ts)

  reftype_is : (ts : List Tok) → reftype_statement_at i ts ≡ reftype_all ts
  unfolding reftype_statement_at reftype_at
  reftype_is ts = refl

  pub reftype_read : (name : List ℕ) → Reads (reftype_statement_at i) (with_reftype i name) (IsFresh i.reftypes name then Is (codes ";"))
  reftype_read name ts us (f, b, a, c, w) =
      let whole : ts ++ us ≡ f ++ (b ++ us) = ap (λ x. x ++ us) w ∙ append_assoc f b us in
      reftype_is (ts ++ us) ∙ ap reftype_all whole ∙ ap reftype_end (fresh_read i.reftypes name f (b ++ us) a) ∙ mapped_is (λ (e : Unit {0}). with_reftype i name) (next_at (codes ";") (b ++ us)) tt us (next_reads (codes ";") b us c)

  abbrev ReftypeParts : Interface → Part
  ReftypeParts j ts = (name : List ℕ) × (IsFresh i.reftypes name then Is (codes ";")) ts × (j ≡ with_reftype i name)

  pub reftype_found : Finds (reftype_statement_at i) ReftypeParts
  reftype_found ts us j e =
      let a = bind_ok (reftype_begun (fresh_at i.reftypes ts)) (λ (k : Interface × List Tok). next_at (codes ";") k.1 >>= λ e. Ok (k.0, e.1)) (j, us) (sym (reftype_is ts) ∙ e) in
      let b = last_finds (fresh_at i.reftypes) (λ n. with_reftype i n) (IsFresh i.reftypes) (fresh_found i.reftypes) ts a.0.1 a.0.0 a.1 in
      let c = last_finds (next_at (codes ";")) (λ e. a.0.0) (λ (e : Unit {0}). Is (codes ";")) (next_finds (codes ";")) a.0.1 us j a.2 in
      let (name, fresh, made) = b.1 in
      let (u, end, same) = c.1 in
      (b.0 ++ c.0, (name, (b.0, c.0, fresh, end, refl), sym same ∙ sym made), b.2 ∙ ap (λ x. b.0 ++ x) c.2 ∙ sym (append_assoc b.0 c.0 us))

  -- an iterator

  abbrev iterator_of : List ℕ → List Item → ℕ → CapIterator
  iterator_of name items line = record { name = name; items = items; line = line }

  pub iterator_read : (x : CapIterator) → Reads (iterator_at versions.Two x.line i) (with_iterator i x) (IsFresh (iterator_names i) x.name then IsIteratorBody (may_use i) x.items)
  unfolding iterator_at
  iterator_read x =
      bind_reads (fresh_at (iterator_names i)) (λ n. iterator_body_at (may_use i) n.1 >>= λ items. Ok (with_iterator i (iterator_of n.0 items.0 x.line), items.1)) x.name (with_iterator i x) _ _ (fresh_read (iterator_names i) x.name)
      (last_reads (iterator_body_at (may_use i)) (λ items. with_iterator i (iterator_of x.name items x.line)) x.items _ (body_read (may_use i) x.items))

  abbrev IteratorParts : ℕ → Interface → Part
  IteratorParts line = Joint (IsFresh (iterator_names i)) (λ n. Mapped (λ (items : List Item). with_iterator i (iterator_of n items line)) (IsIteratorBody (may_use i)))

  pub iterator_found : (line : ℕ) → Finds (iterator_at versions.Two line i) (IteratorParts line)
  unfolding iterator_at
  iterator_found line =
      bind_finds (fresh_at (iterator_names i)) (λ n. iterator_body_at (may_use i) n.1 >>= λ items. Ok (with_iterator i (iterator_of n.0 items.0 line), items.1)) (IsFresh (iterator_names i)) _ (fresh_found (iterator_names i))
      (λ n. last_finds (iterator_body_at (may_use i)) (λ items. with_iterator i (iterator_of n items line)) (IsIteratorBody (may_use i)) (body_found (may_use i)))

  -- a prototype

  abbrev pub prototype_behind : ℕ → Ty × List Tok → Read Interface
  prototype_behind line t = fresh_at (export_names i) t.1 >>= λ n. callable_at (may_use i) t.0 n.1 >>= λ f. Ok (with_export i (export_of n.0 line f.0), f.1)

  abbrev pub PrototypePart : Export → Part
  PrototypePart x = IsFresh (export_names i) x.name then IsCallable (may_use i) (record { ret = x.ret; params = x.params }) x.annotation

  prototype_some : (x : Export) → HasToken (PrototypePart x)
  prototype_some x = then_some (IsFresh (export_names i) x.name) (IsCallable (may_use i) (record { ret = x.ret; params = x.params }) x.annotation) (fresh_some (export_names i) x.name)

  pub prototype_read : (x : Export) → Reads (prototype_at x.line i) (with_export i x) (Typed x.ret (PrototypePart x))
  unfolding prototype_at
  prototype_read x =
      typed_read (prototype_behind x.line) x.ret (with_export i x) (PrototypePart x) (prototype_some x)
      (bind_reads (fresh_at (export_names i)) (λ n. callable_at (may_use i) x.ret n.1 >>= λ f. Ok (with_export i (export_of n.0 x.line f.0), f.1)) x.name (with_export i x) _ _ (fresh_read (export_names i) x.name)
      (last_reads (callable_at (may_use i) x.ret) (λ f. with_export i (export_of x.name x.line f)) (record { signature = record { ret = x.ret; params = x.params }; annotation = x.annotation }) _ (callable_read (may_use i) x.ret x.params x.annotation)))

  abbrev PrototypeParts : ℕ → Ty → Interface → Part
  PrototypeParts line t = Joint (IsFresh (export_names i)) (λ n. Mapped (λ (c : Callable). with_export i (export_of n line c)) (FoundCallable (may_use i) t))

  parts_some : (line : ℕ) (t : Ty) (j : Interface) → HasToken (PrototypeParts line t j)
  parts_some line t j (n, is) = then_some (IsFresh (export_names i) n) _ (fresh_some (export_names i) n) is

  abbrev FoundPrototype : ℕ → Interface → Part
  FoundPrototype line j ts = (x : Export) × (x.line ≡ line) × Typed x.ret (PrototypePart x) ts × (j ≡ with_export i x)

  prototype_made : (line : ℕ) (j : Interface) (ts : List Tok) → Before (prototype_behind line) (PrototypeParts line) j ts → FoundPrototype line j ts
  prototype_made line j ts (t, (rest, read, (n, (f, b, fresh, (c, (same, is), made), w)))) =
      let x = export_of n line c in
      (x, refl, subst (λ r. Typed r (PrototypePart x) ts) (sym same) (rest, read, (f, b, fresh, is, w)), sym made)

  pub prototype_found : (line : ℕ) → Finds (prototype_at line i) (FoundPrototype line)
  unfolding prototype_at
  prototype_found line ts us j e =
      let w = typed_found (prototype_behind line) (PrototypeParts line) (parts_some line)
      (λ t. bind_finds (fresh_at (export_names i)) (λ n. callable_at (may_use i) t n.1 >>= λ f. Ok (with_export i (export_of n.0 line f.0), f.1)) (IsFresh (export_names i)) _ (fresh_found (export_names i))
      (λ n. last_finds (callable_at (may_use i) t) (λ f. with_export i (export_of n line f)) (FoundCallable (may_use i) t) (callable_found (may_use i) t))) ts us j e in
      (w.0, prototype_made line j w.0 w.1, w.2)

-- The first token of a type.

abbrev tok : TokenKind → List ℕ → Tok
tok kind bytes = record { kind = kind; bytes = bytes }

-- no type begins with this
abbrev BeginsNoType : List ℕ → Type 0
BeginsNoType text = (k : TokenKind) (r : List Tok) → type_at (tok k text ∷ r) ≡ refused (tok k text ∷ r)

pub no_brace : BeginsNoType (codes "}")
unfolding type_at base_at word_type
no_brace k r = refl

pub no_reftype : BeginsNoType (codes "reftype")
unfolding type_at base_at word_type
no_reftype k r = refl

pub no_iterator : BeginsNoType (codes "iterator")
unfolding type_at base_at word_type
no_iterator k r = refl

not_read : (text : List ℕ) (t : Tok) (r us : List Tok) (x : Ty) (b : Bool) → BeginsNoType text → bytes_eq t.bytes text ≡ b → type_at (t ∷ r) ≡ Ok (x, us) → b ≡ false
not_read text t r us x false none h e = refl
not_read text t r us x true none h e =
    let same : t ≡ tok t.kind text = ap (tok t.kind) ((bytes_eq-Decides t.bytes text).0 h) in
    let f : refused (tok t.kind text ∷ r) ≡ Ok (x, us) = sym (none t.kind r) ∙ ap (λ y. type_at (y ∷ r)) (sym same) ∙ e in
    cc

pub type_begins : (text : List ℕ) (ts us : List Tok) (x : Ty) → BeginsNoType text → type_at ts ≡ Ok (x, us) → has text ts ≡ false
type_begins text [] us x none e = refl
type_begins text (t ∷ r) us x none e = not_read text t r us x (bytes_eq t.bytes text) none refl e

-- How many tokens there are at least.

is_length : (text : List ℕ) (ts : List Tok) → Is text ts → length ts ≡ 1
is_length text ts (t, h, g) = ap length g

fresh_length : (names : List (List ℕ)) (name : List ℕ) (ts : List Tok) → IsFresh names name ts → length ts ≡ 1
fresh_length names name ts (t, f, g) = ap length g

callable_length : (known : Known) (sig : Signature) (a : Annotation) (ts : List Tok) → IsCallable known sig a ts → 3 ≤ length ts
callable_length known sig a ts (f, b, (f1, b1, o, (f2, b2, ps, c, w2), w1), (f3, b3, is, e, w3), w) =
    let n0 = ap length w ∙ length-append f b in
    let n1 = ap length w1 ∙ length-append f1 b1 in
    let n2 = ap length w2 ∙ length-append f2 b2 in
    let n3 = ap length w3 ∙ length-append f3 b3 in
    omega (arith, n0, n1, n2, n3, is_length (codes "(") f1 o, is_length (codes ")") b2 c, is_length (codes ";") b3 e)

-- where a struct begins hangs on three tokens
pub begins_front : (ts us : List Tok) → 3 ≤ length ts → begins_struct (ts ++ us) ≡ begins_struct ts
begins_front [] us le = absurd (omega (arith, le))
begins_front (a ∷ []) us le = absurd (omega (arith, le))
begins_front (a ∷ b ∷ []) us le = absurd (omega (arith, le))
begins_front (a ∷ b ∷ c ∷ ts) us le = refl

pub prototype_long : (i : Interface) (x : Export) (ts : List Tok) → Typed x.ret (PrototypePart i x) ts → 3 ≤ length ts
prototype_long i x ts ([], e, p) = absurd (prototype_some i x p)
prototype_long i x ts (h ∷ r, e, (f, b, fresh, is, w)) =
    let s = type_steady x.ret h r ts e in
    let n0 = ap length s.whole ∙ length-append s.c (h ∷ r) in
    let n1 = ap length w ∙ length-append f b in
    omega (arith, n0, n1, callable_length (may_use i) (record { ret = x.ret; params = x.params }) x.annotation b is)

-- Structs.

module _ (d : Declared) where
  pub opening_read : (name : List ℕ) → Reads (opening_at d) (opened d name) (IsFresh d.structs name then Is (codes "{"))
  unfolding opening_at
  opening_read name =
      bind_reads (fresh_at d.structs) (λ n. next_at (codes "{") n.1 >>= λ o. Ok (opened d n.0, o.1)) name (opened d name) _ _ (fresh_read d.structs name)
      (last_reads (next_at (codes "{")) (λ o. opened d name) tt _ (next_reads (codes "{")))

  abbrev OpeningParts : Declared → Part
  OpeningParts = Joint (IsFresh d.structs) (λ n. Mapped (λ (o : Unit {0}). opened d n) (λ o. Is (codes "{")))

  pub opening_found : Finds (opening_at d) OpeningParts
  unfolding opening_at
  opening_found =
      bind_finds (fresh_at d.structs) (λ n. next_at (codes "{") n.1 >>= λ o. Ok (opened d n.0, o.1)) (IsFresh d.structs) _ (fresh_found d.structs)
      (λ n. last_finds (next_at (codes "{")) (λ o. opened d n) (λ (o : Unit {0}). Is (codes "{")) (next_finds (codes "{")))

  pub closing_read : Reads (closing_at d) (closed d) (Is (codes ";"))
  unfolding closing_at
  closing_read = last_reads (next_at (codes ";")) (λ e. closed d) tt _ (next_reads (codes ";"))

  pub closing_found : Finds (closing_at d) (Mapped (λ (e : Unit {0}). closed d) (λ e. Is (codes ";")))
  unfolding closing_at
  closing_found = last_finds (next_at (codes ";")) (λ e. closed d) (λ (e : Unit {0}). Is (codes ";")) (next_finds (codes ";"))

  plain_read : (name : List ℕ) → Reads (plain_member_at d) (reading.with_member d name) (IsFresh d.members name then Is (codes ";"))
  unfolding plain_member_at
  plain_read name =
      bind_reads (fresh_at d.members) (λ n. next_at (codes ";") n.1 >>= λ e. Ok (reading.with_member d n.0, e.1)) name (reading.with_member d name) _ _ (fresh_read d.members name)
      (last_reads (next_at (codes ";")) (λ e. reading.with_member d name) tt _ (next_reads (codes ";")))

  abbrev PlainParts : Declared → Part
  PlainParts = Joint (IsFresh d.members) (λ n. Mapped (λ (e : Unit {0}). reading.with_member d n) (λ e. Is (codes ";")))

  plain_found : Finds (plain_member_at d) PlainParts
  unfolding plain_member_at
  plain_found =
      bind_finds (fresh_at d.members) (λ n. next_at (codes ";") n.1 >>= λ e. Ok (reading.with_member d n.0, e.1)) (IsFresh d.members) _ (fresh_found d.members)
      (λ n. last_finds (next_at (codes ";")) (λ e. reading.with_member d n) (λ (e : Unit {0}). Is (codes ";")) (next_finds (codes ";")))

-- Names in neither list.

abbrev absent_by : Option ℕ → List Tok → List ℕ → List Tok → Read (List ℕ)
absent_by o place n us = if is_some o then Err (at Twice place) else Ok (n, us)

both_read : (names others : List (List ℕ)) (name : List ℕ) → Reads (fresh_in_both names others) name (IsFreshInBoth names others name)
both_read names others name ts us (absent, is) =
    ap (λ r. r >>= λ n. absent_at others (ts ++ us) n) (fresh_read names name ts us is) ∙ ap (λ o. absent_by o (ts ++ us) name us) absent

absent_ok : (others : List (List ℕ)) (place us vs : List Tok) (m n : List ℕ) (o : Option ℕ) → number_among others m ≡ o → absent_by o place m vs ≡ Ok (n, us) → (number_among others n ≡ None) × (m ≡ n) × (vs ≡ us)
absent_ok others place us vs m n (Some k) h e = cc
absent_ok others place us vs m n None h e = let k = ok_same m n vs us e in (subst (λ x. number_among others x ≡ None) k.0 h, k.0, k.1)

both_found : (names others : List (List ℕ)) → Finds (fresh_in_both names others) (IsFreshInBoth names others)
both_found names others ts us n e =
    let a = bind_ok (fresh_at names ts) (λ n. absent_at others ts n) (n, us) e in
    let w = fresh_found names ts a.0.1 a.0.0 a.1 in
    let k = absent_ok others ts us a.0.1 a.0.0 n (number_among others a.0.0) refl a.2 in
    (w.0, (k.0, subst (λ x. IsFresh names x w.0) k.1 w.1), w.2 ∙ ap (λ x. w.0 ++ x) k.2)

module _ (line : ℕ) (struct : List ℕ) (d : Declared) where
  abbrev i : Interface
  i = d.interface

  slot_name_read : (name : List ℕ) → Reads (slot_name_at d) name (IsSlotName i d.members name)
  unfolding slot_name_at
  slot_name_read name =
      bind_reads (next_at (codes "(")) (λ o. next_at (codes "*") o.1 >>= λ s. fresh_in_both d.members (slot_names i) s.1) tt name _ _ (next_reads (codes "("))
      (bind_reads (next_at (codes "*")) (λ s. fresh_in_both d.members (slot_names i) s.1) tt name _ _ (next_reads (codes "*")) (both_read d.members (slot_names i) name))

  slot_name_found : Finds (slot_name_at d) (IsSlotName i d.members)
  unfolding slot_name_at
  slot_name_found ts us n e =
      let w = bind_finds (next_at (codes "(")) (λ o. next_at (codes "*") o.1 >>= λ s. fresh_in_both d.members (slot_names i) s.1) (λ (o : Unit {0}). Is (codes "(")) _ (next_finds (codes "("))
      (λ o. bind_finds (next_at (codes "*")) (λ s. fresh_in_both d.members (slot_names i) s.1) (λ (s : Unit {0}). Is (codes "*")) (λ s. IsFreshInBoth d.members (slot_names i)) (next_finds (codes "*")) (λ s. both_found d.members (slot_names i))) ts us n e in
      let (o, (f, b, opens_it, (s, is), w0)) = w.1 in
      (w.0, (f, b, opens_it, is, w0), w.2)

  abbrev index : ℕ
  index = length d.members

  abbrev held : List ℕ → Callable → Interface
  held name c = with_slot_field line struct index name c i

  abbrev BehindName : Ty → Callable → Part
  BehindName ret c = Is (codes ")") then FoundCallable (may_use i) ret c

  abbrev slot_callable : Ty → Slot → Callable
  slot_callable ret s = record { signature = record { ret = ret; params = s.params }; annotation = s.annotation }

  slot_behind_read : (name : List ℕ) (ret : Ty) (ps : List Parameter) (a : Annotation) → Reads (slot_behind line struct index name ret i) (held name (record { signature = record { ret = ret; params = ps }; annotation = a })) (Is (codes ")") then IsCallable (may_use i) (record { ret = ret; params = ps }) a)
  unfolding slot_behind
  slot_behind_read name ret ps a =
      bind_reads (next_at (codes ")")) (λ c. callable_at (may_use i) ret c.1 >>= λ f. Ok (held name f.0, f.1)) tt _ _ _ (next_reads (codes ")"))
      (last_reads (callable_at (may_use i) ret) (λ f. held name f) (record { signature = record { ret = ret; params = ps }; annotation = a }) _ (callable_read (may_use i) ret ps a))

  abbrev SlotBehindParts : List ℕ → Ty → Interface → Part
  SlotBehindParts name ret = Joint (λ (c : Unit {0}). Is (codes ")")) (λ c. Mapped (λ (f : Callable). held name f) (FoundCallable (may_use i) ret))

  slot_behind_found : (name : List ℕ) (ret : Ty) → Finds (slot_behind line struct index name ret i) (SlotBehindParts name ret)
  unfolding slot_behind
  slot_behind_found name ret =
      bind_finds (next_at (codes ")")) (λ c. callable_at (may_use i) ret c.1 >>= λ f. Ok (held name f.0, f.1)) (λ (c : Unit {0}). Is (codes ")")) _ (next_finds (codes ")"))
      (λ c. last_finds (callable_at (may_use i) ret) (λ f. held name f) (FoundCallable (may_use i) ret) (callable_found (may_use i) ret))

  abbrev SlotPart : Slot → Part
  SlotPart s = IsSlotName i d.members s.name then Is (codes ")") then IsCallable (may_use i) (record { ret = s.ret; params = s.params }) s.annotation

  abbrev pub made : Interface → List ℕ → Declared
  made j name = reading.with_member (now d j) name

  slot_read : (s : Slot) → s.line ≡ line → Reads (slot_member_at line struct d s.ret) (made (with_member struct index i (Holds s)) s.name) (SlotPart s)
  unfolding slot_member_at
  slot_read s at ts us is =
      bind_reads (slot_name_at d) (λ n. slot_behind line struct index n.0 s.ret i n.1 >>= λ j. Ok (made j.0 n.0, j.1)) s.name (made (held s.name (slot_callable s.ret s)) s.name) _ _ (slot_name_read s.name)
      (last_reads (slot_behind line struct index s.name s.ret i) (λ j. made j s.name) (held s.name (slot_callable s.ret s)) _ (slot_behind_read s.name s.ret s.params s.annotation)) ts us is
      ∙ ap (λ l. Ok (made (with_field (with_slot i (record { name = s.name; params = s.params; ret = s.ret; annotation = s.annotation; line = l })) (field_of struct index (length (slot_names i)) l)) s.name, us)) (sym at)

  abbrev FoundSlot : Ty → Declared → Part
  FoundSlot ret e ts = (s : Slot) × (s.line ≡ line) × (s.ret ≡ ret) × SlotPart s ts × (e ≡ made (with_member struct index i (Holds s)) s.name)

  abbrev SlotParts : Ty → Declared → Part
  SlotParts ret = Joint (IsSlotName i d.members) (λ n. Mapped (λ (j : Interface). made j n) (SlotBehindParts n ret))

  slot_made : (ret : Ty) (e : Declared) (ts : List Tok) → SlotParts ret e ts → FoundSlot ret e ts
  slot_made ret e ts (n, (f, b, name, (j, (u, (f1, b1, close, (c, (same, is), held_is), w1)), eq), w)) =
      (slot_of n line c, refl, same, (f, b, name, (f1, b1, close, is, w1), w), sym eq ∙ ap (λ k. made k n) (sym held_is))

  slot_found : (ret : Ty) → Finds (slot_member_at line struct d ret) (FoundSlot ret)
  unfolding slot_member_at
  slot_found ret ts us e is =
      let w = bind_finds (slot_name_at d) (λ n. slot_behind line struct index n.0 ret i n.1 >>= λ j. Ok (made j.0 n.0, j.1)) (IsSlotName i d.members) _ slot_name_found
      (λ n. last_finds (slot_behind line struct index n ret i) (λ j. made j n) (SlotBehindParts n ret) (slot_behind_found n ret)) ts us e is in
      (w.0, slot_made ret e w.0 w.1, w.2)

  -- Behind the type of a member.

  abbrev behind_by : Bool → Bool → Ty → List Tok → Read Declared
  behind_by a b t ts = if a then slot_member_at line struct d t ts else if b then refused ts else plain_member_at d ts

  abbrev BehindType : Ty → Declared → Part
  BehindType t e ts = FoundSlot t e ts ⊎ ((name : List ℕ) × (is_void t ≡ false) × (IsPlainName d.members name then Is (codes ";")) ts × (e ≡ made i name))

  no_bracket : (ts us vs : List Tok) → HasToken (λ x. x ≡ ts) → has (codes "(") (ts ++ us) ≡ has (codes "(") (ts ++ vs)
  no_bracket [] us vs some = absurd (some refl)
  no_bracket (t ∷ ts) us vs some = refl

  plain_behind : (name : List ℕ) (t : Ty) → is_void t ≡ false → Reads (member_behind line struct d t) (made i name) (IsPlainName d.members name then Is (codes ";"))
  plain_behind name t v ts us (f, b, (none, (k, fresh, g)), end, w) =
      let whole : ts ++ us ≡ k ∷ (b ++ us) = ap (λ x. x ++ us) (w ∙ ap (λ x. x ++ b) g) in
      let first : has (codes "(") (k ∷ (b ++ us)) ≡ false = subst (λ x. has (codes "(") x ≡ false) g none in
      ap (member_behind line struct d t) whole
      ∙ ap (λ a. behind_by a (is_void t) t (k ∷ (b ++ us))) first
      ∙ ap (λ a. behind_by false a t (k ∷ (b ++ us))) v
      ∙ ap (plain_member_at d) (sym whole)
      ∙ plain_read d name ts us (f, b, (k, fresh, g), end, w)

  slot_behind_type : (s : Slot) → s.line ≡ line → Reads (member_behind line struct d s.ret) (made (with_member struct index i (Holds s)) s.name) (SlotPart s)
  slot_behind_type s at ts us (f, b, (f1, b1, (t, h, g), more, w1), rest, w) =
      let whole : ts ++ us ≡ t ∷ ((b1 ++ b) ++ us) = ap (λ x. x ++ us) (w ∙ ap (λ x. x ++ b) (w1 ∙ ap (λ x. x ++ b1) g)) in
      ap (member_behind line struct d s.ret) whole
      ∙ ap (λ a. behind_by a (is_void s.ret) s.ret (t ∷ ((b1 ++ b) ++ us))) h
      ∙ ap (slot_member_at line struct d s.ret) (sym whole)
      ∙ slot_read s at ts us (f, b, (f1, b1, (t, h, g), more, w1), rest, w)

  plain_made : (t : Ty) (e : Declared) (ts us : List Tok) → has (codes "(") ts ≡ false → is_void t ≡ false → FoundBehind (PlainParts d e) ts us → FoundBehind (BehindType t e) ts us
  plain_made t e ts us h v (front, (n, (f, b, (k, fresh, g), (u, end, eq), w0)), w) =
      let whole : ts ≡ k ∷ (b ++ us) = w ∙ ap (λ x. x ++ us) (w0 ∙ ap (λ x. x ++ b) g) in
      let first : has (codes "(") (k ∷ []) ≡ false = subst (λ x. has (codes "(") x ≡ false) whole h in
      (front, inr (n, v, (f, b, (subst (λ x. has (codes "(") x ≡ false) (sym g) first, (k, fresh, g)), end, w0), sym eq), w)

  behind_step : (t : Ty) (e : Declared) (ts us : List Tok) (a b : Bool) → has (codes "(") ts ≡ a → is_void t ≡ b → behind_by a b t ts ≡ Ok (e, us) → FoundBehind (BehindType t e) ts us
  behind_step t e ts us true b h v is = let w = slot_found t ts us e is in (w.0, inl w.1, w.2)
  behind_step t e ts us false true h v is = cc
  behind_step t e ts us false false h v is = plain_made t e ts us h v (plain_found d ts us e is)

  behind_found : (t : Ty) → Finds (member_behind line struct d t) (BehindType t)
  behind_found t ts us e is = behind_step t e ts us (has (codes "(") ts) (is_void t) refl refl is

  -- Members.

  slot_some : (s : Slot) → HasToken (SlotPart s)
  slot_some s = then_some (IsSlotName i d.members s.name) _ (then_some (Is (codes "(")) _ (is_one (codes "(")))

  plain_some : (name : List ℕ) → HasToken (IsPlainName d.members name then Is (codes ";"))
  plain_some name = then_some (IsPlainName d.members name) (Is (codes ";")) (λ (none, fresh). fresh_some d.members name fresh)

  behind_some : (t : Ty) (e : Declared) → HasToken (BehindType t e)
  behind_some t e (inl (s, at, same, is, eq)) = slot_some s is
  behind_some t e (inr (name, v, is, eq)) = plain_some name is

  abbrev member_of : Ty × List Tok → Read Declared
  member_of t = member_behind line struct d t.0 t.1

  -- the tokens of a member are read as it
  pub member_read : (m : Member) → MemberInLine line m → Reads (member_at line struct d) (made (with_member struct index i m) (name_of m)) (IsMember i d.members m)
  unfolding member_at
  member_read (Plain name) at ts us (t, (v, is)) = typed_read member_of t (made i name) (IsPlainName d.members name then Is (codes ";")) (plain_some name) (plain_behind name t v) ts us is
  member_read (Holds s) at ts us is = typed_read member_of s.ret (made (with_member struct index i (Holds s)) s.name) (SlotPart s) (slot_some s) (slot_behind_type s at) ts us is

  -- what is read as a member is one
  abbrev pub FoundMember : Declared → Part
  FoundMember e ts = (m : Member) × MemberInLine line m × IsMember i d.members m ts × (e ≡ made (with_member struct index i m) (name_of m))

  member_by : (e : Declared) (ts : List Tok) (t : Ty) (rest : List Tok) → type_at ts ≡ Ok (t, rest) → BehindType t e rest → FoundMember e ts
  member_by e ts t rest read (inl (s, at, same, is, eq)) = (Holds s, at, subst (λ r. Typed r (SlotPart s) ts) (sym same) (rest, read, is), eq)
  member_by e ts t rest read (inr (name, v, is, eq)) = (Plain name, tt, (t, (v, (rest, read, is))), eq)

  member_made : (e : Declared) (ts : List Tok) → Before member_of BehindType e ts → FoundMember e ts
  member_made e ts (t, (rest, read, is)) = member_by e ts t rest read is

  pub member_found : Finds (member_at line struct d) FoundMember
  unfolding member_at
  member_found ts us e is = let w = typed_found member_of BehindType behind_some behind_found ts us e is in (w.0, member_made e w.0 w.1, w.2)
