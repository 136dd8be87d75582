-- Statements: reading and the grammar agree.
use Rattle.std.proofs.Common.{◌≡◌, ℕ, Bool, true, false, List, [], ◌∷◌, ◌++◌, Ok, Err, refl, sym, ap, ◌∙◌, subst, append_assoc, codes}
use Rattle.std.specs.Prelude.{if◌then◌else◌}
use Rattle.lx_annot.specs.declared.interface.Item.{Item}
use Rattle.lx_annot.specs.declared.interface.CapIterator.{CapIterator}
use Rattle.lx_annot.specs.declared.interface.Slot.{Slot}
use Rattle.lx_annot.specs.declared.interface.Field.{Field}
use Rattle.lx_annot.specs.declared.interface.Export.{Export}
use Rattle.lx_annot.specs.declared.interface.Interface.{Interface}
use Rattle.lx_annot.specs.declared.action.Annotation.{Annotation}
use Rattle.lx_annot_expressions.specs.declared.fault.FaultKind.TheVariants.{Twice, Unknown}
use Rattle.lx_annot_expressions.specs.Tokens.{Tok}
use Rattle.lx_annot_expressions.specs.Reading.{Read, ◌>>=◌, at, refused, has, behind, next_at, always_refused, unless_word, number_of, number_at}
use Rattle.lx_annot_expressions.specs.Names.{known_of, known_at, fresh_of, fresh_at}
use Rattle.lx_annot_expressions.specs.Exprs.{Scope}
use Rattle.lx_annot_expressions.specs.Grammar.{Part, Is, ◌then◌}
use Rattle.lx_annot_expressions.specs.Laws.{Reads, Finds}
use Rattle.lx_annot_expressions.proofs.Parts.{bind_ok, ok_same, pick_reads, pick_finds, next_reads, next_finds, next_token, bind_reads, last_reads, bind_finds, last_finds, Joint, Mapped}
use Rattle.lx_annot_terms.specs.Lists.{Known}
use Rattle.lx_annot_terms.specs.Signatures.{Signature, signature_at, param_name_at}
use Rattle.lx_annot_terms.specs.Clauses.{begins_clause, clauses_at}
use Rattle.lx_annot_terms.specs.ItemReading.{scope_of_items, items_at}
use Rattle.lx_annot_terms.specs.Grammar.{IsKnown}
use Rattle.lx_annot_terms.proofs.ListReads.{other_text}
use Rattle.lx_annot_read.specs.declared.draft.Callable.{Callable}
use Rattle.lx_annot_read.specs.declared.head.Version.{Version}
use Rattle.lx_annot_read.specs.Interfaces.{iterator_names, slot_names, export_names, known_in, is_typed, with_reftype, with_iterator, with_slot, with_field, with_export, reftype_at, iterator_body_at, iterator_at, callable_at, slot_at, export_at, struct_of_kind, struct_at, greatest_index, untyped, index_at, field_at, statement_at}
use Rattle.lx_annot_laws.specs.Parts.{IsParamName, IsItems, IsSignature, IsAnnotation}
use Rattle.lx_annot_laws.specs.Statements.{Statement, OfReftype, OfIterator, OfSlot, OfField, OfExport, IsFresh, IsIteratorBody, IsCallable, IsStruct, IsIndex, IsField, IsStatement, IsInLine, with_statement}
use Rattle.lx_annot_laws.proofs.Mapping.{mapped_is}
use Rattle.lx_annot_laws.proofs.SignatureLaws.{name_read, name_found, signature_read, signature_found}
use Rattle.lx_annot_laws.proofs.ItemLaws.{items_before, items_found}
use Rattle.lx_annot_laws.proofs.ClauseLaws.{annotation_read, annotation_found}

-- A rule, and what is read behind it before these tokens.
bind_to : {A B : Type 0} (read : List Tok → Read A) (g : A × List Tok → Read B) (x : A) (y : B) (p q : Part) (us : List Tok) → Reads read x p → ((ts : List Tok) → q ts → g (x, ts ++ us) ≡ Ok (y, us)) → (ts : List Tok) → (p then q) ts → (read (ts ++ us) >>= g) ≡ Ok (y, us)
bind_to read g x y p q us h k ts (front, back, a, b, e) = rw (e, append_assoc front back us, h front (back ++ us) a) (k back b)

-- Iterators.

abbrev closed_items : Read (List Item) → Read (List Item)
closed_items r = r >>= λ items. next_at (codes "}") items.1 >>= λ e. Ok (items.0, e.1)

abbrev items_closed : Scope → Known → List Tok → Read (List Item)
items_closed scope known ts = closed_items (items_at scope known ts)

items_then : (scope : Scope) (known : Known) (items : List Item) → Reads (items_closed scope known) items (IsItems scope known items then Is (codes "}"))
items_then scope known items ts us (f, b, is, (t, h, g), w) =
    let whole : ts ++ us ≡ f ++ (t ∷ us) = ap (λ x. x ++ us) (w ∙ ap (λ x. f ++ x) g) ∙ append_assoc f (t ∷ []) us in
    let all = items_before scope known items f (t ∷ us) h is in
    let end : next_at (codes "}") (t ∷ us) ≡ Ok (tt, us) = next_reads (codes "}") (t ∷ []) us (t, h, refl) in
    ap (items_closed scope known) whole ∙ ap closed_items all ∙ mapped_is (λ (e : Unit {0}). items) (next_at (codes "}") (t ∷ us)) tt us end

pub body_read : (known : Known) (items : List Item) → Reads (iterator_body_at known) items (IsIteratorBody known items)
unfolding iterator_body_at
body_read known items ts us (p, is) =
    bind_reads (next_at (codes "(")) (λ o. param_name_at [] o.1 >>= λ p. next_at (codes ")") p.1 >>= λ c. next_at (codes "{") c.1 >>= λ b. items_closed (scope_of_items p.0) known b.1) tt items _ _ (next_reads (codes "("))
    (bind_reads (param_name_at []) (λ p. next_at (codes ")") p.1 >>= λ c. next_at (codes "{") c.1 >>= λ b. items_closed (scope_of_items p.0) known b.1) p items _ _ (name_read [] p)
    (bind_reads (next_at (codes ")")) (λ c. next_at (codes "{") c.1 >>= λ b. items_closed (scope_of_items p) known b.1) tt items _ _ (next_reads (codes ")"))
    (bind_reads (next_at (codes "{")) (λ b. items_closed (scope_of_items p) known b.1) tt items _ _ (next_reads (codes "{")) (items_then (scope_of_items p) known items)))) ts us is

abbrev BodyParts : Known → List Item → Part
BodyParts known =
    Joint (λ (o : Unit {0}). Is (codes "(")) (λ o. Joint (IsParamName []) (λ p. Joint (λ (c : Unit {0}). Is (codes ")")) (λ c. Joint (λ (b : Unit {0}). Is (codes "{")) (λ b. Joint (IsItems (scope_of_items p) known) (λ items. Mapped (λ (e : Unit {0}). items) (λ e. Is (codes "}")))))))

body_part : (known : Known) (items : List Item) (ts : List Tok) → BodyParts known items ts → IsIteratorBody known items ts
body_part known items ts (o, (f, b, po, (p, (f1, b1, pp, (c, (f2, b2, pc, (d, (f3, b3, pd, (x, (f4, b4, px, (e, pe, eq), w4)), w3)), w2)), w1)), w)) =
    subst (λ z. IsIteratorBody known z ts) eq (p, (f, b, po, (f1, b1, pp, (f2, b2, pc, (f3, b3, pd, (f4, b4, px, pe, w4), w3), w2), w1), w))

pub body_found : (known : Known) → Finds (iterator_body_at known) (IsIteratorBody known)
unfolding iterator_body_at
body_found known ts us items r =
    let m = bind_finds (next_at (codes "(")) (λ o. param_name_at [] o.1 >>= λ p. next_at (codes ")") p.1 >>= λ c. next_at (codes "{") c.1 >>= λ b. items_closed (scope_of_items p.0) known b.1) (λ (o : Unit {0}). Is (codes "(")) _ (next_finds (codes "("))
    (λ o. bind_finds (param_name_at []) (λ p. next_at (codes ")") p.1 >>= λ c. next_at (codes "{") c.1 >>= λ b. items_closed (scope_of_items p.0) known b.1) (IsParamName []) _ (name_found [])
    (λ p. bind_finds (next_at (codes ")")) (λ c. next_at (codes "{") c.1 >>= λ b. items_closed (scope_of_items p) known b.1) (λ (c : Unit {0}). Is (codes ")")) _ (next_finds (codes ")"))
    (λ c. bind_finds (next_at (codes "{")) (λ b. items_closed (scope_of_items p) known b.1) (λ (b : Unit {0}). Is (codes "{")) _ (next_finds (codes "{"))
    (λ b. bind_finds (items_at (scope_of_items p) known) (λ items. next_at (codes "}") items.1 >>= λ e. Ok (items.0, e.1)) (IsItems (scope_of_items p) known) _ (items_found (scope_of_items p) known)
    (λ items. last_finds (next_at (codes "}")) (λ e. items) (λ (e : Unit {0}). Is (codes "}")) (next_finds (codes "}"))))))) ts us items r in
    (m.0, body_part known items m.0 m.1, m.2)

-- Slots and exports.

abbrev callable : Signature → Annotation → Callable
callable sig a = record { signature = sig; annotation = a }

callable_read : (known : Known) (sig : Signature) (a : Annotation) (us : List Tok) → begins_clause us ≡ false → (ts : List Tok) → IsCallable known sig a ts → callable_at known (ts ++ us) ≡ Ok (callable sig a, us)
unfolding callable_at
callable_read known sig a us h =
    bind_to signature_at (λ s. clauses_at s.0 known s.1 >>= λ a. Ok (callable s.0 a.0, a.1)) sig (callable sig a) (IsSignature sig) (IsAnnotation sig known a) us (signature_read sig)
    (λ ts is. mapped_is (λ (b : Annotation). callable sig b) (clauses_at sig known (ts ++ us)) a us (annotation_read sig known a ts us h is))

abbrev CallableParts : Known → Callable → Part
CallableParts known = Joint IsSignature (λ sig. Mapped (λ (a : Annotation). callable sig a) (IsAnnotation sig known))

callable_part : (known : Known) (c : Callable) (ts : List Tok) → CallableParts known c ts → IsCallable known c.signature c.annotation ts
callable_part known c ts (sig, (f, b, ps, (a, pa, eq), w)) = subst (λ (z : Callable). IsCallable known z.signature z.annotation ts) eq (f, b, ps, pa, w)

callable_found : (known : Known) → Finds (callable_at known) (λ c. IsCallable known c.signature c.annotation)
unfolding callable_at
callable_found known ts us c r =
    let m = bind_finds signature_at (λ s. clauses_at s.0 known s.1 >>= λ a. Ok (callable s.0 a.0, a.1)) IsSignature _ signature_found
    (λ sig. last_finds (clauses_at sig known) (λ a. callable sig a) (IsAnnotation sig known) (annotation_found sig known)) ts us c r in
    (m.0, callable_part known c m.0 m.1, m.2)

module _ (v : Version) (i : Interface) where
  fresh_read : (names : List (List ℕ)) (name : List ℕ) → Reads (fresh_at names) name (IsFresh names name)
  fresh_read names name = pick_reads (λ t. fresh_of names t.kind t.bytes) (unless_word Twice) name

  fresh_found : (names : List (List ℕ)) → Finds (fresh_at names) (IsFresh names)
  fresh_found names = pick_finds (λ t. fresh_of names t.kind t.bytes) (unless_word Twice)

  -- Each statement behind its word is read.

  reftype_read : (name : List ℕ) → Reads (reftype_at i) (with_reftype i name) (IsFresh i.reftypes name)
  unfolding reftype_at
  reftype_read name = last_reads (fresh_at i.reftypes) (λ n. with_reftype i n) name _ (fresh_read i.reftypes name)

  iterator_read : (x : CapIterator) → Reads (iterator_at v x.line i) (with_iterator i x) (IsFresh (iterator_names i) x.name then IsIteratorBody (known_in v i) x.items)
  unfolding iterator_at
  iterator_read x =
      bind_reads (fresh_at (iterator_names i)) (λ n. iterator_body_at (known_in v i) n.1 >>= λ items. Ok (with_iterator i (record { name = n.0; items = items.0; line = x.line }), items.1)) x.name (with_iterator i x) _ _ (fresh_read (iterator_names i) x.name)
      (last_reads (iterator_body_at (known_in v i)) (λ items. with_iterator i (record { name = x.name; items = items; line = x.line })) x.items _ (body_read (known_in v i) x.items))

  abbrev slot_of : List ℕ → ℕ → Callable → Slot
  slot_of name line c = record { name = name; params = c.signature.params; ret = c.signature.ret; annotation = c.annotation; line = line }

  abbrev export_of : List ℕ → ℕ → Callable → Export
  export_of name line c = record { name = name; params = c.signature.params; ret = c.signature.ret; annotation = c.annotation; line = line }

  slot_read : (x : Slot) (ts us : List Tok) → begins_clause us ≡ false → (IsFresh (slot_names i) x.name then IsCallable (known_in v i) (record { ret = x.ret; params = x.params }) x.annotation) ts → slot_at v x.line i (ts ++ us) ≡ Ok (with_slot i x, us)
  unfolding slot_at
  slot_read x ts us h is =
      let sig : Signature = record { ret = x.ret; params = x.params } in
      bind_to (fresh_at (slot_names i)) (λ n. callable_at (known_in v i) n.1 >>= λ f. Ok (with_slot i (slot_of n.0 x.line f.0), f.1)) x.name (with_slot i x) (IsFresh (slot_names i) x.name) (IsCallable (known_in v i) sig x.annotation) us (fresh_read (slot_names i) x.name)
      (λ vs p. mapped_is (λ (f : Callable). with_slot i (slot_of x.name x.line f)) (callable_at (known_in v i) (vs ++ us)) (callable sig x.annotation) us (callable_read (known_in v i) sig x.annotation us h vs p)) ts is

  export_read : (x : Export) (ts us : List Tok) → begins_clause us ≡ false → (IsFresh (export_names i) x.name then IsCallable (known_in v i) (record { ret = x.ret; params = x.params }) x.annotation) ts → export_at v x.line i (ts ++ us) ≡ Ok (with_export i x, us)
  unfolding export_at
  export_read x ts us h is =
      let sig : Signature = record { ret = x.ret; params = x.params } in
      bind_to (fresh_at (export_names i)) (λ n. callable_at (known_in v i) n.1 >>= λ f. Ok (with_export i (export_of n.0 x.line f.0), f.1)) x.name (with_export i x) (IsFresh (export_names i) x.name) (IsCallable (known_in v i) sig x.annotation) us (fresh_read (export_names i) x.name)
      (λ vs p. mapped_is (λ (f : Callable). with_export i (export_of x.name x.line f)) (callable_at (known_in v i) (vs ++ us)) (callable sig x.annotation) us (callable_read (known_in v i) sig x.annotation us h vs p)) ts is

  abbrev untyped_by : List Tok → ℕ → List Tok → Bool → Read ℕ
  untyped_by place n us b = if b then Err (at Twice place) else Ok (n, us)

  abbrev untyped_in : List Tok → List ℕ → Read ℕ → Read ℕ
  untyped_in place struct r = r >>= λ m. untyped i place struct m

  index_read : (place : List Tok) (struct : List ℕ) (n : ℕ) → is_typed i struct n ≡ false → Reads (index_at i place struct) n (IsIndex n)
  index_read place struct n h ts us is =
      ap (untyped_in place struct) (pick_reads (λ t. number_of greatest_index t.kind t.bytes) always_refused n ts us is) ∙ ap (untyped_by place n us) h

  abbrev field_of : List ℕ → ℕ → ℕ → ℕ → Field
  field_of name index slot line = record { name = name; index = index; slot = slot; line = line }

  field_read : (x : Field) → Reads (field_at x.line i) (with_field i x) (IsField i x)
  unfolding field_at
  field_read x ts us (h, is) =
      bind_reads struct_at (λ s. index_at i (ts ++ us) s.0 s.1 >>= λ k. next_at (codes ":") k.1 >>= λ c. known_at (slot_names i) c.1 >>= λ t. Ok (with_field i (field_of s.0 k.0 t.0 x.line), t.1)) x.name (with_field i x) _ _ (pick_reads (λ t. struct_of_kind t.kind t.bytes) always_refused x.name)
      (bind_reads (index_at i (ts ++ us) x.name) (λ k. next_at (codes ":") k.1 >>= λ c. known_at (slot_names i) c.1 >>= λ t. Ok (with_field i (field_of x.name k.0 t.0 x.line), t.1)) x.index (with_field i x) _ _ (index_read (ts ++ us) x.name x.index h)
      (bind_reads (next_at (codes ":")) (λ c. known_at (slot_names i) c.1 >>= λ t. Ok (with_field i (field_of x.name x.index t.0 x.line), t.1)) tt (with_field i x) _ _ (next_reads (codes ":"))
      (last_reads (known_at (slot_names i)) (λ t. with_field i (field_of x.name x.index t x.line)) x.slot _ (pick_reads (λ t. known_of (slot_names i) t.kind t.bytes) (unless_word Unknown) x.slot)))) ts us is

  -- The word of a statement.

  abbrev statement_by : ℕ → List Tok → Bool → Bool → Bool → Bool → Bool → Read Interface
  statement_by line ts a b c d e =
      if a then reftype_at i (behind ts)
      else if b then iterator_at v line i (behind ts)
      else if c then slot_at v line i (behind ts)
      else if d then field_at line i (behind ts)
      else if e then export_at v line i (behind ts)
      else refused ts

  statement_is : (line : ℕ) (ts : List Tok) (a b c d e : Bool) → has (codes "reftype") ts ≡ a → has (codes "iterator") ts ≡ b → has (codes "slot") ts ≡ c → has (codes "field") ts ≡ d → has (codes "export") ts ≡ e → statement_at v line i ts ≡ statement_by line ts a b c d e
  unfolding statement_at
  statement_is line ts a b c d e ha hb hc hd he =
      ap (λ x. statement_by line ts x (has (codes "iterator") ts) (has (codes "slot") ts) (has (codes "field") ts) (has (codes "export") ts)) ha
      ∙ ap (λ x. statement_by line ts a x (has (codes "slot") ts) (has (codes "field") ts) (has (codes "export") ts)) hb
      ∙ ap (λ x. statement_by line ts a b x (has (codes "field") ts) (has (codes "export") ts)) hc
      ∙ ap (λ x. statement_by line ts a b c x (has (codes "export") ts)) hd
      ∙ ap (λ x. statement_by line ts a b c d x) he

  abbrev behind_word : (text : List ℕ) (q : Part) (ts us : List Tok) → Type 0
  behind_word text q ts us = (t : Tok) × (vs : List Tok) × (has text (t ∷ (vs ++ us)) ≡ true) × q vs × (ts ++ us ≡ t ∷ (vs ++ us))

  word_behind : (text : List ℕ) (q : Part) (ts us : List Tok) → (Is text then q) ts → behind_word text q ts us
  word_behind text q ts us (f, b, (t, h, g), p, w) = (t, b, h, p, ap (λ x. x ++ us) (w ∙ ap (λ x. x ++ b) g))

  at_iterator : (line : ℕ) (ts : List Tok) → has (codes "iterator") ts ≡ true → statement_at v line i ts ≡ iterator_at v line i (behind ts)
  at_iterator line ts h = statement_is line ts false true (has (codes "slot") ts) (has (codes "field") ts) (has (codes "export") ts) (other_text (codes "iterator") (codes "reftype") ts h refl) h refl refl refl

  at_slot : (line : ℕ) (ts : List Tok) → has (codes "slot") ts ≡ true → statement_at v line i ts ≡ slot_at v line i (behind ts)
  at_slot line ts h = statement_is line ts false false true (has (codes "field") ts) (has (codes "export") ts) (other_text (codes "slot") (codes "reftype") ts h refl) (other_text (codes "slot") (codes "iterator") ts h refl) h refl refl

  at_field : (line : ℕ) (ts : List Tok) → has (codes "field") ts ≡ true → statement_at v line i ts ≡ field_at line i (behind ts)
  at_field line ts h =
      statement_is line ts false false false true (has (codes "export") ts) (other_text (codes "field") (codes "reftype") ts h refl) (other_text (codes "field") (codes "iterator") ts h refl) (other_text (codes "field") (codes "slot") ts h refl) h refl

  at_export : (line : ℕ) (ts : List Tok) → has (codes "export") ts ≡ true → statement_at v line i ts ≡ export_at v line i (behind ts)
  at_export line ts h =
      statement_is line ts false false false false true (other_text (codes "export") (codes "reftype") ts h refl) (other_text (codes "export") (codes "iterator") ts h refl) (other_text (codes "export") (codes "slot") ts h refl) (other_text (codes "export") (codes "field") ts h refl) h

  -- the tokens of a statement are read as it, where no further clause follows
  pub statement_read : (line : ℕ) (s : Statement) (ts us : List Tok) → begins_clause us ≡ false → IsInLine line s → IsStatement v i s ts → statement_at v line i (ts ++ us) ≡ Ok (with_statement i s, us)
  statement_read line (OfReftype name) ts us h l is =
      let (t, vs, o, p, w) = word_behind (codes "reftype") _ ts us is in
      ap (statement_at v line i) w ∙ statement_is line (t ∷ (vs ++ us)) true (has (codes "iterator") (t ∷ (vs ++ us))) (has (codes "slot") (t ∷ (vs ++ us))) (has (codes "field") (t ∷ (vs ++ us))) (has (codes "export") (t ∷ (vs ++ us))) o refl refl refl refl ∙ reftype_read name vs us p
  statement_read line (OfIterator x) ts us h l is =
      let (t, vs, o, p, w) = word_behind (codes "iterator") _ ts us is in
      ap (statement_at v line i) w ∙ at_iterator line (t ∷ (vs ++ us)) o ∙ subst (λ n. iterator_at v n i (vs ++ us) ≡ Ok (with_iterator i x, us)) l (iterator_read x vs us p)
  statement_read line (OfSlot x) ts us h l is =
      let (t, vs, o, p, w) = word_behind (codes "slot") _ ts us is in
      ap (statement_at v line i) w ∙ at_slot line (t ∷ (vs ++ us)) o ∙ subst (λ n. slot_at v n i (vs ++ us) ≡ Ok (with_slot i x, us)) l (slot_read x vs us h p)
  statement_read line (OfField x) ts us h l is =
      let (t, vs, o, p, w) = word_behind (codes "field") _ ts us is in
      ap (statement_at v line i) w ∙ at_field line (t ∷ (vs ++ us)) o ∙ subst (λ n. field_at n i (vs ++ us) ≡ Ok (with_field i x, us)) l (field_read x vs us p)
  statement_read line (OfExport x) ts us h l is =
      let (t, vs, o, p, w) = word_behind (codes "export") _ ts us is in
      ap (statement_at v line i) w ∙ at_export line (t ∷ (vs ++ us)) o ∙ subst (λ n. export_at v n i (vs ++ us) ≡ Ok (with_export i x, us)) l (export_read x vs us h p)

  -- What is read as a statement is in the grammar.

  pub record FoundStatement (line : ℕ) (j : Interface) (ts us : List Tok) : Type 0 where
    pub statement : Statement
    pub in_line : IsInLine line statement
    pub made : j ≡ with_statement i statement
    pub front : List Tok
    pub is : IsStatement v i statement front
    pub whole : ts ≡ front ++ us

  abbrev IteratorParts : ℕ → Interface → Part
  IteratorParts line = Joint (IsFresh (iterator_names i)) (λ n. Mapped (λ (items : List Item). with_iterator i (record { name = n; items = items; line = line })) (IsIteratorBody (known_in v i)))

  iterator_found : (line : ℕ) → Finds (iterator_at v line i) (IteratorParts line)
  unfolding iterator_at
  iterator_found line =
      bind_finds (fresh_at (iterator_names i)) (λ n. iterator_body_at (known_in v i) n.1 >>= λ items. Ok (with_iterator i (record { name = n.0; items = items.0; line = line }), items.1)) (IsFresh (iterator_names i)) _ (fresh_found (iterator_names i))
      (λ n. last_finds (iterator_body_at (known_in v i)) (λ items. with_iterator i (record { name = n; items = items; line = line })) (IsIteratorBody (known_in v i)) (body_found (known_in v i)))

  abbrev SlotParts : ℕ → Interface → Part
  SlotParts line = Joint (IsFresh (slot_names i)) (λ n. Mapped (λ (c : Callable). with_slot i (slot_of n line c)) (λ c. IsCallable (known_in v i) c.signature c.annotation))

  slot_found : (line : ℕ) → Finds (slot_at v line i) (SlotParts line)
  unfolding slot_at
  slot_found line =
      bind_finds (fresh_at (slot_names i)) (λ n. callable_at (known_in v i) n.1 >>= λ f. Ok (with_slot i (slot_of n.0 line f.0), f.1)) (IsFresh (slot_names i)) _ (fresh_found (slot_names i))
      (λ n. last_finds (callable_at (known_in v i)) (λ f. with_slot i (slot_of n line f)) (λ c. IsCallable (known_in v i) c.signature c.annotation) (callable_found (known_in v i)))

  abbrev ExportParts : ℕ → Interface → Part
  ExportParts line = Joint (IsFresh (export_names i)) (λ n. Mapped (λ (c : Callable). with_export i (export_of n line c)) (λ c. IsCallable (known_in v i) c.signature c.annotation))

  export_found : (line : ℕ) → Finds (export_at v line i) (ExportParts line)
  unfolding export_at
  export_found line =
      bind_finds (fresh_at (export_names i)) (λ n. callable_at (known_in v i) n.1 >>= λ f. Ok (with_export i (export_of n.0 line f.0), f.1)) (IsFresh (export_names i)) _ (fresh_found (export_names i))
      (λ n. last_finds (callable_at (known_in v i)) (λ f. with_export i (export_of n line f)) (λ c. IsCallable (known_in v i) c.signature c.annotation) (callable_found (known_in v i)))

  abbrev NewIndex : List ℕ → ℕ → Part
  NewIndex struct n ts = (is_typed i struct n ≡ false) × IsIndex n ts

  untyped_ok : (place : List Tok) (struct : List ℕ) (m n : ℕ) (vs us : List Tok) (b : Bool) → is_typed i struct m ≡ b → untyped_by place m vs b ≡ Ok (n, us) → (is_typed i struct n ≡ false) × (m ≡ n) × (vs ≡ us)
  untyped_ok place struct m n vs us true h r = cc
  untyped_ok place struct m n vs us false h r = let k = ok_same m n vs us r in (subst (λ x. is_typed i struct x ≡ false) k.0 h, k.0, k.1)

  index_found : (place : List Tok) (struct : List ℕ) → Finds (index_at i place struct) (NewIndex struct)
  index_found place struct ts us n r =
      let a = bind_ok (number_at greatest_index ts) (λ m. untyped i place struct m) (n, us) r in
      let w = pick_finds (λ t. number_of greatest_index t.kind t.bytes) always_refused ts a.0.1 a.0.0 a.1 in
      let k = untyped_ok place struct a.0.0 n a.0.1 us (is_typed i struct a.0.0) refl a.2 in
      (w.0, (k.0, subst (λ x. IsIndex x w.0) k.1 w.1), w.2 ∙ ap (λ x. w.0 ++ x) k.2)

  abbrev field_by : ℕ → List Tok → List Tok → Read Interface
  field_by line place ts = struct_at ts >>= λ s. index_at i place s.0 s.1 >>= λ k. next_at (codes ":") k.1 >>= λ c. known_at (slot_names i) c.1 >>= λ t. Ok (with_field i (field_of s.0 k.0 t.0 line), t.1)

  abbrev FieldParts : ℕ → Interface → Part
  FieldParts line = Joint IsStruct (λ s. Joint (NewIndex s) (λ k. Joint (λ (c : Unit {0}). Is (codes ":")) (λ c. Mapped (λ (t : ℕ). with_field i (field_of s k t line)) (IsKnown (slot_names i)))))

  field_found : (line : ℕ) (place : List Tok) → Finds (field_by line place) (FieldParts line)
  field_found line place =
      bind_finds struct_at (λ s. index_at i place s.0 s.1 >>= λ k. next_at (codes ":") k.1 >>= λ c. known_at (slot_names i) c.1 >>= λ t. Ok (with_field i (field_of s.0 k.0 t.0 line), t.1)) IsStruct _ (pick_finds (λ t. struct_of_kind t.kind t.bytes) always_refused)
      (λ s. bind_finds (index_at i place s) (λ k. next_at (codes ":") k.1 >>= λ c. known_at (slot_names i) c.1 >>= λ t. Ok (with_field i (field_of s k.0 t.0 line), t.1)) (NewIndex s) _ (index_found place s)
      (λ k. bind_finds (next_at (codes ":")) (λ c. known_at (slot_names i) c.1 >>= λ t. Ok (with_field i (field_of s k t.0 line), t.1)) (λ (c : Unit {0}). Is (codes ":")) _ (next_finds (codes ":"))
      (λ c. last_finds (known_at (slot_names i)) (λ t. with_field i (field_of s k t line)) (IsKnown (slot_names i)) (pick_finds (λ t. known_of (slot_names i) t.kind t.bytes) (unless_word Unknown)))))

  -- a statement, from what is found behind its word
  behind_found : (line : ℕ) (j : Interface) (text : List ℕ) (ts us : List Tok) (s : Statement) (q : Part) → ((k : Tok) (vs : List Tok) → has text (k ∷ []) ≡ true → q vs → IsStatement v i s (k ∷ vs)) → IsInLine line s → j ≡ with_statement i s → has text ts ≡ true → (vs : List Tok) → q vs → behind ts ≡ vs ++ us → FoundStatement line j ts us
  behind_found line j text ts us s q make l m h vs p w =
      let n = next_token text ts h in
      record { statement = s; in_line = l; made = m; front = n.token ∷ vs; is = make n.token vs n.is p; whole = n.whole ∙ ap (λ x. n.token ∷ x) w }

  reftype_statement : (line : ℕ) (j : Interface) (ts us : List Tok) → has (codes "reftype") ts ≡ true → reftype_at i (behind ts) ≡ Ok (j, us) → FoundStatement line j ts us
  unfolding reftype_at
  reftype_statement line j ts us h r =
      let m = last_finds (fresh_at i.reftypes) (λ n. with_reftype i n) (IsFresh i.reftypes) (fresh_found i.reftypes) (behind ts) us j r in
      behind_found line j (codes "reftype") ts us (OfReftype m.1.0) (IsFresh i.reftypes m.1.0) (λ k vs o p. (k ∷ [], vs, (k, o, refl), p, refl)) tt (sym m.1.2) h m.0 m.1.1 m.2

  abbrev FoundBehind : (Interface → Part) → Interface → List Tok → List Tok → Type 0
  FoundBehind part j ts us = (front : List Tok) × part j front × (behind ts ≡ front ++ us)

  iterator_made : (line : ℕ) (j : Interface) (ts us : List Tok) → has (codes "iterator") ts ≡ true → FoundBehind (IteratorParts line) j ts us → FoundStatement line j ts us
  iterator_made line j ts us h (front, (n, (f, b, pn, (items, is, eq), e)), w) =
      behind_found line j (codes "iterator") ts us (OfIterator (record { name = n; items = items; line = line })) (IsFresh (iterator_names i) n then IsIteratorBody (known_in v i) items) (λ k vs o p. (k ∷ [], vs, (k, o, refl), p, refl)) refl (sym eq) h front (f, b, pn, is, e) w

  slot_made : (line : ℕ) (j : Interface) (ts us : List Tok) → has (codes "slot") ts ≡ true → FoundBehind (SlotParts line) j ts us → FoundStatement line j ts us
  slot_made line j ts us h (front, (n, (f, b, pn, (c, is, eq), e)), w) =
      behind_found line j (codes "slot") ts us (OfSlot (slot_of n line c)) (IsFresh (slot_names i) n then IsCallable (known_in v i) c.signature c.annotation) (λ k vs o p. (k ∷ [], vs, (k, o, refl), p, refl)) refl (sym eq) h front (f, b, pn, is, e) w

  export_made : (line : ℕ) (j : Interface) (ts us : List Tok) → has (codes "export") ts ≡ true → FoundBehind (ExportParts line) j ts us → FoundStatement line j ts us
  export_made line j ts us h (front, (n, (f, b, pn, (c, is, eq), e)), w) =
      behind_found line j (codes "export") ts us (OfExport (export_of n line c)) (IsFresh (export_names i) n then IsCallable (known_in v i) c.signature c.annotation) (λ k vs o p. (k ∷ [], vs, (k, o, refl), p, refl)) refl (sym eq) h front (f, b, pn, is, e) w

  field_made : (line : ℕ) (j : Interface) (ts us : List Tok) → has (codes "field") ts ≡ true → FoundBehind (FieldParts line) j ts us → FoundStatement line j ts us
  field_made line j ts us h (front, (s, (f, b, ps, (k, (f1, b1, (new, pk), (c, (f2, b2, pc, (t, pt, eq), w2)), w1)), w)), e) =
      behind_found line j (codes "field") ts us (OfField (field_of s k t line)) (IsField i (field_of s k t line)) (λ u vs o p. (u ∷ [], vs, (u, o, refl), p, refl)) refl (sym eq) h front (new, (f, b, ps, (f1, b1, pk, (f2, b2, pc, pt, w2), w1), w)) e

  field_statement : (line : ℕ) (j : Interface) (ts us : List Tok) → has (codes "field") ts ≡ true → field_at line i (behind ts) ≡ Ok (j, us) → FoundStatement line j ts us
  unfolding field_at
  field_statement line j ts us h r = field_made line j ts us h (field_found line (behind ts) (behind ts) us j r)

  statement_step : (line : ℕ) (j : Interface) (ts us : List Tok) (a b c d e : Bool) → has (codes "reftype") ts ≡ a → has (codes "iterator") ts ≡ b → has (codes "slot") ts ≡ c → has (codes "field") ts ≡ d → has (codes "export") ts ≡ e → statement_by line ts a b c d e ≡ Ok (j, us) → FoundStatement line j ts us
  statement_step line j ts us true b c d e ha hb hc hd he r = reftype_statement line j ts us ha r
  statement_step line j ts us false true c d e ha hb hc hd he r = iterator_made line j ts us hb (iterator_found line (behind ts) us j r)
  statement_step line j ts us false false true d e ha hb hc hd he r = slot_made line j ts us hc (slot_found line (behind ts) us j r)
  statement_step line j ts us false false false true e ha hb hc hd he r = field_statement line j ts us hd r
  statement_step line j ts us false false false false true ha hb hc hd he r = export_made line j ts us he (export_found line (behind ts) us j r)
  statement_step line j ts us false false false false false ha hb hc hd he r = cc

  pub statement_found : (line : ℕ) (j : Interface) (ts us : List Tok) → statement_at v line i ts ≡ Ok (j, us) → FoundStatement line j ts us
  statement_found line j ts us r =
      statement_step line j ts us (has (codes "reftype") ts) (has (codes "iterator") ts) (has (codes "slot") ts) (has (codes "field") ts) (has (codes "export") ts) refl refl refl refl refl (sym (statement_is line ts (has (codes "reftype") ts) (has (codes "iterator") ts) (has (codes "slot") ts) (has (codes "field") ts) (has (codes "export") ts) refl refl refl refl refl) ∙ r)
