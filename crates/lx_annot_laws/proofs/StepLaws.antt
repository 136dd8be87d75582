-- What stands next: reading and the grammar agree.
use Rattle.std.proofs.Common.{◌≡◌, ℕ, Bool, true, false, Option, Some, None, List, [], ◌∷◌, ◌++◌, length, Ok, Err, ◌⊎◌, inl, inr, refl, sym, ap, ◌∙◌, subst, append_assoc, codes}
use Rattle.std.specs.Prelude.{if◌then◌else◌}
use Rattle.std.proofs.lemmas.Bool.{and_from, and_parts}
use Rattle.lx_annot.specs.declared.expr.Ty.{Ty}
use Rattle.lx_annot.specs.declared.interface.CapIterator.{CapIterator}
use Rattle.lx_annot.specs.declared.interface.Export.{Export}
use Rattle.lx_annot.specs.declared.interface.Interface.{Interface}
use Rattle.lx_annot_expressions.specs.Tokens.{Tok}
use Rattle.lx_annot_expressions.specs.Reading.{Read, ◌>>=◌, has, behind}
use Rattle.lx_annot_expressions.specs.Grammar.{Part, Is, ◌then◌}
use Rattle.lx_annot_expressions.proofs.Parts.{bind_ok, ok_same, next_token}
use Rattle.lx_annot_terms.proofs.ListReads.{other_text}
use Rattle.lx_annot_read.specs.declared.head.Version.TheVariants as versions
use Rattle.lx_annot_read.specs.Interfaces.{iterator_names, with_reftype, with_iterator, with_export, iterator_at}
use Rattle.lx_annot_laws.specs.Statements.{IsFresh, IsIteratorBody}
use Rattle.lx_cproto.specs.Types.{type_at}
use Rattle.lx_cproto.specs.Statements.{Declared, now, may_use, prototype_at, reftype_statement_at, begins_struct, opened, closed, opening_at, closing_at, member_at, inside_at, with_interface, outside_at, step_by, step_at}
use Rattle.lx_annot_laws.specs.PrototypeParts.{Typed}
use Rattle.lx_annot_laws.specs.Declarations.{Member, Declaration, OfReftype, OfIterator, OfPrototype, OfStruct, name_of, with_member, IsMember, MemberInLine, IsOpening, IsClosing, IsPlain, IsInLine, with_plain}
use Rattle.lx_annot_laws.proofs.DeclarationLaws.{FoundBehind, Behind, word_behind, behind_word, reftype_read, reftype_found, iterator_read, iterator_found, prototype_behind, PrototypePart, prototype_read, prototype_found, prototype_long, no_brace, no_reftype, no_iterator, type_begins, begins_front, opening_read, opening_found, closing_read, closing_found, made, member_read, FoundMember, member_found}

abbrev outside_by : ℕ → Declared → List Tok → Bool → Bool → Bool → Read Declared
outside_by line d ts a b c =
    if a then with_interface d (reftype_statement_at d.interface (behind ts))
    else if b then with_interface d (iterator_at versions.Two line d.interface (behind ts))
    else if c then opening_at d (behind ts)
    else with_interface d (prototype_at line d.interface ts)

outside_is : (line : ℕ) (d : Declared) (ts : List Tok) (a b c : Bool) → has (codes "reftype") ts ≡ a → has (codes "iterator") ts ≡ b → begins_struct ts ≡ c → outside_at line d ts ≡ outside_by line d ts a b c
outside_is line d ts a b c ha hb hc =
    ap (λ x. outside_by line d ts x (has (codes "iterator") ts) (begins_struct ts)) ha
    ∙ ap (λ x. outside_by line d ts a x (begins_struct ts)) hb
    ∙ ap (λ x. outside_by line d ts a b x) hc

module _ (line : ℕ) (d : Declared) where
  abbrev i : Interface
  i = d.interface

  -- Outside.

  step_outside : d.inside ≡ None → (ts : List Tok) → step_at line d ts ≡ outside_at line d ts
  unfolding step_at
  step_outside o ts = ap (λ x. step_by x line d ts) o

  with_read : (r : Read Interface) (j : Interface) (us : List Tok) → r ≡ Ok (j, us) → with_interface d r ≡ Ok (now d j, us)
  with_read r j us e = ap (with_interface d) e

  type_of_prototype : (ts us : List Tok) (j : Interface) → prototype_at line i ts ≡ Ok (j, us) → (x : Ty) × (rest : List Tok) × (type_at ts ≡ Ok (x, rest))
  unfolding prototype_at
  type_of_prototype ts us j e = let a = bind_ok (type_at ts) (prototype_behind i line) (j, us) e in (a.0.0, a.0.1, a.1)

  plain_outside : (x : Declaration) (ts us : List Tok) → IsInLine line x → IsPlain i x ts → outside_at line d (ts ++ us) ≡ Ok (now d (with_plain i x), us)
  plain_outside (OfReftype name) ts us l is =
      let (t, vs, h, p, w) = word_behind (codes "reftype") _ ts us is in
      let ws = t ∷ (vs ++ us) in
      ap (outside_at line d) w ∙ outside_is line d ws true (has (codes "iterator") ws) (begins_struct ws) h refl refl ∙ with_read (reftype_statement_at i (vs ++ us)) (with_reftype i name) us (reftype_read i name vs us p)
  plain_outside (OfIterator x) ts us l is =
      let (t, vs, h, p, w) = word_behind (codes "iterator") _ ts us is in
      let ws = t ∷ (vs ++ us) in
      let read : iterator_at versions.Two line i (vs ++ us) ≡ Ok (with_iterator i x, us) = subst (λ n. iterator_at versions.Two n i (vs ++ us) ≡ Ok (with_iterator i x, us)) l (iterator_read i x vs us p) in
      ap (outside_at line d) w ∙ outside_is line d ws false true (begins_struct ws) (other_text (codes "iterator") (codes "reftype") ws h refl) h refl ∙ with_read (iterator_at versions.Two line i (vs ++ us)) (with_iterator i x) us read
  plain_outside (OfPrototype x) ts us l (none, is) =
      let read : prototype_at line i (ts ++ us) ≡ Ok (with_export i x, us) = subst (λ n. prototype_at n i (ts ++ us) ≡ Ok (with_export i x, us)) l (prototype_read i x ts us is) in
      let (t, rest, of_type) = type_of_prototype (ts ++ us) us (with_export i x) read in
      outside_is line d (ts ++ us) false false false (type_begins (codes "reftype") (ts ++ us) rest t no_reftype of_type) (type_begins (codes "iterator") (ts ++ us) rest t no_iterator of_type) (begins_front ts us (prototype_long i x ts is) ∙ none)
      ∙ with_read (prototype_at line i (ts ++ us)) (with_export i x) us read
  plain_outside (OfStruct name ms) ts us l is = absurd is

  pub plain_step : d.inside ≡ None → (x : Declaration) (ts us : List Tok) → IsInLine line x → IsPlain i x ts → step_at line d (ts ++ us) ≡ Ok (now d (with_plain i x), us)
  plain_step o x ts us l is = step_outside o (ts ++ us) ∙ plain_outside x ts us l is

  pub opening_step : d.inside ≡ None → (name : List ℕ) (ts us : List Tok) → IsOpening d.structs name ts → step_at line d (ts ++ us) ≡ Ok (opened d name, us)
  opening_step o name ts us (f, b, (t, h, g), (f1, b1, (n, fresh, g1), (c, brace, g2), w1), w) =
      let vs : List Tok = n ∷ c ∷ [] in
      let back : b ≡ vs = w1 ∙ (λ i. g1 i ++ g2 i) in
      let whole : ts ++ us ≡ t ∷ n ∷ c ∷ us = ap (λ x. x ++ us) (w ∙ (λ i. g i ++ back i)) in
      let ws = t ∷ n ∷ c ∷ us in
      let begins : begins_struct ws ≡ true = and_from (has (codes "struct") (t ∷ [])) (has (codes "{") (c ∷ [])) h brace in
      step_outside o (ts ++ us) ∙ ap (outside_at line d) whole
      ∙ outside_is line d ws false false true (other_text (codes "struct") (codes "reftype") ws h refl) (other_text (codes "struct") (codes "iterator") ws h refl) begins
      ∙ opening_read d name vs us (n ∷ [], c ∷ [], (n, fresh, refl), (c, brace, refl), refl)

  -- what stands next outside structs
  pub data FoundOutside (e : Declared) (ts us : List Tok) : Type 0 where
    IsDeclared : (x : Declaration) → IsInLine line x → (front : List Tok) → IsPlain i x front → ts ≡ front ++ us → e ≡ now d (with_plain i x) → FoundOutside e ts us
    Opens : (name : List ℕ) → (front : List Tok) → IsOpening d.structs name front → ts ≡ front ++ us → e ≡ opened d name → FoundOutside e ts us

  with_ok : (r : Read Interface) (e : Declared) (us : List Tok) → with_interface d r ≡ Ok (e, us) → (j : Interface) × (r ≡ Ok (j, us)) × (e ≡ now d j)
  with_ok r e us is =
      let a = bind_ok r (λ j. Ok (now d j.0, j.1)) (e, us) is in
      let k = ok_same (now d a.0.0) e a.0.1 us a.2 in
      (a.0.0, a.1 ∙ ap (λ y. Ok (a.0.0, y)) k.1, sym k.0)

  reftype_step : (e : Declared) (ts us : List Tok) → has (codes "reftype") ts ≡ true → with_interface d (reftype_statement_at i (behind ts)) ≡ Ok (e, us) → FoundOutside e ts us
  reftype_step e ts us h is =
      let (j, r, made_e) = with_ok (reftype_statement_at i (behind ts)) e us is in
      let (front, (name, p, eq), w) = reftype_found i (behind ts) us j r in
      let (all, found, whole) = behind_word (codes "reftype") (IsFresh i.reftypes name then Is (codes ";")) ts us h (front, p, w) in
      IsDeclared (OfReftype name) tt all found whole (made_e ∙ ap (now d) eq)

  iterator_step : (e : Declared) (ts us : List Tok) → has (codes "iterator") ts ≡ true → with_interface d (iterator_at versions.Two line i (behind ts)) ≡ Ok (e, us) → FoundOutside e ts us
  iterator_step e ts us h is =
      let (j, r, made_e) = with_ok (iterator_at versions.Two line i (behind ts)) e us is in
      let (front, (n, (f, b, fresh, (items, body, eq), e1)), w) = iterator_found i line (behind ts) us j r in
      let x : CapIterator = record { name = n; items = items; line = line } in
      let (all, found, whole) = behind_word (codes "iterator") (IsFresh (iterator_names i) n then IsIteratorBody (may_use i) items) ts us h (front, (f, b, fresh, body, e1), w) in
      IsDeclared (OfIterator x) refl all found whole (made_e ∙ ap (now d) (sym eq))

  opens : (e : Declared) (ts us : List Tok) → begins_struct ts ≡ true → opening_at d (behind ts) ≡ Ok (e, us) → FoundOutside e ts us
  opens e ts us h is =
      let (front, (n, (f, b, fresh, (u, brace, eq), e1)), w) = opening_found d (behind ts) us e is in
      let (all, found, whole) = behind_word (codes "struct") (IsFresh d.structs n then Is (codes "{")) ts us (and_parts (has (codes "struct") ts) (has (codes "{") (behind (behind ts))) h).0 (front, (f, b, fresh, brace, e1), w) in
      Opens n all found whole (sym eq)

  prototype_step : (e : Declared) (ts us : List Tok) → begins_struct ts ≡ false → with_interface d (prototype_at line i ts) ≡ Ok (e, us) → FoundOutside e ts us
  prototype_step e ts us h is =
      let (j, r, made_e) = with_ok (prototype_at line i ts) e us is in
      let (front, (x, at, typed, eq), w) = prototype_found i line ts us j r in
      let none : begins_struct front ≡ false = sym (begins_front front us (prototype_long i x front typed)) ∙ ap begins_struct (sym w) ∙ h in
      IsDeclared (OfPrototype x) at front (none, typed) w (made_e ∙ ap (now d) eq)

  outside_step : (e : Declared) (ts us : List Tok) (a b c : Bool) → has (codes "reftype") ts ≡ a → has (codes "iterator") ts ≡ b → begins_struct ts ≡ c → outside_by line d ts a b c ≡ Ok (e, us) → FoundOutside e ts us
  outside_step e ts us true b c ha hb hc is = reftype_step e ts us ha is
  outside_step e ts us false true c ha hb hc is = iterator_step e ts us hb is
  outside_step e ts us false false true ha hb hc is = opens e ts us hc is
  outside_step e ts us false false false ha hb hc is = prototype_step e ts us hc is

  pub outside_found : d.inside ≡ None → (e : Declared) (ts us : List Tok) → step_at line d ts ≡ Ok (e, us) → FoundOutside e ts us
  outside_found o e ts us is =
      outside_step e ts us (has (codes "reftype") ts) (has (codes "iterator") ts) (begins_struct ts) refl refl refl
      (sym (outside_is line d ts (has (codes "reftype") ts) (has (codes "iterator") ts) (begins_struct ts) refl refl refl) ∙ sym (step_outside o ts) ∙ is)

  -- Inside a struct.

  step_inside : (s : List ℕ) → d.inside ≡ Some s → (ts : List Tok) → step_at line d ts ≡ inside_at line s d ts
  unfolding step_at
  step_inside s o ts = ap (λ x. step_by x line d ts) o

  abbrev inside_by : List ℕ → List Tok → Bool → Read Declared
  inside_by s ts b = if b then closing_at d (behind ts) else member_at line s d ts

  pub closing_step : (s : List ℕ) → d.inside ≡ Some s → (ts us : List Tok) → IsClosing ts → step_at line d (ts ++ us) ≡ Ok (closed d, us)
  closing_step s o ts us is =
      let (t, vs, h, p, w) = word_behind (codes "}") _ ts us is in
      step_inside s o (ts ++ us) ∙ ap (inside_at line s d) w ∙ ap (inside_by s (t ∷ (vs ++ us))) h ∙ closing_read d vs us p

  type_of_member : (s : List ℕ) (ts us : List Tok) (e : Declared) → member_at line s d ts ≡ Ok (e, us) → (x : Ty) × (rest : List Tok) × (type_at ts ≡ Ok (x, rest))
  unfolding member_at
  type_of_member s ts us e is = let a = bind_ok (type_at ts) _ (e, us) is in (a.0.0, a.0.1, a.1)

  pub member_step : (s : List ℕ) → d.inside ≡ Some s → (m : Member) (ts us : List Tok) → MemberInLine line m → IsMember i d.members m ts → step_at line d (ts ++ us) ≡ Ok (made line s d (with_member s (length d.members) i m) (name_of m), us)
  member_step s o m ts us l is =
      let e = made line s d (with_member s (length d.members) i m) (name_of m) in
      let read : member_at line s d (ts ++ us) ≡ Ok (e, us) = member_read line s d m l ts us is in
      let (t, rest, of_type) = type_of_member s (ts ++ us) us e read in
      step_inside s o (ts ++ us) ∙ ap (inside_by s (ts ++ us)) (type_begins (codes "}") (ts ++ us) rest t no_brace of_type) ∙ read

  -- what stands next inside a struct
  pub data FoundInside (s : List ℕ) (e : Declared) (ts us : List Tok) : Type 0 where
    Closes : (front : List Tok) → IsClosing front → ts ≡ front ++ us → e ≡ closed d → FoundInside s e ts us
    Adds : (m : Member) → MemberInLine line m → (front : List Tok) → IsMember i d.members m front → ts ≡ front ++ us → e ≡ made line s d (with_member s (length d.members) i m) (name_of m) → FoundInside s e ts us

  inside_step : (s : List ℕ) (e : Declared) (ts us : List Tok) (b : Bool) → has (codes "}") ts ≡ b → inside_by s ts b ≡ Ok (e, us) → FoundInside s e ts us
  inside_step s e ts us true h is =
      let (front, (u, end, eq), w) = closing_found d (behind ts) us e is in
      let (all, found, whole) = behind_word (codes "}") (Is (codes ";")) ts us h (front, end, w) in
      Closes all found whole (sym eq)
  inside_step s e ts us false h is =
      let (front, (m, l, found, eq), w) = member_found line s d ts us e is in
      Adds m l front found w eq

  pub inside_found : (s : List ℕ) → d.inside ≡ Some s → (e : Declared) (ts us : List Tok) → step_at line d ts ≡ Ok (e, us) → FoundInside s e ts us
  inside_found s o e ts us is = inside_step s e ts us (has (codes "}") ts) refl (sym (step_inside s o ts) ∙ is)
