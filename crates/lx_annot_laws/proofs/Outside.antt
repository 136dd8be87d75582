-- What stands outside structs hangs on the tokens that it is, and on the one behind them. Whether a struct is declared, the third token
-- says: a token behind `struct` that is no word is refused either way.
use Rattle.std.proofs.Common.{◌≡◌, ℕ, suc, ◌≤◌, Bool, true, false, Option, Some, None, List, [], ◌∷◌, ◌++◌, length, Ok, Err, refl, sym, ap, ◌∙◌, subst, arith, bytes_eq, codes}
use Rattle.std.specs.Prelude.{if◌then◌else◌, ◌&&◌}
use Rattle.std.proofs.lemmas.Slice.Eq.{bytes_eq-Decides}
use Rattle.lx_words.specs.declared.token.TokenKind.{TokenKind}
use Rattle.lx_words.specs.declared.token.TokenKind.TheVariants as kinds
use Rattle.lx_annot.specs.declared.expr.Ty.{Ty}
use Rattle.lx_annot.specs.declared.interface.Interface.{Interface}
use Rattle.lx_annot_expressions.specs.Tokens.{Tok}
use Rattle.lx_annot_expressions.specs.declared.fault.Fault.{Fault}
use Rattle.lx_annot_expressions.specs.declared.fault.FaultKind.{FaultKind}
use Rattle.lx_annot_expressions.specs.declared.fault.FaultKind.TheVariants.{Statement, Twice}
use Rattle.lx_annot_expressions.specs.Reading.{Read, ◌>>=◌, at, refused, behind, has, picked, word_of, unless_word}
use Rattle.lx_annot_expressions.specs.Names.{fresh_of}
use Rattle.lx_annot_expressions.proofs.Parts.{ok_same, bind_ok}
use Rattle.lx_annot_read.specs.declared.head.Version.TheVariants as versions
use Rattle.lx_annot_read.specs.Interfaces.{iterator_at}
use Rattle.lx_cproto.specs.Types.{without_const, struct_at, type_at}
use Rattle.lx_cproto.specs.Statements.{Declared, now, prototype_at, reftype_statement_at, begins_struct, opening_at, with_interface, outside_at, step_by, step_at}
use Rattle.lx_annot_laws.specs.RefusedPartLaws.{is_refusal}
use Rattle.lx_annot_laws.proofs.Local.{Looks, has_looks, looks_on, nothing_looks, something_looks, Tidy, Bound, no_longer, Same, same_fault, Plain, pure_plain, if_plain, behind_local}
use Rattle.lx_annot_laws.proofs.Loops.{shorter, Hungry, then_hungry, if_hungry, behind_hungry}
use Rattle.lx_annot_laws.proofs.Statements.{iterator_plain}
use Rattle.lx_annot_laws.proofs.Types.{tail_at, tail_plain, struct_tail, struct_tail_plain, type_hungry, type_of_struct}
use Rattle.lx_annot_laws.proofs.PrototypeStatements.{behind_type, behind_type_plain, behind_type_hungry, prototype_is, prototype_from, prototype_plain, prototype_hungry, reftype_statement_plain, with_plain, brace_behind, brace_plain, opening_is, opening_plain, opening_hungry, inside_plain, inside_hungry}

-- a fault that stands further than the first token
too_far : {A : Type 0} (read : List Tok → Read A) → Plain read → (ts : List Tok) (f : Fault) → is_refusal f.kind ≡ true → read ts ≡ Err f → f.left ≡ suc (length ts) → ⊥
too_far read h ts f a e left = let s = h.stops ts f a e in absurd (omega (arith, no_longer s.0 ts s.1 s.2, s.3, left))

-- No word: neither a name nor `const`.

abbrev NoWord : Tok → Type 0
NoWord s = word_of s.kind s.bytes ≡ None

-- no word stands there, and it is refused as a token that no rule takes
abbrev NoWordAt : Tok → Fault → Type 0
NoWordAt s f = NoWord s × (f.kind ≡ Statement)

no_const_by : (s : Tok) (b : Bool) → (b ≡ true → s.kind ≡ kinds.Word) → NoWord s → b ≡ false
no_const_by s true word none = let w : word_of kinds.Word s.bytes ≡ None = subst (λ k. word_of k s.bytes ≡ None) (word refl) none in cc
no_const_by s false word none = refl

abbrev SameDeclaration : Read Declared → Read Declared → Type 0
SameDeclaration r s = r ≡ s

statement_met : (ts : List Tok) (f : Fault) → SameDeclaration (refused ts) (Err f) → f.kind ≡ Statement
statement_met ts f e = sym (ap (λ (g : Fault). g.kind) (same_fault {A = Declared} (at Statement ts) f e))

-- the name of a struct, where one is picked
abbrev struct_by : Option (List ℕ) → List Tok → Read (Option Ty)
struct_by o ts = picked o Statement ts >>= λ n. Ok (None, n.1)

module _ (line : ℕ) (d : Declared) where
  abbrev proto : List Tok → Read Declared
  proto ts = with_interface d (prototype_at line d.interface ts)

  proto_plain : Plain proto
  proto_plain = with_plain d (prototype_at line d.interface) (prototype_plain line d.interface)

  abbrev opens : List Tok → Read Declared
  opens ts = opening_at d (behind ts)

  opens_plain : Plain opens
  opens_plain = behind_local Same (opening_at d) (opening_at d) (opening_plain d)

  -- a prototype, by what its type is read as
  abbrev proto_of : Read Ty → Read Declared
  proto_of r = with_interface d (r >>= behind_type line d.interface)

  proto_is : (ts : List Tok) → proto ts ≡ proto_of (type_at ts)
  proto_is ts = ap (with_interface d) (prototype_is line d.interface ts)

  proto_from : (type : List Tok → Read Ty) → Plain type → Plain (λ ts. proto_of (type ts))
  proto_from type h = with_plain d (λ ts. type ts >>= behind_type line d.interface) (prototype_from line d.interface type h)

  struct_proto : (t : Tok) (ts : List Tok) → bytes_eq t.bytes (codes "struct") ≡ true → proto (t ∷ ts) ≡ proto_of (struct_tail ts)
  struct_proto t ts b = proto_is (t ∷ ts) ∙ ap proto_of (type_of_struct t ts ((bytes_eq-Decides t.bytes (codes "struct")).0 b))

  -- A prototype that begins with `struct` is refused behind it where no word stands there.

  struct_word_refused : (s : Tok) (vs : List Tok) → NoWord s → has (codes "const") (s ∷ vs) ≡ false → struct_tail (s ∷ vs) ≡ refused (s ∷ vs)
  struct_word_refused s vs none b =
      ap (λ c. struct_at (if c then without_const vs else s ∷ vs) >>= λ x. tail_at x.0 x.1) b ∙ ap (λ o. struct_by o (s ∷ vs) >>= λ x. tail_at x.0 x.1) none

  proto_refuses : (t s : Tok) (vs : List Tok) → bytes_eq t.bytes (codes "struct") ≡ true → Tidy (s ∷ vs) → NoWord s → proto (t ∷ s ∷ vs) ≡ refused (s ∷ vs)
  proto_refuses t s vs b tidy none =
      struct_proto t (s ∷ vs) b ∙ ap proto_of (struct_word_refused s vs none (no_const_by s (bytes_eq s.bytes (codes "const")) tidy.1 none))

  word_by : (s : Tok) (ts : List Tok) (f : Fault) (o : Option (List ℕ)) → word_of s.kind s.bytes ≡ o → is_refusal f.kind ≡ true → proto_of (struct_by o (s ∷ ts) >>= λ x. tail_at x.0 x.1) ≡ Err f → f.left ≡ suc (length ts) → NoWordAt s f
  word_by s ts f None w a e left = (w, statement_met (s ∷ ts) f e)
  word_by s ts f (Some n) w a e left = absurd (too_far (λ us. proto_of (tail_at None us)) (proto_from (tail_at None) (tail_plain None)) ts f a e left)

  abbrev struct_from : List Tok → Read Ty
  struct_from ts = struct_at ts >>= λ x. tail_at x.0 x.1

  const_by : (s : Tok) (ts : List Tok) (f : Fault) (b : Bool) → is_refusal f.kind ≡ true → proto_of (struct_from (if b then without_const ts else s ∷ ts)) ≡ Err f → f.left ≡ suc (length ts) → NoWordAt s f
  const_by s ts f true a e left = absurd (too_far (λ us. proto_of (struct_tail us)) (proto_from struct_tail struct_tail_plain) ts f a e left)
  const_by s ts f false a e left = word_by s ts f (word_of s.kind s.bytes) refl a e left

  proto_no_word : (t s : Tok) (ts : List Tok) (f : Fault) → bytes_eq t.bytes (codes "struct") ≡ true → is_refusal f.kind ≡ true → proto (t ∷ s ∷ ts) ≡ Err f → f.left ≡ suc (length ts) → NoWordAt s f
  proto_no_word t s ts f b a e left = const_by s ts f (has (codes "const") (s ∷ ts)) a (sym (struct_proto t (s ∷ ts) b) ∙ e) left

  -- A struct is refused at its name where no word stands there.

  abbrev opening_of : Option (List ℕ) → FaultKind → List Tok → Read Declared
  opening_of o kind ts = picked o kind ts >>= brace_behind d

  named_opening : (o : Option (List ℕ)) (s : Tok) (ts : List Tok) (f : Fault) → is_refusal f.kind ≡ true → opening_of o Twice (s ∷ ts) ≡ Err f → f.left ≡ suc (length ts) → ⊥
  named_opening (Some n) s ts f a e left = too_far (λ us. brace_behind d (n, us)) (brace_plain d n) ts f a e left
  named_opening None s ts f a e left = let both : false ≡ true = ap (λ (g : Fault). is_refusal g.kind) (same_fault {A = Declared} (at Twice (s ∷ ts)) f e) ∙ a in cc

  opening_kind : (s : Tok) (ts : List Tok) (f : Fault) (k : TokenKind) → is_refusal f.kind ≡ true → opening_of (fresh_of d.structs k s.bytes) (unless_word Twice k) (s ∷ ts) ≡ Err f → f.left ≡ suc (length ts) → (word_of k s.bytes ≡ None) × (f.kind ≡ Statement)
  opening_kind s ts f kinds.Word a e left = absurd (named_opening (fresh_of d.structs kinds.Word s.bytes) s ts f a e left)
  opening_kind s ts f kinds.Local a e left = (refl, statement_met (s ∷ ts) f e)
  opening_kind s ts f kinds.Global a e left = (refl, statement_met (s ∷ ts) f e)
  opening_kind s ts f kinds.Number a e left = (refl, statement_met (s ∷ ts) f e)
  opening_kind s ts f kinds.Text a e left = (refl, statement_met (s ∷ ts) f e)
  opening_kind s ts f kinds.Bytes a e left = (refl, statement_met (s ∷ ts) f e)
  opening_kind s ts f kinds.Mark a e left = (refl, statement_met (s ∷ ts) f e)

  opening_no_word : (s : Tok) (ts : List Tok) (f : Fault) → is_refusal f.kind ≡ true → opening_at d (s ∷ ts) ≡ Err f → f.left ≡ suc (length ts) → NoWordAt s f
  opening_no_word s ts f a e left = opening_kind s ts f s.kind a (sym (opening_is d (s ∷ ts)) ∙ e) left

  other_opening : (s : Tok) (vs : List Tok) (k : TokenKind) → word_of k s.bytes ≡ None → opening_of (fresh_of d.structs k s.bytes) (unless_word Twice k) (s ∷ vs) ≡ refused (s ∷ vs)
  other_opening s vs kinds.Word none = cc
  other_opening s vs kinds.Local none = refl
  other_opening s vs kinds.Global none = refl
  other_opening s vs kinds.Number none = refl
  other_opening s vs kinds.Text none = refl
  other_opening s vs kinds.Bytes none = refl
  other_opening s vs kinds.Mark none = refl

  opening_refuses : (s : Tok) (vs : List Tok) → NoWord s → opening_at d (s ∷ vs) ≡ refused (s ∷ vs)
  opening_refuses s vs none = opening_is d (s ∷ vs) ∙ other_opening s vs s.kind none

  -- A struct or a prototype.

  abbrev either : Bool → List Tok → Read Declared
  either k ts = if k then opens ts else proto ts

  either_plain : (k : Bool) → Plain (either k)
  either_plain true = opens_plain
  either_plain false = proto_plain

  proto_hungry : Hungry proto
  proto_hungry = then_hungry (prototype_at line d.interface) (λ i. Ok (now d i.0, i.1)) (prototype_hungry line d.interface) (λ i. pure_plain (now d i))

  either_hungry : (k : Bool) → Hungry (either k)
  either_hungry true = behind_hungry (opening_at d) (opening_plain d)
  either_hungry false = proto_hungry

  -- two tokens are taken at least
  second_taken : (rest ts us : List Tok) (t : Ty) (i : Interface) → length rest ≤ suc (length ts) → behind_type line d.interface (t, rest) ≡ Ok (i, us) → length us ≤ length ts
  second_taken [] ts us t i le e = let l = shorter (λ vs. behind_type line d.interface (t, vs)) (behind_type_plain line d.interface t) [] us i e in omega (arith, l)
  second_taken (r ∷ rs) ts us t i le e = let l = behind_type_hungry line d.interface t r rs us i e in omega (arith, l, le)

  two_taken : (k : Bool) (t s : Tok) (ts us : List Tok) (x : Declared) → either k (t ∷ s ∷ ts) ≡ Ok (x, us) → length us ≤ length ts
  two_taken true t s ts us x e = opening_hungry d s ts us x e
  two_taken false t s ts us x e =
      let b = bind_ok (prototype_at line d.interface (t ∷ s ∷ ts)) (λ i. Ok (now d i.0, i.1)) (x, us) e in
      let k = ok_same (now d b.0.0) x b.0.1 us b.2 in
      let c = bind_ok (type_at (t ∷ s ∷ ts)) (behind_type line d.interface) (b.0.0, b.0.1) (sym (prototype_is line d.interface (t ∷ s ∷ ts)) ∙ b.1) in
      let l = type_hungry t (s ∷ ts) c.0.1 c.0.0 c.1 in
      subst (λ r. length r ≤ length ts) k.1 (second_taken c.0.1 ts b.0.1 c.0.0 b.0.0 l c.2)

  first_waits : (t : Tok) (ts vs : List Tok) (f : Fault) (struct brace other : Bool) → bytes_eq t.bytes (codes "struct") ≡ struct → Bound f.kind (t ∷ ts) → is_refusal f.kind ≡ true → either (struct && brace) (t ∷ ts) ≡ Err f → f.left ≡ suc (length ts) → either (struct && other) (t ∷ vs) ≡ Err (at f.kind (t ∷ vs))
  first_waits t ts vs f true true other s bound a e left = absurd (too_far (opening_at d) (opening_plain d) ts f a e left)
  first_waits t ts vs f true false other s bound a e left = absurd (too_far (λ us. proto_of (struct_tail us)) (proto_from struct_tail struct_tail_plain) ts f a (sym (struct_proto t ts s) ∙ e) left)
  first_waits t ts vs f false brace other s bound a e left = proto_plain.faults [] (t ∷ ts) (t ∷ vs) f bound a e left refl

  no_word : (t s : Tok) (ts : List Tok) (f : Fault) (brace : Bool) → bytes_eq t.bytes (codes "struct") ≡ true → is_refusal f.kind ≡ true → either brace (t ∷ s ∷ ts) ≡ Err f → f.left ≡ suc (length ts) → NoWordAt s f
  no_word t s ts f true b a e left = opening_no_word s ts f a e left
  no_word t s ts f false b a e left = proto_no_word t s ts f b a e left

  no_word_refused : (t s : Tok) (vs : List Tok) (brace : Bool) → bytes_eq t.bytes (codes "struct") ≡ true → Tidy (s ∷ vs) → NoWord s → either brace (t ∷ s ∷ vs) ≡ refused (s ∷ vs)
  no_word_refused t s vs true b tidy none = opening_refuses s vs none
  no_word_refused t s vs false b tidy none = proto_refuses t s vs b tidy none

  second_waits : (t s : Tok) (ts vs : List Tok) (f : Fault) (struct brace other : Bool) → bytes_eq t.bytes (codes "struct") ≡ struct → Bound f.kind (s ∷ ts) → is_refusal f.kind ≡ true → either (struct && brace) (t ∷ s ∷ ts) ≡ Err f → f.left ≡ suc (length ts) → either (struct && other) (t ∷ s ∷ vs) ≡ Err (at f.kind (s ∷ vs))
  second_waits t s ts vs f true brace other b bound a e left =
      let n = no_word t s ts f brace b a e left in
      no_word_refused t s vs other b bound.0 n.0 ∙ ap (λ k. Err (at k (s ∷ vs))) (sym n.1)
  second_waits t s ts vs f false brace other b bound a e left = proto_plain.faults (t ∷ []) (s ∷ ts) (s ∷ vs) f bound a e left refl

  third_steady : (t s : Tok) (front us vs : List Tok) → Looks us vs → begins_struct (t ∷ s ∷ (front ++ us)) ≡ begins_struct (t ∷ s ∷ (front ++ vs))
  third_steady t s front us vs l = ap (λ b. bytes_eq t.bytes (codes "struct") && b) (has_looks (codes "{") (front ++ us) (front ++ vs) (looks_on front us vs l))

  abbrev struct_or_proto : List Tok → Read Declared
  struct_or_proto ts = either (begins_struct ts) ts

  choice_reads : (front us vs : List Tok) (x : Declared) → struct_or_proto (front ++ us) ≡ Ok (x, us) → Looks us vs → (y : Declared) × (struct_or_proto (front ++ vs) ≡ Ok (y, vs)) × (x ≡ y)
  choice_reads [] [] vs x e l = (x, subst (λ r. struct_or_proto r ≡ Ok (x, r)) (sym (nothing_looks vs l)) e, refl)
  choice_reads [] (u ∷ us) vs x e l = let h = either_hungry (begins_struct (u ∷ us)) u us (u ∷ us) x e in absurd (omega (arith, h))
  choice_reads (t ∷ []) [] vs x e l = (x, subst (λ r. struct_or_proto (t ∷ r) ≡ Ok (x, r)) (sym (nothing_looks vs l)) e, refl)
  choice_reads (t ∷ []) (u ∷ us) vs x e l = let h = two_taken (begins_struct (t ∷ u ∷ us)) t u us (u ∷ us) x e in absurd (omega (arith, h))
  choice_reads (t ∷ s ∷ front) us vs x e l =
      let r = (either_plain (begins_struct (t ∷ s ∷ (front ++ us)))).reads (t ∷ s ∷ front) us vs x e l in
      (r.0, ap (λ k. either k (t ∷ s ∷ (front ++ vs))) (sym (third_steady t s front us vs l)) ∙ r.1, r.2)

  choice_faults : (front us vs : List Tok) (f : Fault) → Bound f.kind us → is_refusal f.kind ≡ true → struct_or_proto (front ++ us) ≡ Err f → f.left ≡ length us → Looks us vs → struct_or_proto (front ++ vs) ≡ Err (at f.kind vs)
  choice_faults [] [] vs f bound a e left l = subst (λ r. struct_or_proto r ≡ Err (at f.kind r)) (sym (nothing_looks vs l)) ((either_plain (begins_struct [])).faults [] [] [] f tt a e left refl)
  choice_faults [] (u ∷ us) vs f bound a e left l =
      subst (λ r. struct_or_proto r ≡ Err (at f.kind r)) (sym (something_looks u us vs l))
      (first_waits u us (behind vs) f (bytes_eq u.bytes (codes "struct")) (has (codes "{") (behind us)) (has (codes "{") (behind (behind vs))) refl bound a e left)
  choice_faults (t ∷ []) [] vs f bound a e left l = subst (λ r. struct_or_proto (t ∷ r) ≡ Err (at f.kind r)) (sym (nothing_looks vs l)) ((either_plain (begins_struct (t ∷ []))).faults (t ∷ []) [] [] f tt a e left refl)
  choice_faults (t ∷ []) (u ∷ us) vs f bound a e left l =
      subst (λ r. struct_or_proto (t ∷ r) ≡ Err (at f.kind r)) (sym (something_looks u us vs l))
      (second_waits t u us (behind vs) f (bytes_eq t.bytes (codes "struct")) (has (codes "{") us) (has (codes "{") (behind vs)) refl bound a e left)
  choice_faults (t ∷ s ∷ front) us vs f bound a e left l =
      ap (λ k. either k (t ∷ s ∷ (front ++ vs))) (sym (third_steady t s front us vs l)) ∙ (either_plain (begins_struct (t ∷ s ∷ (front ++ us)))).faults (t ∷ s ∷ front) us vs f bound a e left l

  choice_plain : Plain struct_or_proto
  choice_plain = record {
    ends = λ ts us x e. (either_plain (begins_struct ts)).ends ts us x e;
    reads = choice_reads;
    stops = λ ts f a e. (either_plain (begins_struct ts)).stops ts f a e;
    faults = choice_faults;
  }

  -- All that stands outside structs.

  abbrev of_reftype : List Tok → Read Declared
  of_reftype ts = with_interface d (reftype_statement_at d.interface ts)

  abbrev of_iterator : List Tok → Read Declared
  of_iterator ts = with_interface d (iterator_at versions.Two line d.interface ts)

  of_reftype_plain : Plain of_reftype
  of_reftype_plain = with_plain d (reftype_statement_at d.interface) (reftype_statement_plain d.interface)

  of_iterator_plain : Plain of_iterator
  of_iterator_plain = with_plain d (iterator_at versions.Two line d.interface) (iterator_plain versions.Two line d.interface)

  outside_plain : Plain (outside_at line d)
  outside_plain =
      if_plain (codes "reftype") (λ ts. of_reftype (behind ts)) (λ ts. if has (codes "iterator") ts then of_iterator (behind ts) else struct_or_proto ts) (behind_local Same of_reftype of_reftype of_reftype_plain)
      (if_plain (codes "iterator") (λ ts. of_iterator (behind ts)) struct_or_proto (behind_local Same of_iterator of_iterator of_iterator_plain) choice_plain)

  outside_hungry : Hungry (outside_at line d)
  outside_hungry =
      if_hungry (has (codes "reftype")) (λ ts. of_reftype (behind ts)) (λ ts. if has (codes "iterator") ts then of_iterator (behind ts) else struct_or_proto ts) (behind_hungry of_reftype of_reftype_plain)
      (if_hungry (has (codes "iterator")) (λ ts. of_iterator (behind ts)) struct_or_proto (behind_hungry of_iterator of_iterator_plain)
      (if_hungry begins_struct opens proto (behind_hungry (opening_at d) (opening_plain d)) proto_hungry))

  by_plain : (o : Option (List ℕ)) → Plain (λ ts. step_by o line d ts)
  by_plain None = outside_plain
  by_plain (Some struct) = inside_plain d line struct

  by_hungry : (o : Option (List ℕ)) → Hungry (λ ts. step_by o line d ts)
  by_hungry None = outside_hungry
  by_hungry (Some struct) = inside_hungry d line struct

  -- what stands next
  pub step_plain : Plain (step_at line d)
  unfolding step_at
  step_plain = by_plain d.inside

  pub step_hungry : Hungry (step_at line d)
  unfolding step_at
  step_hungry = by_hungry d.inside
