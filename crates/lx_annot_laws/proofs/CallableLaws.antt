-- Parameters and what stands behind them: reading and the grammar agree.
use Rattle.std.proofs.Common.{◌≡◌, ℕ, suc, ◌≤◌, ◌+◌, Bool, true, false, List, [], ◌∷◌, ◌++◌, length, Ok, refl, sym, ap, ◌∙◌, subst, append_assoc, bytes_eq, codes, arith}
use Rattle.std.specs.Prelude.{if◌then◌else◌, ◌&&◌, ◌||◌}
use Rattle.std.proofs.lemmas.List.{length-append}
use Rattle.std.proofs.lemmas.Slice.Eq.{bytes_eq-Decides}
use Rattle.std.proofs.lemmas.Bool.{and_parts}
use Rattle.lx_words.specs.declared.token.TokenKind.{TokenKind}
use Rattle.lx_annot.specs.declared.expr.Ty.{Ty}
use Rattle.lx_annot.specs.declared.expr.Ty.TheVariants as ty
use Rattle.lx_annot.specs.declared.action.Annotation.{Annotation}
use Rattle.lx_annot.specs.declared.interface.Parameter.{Parameter}
use Rattle.lx_annot_expressions.specs.Tokens.{Tok}
use Rattle.lx_annot_expressions.specs.Reading.{Read, ◌>>=◌, has, behind, next_at, steps_at, adding_at}
use Rattle.lx_annot_expressions.specs.Exprs.{names_of_params}
use Rattle.lx_annot_expressions.specs.Grammar.{Part, Is, ◌then◌}
use Rattle.lx_annot_expressions.specs.Laws.{Reads, ReadsBefore, Finds}
use Rattle.lx_annot_expressions.proofs.Parts.{bind_ok, ok_same, next_reads, next_finds, next_token, bind_reads, bind_finds, last_reads, last_finds, Joint, Mapped}
use Rattle.lx_annot_terms.specs.Lists.{Known}
use Rattle.lx_annot_terms.specs.Signatures.{Signature, param_name_at}
use Rattle.lx_annot_terms.specs.Clauses.{begins_clause, clauses_at}
use Rattle.lx_annot_laws.specs.Parts.{IsFurther, IsParamName, IsAnnotation}
use Rattle.lx_annot_laws.proofs.Mapping.{mapped_is}
use Rattle.lx_annot_laws.proofs.Sequences.{further_read, further_found}
use Rattle.lx_annot_laws.proofs.SignatureLaws.{name_read, name_found, bracket_no_comma, closed_by}
use Rattle.lx_annot_laws.proofs.ClauseLaws.{annotation_read, annotation_found}
use Rattle.lx_cproto.specs.declared.callable.Callable.{Callable}
use Rattle.lx_cproto.specs.Types.{is_void, type_at, base_at, word_type, value_type_at}
use Rattle.lx_cproto.specs.Params.{param_behind, some_params_at, is_void_alone, params_at, enclosed_params_at, callable_at}
use Rattle.lx_annot_laws.specs.PrototypeParts.{IsParam, IsParams, AreEnclosed, IsCallable}
use Rattle.lx_annot_laws.proofs.TypeFronts.{type_steady}
use Rattle.lx_annot_laws.proofs.Typing.{HasToken, is_some, then_some, valued_read, valued_found}

-- Parameters.

name_some : (names : List (List ℕ)) (name : List ℕ) → HasToken (IsParamName names name)
name_some names name (t, r, f, g) = cc

abbrev param_of : Ty → List ℕ → Parameter
param_of t n = record { name = n; ty = t }

param_read : (before : List Parameter) (p : Parameter) → Reads (param_behind before) p (IsParam before p)
param_read before p =
    valued_read (λ t. param_name_at (names_of_params before) t.1 >>= λ n. Ok (param_of t.0 n.0, n.1)) p.ty p (IsParamName (names_of_params before) p.name) (name_some (names_of_params before) p.name)
    (last_reads (param_name_at (names_of_params before)) (λ n. param_of p.ty n) p.name _ (name_read (names_of_params before) p.name))

abbrev ParamParts : List Parameter → Ty → Parameter → Part
ParamParts before t = Mapped (λ (n : List ℕ). param_of t n) (IsParamName (names_of_params before))

mapped_some : (before : List Parameter) (t : Ty) (p : Parameter) → HasToken (ParamParts before t p)
mapped_some before t p (n, is, eq) = name_some (names_of_params before) n is

param_found : (before : List Parameter) → Finds (param_behind before) (IsParam before)
param_found before ts us p r =
    let w = valued_found (λ t. param_name_at (names_of_params before) t.1 >>= λ n. Ok (param_of t.0 n.0, n.1)) (ParamParts before) (mapped_some before)
    (λ t. last_finds (param_name_at (names_of_params before)) (λ n. param_of t n) (IsParamName (names_of_params before)) (name_found (names_of_params before))) ts us p r in
    let (t, (v, (rest, read, (n, is, eq)))) = w.1 in
    (w.0, subst (λ z. IsParam before z w.0) eq (v, (rest, read, is)), w.2)

-- Lists of parameters.

abbrev always : List Tok → Bool
always ts = true

param_before : (before : List Parameter) (p : Parameter) → ReadsBefore always (param_behind before) p (IsParam before p)
param_before before p ts us c is = param_read before p ts us is

further_length : (before ps : List Parameter) (ts : List Tok) → IsFurther (codes ",") IsParam before ps ts → length ps ≤ length ts
further_length before [] ts e = omega arith
further_length before (p ∷ ps) ts (f, b, (t, o, g), (f', b', a, q, w'), w) =
    let l = further_length (before ++ p ∷ []) ps b' q in
    let n : length ts ≡ suc (length f' + length b') = ap length (w ∙ ap (λ x. x ++ b) g ∙ ap (λ x. t ∷ x) w') ∙ ap suc (length-append f' b') in
    omega (arith, l, n)

some_read : (p : Parameter) (ps : List Parameter) (ts us : List Tok) → has (codes ",") us ≡ false → IsParams (p ∷ ps) ts → some_params_at (ts ++ us) ≡ Ok (p ∷ ps, us)
unfolding some_params_at
some_read p ps ts us h (f, b, a, q, w) =
    let whole : ts ++ us ≡ f ++ (b ++ us) = ap (λ x. x ++ us) w ∙ append_assoc f b us in
    let size : length (b ++ us) ≡ length b + length us = length-append b us in
    let one = param_read [] p f (b ++ us) a in
    let more = further_read (codes ",") always param_behind IsParam (λ t vs o. refl) param_before (length (b ++ us)) (p ∷ []) ps b us (omega (arith, size, further_length (p ∷ []) ps b q)) h refl q in
    rw (whole, one) more

abbrev SomeParams : List Parameter → Part
SomeParams [] ts = ⊥
SomeParams (p ∷ ps) ts = IsParams (p ∷ ps) ts

some_part : (p : Parameter) (ps all : List Parameter) (ts : List Tok) → all ≡ (p ∷ []) ++ ps → SomeParams (p ∷ ps) ts → SomeParams all ts
some_part p ps all ts e is = subst (λ x. SomeParams x ts) (sym e) is

some_found : Finds some_params_at SomeParams
unfolding some_params_at
some_found ts us all r =
    let a = bind_ok (param_behind [] ts) (λ p. steps_at (has (codes ",")) (adding_at param_behind) (length p.1) (p.0 ∷ []) p.1) (all, us) r in
    let w = param_found [] ts a.0.1 a.0.0 a.1 in
    let m = further_found (codes ",") always param_behind IsParam param_found (length a.0.1) (a.0.0 ∷ []) all a.0.1 us a.2 in
    (w.0 ++ m.front, some_part a.0.0 m.values all (w.0 ++ m.front) m.are (w.0, m.front, w.1, m.is, refl), w.2 ∙ ap (λ x. w.0 ++ x) m.whole ∙ sym (append_assoc w.0 m.front us))

some_are : (ps : List Parameter) (ts : List Tok) → SomeParams ps ts → IsParams ps ts
some_are [] ts e = absurd e
some_are (p ∷ ps) ts e = e

-- `void` alone

abbrev tok : TokenKind → List ℕ → Tok
tok kind bytes = record { kind = kind; bytes = bytes }

void_read : (v c : TokenKind) (r : List Tok) → type_at (tok v (codes "void") ∷ tok c (codes ")") ∷ r) ≡ Ok (ty.Void, tok c (codes ")") ∷ r)
unfolding type_at base_at word_type
void_read v c r = refl

spelled : (t : Tok) (text : List ℕ) → has text (t ∷ []) ≡ true → t ≡ tok t.kind text
spelled t text h = ap (tok t.kind) ((bytes_eq-Decides t.bytes text).0 h)

void_alone : (ts : List Tok) → is_void_alone ts ≡ true → type_at ts ≡ Ok (ty.Void, behind ts)
void_alone [] h = cc
void_alone (v ∷ []) h = let k = and_parts (has (codes "void") (v ∷ [])) false h in cc (k.1)
void_alone (v ∷ c ∷ r) h =
    let k = and_parts (has (codes "void") (v ∷ [])) (has (codes ")") (c ∷ [])) h in
    let a = spelled v (codes "void") k.0 in
    let b = spelled c (codes ")") k.1 in
    ap type_at (λ i. a i ∷ b i ∷ r) ∙ void_read v.kind c.kind r ∙ ap (λ x. Ok (ty.Void, x ∷ r)) (sym b)

-- a parameter is not `void` alone
alone_by : (p : Parameter) (f us rest : List Tok) (b : Bool) → is_void_alone (f ++ us) ≡ b → is_void p.ty ≡ false → type_at f ≡ Ok (p.ty, rest) → HasToken (λ ts. ts ≡ rest) → b ≡ false
alone_by p f us rest false h v e some = refl
alone_by p f us [] true h v e some = absurd (some refl)
alone_by p f us (g ∷ r) true h v e some =
    let s = type_steady p.ty g r f e in
    let all : type_at (f ++ us) ≡ Ok (p.ty, g ∷ (r ++ us)) = ap type_at (ap (λ x. x ++ us) s.whole ∙ append_assoc s.c (g ∷ r) us) ∙ s.again (r ++ us) in
    let k = ok_same ty.Void p.ty (behind (f ++ us)) (g ∷ (r ++ us)) (sym (void_alone (f ++ us) h) ∙ all) in
    let no : is_void ty.Void ≡ false = subst (λ x. is_void x ≡ false) (sym k.0) v in
    cc

rest_some : (names : List (List ℕ)) (name : List ℕ) (rest : List Tok) → IsParamName names name rest → HasToken (λ ts. ts ≡ rest)
rest_some names name rest (t, r, f, g) e = let none : [] ≡ t ∷ [] = e ∙ g in cc

not_alone : (p : Parameter) (ps : List Parameter) (ts us : List Tok) → IsParams (p ∷ ps) ts → is_void_alone (ts ++ us) ≡ false
not_alone p ps ts us (f, b, (v, (rest, e, n)), q, w) =
    let whole : ts ++ us ≡ f ++ (b ++ us) = ap (λ x. x ++ us) w ∙ append_assoc f b us in
    ap is_void_alone whole ∙ alone_by p f (b ++ us) rest (is_void_alone (f ++ (b ++ us))) refl v e (rest_some (names_of_params []) p.name rest n)

-- Parameters in brackets.

abbrev params_by : List Tok → Bool → Read (List Parameter)
params_by ts b = if b then Ok ([], behind ts) else some_params_at ts

abbrev closed_params : List Tok → Read (List Parameter)
closed_params ts = closed_by (params_at ts)

one_behind : (t c : Tok) (b : List Tok) → b ≡ c ∷ [] → t ∷ b ≡ t ∷ c ∷ []
one_behind t c b e = ap (λ x. t ∷ x) e

closed_read : (ps : List Parameter) → Reads closed_params ps (IsParams ps then Is (codes ")"))
closed_read [] ts us (f, b, (v, h, g), (c, k, g'), w) =
    let whole : ts ++ us ≡ v ∷ c ∷ us = ap (λ x. x ++ us) (w ∙ ap (λ x. x ++ b) g ∙ one_behind v c b g') in
    let alone : is_void_alone (v ∷ c ∷ us) ≡ true = (λ i. h i && k i) in
    let close : next_at (codes ")") (c ∷ us) ≡ Ok (tt, us) = next_reads (codes ")") (c ∷ []) us (c, k, refl) in
    ap closed_params whole ∙ ap (λ x. closed_by (params_by (v ∷ c ∷ us) x)) alone ∙ mapped_is (λ (e : Unit {0}). []) (next_at (codes ")") (c ∷ us)) tt us close
closed_read (p ∷ ps) ts us (f, b, is, (t, h, g), w) =
    let whole : ts ++ us ≡ f ++ (b ++ us) = ap (λ x. x ++ us) w ∙ append_assoc f b us in
    let ends : has (codes ",") (b ++ us) ≡ false = subst (λ x. has (codes ",") (x ++ us) ≡ false) (sym g) (bracket_no_comma t us h) in
    let some = some_read p ps f (b ++ us) ends is in
    let close : next_at (codes ")") (b ++ us) ≡ Ok (tt, us) = next_reads (codes ")") b us (t, h, g) in
    ap closed_params whole ∙ ap (λ x. closed_by (params_by (f ++ (b ++ us)) x)) (not_alone p ps f (b ++ us) is) ∙ ap closed_by some ∙ mapped_is (λ (c : Unit {0}). p ∷ ps) (next_at (codes ")") (b ++ us)) tt us close

abbrev ClosedParts : List Parameter → Part
ClosedParts ps = IsParams ps then Is (codes ")")

params_step : (ts us : List Tok) (ps : List Parameter) (b : Bool) → is_void_alone ts ≡ b → params_by ts b ≡ Ok (ps, us) → (front : List Tok) × IsParams ps front × (ts ≡ front ++ us)
params_step ts us ps true h e =
    let k = and_parts (has (codes "void") ts) (has (codes ")") (behind ts)) h in
    let n = next_token (codes "void") ts k.0 in
    let w = ok_same [] ps (behind ts) us e in
    (n.token ∷ [], subst (λ z. IsParams z (n.token ∷ [])) w.0 (n.token, n.is, refl), n.whole ∙ ap (λ x. n.token ∷ x) w.1)
params_step ts us ps false h e = let f = some_found ts us ps e in (f.0, some_are ps f.0 f.1, f.2)

params_found : Finds params_at IsParams
params_found ts us ps e = params_step ts us ps (is_void_alone ts) refl e

closed_found : Finds closed_params ClosedParts
closed_found ts us ps r =
    let w = bind_finds params_at (λ a. next_at (codes ")") a.1 >>= λ c. Ok (a.0, c.1)) IsParams _ params_found (λ a. last_finds (next_at (codes ")")) (λ c. a) (λ (c : Unit {0}). Is (codes ")")) (next_finds (codes ")"))) ts us ps r in
    let (x, (f, b, is, (c, close, eq), e)) = w.1 in
    (w.0, subst (λ z. ClosedParts z w.0) eq (f, b, is, close, e), w.2)

enclosed_read : (ps : List Parameter) → Reads enclosed_params_at ps (AreEnclosed ps)
unfolding enclosed_params_at
enclosed_read ps = bind_reads (next_at (codes "(")) (λ o. closed_params o.1) tt ps _ _ (next_reads (codes "(")) (closed_read ps)

enclosed_found : Finds enclosed_params_at AreEnclosed
unfolding enclosed_params_at
enclosed_found ts us ps r =
    let w = bind_finds (next_at (codes "(")) (λ o. closed_params o.1) (λ (o : Unit {0}). Is (codes "(")) (λ o. ClosedParts) (next_finds (codes "(")) (λ o. closed_found) ts us ps r in
    (w.0, w.1.1, w.2)

-- What stands behind the name of a function.

abbrev callable : Signature → Annotation → Callable
callable sig a = record { signature = sig; annotation = a }

abbrev signature : Ty → List Parameter → Signature
signature ret ps = record { ret = ret; params = ps }

end_no_clause : (t : Tok) (us : List Tok) → has (codes ";") (t ∷ []) ≡ true → begins_clause (t ∷ us) ≡ false
end_no_clause t us h = ap (λ b. bytes_eq b (codes "principal") || bytes_eq b (codes "pre") || bytes_eq b (codes "post")) ((bytes_eq-Decides t.bytes (codes ";")).0 h)

abbrev ended_by : Read Annotation → Read Annotation
ended_by r = r >>= λ a. next_at (codes ";") a.1 >>= λ e. Ok (a.0, e.1)

module _ (known : Known) (ret : Ty) where
  abbrev clauses_then : List Parameter → List Tok → Read Callable
  clauses_then ps ts = clauses_at (signature ret ps) known ts >>= λ a. next_at (codes ";") a.1 >>= λ e. Ok (callable (signature ret ps) a.0, e.1)

  abbrev then_end : List Parameter → Read Annotation → Read Callable
  then_end ps r = r >>= λ a. next_at (codes ";") a.1 >>= λ e. Ok (callable (signature ret ps) a.0, e.1)

  clauses_read : (ps : List Parameter) (a : Annotation) → Reads (clauses_then ps) (callable (signature ret ps) a) (IsAnnotation (signature ret ps) known a then Is (codes ";"))
  clauses_read ps a ts us (f, b, is, (t, h, g), w) =
      let whole : ts ++ us ≡ f ++ (b ++ us) = ap (λ x. x ++ us) w ∙ append_assoc f b us in
      let none : begins_clause (b ++ us) ≡ false = subst (λ x. begins_clause (x ++ us) ≡ false) (sym g) (end_no_clause t us h) in
      let all = annotation_read (signature ret ps) known a f (b ++ us) none is in
      let close : next_at (codes ";") (b ++ us) ≡ Ok (tt, us) = next_reads (codes ";") b us (t, h, g) in
      ap (clauses_then ps) whole ∙ ap (then_end ps) all ∙ mapped_is (λ (e : Unit {0}). callable (signature ret ps) a) (next_at (codes ";") (b ++ us)) tt us close

  pub callable_read : (ps : List Parameter) (a : Annotation) → Reads (callable_at known ret) (callable (signature ret ps) a) (IsCallable known (signature ret ps) a)
  unfolding callable_at
  callable_read ps a = bind_reads enclosed_params_at (λ ps. clauses_then ps.0 ps.1) ps (callable (signature ret ps) a) _ _ (enclosed_read ps) (clauses_read ps a)

  -- a callable that is found has this result
  abbrev pub FoundCallable : Callable → Part
  FoundCallable c ts = (c.signature.ret ≡ ret) × IsCallable known c.signature c.annotation ts

  pub callable_found : Finds (callable_at known ret) FoundCallable
  unfolding callable_at
  callable_found ts us c r =
      let w = bind_finds enclosed_params_at (λ ps. clauses_then ps.0 ps.1) AreEnclosed _ enclosed_found
      (λ ps. bind_finds (clauses_at (signature ret ps) known) (λ a. next_at (codes ";") a.1 >>= λ e. Ok (callable (signature ret ps) a.0, e.1)) (IsAnnotation (signature ret ps) known) _ (annotation_found (signature ret ps) known)
      (λ a. last_finds (next_at (codes ";")) (λ e. callable (signature ret ps) a) (λ (e : Unit {0}). Is (codes ";")) (next_finds (codes ";")))) ts us c r in
      let (ps, (f, b, pe, (a, (f1, b1, pa, (e, pend, eq), w1)), w0)) = w.1 in
      (w.0, subst (λ z. FoundCallable z w.0) eq (refl, (f, b, pe, (f1, b1, pa, pend, w1), w0)), w.2)
