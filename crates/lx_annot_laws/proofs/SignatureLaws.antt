-- Signatures: reading and the grammar agree.
use Rattle.std.proofs.Common.{◌≡◌, ℕ, suc, ◌≤◌, ◌+◌, Bool, true, false, Some, List, [], ◌∷◌, ◌++◌, length, Ok, refl, sym, ap, ◌∙◌, subst, append_assoc, bytes_eq, codes, arith}
use Rattle.std.specs.Prelude.{if◌then◌else◌}
use Rattle.std.proofs.lemmas.List.{length-append}
use Rattle.std.proofs.lemmas.Slice.Eq.{bytes_eq-Decides}
use Rattle.lx_annot.specs.declared.expr.Ty.{Ty}
use Rattle.lx_annot.specs.declared.interface.Parameter.{Parameter}
use Rattle.lx_annot_expressions.specs.declared.fault.FaultKind.TheVariants.{Twice}
use Rattle.lx_annot_expressions.specs.Tokens.{Tok}
use Rattle.lx_annot_expressions.specs.Reading.{Read, ◌>>=◌, has, behind, refused, picked, next_at, always_refused, unless_word, steps_at, adding_at}
use Rattle.lx_annot_expressions.specs.Names.{fresh_of, fresh_at}
use Rattle.lx_annot_expressions.specs.Exprs.{names_of_params}
use Rattle.lx_annot_expressions.specs.Grammar.{Part, Is, ◌then◌}
use Rattle.lx_annot_expressions.specs.Laws.{Reads, ReadsBefore, Finds}
use Rattle.lx_annot_expressions.proofs.Parts.{bind_ok, ok_same, pick_reads, pick_finds, next_reads, next_finds, next_token, bind_reads, bind_finds, last_reads, last_finds, Joint, Mapped}
use Rattle.lx_annot_terms.specs.Signatures.{Signature, type_of, type_at, is_reserved, param_name_at, param_behind, some_params_at, closed_params_at, params_behind, signature_at}
use Rattle.lx_annot_laws.specs.Parts.{IsFurther, IsType, IsParamName, IsParam, IsParams, IsSignature}
use Rattle.lx_annot_laws.proofs.Mapping.{mapped_is}
use Rattle.lx_annot_laws.proofs.Sequences.{further_read, further_found}

-- Names of parameters.

abbrev name_by : List (List ℕ) → List Tok → Bool → Read (List ℕ)
name_by names ts b = if b then refused ts else fresh_at names ts

pub name_read : (names : List (List ℕ)) (name : List ℕ) → Reads (param_name_at names) name (IsParamName names name)
name_read names name ts us (t, r, f, g) =
    subst (λ x. param_name_at names (x ++ us) ≡ Ok (name, us)) (sym g)
    (ap (name_by names (t ∷ us)) r ∙ ap (λ o. picked o (unless_word Twice t.kind) (t ∷ us)) f)

name_step : (names : List (List ℕ)) (ts us : List Tok) (x : List ℕ) (b : Bool) → is_reserved ts ≡ b → name_by names ts b ≡ Ok (x, us) → (front : List Tok) × IsParamName names x front × (ts ≡ front ++ us)
name_step names ts us x true r e = cc
name_step names ts us x false r e =
    let w = pick_finds (λ t. fresh_of names t.kind t.bytes) (unless_word Twice) ts us x e in
    let all : ts ≡ w.1.0 ∷ us = w.2 ∙ ap (λ y. y ++ us) w.1.2 in
    (w.0, (w.1.0, subst (λ y. is_reserved y ≡ false) all r, w.1.1, w.1.2), w.2)

pub name_found : (names : List (List ℕ)) → Finds (param_name_at names) (IsParamName names)
name_found names ts us x e = name_step names ts us x (is_reserved ts) refl e

-- Parameters.

pub param_read : (before : List Parameter) (p : Parameter) → Reads (param_behind before) p (IsParam before p)
param_read before p =
    bind_reads type_at (λ t. param_name_at (names_of_params before) t.1 >>= λ n. Ok (record { name = n.0; ty = t.0 }, n.1)) p.ty p _ _ (pick_reads (λ t. type_of t.bytes) always_refused p.ty)
    (last_reads (param_name_at (names_of_params before)) (λ n. record { name = n; ty = p.ty }) p.name _ (name_read (names_of_params before) p.name))

abbrev ParamParts : List Parameter → Parameter → Part
ParamParts before = Joint IsType (λ t. Mapped (λ (n : List ℕ). record { name = n; ty = t }) (IsParamName (names_of_params before)))

param_part : (before : List Parameter) (p : Parameter) (ts : List Tok) → ParamParts before p ts → IsParam before p ts
param_part before p ts (t, (f, b, pt, (n, pn, eq), w)) = subst (λ z. IsParam before z ts) eq (f, b, pt, pn, w)

pub param_found : (before : List Parameter) → Finds (param_behind before) (IsParam before)
param_found before ts us p r =
    let w = bind_finds type_at (λ t. param_name_at (names_of_params before) t.1 >>= λ n. Ok (record { name = n.0; ty = t.0 }, n.1)) IsType _ (pick_finds (λ t. type_of t.bytes) always_refused)
    (λ t. last_finds (param_name_at (names_of_params before)) (λ n. record { name = n; ty = t }) (IsParamName (names_of_params before)) (name_found (names_of_params before))) ts us p r in
    (w.0, param_part before p w.0 w.1, w.2)

-- Lists of parameters.

abbrev always : List Tok → Bool
always ts = true

param_before : (before : List Parameter) (p : Parameter) → ReadsBefore always (param_behind before) p (IsParam before p)
param_before before p ts us c is = param_read before p ts us is

pub bracket_no_comma : (t : Tok) (us : List Tok) → has (codes ")") (t ∷ []) ≡ true → has (codes ",") (t ∷ us) ≡ false
bracket_no_comma t us h = ap (λ b. bytes_eq b (codes ",")) ((bytes_eq-Decides t.bytes (codes ")")).0 h)

abbrev first_then : (List Tok → Read (List Parameter)) → Type 0
first_then read = (p : Parameter) (ps : List Parameter) (ts us : List Tok) → has (codes ",") us ≡ false → (IsParam [] p then IsFurther (codes ",") IsParam (p ∷ []) ps) ts → read (ts ++ us) ≡ Ok (p ∷ ps, us)

further_length : (before ps : List Parameter) (ts : List Tok) → IsFurther (codes ",") IsParam before ps ts → length ps ≤ length ts
further_length before [] ts e = omega arith
further_length before (p ∷ ps) ts (f, b, (t, o, g), (f', b', a, q, w'), w) =
    let l = further_length (before ++ p ∷ []) ps b' q in
    let n : length ts ≡ suc (length f' + length b') = ap length (w ∙ ap (λ x. x ++ b) g ∙ ap (λ x. t ∷ x) w') ∙ ap suc (length-append f' b') in
    omega (arith, l, n)

some_read : first_then some_params_at
unfolding some_params_at
some_read p ps ts us h (f, b, a, q, w) =
    let whole : ts ++ us ≡ f ++ (b ++ us) = ap (λ x. x ++ us) w ∙ append_assoc f b us in
    let size : length (b ++ us) ≡ length b + length us = length-append b us in
    let one = param_read [] p f (b ++ us) a in
    let more = further_read (codes ",") always param_behind IsParam (λ t vs o. refl) param_before (length (b ++ us)) (p ∷ []) ps b us (omega (arith, size, further_length (p ∷ []) ps b q)) h refl q in
    rw (whole, one) more

abbrev SomeParts : List Parameter → Part
SomeParts [] ts = ⊥
SomeParts (p ∷ ps) ts = (IsParam [] p then IsFurther (codes ",") IsParam (p ∷ []) ps) ts

some_part : (p : Parameter) (ps all : List Parameter) (ts : List Tok) → all ≡ (p ∷ []) ++ ps → SomeParts (p ∷ ps) ts → SomeParts all ts
some_part p ps all ts e is = subst (λ x. SomeParts x ts) (sym e) is

some_found : Finds some_params_at SomeParts
unfolding some_params_at
some_found ts us all r =
    let a = bind_ok (param_behind [] ts) (λ p. steps_at (has (codes ",")) (adding_at param_behind) (length p.1) (p.0 ∷ []) p.1) (all, us) r in
    let w = param_found [] ts a.0.1 a.0.0 a.1 in
    let m = further_found (codes ",") always param_behind IsParam param_found (length a.0.1) (a.0.0 ∷ []) all a.0.1 us a.2 in
    (w.0 ++ m.front, some_part a.0.0 m.values all (w.0 ++ m.front) m.are (w.0, m.front, w.1, m.is, refl), w.2 ∙ ap (λ x. w.0 ++ x) m.whole ∙ sym (append_assoc w.0 m.front us))

-- the word of a type is no bracket
no_type_by : (bytes : List ℕ) (ty : Ty) → bytes ≡ codes ")" → type_of bytes ≡ Some ty → ⊥
unfolding type_of
no_type_by bytes ty same e = let n : type_of (codes ")") ≡ Some ty = subst (λ b. type_of b ≡ Some ty) same e in cc

type_no_bracket : (t : Tok) (us : List Tok) (ty : Ty) (b : Bool) → bytes_eq t.bytes (codes ")") ≡ b → type_of t.bytes ≡ Some ty → b ≡ false
type_no_bracket t us ty false h e = refl
type_no_bracket t us ty true h e = absurd (no_type_by t.bytes ty ((bytes_eq-Decides t.bytes (codes ")")).0 h) e)

no_bracket : (p : Parameter) (ps : List Parameter) (ts us : List Tok) → (IsParam [] p then IsFurther (codes ",") IsParam (p ∷ []) ps) ts → has (codes ")") (ts ++ us) ≡ false
no_bracket p ps ts us (f1, b1, (f2, b2, (u, ty, g), n, w2), q, w1) =
    subst (λ x. has (codes ")") (x ++ us) ≡ false) (sym (w1 ∙ ap (λ x. x ++ b1) (w2 ∙ ap (λ x. x ++ b2) g))) (type_no_bracket u [] p.ty (bytes_eq u.bytes (codes ")")) refl ty)

abbrev pub closed_by : Read (List Parameter) → Read (List Parameter)
closed_by r = r >>= λ ps. next_at (codes ")") ps.1 >>= λ c. Ok (ps.0, c.1)

abbrev params_by : List Tok → Bool → Read (List Parameter)
params_by ts b = if b then Ok ([], behind ts) else closed_params_at ts

-- parameters, and the bracket that closes them
pub params_read : (ps : List Parameter) → Reads params_behind ps (IsParams ps then Is (codes ")"))
params_read [] ts us (f, b, e, (t, h, g), w) =
    let whole : ts ++ us ≡ t ∷ us = ap (λ x. x ++ us) (w ∙ ap (λ x. x ++ b) e ∙ g) in
    ap params_behind whole ∙ ap (params_by (t ∷ us)) h
params_read (p ∷ ps) ts us (f, b, is, (t, h, g), w) =
    let whole : ts ++ us ≡ f ++ (b ++ us) = ap (λ x. x ++ us) w ∙ append_assoc f b us in
    let begins = no_bracket p ps f (b ++ us) is in
    let ends : has (codes ",") (b ++ us) ≡ false = subst (λ x. has (codes ",") (x ++ us) ≡ false) (sym g) (bracket_no_comma t us h) in
    let some = some_read p ps f (b ++ us) ends is in
    let close : next_at (codes ")") (b ++ us) ≡ Ok (tt, us) = next_reads (codes ")") b us (t, h, g) in
    ap params_behind whole ∙ ap (params_by (f ++ (b ++ us))) begins ∙ ap closed_by some ∙ mapped_is (λ (c : Unit {0}). p ∷ ps) (next_at (codes ")") (b ++ us)) tt us close

params_of_some : (ps : List Parameter) (ts : List Tok) → SomeParts ps ts → IsParams ps ts
params_of_some [] ts e = absurd e
params_of_some (p ∷ ps) ts e = e

abbrev ClosedParts : List Parameter → Part
ClosedParts ps = IsParams ps then Is (codes ")")

closed_part : (ps : List Parameter) (ts : List Tok) → Joint SomeParts (λ a. Mapped (λ (c : Unit {0}). a) (λ c. Is (codes ")"))) ps ts → ClosedParts ps ts
closed_part ps ts (x, (f, b, is, (c, close, eq), e)) = subst (λ z. ClosedParts z ts) eq (f, b, params_of_some x f is, close, e)

closed_found : Finds closed_params_at ClosedParts
closed_found ts us ps r =
    let w = bind_finds some_params_at (λ a. next_at (codes ")") a.1 >>= λ c. Ok (a.0, c.1)) SomeParts _ some_found (λ a. last_finds (next_at (codes ")")) (λ c. a) (λ (c : Unit {0}). Is (codes ")")) (next_finds (codes ")"))) ts us ps r in
    (w.0, closed_part ps w.0 w.1, w.2)

params_step : (ts us : List Tok) (ps : List Parameter) (b : Bool) → has (codes ")") ts ≡ b → params_by ts b ≡ Ok (ps, us) → (front : List Tok) × ClosedParts ps front × (ts ≡ front ++ us)
params_step ts us ps false h r = closed_found ts us ps r
params_step ts us ps true h r =
    let k = ok_same [] ps (behind ts) us r in
    let n = next_token (codes ")") ts h in
    (n.token ∷ [], subst (λ z. ClosedParts z (n.token ∷ [])) k.0 ([], n.token ∷ [], refl, (n.token, n.is, refl), refl), n.whole ∙ ap (λ x. n.token ∷ x) k.1)

pub params_found : Finds params_behind ClosedParts
params_found ts us ps r = params_step ts us ps (has (codes ")") ts) refl r

-- Signatures.

pub signature_read : (sig : Signature) → Reads signature_at sig (IsSignature sig)
unfolding signature_at
signature_read sig =
    bind_reads (next_at (codes ":")) (λ c. type_at c.1 >>= λ t. next_at (codes "(") t.1 >>= λ o. params_behind o.1 >>= λ ps. Ok (record { ret = t.0; params = ps.0 }, ps.1)) tt sig _ _ (next_reads (codes ":"))
    (bind_reads type_at (λ t. next_at (codes "(") t.1 >>= λ o. params_behind o.1 >>= λ ps. Ok (record { ret = t.0; params = ps.0 }, ps.1)) sig.ret sig _ _ (pick_reads (λ t. type_of t.bytes) always_refused sig.ret)
    (bind_reads (next_at (codes "(")) (λ o. params_behind o.1 >>= λ ps. Ok (record { ret = sig.ret; params = ps.0 }, ps.1)) tt sig _ _ (next_reads (codes "("))
    (last_reads params_behind (λ ps. record { ret = sig.ret; params = ps }) sig.params _ (params_read sig.params))))

abbrev SignatureParts : Signature → Part
SignatureParts = Joint (λ (c : Unit {0}). Is (codes ":")) (λ c. Joint IsType (λ t. Joint (λ (o : Unit {0}). Is (codes "(")) (λ o. Mapped (λ (ps : List Parameter). record { ret = t; params = ps }) ClosedParts)))

signature_part : (sig : Signature) (ts : List Tok) → SignatureParts sig ts → IsSignature sig ts
signature_part sig ts (c, (f, b, pc, (t, (f1, b1, pt, (o, (f2, b2, po, (ps, is, eq), w2)), w1)), w)) =
    subst (λ z. IsSignature z ts) eq (f, b, pc, (f1, b1, pt, (f2, b2, po, is, w2), w1), w)

pub signature_found : Finds signature_at IsSignature
unfolding signature_at
signature_found ts us sig r =
    let w = bind_finds (next_at (codes ":")) (λ c. type_at c.1 >>= λ t. next_at (codes "(") t.1 >>= λ o. params_behind o.1 >>= λ ps. Ok (record { ret = t.0; params = ps.0 }, ps.1)) (λ (c : Unit {0}). Is (codes ":")) _ (next_finds (codes ":"))
    (λ c. bind_finds type_at (λ t. next_at (codes "(") t.1 >>= λ o. params_behind o.1 >>= λ ps. Ok (record { ret = t.0; params = ps.0 }, ps.1)) IsType _ (pick_finds (λ t. type_of t.bytes) always_refused)
    (λ t. bind_finds (next_at (codes "(")) (λ o. params_behind o.1 >>= λ ps. Ok (record { ret = t; params = ps.0 }, ps.1)) (λ (o : Unit {0}). Is (codes "(")) _ (next_finds (codes "("))
    (λ o. last_finds params_behind (λ ps. record { ret = t; params = ps }) ClosedParts params_found))) ts us sig r in
    (w.0, signature_part sig w.0 w.1, w.2)
