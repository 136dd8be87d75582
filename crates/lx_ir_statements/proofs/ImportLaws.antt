-- Parameters of imports: what is in the grammar is read, and what is read is in the grammar.
use Rattle.std.proofs.Common.{◌≡◌, ℕ, zero, suc, ◌+◌, ◌≤◌, ◌<◌, Bool, true, false, Some, List, [], ◌∷◌, ◌++◌, length, Ok, Err, ◌⊎◌, inl, inr, refl, sym, ap, ◌∙◌, subst, append_assoc, arith}
use Rattle.std.specs.Prelude.{if◌then◌else◌}
use Rattle.std.proofs.lemmas.List.{length-append}
use Rattle.lx_ir_tokens.specs.declared.token.Tok.{Tok}
use Rattle.lx_ir_tokens.specs.declared.token.Kind.{Kind}
use Rattle.lx_ir_tokens.specs.declared.token.Kind.TheVariants as kinds
use Rattle.lx_ir_tokens.specs.declared.token.Mark.TheVariants.{Comma, OpenParenthesis, CloseParenthesis}
use Rattle.lx_ir.specs.declared.types.Scalar.{Scalar}
use Rattle.lx_ir_terms.specs.declared.fault.FaultKind.TheVariants.{OutOfProfile}
use Rattle.lx_ir_terms.specs.Reading.{Read, ◌>>=◌, at, has, behind, is_mark, mark_at, more_at, items_at, closed_at, listed_at}
use Rattle.lx_ir_terms.specs.Types.{scalar_in, scalar_refusal, scalar_at}
use Rattle.lx_ir_terms.specs.Words.{is_passed, passed_at}
use Rattle.lx_ir_terms.specs.Grammar.{Part, Picks, Is, IsMark, IsNothing, ◌then◌}
use Rattle.lx_ir_terms.specs.Laws.{Reads, Finds}
use Rattle.lx_ir_terms.proofs.Marks.{other_mark, next_token}
use Rattle.lx_ir_terms.proofs.Parts.{pick_finds, next_reads, next_finds, bind_reads, bind_ok, ok_same}
use Rattle.lx_ir_constants.specs.Constants.{is_register}
use Rattle.lx_ir_constants.specs.Grammar.{AreFurther, AreItems}
use Rattle.lx_ir_constants.specs.InitGrammar.{AreListed}
use Rattle.lx_ir_constants.proofs.ListLaws.{Found, closed_found}
use Rattle.lx_ir_operands.specs.Grammar.{Repeated, IsPassed, IsScalar}
use Rattle.lx_ir_operands.proofs.PassedLaws.{passed_again, passed_found}
use Rattle.lx_ir_statements.specs.Words.{is_any_word}
use Rattle.lx_ir_statements.specs.Imports.{unkept_name_at, unkept_at, import_parameter_at, import_parameters_at}
use Rattle.lx_ir_statements.specs.HeadGrammar.{IsImportParameter, AreImportParameters}
use Rattle.lx_ir_statements.proofs.ParameterLaws.{ends_parameter, closes_parameter, comma_ends, ends_no_word, scalar_no_parenthesis}

-- the name of a parameter, or none
abbrev IsUnkept : Part
IsUnkept ts = IsNothing ts ⊎ Is is_register ts

-- What is in the grammar is read.

end_no_name : (k : Kind) → ends_parameter k ≡ true → (is_any_word k ≡ false) × (is_register k ≡ false)
end_no_name (kinds.Mark m) e = (refl, refl)
end_no_name (kinds.Word w) e = cc
end_no_name kinds.Local e = cc
end_no_name kinds.Global e = (refl, refl)
end_no_name (kinds.Number v m) e = (refl, refl)
end_no_name kinds.Text e = (refl, refl)
end_no_name kinds.Bytes e = (refl, refl)

ends_no_name : (us : List Tok) → has ends_parameter us ≡ true → (has is_any_word us ≡ false) × (has is_register us ≡ false)
ends_no_name [] e = cc
ends_no_name (u ∷ us) e = end_no_name u.kind e

pub register_is : (k : Kind) → is_register k ≡ true → k ≡ kinds.Local
register_is kinds.Local e = refl
register_is k e = cc

unkept_name_again : (ts us : List Tok) → IsUnkept ts → has ends_parameter us ≡ true → unkept_name_at (ts ++ us) ≡ Ok (tt, us)
unfolding unkept_name_at
unkept_name_again ts us (inl e) ends = let n = ends_no_name us ends in rw (e, n.0, n.1) refl
unkept_name_again ts us (inr (t, k, e)) ends = rw (e, register_is t.kind k) refl

unkept_no_word : (ts us : List Tok) → IsUnkept ts → has ends_parameter us ≡ true → has (is_passed false) (ts ++ us) ≡ false
unkept_no_word ts us (inl e) ends = rw e (ends_no_word us ends)
unkept_no_word ts us (inr (t, k, e)) ends = rw (e, register_is t.kind k) refl

parameter_again : (ty : Scalar) (ts us : List Tok) → IsImportParameter ty ts → has ends_parameter us ≡ true → import_parameter_at (ts ++ us) ≡ Ok (ty, us)
parameter_again ty ts us (f, b, (t, e, g), (w, n, r, m, v), z) ends =
    let whole : ts ++ us ≡ t ∷ (w ++ (n ++ us)) = rw (z, g, v) (ap (λ r. t ∷ r) (append_assoc w n us)) in
    let over = passed_again tt w (n ++ us) (unkept_no_word n us m ends) r in
    rw (whole, e, over, unkept_name_again n us m ends) refl

further_ends : (params : List Scalar) (ts us : List Tok) → AreFurther IsImportParameter params ts → has (is_mark CloseParenthesis) us ≡ true → has ends_parameter (ts ++ us) ≡ true
further_ends [] ts us e c = rw e (closes_parameter us c)
further_ends (p ∷ ps) ts us (f, b, (k, o, g), r, w) c = rw (w, g) (comma_ends k.kind o)

further_again : (params : List Scalar) (fuel : ℕ) (ts us : List Tok) → AreFurther IsImportParameter params ts → length (ts ++ us) ≤ fuel → has (is_mark CloseParenthesis) us ≡ true → more_at import_parameter_at fuel (ts ++ us) ≡ Ok (params, us)
unfolding more_at
further_again [] zero ts us e le c = rw e refl
further_again [] (suc fuel) ts us e le c = rw (e, other_mark CloseParenthesis Comma us refl c) refl
further_again (p ∷ ps) zero ts us (f, b, (k, o, g), r, w) le c =
    let none_left : length (ts ++ us) ≡ suc (length (b ++ us)) = rw (w, g) refl in absurd (omega arith)
further_again (p ∷ ps) (suc fuel) ts us (f, b, (k, o, g), (f', b', i, m, w'), w) le c =
    let whole : ts ++ us ≡ k ∷ (f' ++ (b' ++ us)) = rw (w, g, w') (ap (λ r. k ∷ r) (append_assoc f' b' us)) in
    let size : length (ts ++ us) ≡ suc (length f' + length (b' ++ us)) = ap length whole ∙ ap suc (length-append f' (b' ++ us)) in
    rw (whole, o, parameter_again p f' (b' ++ us) i (further_ends ps b' us m c), further_again ps fuel b' us m (omega arith) c) refl

listed_again : (params : List Scalar) → Reads (listed_at CloseParenthesis import_parameter_at) params (AreListed IsImportParameter params then IsMark CloseParenthesis)
listed_again [] ts us (f, b, e, (t, k, g), w) = rw (w, e, g, k) refl
listed_again (p ∷ ps) ts us (f, b, (f', b', (f2, b2, (t, e, g2), m2, w2), m, w'), (c, o, g), w) =
    let inner : ts ++ us ≡ f' ++ (b' ++ (c ∷ us)) = rw (w, g, w') (append_assoc (f' ++ b') (c ∷ []) us ∙ append_assoc f' b' (c ∷ us)) in
    let first : ts ++ us ≡ t ∷ (b2 ++ (b' ++ (c ∷ us))) = inner ∙ rw (w2, g2) refl in
    let apart : has (is_mark CloseParenthesis) (ts ++ us) ≡ false = rw first (scalar_no_parenthesis t.kind p e) in
    let shut : has (is_mark CloseParenthesis) (c ∷ us) ≡ true = o in
    let one = parameter_again p f' (b' ++ (c ∷ us)) (f2, b2, (t, e, g2), m2, w2) (further_ends ps b' (c ∷ us) m shut) in
    let more = further_again ps (length (b' ++ (c ∷ us))) b' (c ∷ us) m (omega arith) shut in
    rw (apart, inner, one, more, o) refl

pub import_parameters_read : (params : List Scalar) → Reads import_parameters_at params (AreImportParameters params)
import_parameters_read params = bind_reads (mark_at OpenParenthesis) (λ o. listed_at CloseParenthesis import_parameter_at o.1) tt params _ _ (next_reads (is_mark OpenParenthesis)) (listed_again params)

-- What is read is in the grammar.

abbrev unkept_by : Bool → Bool → List Tok → Read (Unit {0})
unkept_by a b ts = if a then Err (at OutOfProfile ts) else Ok (tt, if b then behind ts else ts)

unkept_found_by : (a b : Bool) (ts us : List Tok) (x : Unit {0}) → has is_register ts ≡ b → unkept_by a b ts ≡ Ok (x, us) → (front : List Tok) × IsUnkept front × (ts ≡ front ++ us)
unkept_found_by true b ts us x h e = cc
unkept_found_by false false ts us x h e = ([], inl refl, (ok_same tt x ts us e).1)
unkept_found_by false true ts us x h e =
    let n = next_token is_register ts h in
    (n.token ∷ [], inr (n.token, n.kind, refl), n.whole ∙ ap (λ r. n.token ∷ r) (ok_same tt x (behind ts) us e).1)

unkept_name_found : (ts us : List Tok) (x : Unit {0}) → unkept_name_at ts ≡ Ok (x, us) → (front : List Tok) × IsUnkept front × (ts ≡ front ++ us)
unfolding unkept_name_at
unkept_name_found ts us x e = unkept_found_by (has is_any_word ts) (has is_register ts) ts us x refl e

parameter_finds : Finds import_parameter_at IsImportParameter
parameter_finds ts us ty e =
    let a = bind_ok (scalar_at ts) (λ t. unkept_at t.1 >>= λ u. Ok (t.0, u.1)) (ty, us) e in
    let b = bind_ok (unkept_at a.0.1) (λ u. Ok (a.0.0, u.1)) (ty, us) a.2 in
    let c = bind_ok (passed_at false a.0.1) (λ w. unkept_name_at w.1) b.0 b.1 in
    let s = ok_same a.0.0 ty b.0.1 us b.2 in
    let t = pick_finds (λ t. scalar_in t.kind) scalar_refusal ts a.0.1 a.0.0 a.1 in
    let w = passed_found a.0.1 c.0.1 c.0.0 c.1 in
    let n = unkept_name_found c.0.1 b.0.1 b.0.0 c.2 in
    (t.0 ++ (w.0 ++ n.0), subst (λ y. IsImportParameter y (t.0 ++ (w.0 ++ n.0))) s.0 (t.0, w.0 ++ n.0, t.1, (w.0, n.0, w.1, n.1, refl), refl), t.2 ∙ ap (λ r. t.0 ++ r) (w.2 ∙ ap (λ r. w.0 ++ r) (n.2 ∙ ap (λ r. n.0 ++ r) s.1) ∙ sym (append_assoc w.0 n.0 us)) ∙ sym (append_assoc t.0 (w.0 ++ n.0) us))

abbrev Listed : List Scalar → Part
Listed params = AreListed IsImportParameter params then IsMark CloseParenthesis

some_listed : (params : List Scalar) (ts : List Tok) → (AreItems IsImportParameter params then IsMark CloseParenthesis) ts → Listed params ts
some_listed [] ts (f, b, e, r, w) = absurd e
some_listed (p ∷ ps) ts i = i

abbrev listed_by : Bool → List Tok → Read (List Scalar)
listed_by b ts = if b then Ok ([], behind ts) else closed_at CloseParenthesis import_parameter_at ts

listed_step : (b : Bool) (ts us : List Tok) (params : List Scalar) → has (is_mark CloseParenthesis) ts ≡ b → listed_by b ts ≡ Ok (params, us) → Found Listed params ts us
listed_step true ts us params c e =
    let n = next_token (is_mark CloseParenthesis) ts c in
    let s = ok_same [] params (behind ts) us e in
    subst (λ ps. Found Listed ps ts us) s.0 (n.token ∷ [], ([], n.token ∷ [], refl, (n.token, n.kind, refl), refl), n.whole ∙ ap (λ r. n.token ∷ r) s.1)
listed_step false ts us params c e =
    let w = closed_found CloseParenthesis import_parameter_at IsImportParameter parameter_finds ts us params e in
    (w.0, some_listed params w.0 w.1, w.2)

pub import_parameters_found : Finds import_parameters_at AreImportParameters
import_parameters_found ts us params e =
    let a = bind_ok (mark_at OpenParenthesis ts) (λ o. listed_at CloseParenthesis import_parameter_at o.1) (params, us) e in
    let o = next_finds (is_mark OpenParenthesis) ts a.0.1 a.0.0 a.1 in
    let l = listed_step (has (is_mark CloseParenthesis) a.0.1) a.0.1 us params refl a.2 in
    (o.0 ++ l.0, (o.0, l.0, o.1, l.1, refl), o.2 ∙ ap (λ r. o.0 ++ r) l.2 ∙ sym (append_assoc o.0 l.0 us))
