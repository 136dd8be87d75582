-- Parameters: what is in the grammar is read, and what is read is in the grammar.
use Rattle.std.proofs.Common.{◌≡◌, ℕ, zero, suc, ◌+◌, ◌≤◌, ◌<◌, Bool, true, false, Option, Some, None, List, [], ◌∷◌, ◌++◌, length, Ok, Err, ◌⊎◌, inl, inr, refl, sym, ap, ◌∙◌, subst, append_assoc, arith}
use Rattle.std.specs.Prelude.{◌||◌, if◌then◌else◌}
use Rattle.std.proofs.lemmas.List.{length-append}
use Rattle.std.proofs.lemmas.Bool.{or_right}
use Rattle.lx_ir_tokens.specs.declared.token.Tok.{Tok}
use Rattle.lx_ir_tokens.specs.declared.token.Kind.{Kind}
use Rattle.lx_ir_tokens.specs.declared.token.Kind.TheVariants as kinds
use Rattle.lx_ir_tokens.specs.declared.token.Mark.{Mark}
use Rattle.lx_ir_tokens.specs.declared.token.Mark.TheVariants.{Comma, OpenParenthesis, CloseParenthesis}
use Rattle.lx_ir.specs.declared.types.Scalar.{Scalar}
use Rattle.lx_ir.specs.declared.module.Parameter.{Parameter}
use Rattle.lx_ir_terms.specs.Context.{Context, bytes_of}
use Rattle.lx_ir_terms.specs.Reading.{Read, ◌>>=◌, has, behind, is_mark, mark_at}
use Rattle.lx_ir_terms.specs.Types.{scalar_in, scalar_refusal, scalar_at}
use Rattle.lx_ir_terms.specs.Words.{is_passed}
use Rattle.lx_ir_terms.specs.Grammar.{Part, Picks, IsMark, IsNothing, ◌then◌}
use Rattle.lx_ir_terms.specs.Laws.{Reads}
use Rattle.lx_ir_terms.proofs.Marks.{other_mark}
use Rattle.lx_ir_terms.proofs.Parts.{next_reads, bind_reads, last_reads}
use Rattle.lx_ir_operands.specs.Grammar.{Repeated, IsPassed, IsScalar}
use Rattle.lx_ir_operands.proofs.PassedLaws.{passed_again}
use Rattle.lx_ir_statements.specs.declared.head.Head.{Head}
use Rattle.lx_ir_statements.specs.Numbers.{has_number, has_some}
use Rattle.lx_ir_statements.specs.Going.{going_at}
use Rattle.lx_ir_statements.specs.Parameters.{local_name, no_parameters, with_parameter, written_parameter, next_name, next_number, nameless_parameter, parameter_by, parameter_named, parameter_at, further_parameters_at, some_parameters_at, listed_parameters_at, parameters_at}
use Rattle.lx_ir_statements.specs.HeadGrammar.{IsName, IsParameter, AreFurtherParameters, AreParameters, IsHead}

-- What is in the grammar is read.

-- a comma or a parenthesis stands next
abbrev pub ends_parameter : Kind → Bool
ends_parameter k = is_mark Comma k || is_mark CloseParenthesis k

named_kind : (context : Context) (head : Head) (ty : Scalar) (kind : Kind) (n k : ℕ) (start ts : List Tok) → local_name kind n ≡ Some k → has_some head.registers (Some k) ≡ false → parameter_by context head ty start kind n ts ≡ Ok (with_parameter head (Some k) (bytes_of context k) ty, behind ts)
named_kind context head ty kinds.Local n k start ts e new = let s : n ≡ k = cc in subst (λ m. parameter_by context head ty start kinds.Local m ts ≡ Ok (with_parameter head (Some k) (bytes_of context k) ty, behind ts)) (sym s) (rw new refl)
named_kind context head ty (kinds.Word w) n k start ts e new = cc
named_kind context head ty kinds.Global n k start ts e new = cc
named_kind context head ty (kinds.Number v m) n k start ts e new = cc
named_kind context head ty kinds.Text n k start ts e new = cc
named_kind context head ty kinds.Bytes n k start ts e new = cc
named_kind context head ty (kinds.Mark m) n k start ts e new = cc

nameless_kind : (context : Context) (head : Head) (ty : Scalar) (kind : Kind) (n : ℕ) (start ts : List Tok) → ends_parameter kind ≡ true → has_some head.registers (next_number context head) ≡ false → parameter_by context head ty start kind n ts ≡ Ok (with_parameter head (next_number context head) (next_name head) ty, ts)
nameless_kind context head ty (kinds.Mark m) n start ts e new = rw new refl
nameless_kind context head ty kinds.Local n start ts e new = cc
nameless_kind context head ty (kinds.Word w) n start ts e new = cc
nameless_kind context head ty kinds.Global n start ts e new = cc
nameless_kind context head ty (kinds.Number v m) n start ts e new = cc
nameless_kind context head ty kinds.Text n start ts e new = cc
nameless_kind context head ty kinds.Bytes n start ts e new = cc

-- the parameter that such a name makes
abbrev Named : Context → Head → Scalar → Option ℕ → List ℕ → List Tok → List Tok → List Tok → Type 0
Named context head ty number name start ts us = parameter_named context head ty start ts ≡ Ok (with_parameter head number name ty, us)

nameless_again : (context : Context) (head : Head) (ty : Scalar) (start us : List Tok) → has ends_parameter us ≡ true → has_some head.registers (next_number context head) ≡ false → Named context head ty (next_number context head) (next_name head) start us us
nameless_again context head ty start [] e new = cc
nameless_again context head ty start (u ∷ us) e new = nameless_kind context head ty u.kind u.name start (u ∷ us) e new

named_again : (context : Context) (head : Head) (ty : Scalar) (number : Option ℕ) (name : List ℕ) (start ts us : List Tok) → IsName context head number name ts → has_some head.registers number ≡ false → has ends_parameter us ≡ true → Named context head ty number name start (ts ++ us) us
named_again context head ty number name start ts us (inl (n, (t, e, f), a, b)) new ends =
    let new' : has_some head.registers (Some n) ≡ false = subst (λ m. has_some head.registers m ≡ false) a new in
    rw (f, a, b) (named_kind context head ty t.kind t.name n start (t ∷ us) e new')
named_again context head ty number name start ts us (inr (f, a, b)) new ends =
    let new' : has_some head.registers (next_number context head) ≡ false = subst (λ m. has_some head.registers m ≡ false) a new in
    rw (f, a, b) (nameless_again context head ty start us ends new')

-- no word stands where a parameter is named or ends

local_no_word : (kind : Kind) (n k : ℕ) → local_name kind n ≡ Some k → is_passed false kind ≡ false
local_no_word kinds.Local n k e = refl
local_no_word kind n k e = cc

end_no_word : (kind : Kind) → ends_parameter kind ≡ true → is_passed false kind ≡ false
end_no_word (kinds.Mark m) e = refl
end_no_word (kinds.Word w) e = cc
end_no_word kind e = cc

pub ends_no_word : (us : List Tok) → has ends_parameter us ≡ true → has (is_passed false) us ≡ false
ends_no_word [] e = cc
ends_no_word (u ∷ us) e = end_no_word u.kind e

name_no_word : (context : Context) (head : Head) (number : Option ℕ) (name : List ℕ) (ts us : List Tok) → IsName context head number name ts → has ends_parameter us ≡ true → has (is_passed false) (ts ++ us) ≡ false
name_no_word context head number name ts us (inl (n, (t, e, f), a, b)) ends = rw f (local_no_word t.kind t.name n e)
name_no_word context head number name ts us (inr (f, a, b)) ends = rw f (ends_no_word us ends)

pub parameter_again : (context : Context) (head : Head) (number : Option ℕ) (p : Parameter) (ts us : List Tok) → IsParameter context head number p ts → has_some head.registers number ≡ false → has ends_parameter us ≡ true → parameter_at context head (ts ++ us) ≡ Ok (with_parameter head number p.name p.ty, us)
parameter_again context head number p ts us (f, b, (t, e, g), (w, n, r, m, v), z) new ends =
    let whole : ts ++ us ≡ t ∷ (w ++ (n ++ us)) = rw (z, g, v) (ap (λ r. t ∷ r) (append_assoc w n us)) in
    let over = passed_again tt w (n ++ us) (name_no_word context head number p.name n us m ends) r in
    rw (whole, e, over) (named_again context head p.ty number p.name (t ∷ (w ++ (n ++ us))) n us m new ends)

-- further parameters

abbrev pub comma_next : Head → List Tok → Bool
comma_next head us = has (is_mark Comma) us

abbrev pub further_step : Context → Head → List Tok → Read Head
further_step context head us = parameter_at context head (behind us)

pub closes_parameter : (us : List Tok) → has (is_mark CloseParenthesis) us ≡ true → has ends_parameter us ≡ true
closes_parameter [] e = cc
closes_parameter (u ∷ us) e = or_right (is_mark Comma u.kind) (is_mark CloseParenthesis u.kind) e

pub comma_ends : (k : Kind) → is_mark Comma k ≡ true → ends_parameter k ≡ true
comma_ends k e = rw e refl

-- behind a parameter stands a comma or the parenthesis
further_ends : (context : Context) (head : Head) (ps : List Parameter) (last : Head) (ts us : List Tok) → AreFurtherParameters context head ps last ts → has (is_mark CloseParenthesis) us ≡ true → has ends_parameter (ts ++ us) ≡ true
further_ends context head [] last ts us (s, e) c = rw e (closes_parameter us c)
further_ends context head (p ∷ ps) last ts us (number, new, (f, b, (k, o, g), r, w)) c = rw (w, g) (comma_ends k.kind o)

further_again : (context : Context) (ps : List Parameter) (head last : Head) (fuel : ℕ) (ts us : List Tok) → AreFurtherParameters context head ps last ts → length (ts ++ us) ≤ fuel → has (is_mark CloseParenthesis) us ≡ true → going_at comma_next (further_step context) fuel head (ts ++ us) ≡ Ok (last, us)
unfolding going_at
further_again context [] head last zero ts us (s, e) le c = rw (e, s) refl
further_again context [] head last (suc fuel) ts us (s, e) le c = rw (e, s, other_mark CloseParenthesis Comma us refl c) refl
further_again context (p ∷ ps) head last zero ts us (number, new, (f, b, (k, o, g), r, w)) le c =
    let none_left : length (ts ++ us) ≡ suc (length (b ++ us)) = rw (w, g) refl in absurd (omega arith)
further_again context (p ∷ ps) head last (suc fuel) ts us (number, new, (f, b, (k, o, g), (f', b', i, m, w'), w)) le c =
    let whole : ts ++ us ≡ k ∷ (f' ++ (b' ++ us)) = rw (w, g, w') (ap (λ r. k ∷ r) (append_assoc f' b' us)) in
    let size : length (ts ++ us) ≡ suc (length f' + length (b' ++ us)) = ap length whole ∙ ap suc (length-append f' (b' ++ us)) in
    let one = parameter_again context head number p f' (b' ++ us) i new (further_ends context (with_parameter head number p.name p.ty) ps last b' us m c) in
    rw (whole, o, one) (further_again context ps (with_parameter head number p.name p.ty) last fuel b' us m (omega arith) c)

-- parameters behind their parenthesis

pub first_new : (number : Option ℕ) → has_some [] number ≡ false
first_new None = refl
first_new (Some n) = refl

pub scalar_no_parenthesis : (k : Kind) (ty : Scalar) → scalar_in k ≡ Some ty → is_mark CloseParenthesis k ≡ false
scalar_no_parenthesis (kinds.Word w) ty e = refl
scalar_no_parenthesis k ty e = cc

listed_again : (context : Context) (ps : List Parameter) (last : Head) → Reads (listed_parameters_at context) last (AreParameters context ps last then IsMark CloseParenthesis)
listed_again context [] last ts us (f, b, (s, e), (c, o, g), w) = rw (w, e, g, o, s) refl
listed_again context (p ∷ ps) last ts us (f, b, (number, (f', b', (f2, b2, (t, e, g2), m2, w2), m, w')), (c, o, g), w) =
    let inner : ts ++ us ≡ f' ++ (b' ++ (c ∷ us)) = rw (w, g, w') (append_assoc (f' ++ b') (c ∷ []) us ∙ append_assoc f' b' (c ∷ us)) in
    let first : ts ++ us ≡ t ∷ (b2 ++ (b' ++ (c ∷ us))) = inner ∙ rw (w2, g2) refl in
    let apart : has (is_mark CloseParenthesis) (ts ++ us) ≡ false = rw first (scalar_no_parenthesis t.kind p.ty e) in
    let shut : has (is_mark CloseParenthesis) (c ∷ us) ≡ true = o in
    let one = parameter_again context no_parameters number p f' (b' ++ (c ∷ us)) (f2, b2, (t, e, g2), m2, w2) (first_new number) (further_ends context (with_parameter no_parameters number p.name p.ty) ps last b' (c ∷ us) m shut) in
    let more = further_again context ps (with_parameter no_parameters number p.name p.ty) last (length (b' ++ (c ∷ us))) b' (c ∷ us) m (omega arith) shut in
    rw (apart, inner, one, more, o) refl

pub heads_again : (context : Context) (head : Head) → Reads (parameters_at context) head (IsHead context head)
heads_again context head = bind_reads (mark_at OpenParenthesis) (λ o. listed_parameters_at context o.1) tt head _ _ (next_reads (is_mark OpenParenthesis)) (listed_again context head.params head)
