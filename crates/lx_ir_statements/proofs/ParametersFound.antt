-- Parameters: what is read is in the grammar.
use Rattle.std.proofs.Common.{◌≡◌, ℕ, zero, suc, Bool, true, false, Option, Some, None, List, [], ◌∷◌, ◌++◌, length, Ok, Err, ◌⊎◌, inl, inr, refl, sym, ap, ◌∙◌, subst, append_assoc}
use Rattle.std.specs.Prelude.{if◌then◌else◌}
use Rattle.std.proofs.lemmas.List.{append-nil}
use Rattle.lx_ir_tokens.specs.declared.token.Tok.{Tok}
use Rattle.lx_ir_tokens.specs.declared.token.Kind.{Kind}
use Rattle.lx_ir_tokens.specs.declared.token.Kind.TheVariants as kinds
use Rattle.lx_ir_tokens.specs.declared.token.Mark.TheVariants.{Comma, OpenParenthesis, CloseParenthesis}
use Rattle.lx_ir.specs.declared.types.Scalar.{Scalar}
use Rattle.lx_ir.specs.declared.module.Parameter.{Parameter}
use Rattle.lx_ir_terms.specs.declared.fault.FaultKind.TheVariants.{Twice}
use Rattle.lx_ir_terms.specs.Context.{Context, bytes_of}
use Rattle.lx_ir_terms.specs.Reading.{Read, ◌>>=◌, at, has, behind, is_mark, mark_at}
use Rattle.lx_ir_terms.specs.Types.{scalar_in, scalar_refusal, scalar_at}
use Rattle.lx_ir_terms.specs.Words.{passed_at}
use Rattle.lx_ir_terms.specs.Grammar.{Part, Picks, IsMark, IsNothing, ◌then◌}
use Rattle.lx_ir_terms.specs.Laws.{Reads, Finds}
use Rattle.lx_ir_terms.proofs.Marks.{next_token}
use Rattle.lx_ir_terms.proofs.Parts.{pick_finds, next_finds, bind_ok, ok_same}
use Rattle.lx_ir_operands.specs.Grammar.{Repeated, IsPassed, IsScalar}
use Rattle.lx_ir_operands.proofs.PassedLaws.{passed_found}
use Rattle.lx_ir_statements.specs.declared.head.Head.{Head}
use Rattle.lx_ir_statements.specs.Numbers.{has_number, has_some}
use Rattle.lx_ir_statements.specs.Going.{going_at}
use Rattle.lx_ir_statements.specs.Parameters.{local_name, no_parameters, with_parameter, next_name, next_number, parameter_by, parameter_named, parameter_at, further_parameters_at, some_parameters_at, listed_parameters_at, parameters_at}
use Rattle.lx_ir_statements.specs.HeadGrammar.{IsName, IsParameter, AreFurtherParameters, AreParameters, IsHead}
use Rattle.lx_ir_statements.proofs.ParameterLaws.{first_new, comma_next, further_step}

-- the name of a parameter was found: with it these parameters become others
record NameFound (context : Context) (head : Head) (ty : Scalar) (after : Head) (ts us : List Tok) : Type 0 where
  number : Option ℕ
  name : List ℕ
  front : List Tok
  is : IsName context head number name front
  new : has_some head.registers number ≡ false
  becomes : with_parameter head number name ty ≡ after
  whole : ts ≡ front ++ us

abbrev unless : Bool → Read Head → Read Head → Read Head
unless b other read = if b then other else read

written_found : (context : Context) (head : Head) (ty : Scalar) (after : Head) (n : ℕ) (b : Bool) (ts us : List Tok) → has_number head.registers n ≡ b → unless b (Err (at Twice (record { kind = kinds.Local; name = n } ∷ ts))) (Ok (with_parameter head (Some n) (bytes_of context n) ty, ts)) ≡ Ok (after, us) → NameFound context head ty after (record { kind = kinds.Local; name = n } ∷ ts) us
written_found context head ty after n true ts us h e = cc
written_found context head ty after n false ts us h e =
    let s = ok_same (with_parameter head (Some n) (bytes_of context n) ty) after ts us e in
    let t : Tok = record { kind = kinds.Local; name = n } in
    record { number = Some n; name = bytes_of context n; front = t ∷ []; is = inl (n, (t, refl, refl), refl, refl); new = h; becomes = s.0; whole = ap (λ r. t ∷ r) s.1 }

nameless_found : (context : Context) (head : Head) (ty : Scalar) (after : Head) (b : Bool) (start ts us : List Tok) → has_some head.registers (next_number context head) ≡ b → unless b (Err (at Twice start)) (Ok (with_parameter head (next_number context head) (next_name head) ty, ts)) ≡ Ok (after, us) → NameFound context head ty after ts us
nameless_found context head ty after true start ts us h e = cc
nameless_found context head ty after false start ts us h e =
    let s = ok_same (with_parameter head (next_number context head) (next_name head) ty) after ts us e in
    record { number = next_number context head; name = next_name head; front = []; is = inr (refl, refl, refl); new = h; becomes = s.0; whole = s.1 }

by_found : (context : Context) (head : Head) (ty : Scalar) (after : Head) (kind : Kind) (n : ℕ) (start ts us : List Tok) → parameter_by context head ty start kind n (record { kind = kind; name = n } ∷ ts) ≡ Ok (after, us) → NameFound context head ty after (record { kind = kind; name = n } ∷ ts) us
by_found context head ty after kinds.Local n start ts us e = written_found context head ty after n (has_number head.registers n) ts us refl e
by_found context head ty after (kinds.Word w) n start ts us e = cc
by_found context head ty after kinds.Global n start ts us e = nameless_found context head ty after (has_some head.registers (next_number context head)) start (record { kind = kinds.Global; name = n } ∷ ts) us refl e
by_found context head ty after (kinds.Number v m) n start ts us e = nameless_found context head ty after (has_some head.registers (next_number context head)) start (record { kind = kinds.Number v m; name = n } ∷ ts) us refl e
by_found context head ty after kinds.Text n start ts us e = nameless_found context head ty after (has_some head.registers (next_number context head)) start (record { kind = kinds.Text; name = n } ∷ ts) us refl e
by_found context head ty after kinds.Bytes n start ts us e = nameless_found context head ty after (has_some head.registers (next_number context head)) start (record { kind = kinds.Bytes; name = n } ∷ ts) us refl e
by_found context head ty after (kinds.Mark m) n start ts us e = nameless_found context head ty after (has_some head.registers (next_number context head)) start (record { kind = kinds.Mark m; name = n } ∷ ts) us refl e

named_found : (context : Context) (head : Head) (ty : Scalar) (after : Head) (start ts us : List Tok) → parameter_named context head ty start ts ≡ Ok (after, us) → NameFound context head ty after ts us
named_found context head ty after start [] us e = cc
named_found context head ty after start (t ∷ ts) us e = by_found context head ty after t.kind t.name start ts us e

-- a parameter was found
record ParameterFound (context : Context) (head after : Head) (ts us : List Tok) : Type 0 where
  number : Option ℕ
  param : Parameter
  front : List Tok
  is : IsParameter context head number param front
  new : has_some head.registers number ≡ false
  becomes : with_parameter head number param.name param.ty ≡ after
  whole : ts ≡ front ++ us

abbrev behind_type : Context → Head → List Tok → Scalar × List Tok → Read Head
behind_type context head ts t = passed_at false t.1 >>= λ w. parameter_named context head t.0 ts w.1

parameter_found : (context : Context) (head after : Head) (ts us : List Tok) → parameter_at context head ts ≡ Ok (after, us) → ParameterFound context head after ts us
parameter_found context head after ts us e =
    let a = bind_ok (scalar_at ts) (behind_type context head ts) (after, us) e in
    let b = bind_ok (passed_at false a.0.1) (λ w. parameter_named context head a.0.0 ts w.1) (after, us) a.2 in
    let f = pick_finds (λ t. scalar_in t.kind) scalar_refusal ts a.0.1 a.0.0 a.1 in
    let g = passed_found a.0.1 b.0.1 b.0.0 b.1 in
    let n = named_found context head a.0.0 after ts b.0.1 us b.2 in
    record {
      number = n.number;
      param = record { name = n.name; ty = a.0.0 };
      front = f.0 ++ (g.0 ++ n.front);
      is = (f.0, g.0 ++ n.front, f.1, (g.0, n.front, g.1, n.is, refl), refl);
      new = n.new;
      becomes = n.becomes;
      whole = f.2 ∙ ap (λ r. f.0 ++ r) (g.2 ∙ ap (λ r. g.0 ++ r) n.whole ∙ sym (append_assoc g.0 n.front us)) ∙ sym (append_assoc f.0 (g.0 ++ n.front) us);
    }

-- further parameters were found
record FurtherFound (context : Context) (head last : Head) (ts us : List Tok) : Type 0 where
  params : List Parameter
  front : List Tok
  are : AreFurtherParameters context head params last front
  whole : ts ≡ front ++ us

abbrev more_by : Context → Bool → ℕ → Head → List Tok → Read Head
more_by context b fuel head ts = if b then (parameter_at context head (behind ts) >>= λ x. going_at comma_next (further_step context) fuel x.0 x.1) else Ok (head, ts)

abbrev AllFound : Context → ℕ → Type 0
AllFound context fuel = (head last : Head) (ts us : List Tok) → going_at comma_next (further_step context) fuel head ts ≡ Ok (last, us) → FurtherFound context head last ts us

no_further : (context : Context) (head last : Head) (ts us : List Tok) (x : Read Head) → x ≡ Ok (head, ts) → x ≡ Ok (last, us) → FurtherFound context head last ts us
no_further context head last ts us x a e =
    let s = ok_same head last ts us (sym a ∙ e) in
    record { params = []; front = []; are = (s.0, refl); whole = s.1 }

more_step : (context : Context) (fuel : ℕ) → AllFound context fuel → (b : Bool) (head last : Head) (ts us : List Tok) → has (is_mark Comma) ts ≡ b → more_by context b fuel head ts ≡ Ok (last, us) → FurtherFound context head last ts us
more_step context fuel h false head last ts us c e = no_further context head last ts us (Ok (head, ts)) refl e
more_step context fuel h true head last ts us c e =
    let n = next_token (is_mark Comma) ts c in
    let a = bind_ok (parameter_at context head (behind ts)) (λ x. going_at comma_next (further_step context) fuel x.0 x.1) (last, us) e in
    let p = parameter_found context head a.0.0 (behind ts) a.0.1 a.1 in
    let m = h a.0.0 last a.0.1 us a.2 in
    let more : AreFurtherParameters context (with_parameter head p.number p.param.name p.param.ty) m.params last m.front = subst (λ k. AreFurtherParameters context k m.params last m.front) (sym p.becomes) m.are in
    record {
      params = p.param ∷ m.params;
      front = n.token ∷ (p.front ++ m.front);
      are = (p.number, p.new, (n.token ∷ [], p.front ++ m.front, (n.token, n.kind, refl), (p.front, m.front, p.is, more, refl), refl));
      whole = n.whole ∙ ap (λ r. n.token ∷ r) (p.whole ∙ ap (λ r. p.front ++ r) m.whole ∙ sym (append_assoc p.front m.front us));
    }

further_found : (context : Context) (fuel : ℕ) → AllFound context fuel
unfolding going_at
further_found context zero head last ts us e = no_further context head last ts us (Ok (head, ts)) refl e
further_found context (suc fuel) head last ts us e = more_step context fuel (further_found context fuel) (has (is_mark Comma) ts) head last ts us refl e

-- what the parameters become has them all
further_params : (context : Context) (ps : List Parameter) (head last : Head) (ts : List Tok) → AreFurtherParameters context head ps last ts → last.params ≡ head.params ++ ps
further_params context [] head last ts (s, e) = ap (λ h. h.params) (sym s) ∙ sym (append-nil head.params)
further_params context (p ∷ ps) head last ts (number, new, (f, b, o, (f', b', i, m, w'), w)) =
    further_params context ps (with_parameter head number p.name p.ty) last b' m ∙ append_assoc head.params (p ∷ []) ps

-- Parameters in their parentheses.

abbrev ListFound : Context → Head → List Tok → List Tok → Type 0
ListFound context head ts us = (front : List Tok) × (AreParameters context head.params head then IsMark CloseParenthesis) front × (ts ≡ front ++ us)

abbrev behind_first : Context → Head × List Tok → Read Head
behind_first context h = further_parameters_at context h.0 h.1 >>= λ hs. mark_at CloseParenthesis hs.1 >>= λ c. Ok (hs.0, c.1)

abbrev behind_further : Head × List Tok → Read Head
behind_further hs = mark_at CloseParenthesis hs.1 >>= λ c. Ok (hs.0, c.1)

some_found : (context : Context) (head : Head) (ts us : List Tok) → some_parameters_at context ts ≡ Ok (head, us) → ListFound context head ts us
some_found context head ts us e =
    let a = bind_ok (parameter_at context no_parameters ts) (behind_first context) (head, us) e in
    let b = bind_ok (further_parameters_at context a.0.0 a.0.1) behind_further (head, us) a.2 in
    let c = bind_ok (mark_at CloseParenthesis b.0.1) (λ c. Ok (b.0.0, c.1)) (head, us) b.2 in
    let s = ok_same b.0.0 head c.0.1 us c.2 in
    let p = parameter_found context no_parameters a.0.0 ts a.0.1 a.1 in
    let m = further_found context (length a.0.1) a.0.0 b.0.0 a.0.1 b.0.1 b.1 in
    let k = next_finds (is_mark CloseParenthesis) b.0.1 c.0.1 c.0.0 c.1 in
    let more : AreFurtherParameters context (with_parameter no_parameters p.number p.param.name p.param.ty) m.params head m.front = subst (λ h. AreFurtherParameters context h m.params head m.front) (sym p.becomes) (subst (λ h. AreFurtherParameters context a.0.0 m.params h m.front) s.0 m.are) in
    let all : head.params ≡ p.param ∷ m.params = further_params context m.params (with_parameter no_parameters p.number p.param.name p.param.ty) head m.front more in
    let are : AreParameters context head.params head (p.front ++ m.front) = subst (λ ps. AreParameters context ps head (p.front ++ m.front)) (sym all) (p.number, (p.front, m.front, p.is, more, refl)) in
    ((p.front ++ m.front) ++ k.0, (p.front ++ m.front, k.0, are, k.1, refl), p.whole ∙ ap (λ r. p.front ++ r) (m.whole ∙ ap (λ r. m.front ++ r) (k.2 ∙ ap (λ r. k.0 ++ r) s.1)) ∙ sym (append_assoc p.front m.front (k.0 ++ us)) ∙ sym (append_assoc (p.front ++ m.front) k.0 us))

abbrev listed_by : Context → Bool → List Tok → Read Head
listed_by context b ts = if b then Ok (no_parameters, behind ts) else some_parameters_at context ts

listed_found : (context : Context) (b : Bool) (head : Head) (ts us : List Tok) → has (is_mark CloseParenthesis) ts ≡ b → listed_by context b ts ≡ Ok (head, us) → ListFound context head ts us
listed_found context false head ts us c e = some_found context head ts us e
listed_found context true head ts us c e =
    let n = next_token (is_mark CloseParenthesis) ts c in
    let s = ok_same no_parameters head (behind ts) us e in
    subst (λ h. ListFound context h ts us) s.0 (n.token ∷ [], ([], n.token ∷ [], (refl, refl), (n.token, n.kind, refl), refl), n.whole ∙ ap (λ r. n.token ∷ r) s.1)

pub heads_found : (context : Context) → Finds (parameters_at context) (IsHead context)
heads_found context ts us head e =
    let a = bind_ok (mark_at OpenParenthesis ts) (λ o. listed_parameters_at context o.1) (head, us) e in
    let o = next_finds (is_mark OpenParenthesis) ts a.0.1 a.0.0 a.1 in
    let l = listed_found context (has (is_mark CloseParenthesis) a.0.1) head a.0.1 us refl a.2 in
    (o.0 ++ l.0, (o.0, l.0, o.1, l.1, refl), o.2 ∙ ap (λ r. o.0 ++ r) l.2 ∙ sym (append_assoc o.0 l.0 us))
