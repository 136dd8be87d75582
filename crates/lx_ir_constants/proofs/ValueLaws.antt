-- Operands: what is in the grammar is read, and what is read is in the grammar.
use Rattle.std.proofs.Common.{◌≡◌, ℕ, Bool, true, false, Some, List, [], ◌∷◌, ◌++◌, Ok, ◌⊎◌, inl, inr, refl, sym, ap, ◌∙◌, subst}
use Rattle.std.specs.Prelude.{if◌then◌else◌}
use Rattle.lx_ir_tokens.specs.declared.token.Tok.{Tok}
use Rattle.lx_ir_tokens.specs.declared.token.Kind.{Kind}
use Rattle.lx_ir_tokens.specs.declared.token.Kind.TheVariants as kinds
use Rattle.lx_ir_tokens.specs.declared.keyword.Keyword.TheVariants as keywords
use Rattle.lx_ir.specs.declared.types.Scalar.{Scalar}
use Rattle.lx_ir.specs.declared.module.Constant.{Constant}
use Rattle.lx_ir.specs.declared.module.Value.{Value}
use Rattle.lx_ir.specs.declared.module.Value.TheVariants as values
use Rattle.lx_ir_terms.specs.Context.{Context, register_number}
use Rattle.lx_ir_terms.specs.Reading.{Read, ◌>>=◌, has, behind}
use Rattle.lx_ir_terms.specs.Types.{depth_limit}
use Rattle.lx_ir_terms.specs.Grammar.{Part}
use Rattle.lx_ir_terms.specs.Laws.{Reads, Finds}
use Rattle.lx_ir_terms.proofs.Marks.{Next, next_token}
use Rattle.lx_ir_terms.proofs.Parts.{Mapped, last_reads, last_finds, ok_same}
use Rattle.lx_ir_constants.specs.Constants.{begins_expression, flat_constant_of, constant_at, is_register, first_name, value_at}
use Rattle.lx_ir_constants.specs.Grammar.{IsExpression, IsConstant, IsValue}
use Rattle.lx_ir_constants.proofs.ListLaws.{Found}
use Rattle.lx_ir_constants.proofs.ConstantLaws.{expression_reads, constant_again, constant_found}

flat_is_no_register : (context : Context) (ty : Scalar) (k : Kind) (name : ℕ) (c : Constant) → flat_constant_of context ty k name ≡ Some c → is_register k ≡ false
flat_is_no_register context ty kinds.Local name c e = cc
flat_is_no_register context ty k name c e = refl

register_begins_nothing : (k : Kind) → begins_expression k ≡ true → is_register k ≡ false
register_begins_nothing kinds.Local h = cc
register_begins_nothing k h = refl

no_register : (ts : List Tok) → has begins_expression ts ≡ true → has is_register ts ≡ false
no_register [] h = refl
no_register (t ∷ ts) h = register_begins_nothing t.kind h

constant_is_no_register : (context : Context) (ty : Scalar) (c : Constant) (ts us : List Tok) → IsConstant context depth_limit ty c ts → has is_register (ts ++ us) ≡ false
constant_is_no_register context ty c ts us (inl (k, e, f)) = rw f (flat_is_no_register context ty k.kind k.name c e)
constant_is_no_register context ty c ts us (inr i) = no_register (ts ++ us) (expression_reads context depth_limit c ts us i).0

pub value_again : (context : Context) (ty : Scalar) (v : Value) → Reads (value_at context ty) v (IsValue context ty v)
value_again context ty (values.Register r) ts us (t, k, n, w) = rw (w, k) (ap (λ x. Ok (values.Register x, us)) n)
value_again context ty (values.Constant c) ts us i = rw (constant_is_no_register context ty c ts us i, constant_again context depth_limit ty c ts us i) refl

abbrev value_by : Bool → Context → Scalar → List Tok → Read Value
value_by b context ty ts =
    if b then Ok (values.Register (register_number context (first_name ts)), behind ts)
    else (constant_at context depth_limit ty ts >>= λ c. Ok (values.Constant c.0, c.1))

constant_as : (context : Context) (ty : Scalar) (v : Value) (ts : List Tok) → Mapped (λ (c : Constant). values.Constant c) (IsConstant context depth_limit ty) v ts → IsValue context ty v ts
constant_as context ty v ts (c, i, e) = subst (λ x. IsValue context ty x ts) e i

register_found : (context : Context) (ty : Scalar) (t : Tok) (ts us : List Tok) (v : Value) → is_register t.kind ≡ true → values.Register (register_number context t.name) ≡ v → ts ≡ us → Found (IsValue context ty) v (t ∷ ts) us
register_found context ty t ts us v k e f =
    subst (λ x. Found (IsValue context ty) x (t ∷ ts) us) e (t ∷ [], (t, k, refl, refl), ap (λ r. t ∷ r) f)

value_step : (context : Context) (ty : Scalar) (b : Bool) (ts us : List Tok) (v : Value) → has is_register ts ≡ b → value_by b context ty ts ≡ Ok (v, us) → Found (IsValue context ty) v ts us
value_step context ty true [] us v k e = cc
value_step context ty true (t ∷ ts) us v k e =
    let s = ok_same (values.Register (register_number context t.name)) v ts us e in
    register_found context ty t ts us v k s.0 s.1
value_step context ty false ts us v k e =
    let w = last_finds (constant_at context depth_limit ty) (λ c. values.Constant c) _ (constant_found context depth_limit ty) ts us v e in
    (w.0, constant_as context ty v w.0 w.1, w.2)

pub value_found : (context : Context) (ty : Scalar) → Finds (value_at context ty) (IsValue context ty)
value_found context ty ts us v e = value_step context ty (has is_register ts) ts us v refl e
