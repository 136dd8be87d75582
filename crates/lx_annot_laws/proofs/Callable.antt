-- Parameters of functions and their clauses hang on the tokens that they are, and on the one behind them.
use Rattle.std.proofs.Common.{◌≡◌, suc, Bool, true, false, Some, List, [], ◌∷◌, length, Ok, Err, refl, sym, ap, ◌∙◌, arith, bytes_eq, codes}
use Rattle.std.specs.Prelude.{if◌then◌else◌, ◌&&◌}
use Rattle.std.proofs.lemmas.Slice.Eq.{bytes_eq-Decides}
use Rattle.lx_annot.specs.declared.expr.Ty.{Ty}
use Rattle.lx_annot.specs.declared.expr.Ty.TheVariants as ty
use Rattle.lx_annot.specs.declared.interface.Parameter.{Parameter}
use Rattle.lx_annot_expressions.specs.Tokens.{Tok}
use Rattle.lx_annot_expressions.specs.declared.fault.Fault.{Fault}
use Rattle.lx_annot_expressions.specs.Reading.{Read, ◌>>=◌, at, refused, behind, has, next_at, steps_at, adding_at}
use Rattle.lx_annot_expressions.specs.Exprs.{names_of_params}
use Rattle.lx_annot_terms.specs.Lists.{Known}
use Rattle.lx_annot_terms.specs.Signatures.{param_name_at}
use Rattle.lx_annot_terms.specs.Clauses.{clauses_at}
use Rattle.lx_cproto.specs.Types.{type_at, is_void, value_type_at}
use Rattle.lx_cproto.specs.Params.{param_behind, some_params_at, is_void_alone, params_at, enclosed_params_at, callable_at}
use Rattle.lx_annot_laws.specs.RefusedPartLaws.{is_refusal}
use Rattle.lx_annot_laws.proofs.Local.{Looks, has_looks, Bound, no_longer, Plain, ok_err, pure_plain, then_plain, last_plain, over_plain, refused_plain, next_plain}
use Rattle.lx_annot_laws.proofs.Loops.{Hungry, over_hungry, then_hungry, further_plain, wary_plain}
use Rattle.lx_annot_laws.proofs.Clauses.{param_name_plain, clauses_plain}
use Rattle.lx_annot_laws.proofs.Types.{tail_at, tail_plain, type_plain, type_hungry, type_of_void}

-- no value is `void`
abbrev valued : Ty × List Tok → Read Ty
valued t = if is_void t.0 then refused t.1 else Ok (t.0, t.1)

valued_by : (t : Ty) (b : Bool) → Plain (λ us. if b then refused us else Ok (t, us))
valued_by t true = refused_plain {A = Ty}
valued_by t false = pure_plain t

valued_plain : (t : Ty) → Plain (λ us. valued (t, us))
valued_plain t = valued_by t (is_void t)

abbrev named_by : List Parameter → Ty × List Tok → Read Parameter
named_by before t = param_name_at (names_of_params before) t.1 >>= λ p. Ok (record { name = p.0; ty = t.0 }, p.1)

named_plain : (before : List Parameter) (t : Ty) → Plain (λ us. named_by before (t, us))
named_plain before t = last_plain (param_name_at (names_of_params before)) (λ p. record { name = p; ty = t }) (param_name_plain (names_of_params before))

abbrev further : Parameter × List Tok → Read (List Parameter)
further p = steps_at (has (codes ",")) (adding_at param_behind) (length p.1) (p.0 ∷ []) p.1

param_plain : (before : List Parameter) → Plain (param_behind before)
param_plain before = then_plain value_type_at (named_by before) (then_plain type_at valued type_plain valued_plain) (named_plain before)

further_params : (p : Parameter) → Plain (λ us. further (p, us))
further_params p = further_plain param_behind param_plain (codes ",") (p ∷ [])

-- parameters from the type of the first on
abbrev params_of : Read Ty → Read (List Parameter)
params_of r = r >>= valued >>= named_by [] >>= further

module _ (type : List Tok → Read Ty) (h : Plain type) where
  params_plain_from : Plain (λ ts. params_of (type ts))
  params_plain_from =
      then_plain (λ ts. type ts >>= valued >>= named_by []) further (then_plain (λ ts. type ts >>= valued) (named_by []) (then_plain type valued h valued_plain) (named_plain [])) further_params

some_are : (ts : List Tok) → some_params_at ts ≡ params_of (type_at ts)
unfolding some_params_at
some_are ts = refl

some_params_plain : Plain some_params_at
unfolding some_params_at
some_params_plain = params_plain_from type_at type_plain

some_params_hungry : Hungry some_params_at
unfolding some_params_at
some_params_hungry =
    then_hungry (λ ts. type_at ts >>= valued >>= named_by []) further (then_hungry (λ ts. type_at ts >>= valued) (named_by []) (then_hungry type_at valued type_hungry valued_plain) (named_plain [])) further_params

-- parameters that begin with `void` fail behind it
void_fails : (t : Tok) (ts : List Tok) (f : Fault) → bytes_eq t.bytes (codes "void") ≡ true → is_refusal f.kind ≡ true → some_params_at (t ∷ ts) ≡ Err f → f.left ≡ suc (length ts) → ⊥
void_fails t ts f b a e left =
    let is : params_of (tail_at (Some ty.Void) ts) ≡ Err f = ap params_of (sym (type_of_void t ts ((bytes_eq-Decides t.bytes (codes "void")).0 b))) ∙ sym (some_are (t ∷ ts)) ∙ e in
    let s = (params_plain_from (tail_at (Some ty.Void)) (tail_plain (Some ty.Void))).stops ts f a is in
    absurd (omega (arith, no_longer s.0 ts s.1 s.2, s.3, left))

void_steady : (t : Tok) (us vs : List Tok) → Looks us vs → is_void_alone (t ∷ us) ≡ is_void_alone (t ∷ vs)
void_steady t us vs l = ap (λ b. bytes_eq t.bytes (codes "void") && b) (has_looks (codes ")") us vs l)

abbrev params_by : Bool → List Tok → Read (List Parameter)
params_by k ts = if k then Ok ([], behind ts) else some_params_at ts

params_hungry : (k : Bool) → Hungry (params_by k)
params_hungry true = over_hungry []
params_hungry false = some_params_hungry

waits_by : (t : Tok) (ts vs : List Tok) (f : Fault) (void close : Bool) → bytes_eq t.bytes (codes "void") ≡ void → Bound f.kind (t ∷ ts) → is_refusal f.kind ≡ true → params_by (void && close) (t ∷ ts) ≡ Err f → f.left ≡ suc (length ts) → params_by (void && has (codes ")") vs) (t ∷ vs) ≡ Err (at f.kind (t ∷ vs))
waits_by t ts vs f true true v bound a e left = absurd (ok_err {A = List Parameter} ts [] f e)
waits_by t ts vs f true false v bound a e left = absurd (void_fails t ts f v a e left)
waits_by t ts vs f false close v bound a e left = some_params_plain.faults [] (t ∷ ts) (t ∷ vs) f bound a e left refl

params_waits : (t : Tok) (ts vs : List Tok) (f : Fault) → Bound f.kind (t ∷ ts) → is_refusal f.kind ≡ true → params_by (is_void_alone (t ∷ ts)) (t ∷ ts) ≡ Err f → f.left ≡ suc (length ts) → params_by (is_void_alone (t ∷ vs)) (t ∷ vs) ≡ Err (at f.kind (t ∷ vs))
params_waits t ts vs f bound a e left = waits_by t ts vs f (bytes_eq t.bytes (codes "void")) (has (codes ")") ts) refl bound a e left

params_plain : Plain params_at
params_plain = wary_plain is_void_alone (λ ts. Ok ([], behind ts)) some_params_at (over_plain []) some_params_plain void_steady params_hungry params_waits

enclosed_plain : Plain enclosed_params_at
unfolding enclosed_params_at
enclosed_plain =
    then_plain (next_at (codes "(")) (λ o. params_at o.1 >>= λ ps. next_at (codes ")") ps.1 >>= λ c. Ok (ps.0, c.1)) (next_plain (codes "("))
    (λ o. then_plain params_at (λ ps. next_at (codes ")") ps.1 >>= λ c. Ok (ps.0, c.1)) params_plain (λ ps. last_plain (next_at (codes ")")) (λ c. ps) (next_plain (codes ")"))))

-- what stands behind the name of a function
pub callable_plain : (known : Known) (ret : Ty) → Plain (callable_at known ret)
unfolding callable_at
callable_plain known ret =
    then_plain enclosed_params_at (λ ps. clauses_at (record { ret = ret; params = ps.0 }) known ps.1 >>= λ a. next_at (codes ";") a.1 >>= λ e. Ok (record { signature = record { ret = ret; params = ps.0 }; annotation = a.0 }, e.1)) enclosed_plain
    (λ ps. then_plain (clauses_at (record { ret = ret; params = ps }) known) (λ a. next_at (codes ";") a.1 >>= λ e. Ok (record { signature = record { ret = ret; params = ps }; annotation = a.0 }, e.1)) (clauses_plain (record { ret = ret; params = ps }) known)
    (λ a. last_plain (next_at (codes ";")) (λ e. record { signature = record { ret = ret; params = ps }; annotation = a }) (next_plain (codes ";"))))
