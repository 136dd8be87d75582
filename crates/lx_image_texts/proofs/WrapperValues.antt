-- The parameters of a wrapper, the values that it hands on, and its names.
use Rattle.std.proofs.Common.{◌≡◌, ℕ, suc, ◌+◌, ◌^◌, ◌<◌, ◌≤◌, Bool, true, false, not, ◌&&◌, ◌||◌, List, [], ◌∷◌, ◌++◌, map, length, drop, Option, Some, None, refl, sym, ◌∙◌, ap, arith}
use Rattle.std.specs.Prelude.{codes, bytes_eq, slice_get}
use Rattle.std.specs.List.{list_all, list_any}
use Rattle.std.proofs.lemmas.Bool.{and_from}
use Rattle.lx_words.specs.Text.{decimal_text}
use Rattle.lx_words.proofs.Injective.{number_texts}
use Rattle.lx_words.proofs.Tests.{false_true}
use Rattle.lx_words.proofs.Lists.{same_bytes, all_joined}
use Rattle.lx_ir.specs.declared.types.Scalar.{Scalar}
use Rattle.lx_ir.specs.declared.module.Parameter.{Parameter}
use Rattle.lx_ir.specs.declared.module.Value.TheVariants as value
use Rattle.lx_ir.specs.declared.instr.Argument.{Argument}
use Rattle.lx_ir.specs.Lawful.{is_name, is_digit, is_distinct, same_scalar, registers_in}
use Rattle.lx_ir.specs.Faults.{fits_if_typed, value_fits, are_arguments}
use Rattle.lx_ir.proofs.Equality.{scalar_itself}
use Rattle.lx_ir.proofs.DigitNames.{all_stand, decimal_digits}
use Rattle.lx_image_texts.specs.WrapperText.{wrapper_params, wrapper_args, result_names}
use Rattle.lx_image_texts.proofs.Distinct.{Each}
use Rattle.lx_image_texts.proofs.Unassigned.{got_drop, drop_next}

-- parameters

pub many_params : (k : ℕ) (ps : List Parameter) → length (wrapper_params k ps) ≡ length ps
many_params k [] = refl
many_params k (p ∷ ps) = ap suc (many_params (suc k) ps)

pub types_of_params : (k : ℕ) (ps : List Parameter) → map (λ (p : Parameter). p.ty) (wrapper_params k ps) ≡ map (λ (p : Parameter). p.ty) ps
types_of_params k [] = refl
types_of_params k (p ∷ ps) = ap (λ ts. p.ty ∷ ts) (types_of_params (suc k) ps)

-- what is handed on

pub args_fit_params : (k : ℕ) (ps : List Parameter) → are_arguments (wrapper_args k ps) ps ≡ true
args_fit_params k [] = refl
args_fit_params k (p ∷ ps) = and_from (same_scalar p.ty p.ty) (are_arguments (wrapper_args (suc k) ps) ps) (scalar_itself p.ty) (args_fit_params (suc k) ps)

-- a register below this number
pub record Below (limit : ℕ) (a : Argument) : Type 0 where
  pub register : ℕ
  pub is : a.value ≡ value.Register register
  pub less : register < limit

pub args_below : (limit k : ℕ) (ps : List Parameter) → k + length ps ≤ limit → Each (Below limit) (wrapper_args k ps)
args_below limit k [] l = tt
args_below limit k (p ∷ ps) l = (record { register = k; is = refl; less = omega (arith, l) }, args_below limit (suc k) ps (omega (arith, l)))

pub args_pass : (q : Argument → Bool) (limit k : ℕ) (ps : List Parameter) → ((ty : Scalar) (r : ℕ) → r < limit → q (record { ty = ty; value = value.Register r }) ≡ true) → k + length ps ≤ limit → list_all q (wrapper_args k ps) ≡ true
args_pass q limit k [] h l = refl
args_pass q limit k (p ∷ ps) h l = and_from (q (record { ty = p.ty; value = value.Register k })) (list_all q (wrapper_args (suc k) ps)) (h p.ty k (omega (arith, l))) (args_pass q limit (suc k) ps h (omega (arith, l)))

pub registers_below : (limit k : ℕ) (ps : List Parameter) → k + length ps ≤ limit → Each (λ r. r < limit) (registers_in (wrapper_args k ps))
registers_below limit k [] l = tt
registers_below limit k (p ∷ ps) l = (omega (arith, l), registers_below limit (suc k) ps (omega (arith, l)))

pub args_typed : (types rest : List Scalar) (k : ℕ) (ps : List Parameter) → drop k types ≡ map (λ (p : Parameter). p.ty) ps ++ rest → list_all (λ (a : Argument). value_fits types a.ty a.value) (wrapper_args k ps) ≡ true
args_typed types rest k [] e = refl
args_typed types rest k (p ∷ ps) e =
    and_from (fits_if_typed p.ty (slice_get types k)) (list_all (λ (a : Argument). value_fits types a.ty a.value) (wrapper_args (suc k) ps))
    (ap (fits_if_typed p.ty) (got_drop k types p.ty (map (λ (p : Parameter). p.ty) ps ++ rest) e) ∙ scalar_itself p.ty)
    (args_typed types rest (suc k) ps (drop_next k types p.ty (map (λ (p : Parameter). p.ty) ps ++ rest) e))

-- names

name_of_digits : (bs : List ℕ) → 0 < length bs → list_all is_digit bs ≡ true → is_name bs ≡ true
name_of_digits [] some h = absurd (omega (arith, some))
name_of_digits (b ∷ bs) some h = all_stand (b ∷ bs) h

decimal_is_name : (n : ℕ) → is_name (decimal_text n) ≡ true
decimal_is_name n = name_of_digits (decimal_text n) (number_texts.some n) (decimal_digits n)

abbrev pub params_names : ℕ → List Parameter → List (List ℕ)
params_names k ps = map (λ p. p.name) (wrapper_params k ps)

params_named : (k : ℕ) (ps : List Parameter) → list_all is_name (params_names k ps) ≡ true
params_named k [] = refl
params_named k (p ∷ ps) = and_from (is_name (decimal_text k)) (list_all is_name (params_names (suc k) ps)) (decimal_is_name k) (params_named (suc k) ps)

result_named : (ret : Option Scalar) → list_all is_name (result_names ret) ≡ true
result_named None = refl
result_named (Some ty) = refl

pub all_named : (k : ℕ) (ps : List Parameter) (ret : Option Scalar) → list_all is_name (params_names k ps ++ result_names ret) ≡ true
all_named k ps ret = all_joined is_name (params_names k ps) (result_names ret) (params_named k ps) (result_named ret)

-- no two are the same

not_r : (k : ℕ) → bytes_eq (decimal_text k) (codes "r") ≡ false
not_r k = by (bytes_eq (decimal_text k) (codes "r")) refl
  where
    by : (b : Bool) → bytes_eq (decimal_text k) (codes "r") ≡ b → b ≡ false
    by true e = false_true (ap (λ (n : List ℕ). list_all is_digit n) (sym (same_bytes (decimal_text k) (codes "r") e)) ∙ decimal_digits k)
    by false e = refl

apart : (j k : ℕ) → j < k → k < 2 ^ 128 → bytes_eq (decimal_text j) (decimal_text k) ≡ false
apart j k l few = by (bytes_eq (decimal_text j) (decimal_text k)) refl
  where
    by : (b : Bool) → bytes_eq (decimal_text j) (decimal_text k) ≡ b → b ≡ false
    by true e =
        let less : j < 2 ^ 128 = omega (arith, l, few) in
        let it : j ≡ k = number_texts.decimal j k less few (same_bytes (decimal_text j) (decimal_text k) e) in
        absurd (omega (arith, l, it))
    by false e = refl

no_result : (j : ℕ) (ret : Option Scalar) → list_any (bytes_eq (decimal_text j)) (result_names ret) ≡ false
no_result j None = refl
no_result j (Some ty) = ap (λ (b : Bool). b || false) (not_r j)

none_later : (j k : ℕ) (ps : List Parameter) (ret : Option Scalar) → j < k → k + length ps < 2 ^ 128 → list_any (bytes_eq (decimal_text j)) (params_names k ps ++ result_names ret) ≡ false
none_later j k [] ret l few = no_result j ret
none_later j k (p ∷ ps) ret l few =
    let here : k < 2 ^ 128 = omega (arith, few) in
    let next : suc k + length ps < 2 ^ 128 = omega (arith, few) in
    let less : j < suc k = omega (arith, l) in
    λ t. apart j k l here t || none_later j (suc k) ps ret less next t

result_once : (ret : Option Scalar) → is_distinct (result_names ret) ≡ true
result_once None = refl
result_once (Some ty) = refl

pub all_once : (k : ℕ) (ps : List Parameter) (ret : Option Scalar) → k + length ps < 2 ^ 128 → is_distinct (params_names k ps ++ result_names ret) ≡ true
all_once k [] ret few = result_once ret
all_once k (p ∷ ps) ret few =
    let next : suc k + length ps < 2 ^ 128 = omega (arith, few) in
    let less : k < suc k = omega arith in
    and_from (not (list_any (bytes_eq (decimal_text k)) (params_names (suc k) ps ++ result_names ret))) (is_distinct (params_names (suc k) ps ++ result_names ret)) (ap not (none_later k (suc k) ps ret less next)) (all_once (suc k) ps ret next)
