-- Heads of statements.
use Rattle.std.proofs.Common.{◌≡◌, ℕ, Bool, true, false, Option, Some, None, List, [], ◌∷◌, Ok, Err, refl, ap, ◌∙◌, subst}
use Rattle.std.specs.Prelude.{if◌then◌else◌, ◌||◌}
use Rattle.lx_ir_tokens.specs.declared.token.Tok.{Tok}
use Rattle.lx_ir_tokens.specs.declared.token.Kind.{Kind}
use Rattle.lx_ir_tokens.specs.declared.token.Kind.TheVariants as kinds
use Rattle.lx_ir_tokens.specs.declared.token.Mark.TheVariants.{Comma, Hash, OpenParenthesis, CloseParenthesis}
use Rattle.lx_ir.specs.declared.types.Scalar.{Scalar}
use Rattle.lx_ir_terms.specs.declared.fault.FaultKind.{FaultKind}
use Rattle.lx_ir_terms.specs.declared.fault.FaultKind.TheVariants.{OutOfProfile, Twice}
use Rattle.lx_ir_terms.specs.Context.{Context, bytes_of}
use Rattle.lx_ir_terms.specs.Reading.{Read, ◌>>=◌, at, refused, has, behind, is_mark, pick_at, mark_at, listed_at}
use Rattle.lx_ir_terms.specs.Types.{scalar_in, scalar_at, scalar_refusal, result_in}
use Rattle.lx_ir_terms.specs.Words.{word_refusal, passed_at, passed_result_at}
use Rattle.lx_ir_constants.specs.Constants.{is_register}
use Rattle.lx_ir_operands.specs.Steps.{one_attribute_at}
use Rattle.lx_ir_statements.specs.declared.head.Head.{Head}
use Rattle.lx_ir_statements.specs.Numbers.{has_number, has_some}
use Rattle.lx_ir_statements.specs.Words.{is_any_word, is_import_word, has_import_attribute, import_attributes_at, has_function_attribute, function_attributes_at}
use Rattle.lx_ir_statements.specs.Parameters.{no_parameters, with_parameter, next_name, next_number, parameter_by, parameter_named, parameter_at, further_parameters_at, some_parameters_at, listed_parameters_at, parameters_at}
use Rattle.lx_ir_statements.specs.Imports.{unkept_name_at, unkept_at, import_parameter_at, import_parameters_at}
use Rattle.lx_ir_complete.proofs.Local.{first_of, Looks, has_looks, Same, Local, Plain, pure_plain, fault_local, end_local, other_fault, bind_local, then_plain, last_plain, if_plain, choose_local, same_local, behind_local}
use Rattle.lx_ir_complete.proofs.Loops.{steps_plain, going_local, behind_consumes, has_some as has_one, next_plain, listed_plain}
use Rattle.lx_ir_complete.proofs.RefusedOperands.{pick_plain, passed_plain, one_attribute_plain, one_attribute_shorter}

import_looks : (us vs : List Tok) → Looks us vs → has_import_attribute us ≡ has_import_attribute vs
import_looks us vs l = ap (λ b. b || has is_import_word us) (has_looks (is_mark Hash) us vs l) ∙ ap (λ b. has (is_mark Hash) vs || b) (has_looks is_import_word us vs l)

function_looks : (us vs : List Tok) → Looks us vs → has_function_attribute us ≡ has_function_attribute vs
function_looks us vs l = ap (λ b. b || has is_any_word us) (has_looks (is_mark Hash) us vs l) ∙ ap (λ b. has (is_mark Hash) vs || b) (has_looks is_any_word us vs l)

module _ (asked : FaultKind → Bool) where
  mark : (m : _) → Plain asked (mark_at m)
  mark m = next_plain asked (is_mark m)

  scalar_plain : Plain asked scalar_at
  scalar_plain = pick_plain asked (λ t. scalar_in t.kind) scalar_refusal

  -- Words.

  pub passed_result_plain : Plain asked (passed_result_at true)
  passed_result_plain = then_plain asked (passed_at true) (λ w. pick_at (λ t. result_in t.kind) word_refusal w.1) (passed_plain asked true) (λ w. pick_plain asked (λ t. result_in t.kind) word_refusal)

  pub import_attributes_plain : Plain asked import_attributes_at
  import_attributes_plain = steps_plain has_import_attribute one_attribute_at refl (one_attribute_shorter asked has_import_attribute) asked import_looks (one_attribute_plain asked)

  pub function_attributes_plain : Plain asked function_attributes_at
  function_attributes_plain = steps_plain has_function_attribute one_attribute_at refl (one_attribute_shorter asked has_function_attribute) asked function_looks (one_attribute_plain asked)

  -- Parameters of imports.

  abbrev SameUnit : Read (Unit {0}) → Read (Unit {0}) → Type 0
  SameUnit a b = a ≡ b

  unkept_by : (b : Bool) (ts : List Tok) → SameUnit (Ok (tt, if b then behind ts else ts)) (if b then Ok (tt, behind ts) else Ok (tt, ts))
  unkept_by true ts = refl
  unkept_by false ts = refl

  unkept_name_plain : Plain asked unkept_name_at
  unfolding unkept_name_at
  unkept_name_plain =
      if_plain asked is_any_word (λ ts. Err (at OutOfProfile ts)) (λ ts. Ok (tt, if has is_register ts then behind ts else ts)) (fault_local asked Same OutOfProfile)
      (same_local asked Same (λ ts. Ok (tt, if has is_register ts then behind ts else ts)) (λ ts. Ok (tt, if has is_register ts then behind ts else ts)) (λ ts. if has is_register ts then Ok (tt, behind ts) else Ok (tt, ts)) (λ ts. if has is_register ts then Ok (tt, behind ts) else Ok (tt, ts))
      (λ ts. unkept_by (has is_register ts) ts) (λ ts. unkept_by (has is_register ts) ts)
      (if_plain asked is_register (λ ts. Ok (tt, behind ts)) (λ ts. Ok (tt, ts)) (behind_local asked Same (λ ts. Ok (tt, ts)) (λ ts. Ok (tt, ts)) (pure_plain asked tt)) (pure_plain asked tt)))

  unkept_plain : Plain asked unkept_at
  unkept_plain = then_plain asked (passed_at false) (λ w. unkept_name_at w.1) (passed_plain asked false) (λ w. unkept_name_plain)

  import_parameter_plain : Plain asked import_parameter_at
  import_parameter_plain = then_plain asked scalar_at (λ t. unkept_at t.1 >>= λ u. Ok (t.0, u.1)) scalar_plain (λ t. last_plain asked unkept_at (λ u. t) unkept_plain)

  pub import_parameters_plain : Plain asked import_parameters_at
  import_parameters_plain = then_plain asked (mark_at OpenParenthesis) (λ o. listed_at CloseParenthesis import_parameter_at o.1) (mark OpenParenthesis) (λ o. listed_plain asked import_parameter_at import_parameter_plain CloseParenthesis)

  -- Parameters of functions. Where one without a name takes a number that is taken, the fault is at its type, and what follows may yet name it.

  module _ (silent : asked Twice ≡ false) (context : Context) where
    written_by : (taken : Bool) (head : Head) (ty : Scalar) (name : ℕ) → Plain asked (λ ts. if taken then Err (at Twice ts) else Ok (with_parameter head (Some name) (bytes_of context name) ty, behind ts))
    written_by true head ty name = fault_local asked Same Twice
    written_by false head ty name = behind_local asked Same (λ ts. Ok (with_parameter head (Some name) (bytes_of context name) ty, ts)) (λ ts. Ok (with_parameter head (Some name) (bytes_of context name) ty, ts)) (pure_plain asked (with_parameter head (Some name) (bytes_of context name) ty))

    nameless_by : (taken : Bool) (head : Head) (ty : Scalar) (start other : List Tok) → Local asked Same (λ ts. if taken then Err (at Twice start) else Ok (with_parameter head (next_number context head) (next_name head) ty, ts)) (λ ts. if taken then Err (at Twice other) else Ok (with_parameter head (next_number context head) (next_name head) ty, ts))
    nameless_by true head ty start other = other_fault asked Same (λ ts. at Twice start) (λ ts. at Twice other) (λ ts. silent)
    nameless_by false head ty start other = pure_plain asked (with_parameter head (next_number context head) (next_name head) ty)

    kind_local : (k : Kind) (name : ℕ) (head : Head) (ty : Scalar) (start other : List Tok) → Local asked Same (parameter_by context head ty start k name) (parameter_by context head ty other k name)
    kind_local kinds.Local name head ty start other = written_by (has_number head.registers name) head ty name
    kind_local (kinds.Word w) name head ty start other = fault_local asked Same OutOfProfile
    kind_local k name head ty start other = nameless_by (has_some head.registers (next_number context head)) head ty start other

    abbrev named_by : Head → Scalar → List Tok → Option Tok → List Tok → Read Head
    named_by head ty start None ts = refused []
    named_by head ty start (Some t) ts = parameter_by context head ty start t.kind t.name ts

    named_each : (head : Head) (ty : Scalar) (start other : List Tok) (first : Option Tok) → Local asked Same (named_by head ty start first) (named_by head ty other first)
    named_each head ty start other None = end_local asked Same
    named_each head ty start other (Some t) = kind_local t.kind t.name head ty start other

    as_named : (head : Head) (ty : Scalar) (start ts : List Tok) → parameter_named context head ty start ts ≡ named_by head ty start (first_of ts) ts
    as_named head ty start [] = refl
    as_named head ty start (t ∷ ts) = refl

    named_local : (head : Head) (ty : Scalar) (start other : List Tok) → Local asked Same (parameter_named context head ty start) (parameter_named context head ty other)
    named_local head ty start other =
        same_local asked Same (parameter_named context head ty start) (parameter_named context head ty other) (λ ts. named_by head ty start (first_of ts) ts) (λ ts. named_by head ty other (first_of ts) ts) (as_named head ty start) (as_named head ty other)
        (choose_local asked Same first_of first_of (λ us vs l. l.first) (named_by head ty start) (named_by head ty other) (named_each head ty start other))

    behind_type : (head : Head) (ty : Scalar) (start other : List Tok) → Local asked Same (λ us. passed_at false us >>= λ w. parameter_named context head ty start w.1) (λ us. passed_at false us >>= λ w. parameter_named context head ty other w.1)
    behind_type head ty start other =
        bind_local asked Same Same (passed_at false) (passed_at false) (λ ts w. parameter_named context head ty start w.1) (λ ts w. parameter_named context head ty other w.1) (passed_plain asked false)
        (λ ts vs x y l e. named_local head ty start other)

    parameter_plain : (head : Head) → Plain asked (parameter_at context head)
    parameter_plain head =
        bind_local asked Same Same scalar_at scalar_at (λ ts t. passed_at false t.1 >>= λ w. parameter_named context head t.0 ts w.1) (λ ts t. passed_at false t.1 >>= λ w. parameter_named context head t.0 ts w.1) scalar_plain
        (λ ts vs x y l e. subst (λ z. Local asked Same (λ us. passed_at false us >>= λ w. parameter_named context head x ts w.1) (λ us. passed_at false us >>= λ w. parameter_named context head z vs w.1)) e (behind_type head x ts vs))

    abbrev step : Head → List Tok → Read Head
    step head us = parameter_at context head (behind us)

    step_plain : (head : Head) → Plain asked (step head)
    step_plain head = behind_local asked Same (parameter_at context head) (parameter_at context head) (parameter_plain head)

    further_plain : (head : Head) → Plain asked (further_parameters_at context head)
    further_plain head =
        going_local (λ h us. has (is_mark Comma) us) step (λ h. refl) (λ h. behind_consumes asked (has (is_mark Comma)) (parameter_at context h) (has_one (is_mark Comma)) (parameter_plain h)) asked Same
        (λ s r e us vs l. has_looks (is_mark Comma) us vs l) (λ s r e. subst (λ z. Local asked Same (step s) (step z)) e (step_plain s)) head head refl

    some_parameters_plain : Plain asked (some_parameters_at context)
    some_parameters_plain =
        then_plain asked (parameter_at context no_parameters) (λ h. further_parameters_at context h.0 h.1 >>= λ hs. mark_at CloseParenthesis hs.1 >>= λ c. Ok (hs.0, c.1)) (parameter_plain no_parameters)
        (λ h. then_plain asked (further_parameters_at context h) (λ hs. mark_at CloseParenthesis hs.1 >>= λ c. Ok (hs.0, c.1)) (further_plain h)
        (λ hs. last_plain asked (mark_at CloseParenthesis) (λ c. hs) (mark CloseParenthesis)))

    pub parameters_plain : Plain asked (parameters_at context)
    parameters_plain =
        then_plain asked (mark_at OpenParenthesis) (λ o. listed_parameters_at context o.1) (mark OpenParenthesis)
        (λ o. if_plain asked (is_mark CloseParenthesis) (λ ts. Ok (no_parameters, behind ts)) (some_parameters_at context)
        (behind_local asked Same (λ ts. Ok (no_parameters, ts)) (λ ts. Ok (no_parameters, ts)) (pure_plain asked no_parameters)) some_parameters_plain)
