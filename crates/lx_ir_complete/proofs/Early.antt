-- Where tokens are calm, no early fault is met.
use Rattle.std.proofs.Common.{◌≡◌, ℕ, suc, ◌-◌, List, [], ◌∷◌, length, take, Bool, true, false, ◌||◌, refl, sym, ap, ◌∙◌, arith, Option, Some, None, true≢false}
use Rattle.std.specs.Prelude.{if◌then◌else◌}
use Rattle.lx_ir_tokens.specs.declared.token.Tok.{Tok}
use Rattle.lx_ir_tokens.specs.declared.token.Kind.{Kind}
use Rattle.lx_ir_tokens.specs.declared.token.Kind.TheVariants as kinds
use Rattle.lx_ir_terms.specs.Context.{Context}
use Rattle.lx_ir_constants.specs.Misplaced.{is_misplaced}
use Rattle.lx_ir_calls.specs.declared.intrinsics.TextForm.{TextForm}
use Rattle.lx_ir_calls.specs.declared.intrinsics.TextForm.TheVariants.{Program, Image}
use Rattle.lx_ir_complete.specs.Printed.{IsForeign, IsCalm, AreCalm}
use Rattle.lx_ir_read.specs.Reading.{is_own, is_early, first_early}
use Rattle.lx_ir_lawful.proofs.OwnNames.{taken_whole}

abbrev pub is_program : TextForm → Bool
is_program Program = true
is_program Image = false

pub program_is : (form : TextForm) → is_program form ≡ true → form ≡ Program
program_is Program e = refl
program_is Image e = absurd (true≢false (sym e))

no_own : (form : TextForm) (names : List (List ℕ)) (k : Kind) (name : ℕ) → (is_program form ≡ true → IsForeign names k name) → is_own form names k name ≡ false
no_own Program names kinds.Global name h = h refl
no_own Program names (kinds.Word w) name h = refl
no_own Program names kinds.Local name h = refl
no_own Program names (kinds.Number v minus) name h = refl
no_own Program names kinds.Text name h = refl
no_own Program names kinds.Bytes name h = refl
no_own Program names (kinds.Mark m) name h = refl
no_own Image names k name h = refl

not_early : (form : TextForm) (context : Context) (t : Tok) (ts : List Tok) → IsCalm (is_program form) context.names t ts → is_early form context (t ∷ ts) ≡ false
not_early form context t ts c = ap (λ b. b || is_misplaced context (t ∷ ts)) (no_own form context.names t.kind t.name c.foreign) ∙ c.placed context

-- The tokens of a text are looked at to their end, and none is early.
pub none_early : (form : TextForm) (context : Context) (toks : List Tok) → AreCalm (is_program form) context.names toks → first_early form context 0 toks ≡ None
none_early form context [] c = refl
none_early form context (t ∷ ts) c =
    let all : suc (length ts) - 0 ≡ suc (length ts) = omega arith in
    ap (λ n. if is_early form context (take n (t ∷ ts)) then Some (suc (length ts)) else first_early form context 0 ts) all
    ∙ ap (λ us. if is_early form context (t ∷ us) then Some (suc (length ts)) else first_early form context 0 ts) (taken_whole ts)
    ∙ ap (λ b. if b then Some (suc (length ts)) else first_early form context 0 ts) (not_early form context t ts c.0)
    ∙ none_early form context ts c.1
