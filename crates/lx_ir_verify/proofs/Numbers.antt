-- Lemmas on indices and arguments.
use Rattle.std.proofs.Common.{◌≡◌, ◌≢◌, ℕ, ◌+◌, ◌*◌, ◌-◌, ◌<◌, ◌≤◌, true, false, ◌&&◌, Some, None, List, [], ◌∷◌, length, get_or, drop, refl, ap, ◌∙◌, zero, suc, arith, pos, negsuc, cond}
use Rattle.std.specs.Prelude.{◌-ℤ◌}
use Rattle.std.proofs.lemmas.List.{drop_all}
use Rattle.lx_words.specs.Word.{Word, signed}
use Rattle.lx_words.specs.Width.{modulus}
use Rattle.lx_words.proofs.Tests.{less_true, le_true, and_false}
use Rattle.lx_words.proofs.Lists.{rest_at}
use Rattle.lx_ir.specs.declared.types.NamedType.{NamedType}
use Rattle.lx_ir.specs.declared.instr.Argument.{Argument}
use Rattle.lx_ir.specs.declared.module.Parameter.{Parameter}
use Rattle.lx_ir.specs.IrType.{IrType}
use Rattle.lx_ir.specs.Layout.{unnamed}
use Rattle.lx_ir.specs.Lawful.{same_scalar}
use Rattle.lx_ir.specs.Faults.{number_or_none, inner_type, has_path, goes_on, are_arguments}

-- a number less a greater one is negative
less_none : (b m : ℕ) → b < m → number_or_none (pos b -ℤ pos m) ≡ None
less_none b zero h = absurd (omega arith)
less_none b (suc n) h = ap (λ t. number_or_none (cond t (negsuc (suc n - suc b)) (pos (b - suc n)))) (less_true b (suc n) h)

pub path_none : (types : List NamedType) (xs : List Argument) (i : ℕ) (x : Argument) (t : IrType) → i < length xs → x ≡ get_or xs i x → inner_type (unnamed types t) x ≡ None → has_path types (drop i xs) t ≡ false
path_none types xs i x t h e n = ap (λ ys. has_path types ys t) (rest_at xs i x h e) ∙ ap (goes_on (has_path types (drop (i + 1) xs))) n

pub path_some : (types : List NamedType) (xs : List Argument) (i : ℕ) (x : Argument) (t u : IrType) → i < length xs → x ≡ get_or xs i x → inner_type (unnamed types t) x ≡ Some u → has_path types (drop i xs) t ≡ has_path types (drop (i + 1) xs) u
path_some types xs i x t u h e n = ap (λ ys. has_path types ys t) (rest_at xs i x h e) ∙ ap (goes_on (has_path types (drop (i + 1) xs))) n

pub path_end : (types : List NamedType) (xs : List Argument) (i : ℕ) (t : IrType) → length xs ≤ i → has_path types (drop i xs) t ≡ true
path_end types xs i t h = ap (λ ys. has_path types ys t) (drop_all i xs h)

pub arguments_step : (xs : List Argument) (ps : List Parameter) (i : ℕ) (x : Argument) (p : Parameter) → i < length xs → i < length ps → x ≡ get_or xs i x → p ≡ get_or ps i p → are_arguments (drop i xs) (drop i ps) ≡ (same_scalar x.ty p.ty && are_arguments (drop (i + 1) xs) (drop (i + 1) ps))
arguments_step xs ps i x p h g d e =
    let a = rest_at xs i x h d in
    let b = rest_at ps i p g e in
    λ k. are_arguments (a k) (b k)

pub arguments_end : (xs : List Argument) (ps : List Parameter) (i : ℕ) → length xs ≤ i → length ps ≤ i → are_arguments (drop i xs) (drop i ps) ≡ true
arguments_end xs ps i h g =
    let a = drop_all i xs h in
    let b = drop_all i ps g in
    λ k. are_arguments (a k) (b k)

pub arguments_length : (xs : List Argument) (ps : List Parameter) → length xs ≢ length ps → are_arguments xs ps ≡ false
arguments_length [] [] h = absurd (h refl)
arguments_length [] (p ∷ ps) h = refl
arguments_length (x ∷ xs) [] h = refl
arguments_length (x ∷ xs) (p ∷ ps) h = ap (λ b. same_scalar x.ty p.ty && b) (arguments_length xs ps (λ e. h (ap suc e))) ∙ and_false (same_scalar x.ty p.ty)

pub negative_none : (w : Word) → w.bits < modulus w.width → modulus w.width ≤ 2 * w.bits → number_or_none (signed w) ≡ None
negative_none w h g =
    ap (λ t. number_or_none (cond t (pos w.bits -ℤ pos (modulus w.width)) (pos w.bits))) (le_true _ _ g) ∙ less_none w.bits (modulus w.width) h
