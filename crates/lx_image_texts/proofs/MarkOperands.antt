-- What a mark reads is an operand of the instruction that it stands before, or a size.
use Rattle.std.proofs.Common.{◌≡◌, ℕ, Bool, true, ◌||◌, List, [], ◌∷◌, inl, inr, refl, sym, subst, ◌∙◌, ap}
use Rattle.std.specs.Prelude.{◌⊎◌}
use Rattle.std.specs.List.{list_all}
use Rattle.std.proofs.lemmas.Bool.{and_from}
use Rattle.lx_words.specs.declared.word.Width.TheVariants.{W1, W8, W16, W32, W64}
use Rattle.lx_words.specs.Word.{word}
use Rattle.lx_words.proofs.Lists.{heads, no_list}
use Rattle.lx_words.proofs.Tests.{false_true, first_of, second_of}
use Rattle.lx_ir.specs.declared.types.Scalar.{Scalar}
use Rattle.lx_ir.specs.declared.types.Scalar.TheVariants.{Int, Ptr}
use Rattle.lx_ir.specs.declared.module.Constant.TheVariants as constant
use Rattle.lx_ir.specs.declared.module.Value.TheVariants as value
use Rattle.lx_ir.specs.declared.module.Module.{Module}
use Rattle.lx_ir.specs.declared.instr.Argument.{Argument}
use Rattle.lx_ir.specs.declared.instr.Callee.TheVariants as callee
use Rattle.lx_ir.specs.declared.instr.Op.{Op}
use Rattle.lx_ir.specs.declared.instr.Op.TheVariants as op
use Rattle.lx_ir.specs.Layout.{scalar_size}
use Rattle.lx_ir.specs.Lawful.{same_scalar, is_length, has_form}
use Rattle.lx_ir.specs.Operands.{argument, guard_width, operands_of}
use Rattle.lx_image_texts.specs.Marks.{is_narrow}
use Rattle.lx_image_texts.proofs.Distinct.{Each}
use Rattle.lx_image_texts.proofs.Beside.{IsMarkOf}
use Rattle.lx_image_texts.proofs.Unassigned.{IsIn}

-- a size as a guard names it
abbrev pub size_argument : ℕ → Argument
size_argument n = argument (Int W64) (value.Constant (constant.Number (word W64 n)))

abbrev pub IsOperand : List Argument → Argument → Type 0
IsOperand xs a = IsIn a xs ⊎ ((n : ℕ) × (size_argument n ≡ a))

length_type : (ty : Scalar) → (same_scalar (Int W32) ty || same_scalar (Int W64) ty) ≡ true → ty ≡ Int (guard_width (is_narrow ty))
length_type (Int W32) e = refl
length_type (Int W64) e = refl
length_type (Int W1) e = false_true e
length_type (Int W8) e = false_true e
length_type (Int W16) e = false_true e
length_type Ptr e = false_true e

length_operand : (len : Argument) → is_length len ≡ true → len ≡ argument (Int (guard_width (is_narrow len.ty))) len.value
length_operand len e = λ t. record { ty = length_type len.ty e t; value = len.value }

abbrev AreOperands : Op → Op → Type 0
AreOperands o k = Each (IsOperand (operands_of o)) (operands_of k)

pub mark_operands : (m : Module) (k o : Op) → has_form m o ≡ true → IsMarkOf k o → Each (IsOperand (operands_of o)) (operands_of k)
mark_operands m k (op.Store ty v at) f e = subst (AreOperands (op.Store ty v at)) (heads e) (inl (inr (inl refl)), (inr (scalar_size ty, refl), tt))
mark_operands m k (op.CopyBlock moves dest source len) f e =
    subst (AreOperands (op.CopyBlock moves dest source len)) (heads e) (inl (inl refl), (inl (inr (inr (inl (length_operand len f)))), tt))
mark_operands m k (op.FillBlock dest byte len) f e =
    subst (AreOperands (op.FillBlock dest byte len)) (heads e) (inl (inl refl), (inl (inr (inr (inl (length_operand len f)))), tt))
mark_operands m k (op.Call to ret (callee.Register r) args) f e = subst (AreOperands (op.Call to ret (callee.Register r) args)) (heads e) (inl (inl refl), tt)
mark_operands m k (op.Call to ret (callee.Symbol s) args) f e = no_list e
mark_operands m k o f e = no_list e

-- so a test that passes at each operand, and at sizes, passes at what the mark reads
operand_passes : (p : Argument → Bool) → ((n : ℕ) → p (size_argument n) ≡ true) → (xs : List Argument) (a : Argument) → list_all p xs ≡ true → IsOperand xs a → p a ≡ true
operand_passes p s xs a h (inr (n, e)) = ap p (sym e) ∙ s n
operand_passes p s [] a h (inl i) = absurd i
operand_passes p s (x ∷ xs) a h (inl (inl e)) = ap p (sym e) ∙ first_of (p x) (list_all p xs) h
operand_passes p s (x ∷ xs) a h (inl (inr i)) = operand_passes p s xs a (second_of (p x) (list_all p xs) h) (inl i)

pub mark_passes : (p : Argument → Bool) → ((n : ℕ) → p (size_argument n) ≡ true) → (xs ks : List Argument) → list_all p xs ≡ true → Each (IsOperand xs) ks → list_all p ks ≡ true
mark_passes p s xs [] h o = refl
mark_passes p s xs (k ∷ ks) h o = and_from (p k) (list_all p ks) (operand_passes p s xs k h o.0) (mark_passes p s xs ks h o.1)
