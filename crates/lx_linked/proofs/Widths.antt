-- Words that are as wide as their types.
use Rattle.std.proofs.Common.{◌≡◌, ℕ, zero, suc, Bool, true, false, List, [], ◌∷◌, map, Option, Some, None, refl, sym, ap}
use Rattle.std.specs.Prelude.{option_map}
use Rattle.std.proofs.lemmas.Bool.{and_from}
use Rattle.lx_words.specs.declared.word.Width.{Width}
use Rattle.lx_words.specs.declared.word.BinOp.{BinOp}
use Rattle.lx_words.specs.declared.word.BinOp.TheVariants.{Add, Sub, Mul, UDiv, SDiv, URem, SRem, And, Or, Xor, Shl, LShr, AShr}
use Rattle.lx_words.specs.Width.{same_width}
use Rattle.lx_words.specs.Word.{Word, unless_zero, unless_overflow, binary}
use Rattle.lx_words.proofs.Widths.{width_is, width_itself}
use Rattle.lx_words.proofs.Tests.{true_false, first_of, second_of}
use Rattle.lx_words.proofs.Options.{none_some, some_same}
use Rattle.lx_ir.specs.declared.types.Scalar.{Scalar}
use Rattle.lx_ir.specs.declared.types.Scalar.TheVariants.{Int, Ptr}
use Rattle.lx_ir.specs.declared.module.Constant.{Constant}
use Rattle.lx_ir.specs.declared.module.Constant.TheVariants as constant
use Rattle.lx_ir.specs.declared.module.Parameter.{Parameter}
use Rattle.lx_ir.specs.declared.instr.Argument.{Argument}
use Rattle.lx_ir.specs.Layout.{width_of}
use Rattle.lx_ir.specs.Lawful.{same_scalar}
use Rattle.lx_ir.specs.Faults.{type_of_constant, are_arguments}
use Rattle.lx_ir.specs.Faults.{same_result as same_scalars}
use Rattle.lx_model.specs.declared.program.Program.{Program}
use Rattle.lx_model.specs.Program.{Home, constant_word, same_widths, same_result}

-- tests that are equations

pub scalar_is : (s t : Scalar) → same_scalar s t ≡ true → width_of s ≡ width_of t
scalar_is (Int v) (Int w) e = width_is v w e
scalar_is Ptr Ptr e = refl
scalar_is (Int v) Ptr e = true_false (sym e)
scalar_is Ptr (Int w) e = true_false (sym e)

pub widths_are : (vs ws : List Width) → same_widths vs ws ≡ true → vs ≡ ws
widths_are [] [] e = refl
widths_are (v ∷ vs) (w ∷ ws) e = λ k. width_is v w (first_of (same_width v w) (same_widths vs ws) e) k ∷ widths_are vs ws (second_of (same_width v w) (same_widths vs ws) e) k
widths_are [] (w ∷ ws) e = true_false (sym e)
widths_are (v ∷ vs) [] e = true_false (sym e)

pub widths_itself : (ws : List Width) → same_widths ws ws ≡ true
widths_itself [] = refl
widths_itself (w ∷ ws) = and_from (same_width w w) (same_widths ws ws) (width_itself w) (widths_itself ws)

pub result_is : (v w : Option Width) → same_result v w ≡ true → v ≡ w
result_is None None e = refl
result_is (Some v) (Some w) e = ap (λ (x : Width). Some x) (width_is v w e)
result_is None (Some w) e = true_false (sym e)
result_is (Some v) None e = true_false (sym e)

pub result_itself : (w : Option Width) → same_result w w ≡ true
result_itself None = refl
result_itself (Some w) = width_itself w

pub scalars_are : (s t : Option Scalar) → same_scalars s t ≡ true → option_map width_of s ≡ option_map width_of t
scalars_are None None e = refl
scalars_are (Some s) (Some t) e = ap (λ (x : Width). Some x) (scalar_is s t e)
scalars_are None (Some t) e = true_false (sym e)
scalars_are (Some s) None e = true_false (sym e)

abbrev pub argument_width : Argument → Width
argument_width x = width_of x.ty

abbrev pub parameter_width : Parameter → Width
parameter_width x = width_of x.ty

pub arguments_are : (xs : List Argument) (ps : List Parameter) → are_arguments xs ps ≡ true → map argument_width xs ≡ map parameter_width ps
arguments_are [] [] e = refl
arguments_are (x ∷ xs) (p ∷ ps) e =
    λ k. scalar_is x.ty p.ty (first_of (same_scalar x.ty p.ty) (are_arguments xs ps) e) k ∷ arguments_are xs ps (second_of (same_scalar x.ty p.ty) (are_arguments xs ps) e) k
arguments_are [] (p ∷ ps) e = true_false (sym e)
arguments_are (x ∷ xs) [] e = true_false (sym e)

-- the words of constants, and the results of operators

pub constant_width : (p : Program) (h : Home) (c : Constant) → (constant_word p h c).width ≡ width_of (type_of_constant c)
constant_width p h (constant.Number w) = refl
constant_width p h (constant.Truth true) = refl
constant_width p h (constant.Truth false) = refl
constant_width p h (constant.Blank b w) = refl
constant_width p h (constant.Pointer c) = refl
constant_width p h (constant.Cast c w) = refl

divided : (n : ℕ) (r w : Word) → unless_zero n r ≡ Some w → w.width ≡ r.width
divided zero r w e = none_some e
divided (suc n) r w e = ap (λ (x : Word). x.width) (sym (some_same e))

bounded : (b : Bool) (n : ℕ) (r w : Word) → unless_overflow b (unless_zero n r) ≡ Some w → w.width ≡ r.width
bounded true n r w e = none_some e
bounded false n r w e = divided n r w e

is_it : (r w : Word) → ◌≡◌ {A = Option Word} (Some r) (Some w) → w.width ≡ r.width
is_it r w e = ap (λ (x : Word). x.width) (sym (some_same e))

pub binary_width : (o : BinOp) (a b w : Word) → binary o a b ≡ Some w → w.width ≡ a.width
binary_width Add a b w e = is_it _ w e
binary_width Sub a b w e = is_it _ w e
binary_width Mul a b w e = is_it _ w e
binary_width UDiv a b w e = divided b.bits _ w e
binary_width URem a b w e = divided b.bits _ w e
binary_width SDiv a b w e = bounded _ b.bits _ w e
binary_width SRem a b w e = bounded _ b.bits _ w e
binary_width And a b w e = is_it _ w e
binary_width Or a b w e = is_it _ w e
binary_width Xor a b w e = is_it _ w e
binary_width Shl a b w e = is_it _ w e
binary_width LShr a b w e = is_it _ w e
binary_width AShr a b w e = is_it _ w e
