-- The lines of a wrapper of an annotation have the form of a wrapper's.
use Rattle.std.proofs.Common.{◌≡◌, ℕ, suc, true, ◌&&◌, List, [], ◌∷◌, ◌++◌, length, Option, Some, None, refl, ◌∙◌, ap}
use Rattle.std.specs.Prelude.{nat_eq}
use Rattle.std.proofs.lemmas.Bool.{and_from}
use Rattle.lx_words.proofs.Tests.{eq_self}
use Rattle.lx_ir.specs.declared.types.Scalar.{Scalar}
use Rattle.lx_ir.specs.declared.module.Parameter.{Parameter}
use Rattle.lx_ir.specs.declared.module.Symbol.TheVariants as symbol
use Rattle.lx_ir.specs.declared.module.Function.{Function}
use Rattle.lx_ir.specs.declared.instr.Op.{Op}
use Rattle.lx_ir.specs.declared.instr.Op.TheVariants as op
use Rattle.lx_annot.specs.Action.{Action}
use Rattle.lx_annot.specs.declared.action.Annotation.{Annotation}
use Rattle.lx_image_texts.specs.WrapperText.{pre_lines, post_lines, wrapper_args, result_register, returned, wrapper_code}
use Rattle.lx_images.specs.WrapperForm.{hands_on, gives_back, is_behind, is_before, is_wrapper}

hands : (k : ℕ) (ps : List Parameter) → hands_on k (wrapper_args k ps) ≡ true
hands k [] = refl
hands k (p ∷ ps) = and_from (nat_eq k k) (hands_on (suc k) (wrapper_args (suc k) ps)) (eq_self k) (hands (suc k) ps)

many : (k : ℕ) (ps : List Parameter) → length (wrapper_args k ps) ≡ length ps
many k [] = refl
many k (p ∷ ps) = ap suc (many (suc k) ps)

gives : (n : ℕ) (ret : Option Scalar) → gives_back (result_register n ret) (returned n ret) ≡ true
gives n None = refl
gives n (Some ty) = eq_self n

behind : (j n k : ℕ) (ret : Option Scalar) (as' : List Action) → is_behind j (result_register n ret) (post_lines (symbol.Function j) k as' ++ (op.Leave (symbol.Function j) ∷ op.Ret (returned n ret) ∷ [])) ≡ true
behind j n k ret [] = and_from (nat_eq j j) (gives_back (result_register n ret) (returned n ret)) (eq_self j) (gives n ret)
behind j n k ret (a ∷ as') = and_from (nat_eq j j) _ (eq_self j) (behind j n (suc k) ret as')

before : (f : Function) (j k : ℕ) (as' : List Action) (lines : List Op) → is_before j (length f.params) lines ≡ true → is_before j (length f.params) (pre_lines (symbol.Function j) k as' ++ lines) ≡ true
before f j k [] lines h = h
before f j k (a ∷ as') lines h = and_from (nat_eq j j) _ (eq_self j) (before f j (suc k) as' lines h)

-- the lines of each wrapper have the form
pub wrapper_formed : (f : Function) (j : ℕ) (an : Annotation) → is_wrapper j (length f.params) (wrapper_code f j an) ≡ true
wrapper_formed f j an =
    and_from (nat_eq j j) _ (eq_self j)
    (before f j 0 an.pre _
    (and_from (nat_eq j j && (nat_eq (length (wrapper_args 0 f.params)) (length f.params) && hands_on 0 (wrapper_args 0 f.params))) _
    (and_from (nat_eq j j) _ (eq_self j) (and_from (nat_eq (length (wrapper_args 0 f.params)) (length f.params)) _ (ap (λ (n : ℕ). nat_eq n (length f.params)) (many 0 f.params) ∙ eq_self (length f.params)) (hands 0 f.params)))
    (behind j (length f.params) 0 f.ret an.post)))
