-- Instructions that give a value are gone past in one step that asks nothing.
use Rattle.std.proofs.Common.{◌≡◌, ◌∙◌, refl, sym, ap, Bool, true, false, Option, Some, None, List, ◌∷◌}
use Rattle.std.specs.Prelude.{IfSome}
use Rattle.lx_words.specs.Word.{Word}
use Rattle.lx_ir.specs.declared.instr.Op.{Op}
use Rattle.lx_ir.specs.declared.instr.Op.TheVariants as op
use Rattle.lx_model.specs.Thread.{Activation, activation_behind, behind_head}
use Rattle.lx_model.specs.Effect.{Effect, division, effect, value_effect}
use Rattle.lx_images.specs.Image.{Code, ImageFrame, ImageThread, Goes, Runs, effect_step, if_paid, instruction_step, no_marks, with_frames}
use Rattle.lx_image_steps.specs.Given.{GivesWord, GoesTo}
use Rattle.lx_image_steps.specs.Standing.{head_of}
use Rattle.lx_image_steps.proofs.Places.{some_head}

-- an instruction whose step is its effect: it sets no mark and calls no wrapper
abbrev pub StepsByEffect : Code → Activation → Op → Type 0
StepsByEffect c a o =
    (v : ImageThread) (fs : List ImageFrame) (os : List Op) → instruction_step c v fs (o ∷ os) no_marks a ≡ if_paid v (λ w. effect_step c w no_marks a fs (effect c.program a o))

-- which gives the word that its effect gives
pub given : (c : Code) (a : Activation) (o : Op) (w : Word) → StepsByEffect c a o → effect c.program a o ≡ value_effect a w → GivesWord c a o w
given c a o w steps gives = λ head v fs.
    ap (λ (os : List Op). instruction_step c v fs os no_marks a) (some_head a.code o head)
    ∙ steps v fs (behind_head a.code)
    ∙ ap (λ (e : Effect). if_paid v (λ w. effect_step c w no_marks a fs e)) gives

-- instructions whose step is their effect
abbrev pub is_value : Op → Bool
is_value (op.Binary to o ty x y) = true
is_value (op.Compare to pred ty x y) = true
is_value (op.Convert to how from x into) = true
is_value (op.Unary to o ty x) = true
is_value (op.Select to test ty x y) = true
is_value (op.GetElementPtr to ty base indices) = true
is_value o = false

by_effect : (c : Code) (a : Activation) (o : Op) → is_value o ≡ true → StepsByEffect c a o
by_effect c a (op.Binary to o ty x y) h = λ v fs os. refl
by_effect c a (op.Compare to pred ty x y) h = λ v fs os. refl
by_effect c a (op.Convert to how from x into) h = λ v fs os. refl
by_effect c a (op.Unary to o ty x) h = λ v fs os. refl
by_effect c a (op.Select to test ty x y) h = λ v fs os. refl
by_effect c a (op.GetElementPtr to ty base indices) h = λ v fs os. refl
by_effect c a o h = absurd (cc)

pub value_given : (c : Code) (a : Activation) (o : Op) (w : Word) → is_value o ≡ true → value_effect a w ≡ effect c.program a o → GivesWord c a o w
value_given c a o w h same = given c a o w (by_effect c a o h) (sym same)

-- if there is a value
pub value_given_if : (c : Code) (a : Activation) (o : Op) (r : Option Word) → is_value o ≡ true → IfSome r (λ w. value_effect a w ≡ effect c.program a o) → IfSome r (GivesWord c a o)
value_given_if c a o None h same = tt
value_given_if c a o (Some w) h same = value_given c a o w h same

-- a division has one, if it has a result
pub quotient_given : (c : Code) (a : Activation) (o : Op) (r q : Option Word) → is_value o ≡ true → effect c.program a o ≡ division a q → r ≡ q → IfSome r (GivesWord c a o)
quotient_given c a o None q h does is = tt
quotient_given c a o (Some w) q h does is = value_given c a o w h (ap (division a) is ∙ sym does)

-- behind the instruction the function stands where the step leads
pub goes_to : (c : Code) (a b : Activation) (o : Op) (w : Word) → head_of a.code ≡ Some o → GivesWord c a o w → b ≡ activation_behind (Some w) a → GoesTo c a b
goes_to c a b o w head gives is = λ v fs. gives head v fs ∙ ap (λ (x : Activation). if_paid v (λ w. Goes (with_frames (Runs x ∷ fs) w))) (sym is)
