-- An instruction does the same in both runs.
use Rattle.std.proofs.Common.{◌≡◌, ℕ, true, List, [], ◌∷◌, ◌++◌, length, Option, Some, None, inl, inr, refl, sym, subst, ◌∙◌, ap}
use Rattle.std.specs.Prelude.{nat_eq, find, cond, unwrap_or, option_map, pos, ◌+ℤ◌}
use Rattle.lx_words.specs.declared.word.Width.TheVariants.{W1, W8, W64}
use Rattle.lx_words.specs.Word.{Word, word, word_of_int, signed, binary, compare}
use Rattle.lx_ir.specs.declared.types.Scalar.TheVariants.{Int, Ptr}
use Rattle.lx_ir.specs.declared.module.Value.TheVariants as value
use Rattle.lx_ir.specs.declared.module.Symbol.TheVariants as symbol
use Rattle.lx_ir.specs.declared.module.Function.{Function}
use Rattle.lx_ir.specs.declared.instr.Argument.{Argument}
use Rattle.lx_ir.specs.declared.instr.Callee.{Callee}
use Rattle.lx_ir.specs.declared.instr.Callee.TheVariants as callee
use Rattle.lx_ir.specs.declared.instr.SwitchCase.{SwitchCase}
use Rattle.lx_ir.specs.declared.instr.Op.{Op}
use Rattle.lx_ir.specs.declared.instr.Op.TheVariants as op
use Rattle.lx_ir.specs.Layout.{width_of, element_offset}
use Rattle.lx_ir.specs.Operands.{argument, callee_operands, given_by, is_terminator, targets_of}
use Rattle.lx_model.specs.declared.program.Program.{Program}
use Rattle.lx_model.specs.declared.request.What.TheVariants as what
use Rattle.lx_model.specs.declared.request.Way.TheVariants.{Indirect}
use Rattle.lx_model.specs.Program.{home_or_kernel, module_of, function_of, target, Target, ToNative, ToSlot, ToImport, ToOwn, Nowhere}
use Rattle.lx_model.specs.Thread.{CodeBlock, Activation, with_register, head_destination, activation_behind}
use Rattle.lx_model.specs.Effect.{Effect, Moves, Wants, Enters, text_of, types_of, operand, bits, argument_words, value_effect, division, truth_word, conversion, choice, unary_value, arrival, jump_effect, code_block_named, chosen_label, target_effect, call_effect, indices_of, effect, with_phis, returned_by, returned_at, returned_value}
use Rattle.lx_images.specs.Places.{IsIn}
use Rattle.lx_simulation.proofs.Elements.{in_second, in_map}
use Rattle.lx_simulation.proofs.Walking.{no_ops, arrives}
use Rattle.lx_simulation.proofs.Jumping.{at_block}
use Rattle.lx_simulation.proofs.Frames.{AllVerified, sound_at, chosen, case_in}
use Rattle.lx_linked.specs.Alike.{operands_read}
use Rattle.lx_linked.proofs.Standing.{holding, Stood, Answered, past, read_same}
use Rattle.lx_linked.proofs.Arriving.{operand_same, jumped}

-- where a running function is; a number that names no function runs nothing
abbrev pub StandsBy : Option Function → Activation → List Word → Type 0
StandsBy None a qs = (a.code ≡ []) × (length qs ≡ length a.registers)
StandsBy (Some g) a qs = Stood g a qs

abbrev pub StandsIn : Program → Activation → List Word → Type 0
StandsIn p a qs = StandsBy (function_of p a.function) a qs

past_by : (p : Program) (a : Activation) (qs : List Word) (o : Op) (os : List Op) (w : Option Word) (f : Option Function) → a.code ≡ o ∷ os → Answered (given_by o) w → StandsBy f a qs → StandsBy f (activation_behind w a) (with_register (head_destination a.code) w qs)
past_by p a qs o os w None ec given st = no_ops (sym st.0 ∙ ec)
past_by p a qs o os w (Some g) ec given st = past g a qs o os w ec given st

pub stands_past : (p : Program) (a : Activation) (qs : List Word) (o : Op) (os : List Op) (w : Option Word) → a.code ≡ o ∷ os → Answered (given_by o) w → StandsIn p a qs → StandsIn p (activation_behind w a) (with_register (head_destination a.code) w qs)
stands_past p a qs o os w ec given st = past_by p a qs o os w (function_of p a.function) ec given st

-- operands

abbrev SameOperands : Program → Activation → List Word → List Argument → Type 0
SameOperands p a qs xs = (x : Argument) → IsIn x xs → operand p (holding qs a) x.value ≡ operand p a x.value

operands_by : (p : Program) → AllVerified p → (a : Activation) (qs : List Word) (o : Op) (os : List Op) (f : Option Function) → function_of p a.function ≡ f → a.code ≡ o ∷ os → StandsBy f a qs → SameOperands p a qs (operands_read o)
operands_by p ver a qs o os None ef ec st x i = no_ops (sym st.0 ∙ ec)
operands_by p ver a qs o os (Some g) ef ec st x i =
    operand_same p a qs x.value (λ r e. (read_same (module_of p (home_or_kernel p a.function)) g (sound_at p ver a.function g ef) a qs o os ec st x r i e).1)

pub operands_same : (p : Program) → AllVerified p → (a : Activation) (qs : List Word) (o : Op) (os : List Op) → a.code ≡ o ∷ os → StandsIn p a qs → SameOperands p a qs (operands_read o)
operands_same p ver a qs o os ec st = operands_by p ver a qs o os (function_of p a.function) refl ec st

words_same : (p : Program) (a : Activation) (qs : List Word) (xs : List Argument) → SameOperands p a qs xs → argument_words p (holding qs a) xs ≡ argument_words p a xs
words_same p a qs [] h = refl
words_same p a qs (x ∷ xs) h = λ j. h x (inl refl) j ∷ words_same p a qs xs (λ y i. h y (inr i)) j

indices_same : (p : Program) (a : Activation) (qs : List Word) (xs : List Argument) → SameOperands p a qs xs → indices_of p (holding qs a) xs ≡ indices_of p a xs
indices_same p a qs [] h = refl
indices_same p a qs (x ∷ xs) h = λ j. signed (h x (inl refl) j) ∷ indices_same p a qs xs (λ y i. h y (inr i)) j

-- effects

-- the same effect; a register step leads to the same place, with registers that are alike there
abbrev pub EffectSame : Program → Activation → Effect → Effect → Type 0
EffectSame p a (Moves c) e = (rs : List Word) × (e ≡ Moves (holding rs c)) × StandsIn p c rs × (c.function ≡ a.function)
EffectSame p a x e = e ≡ x

answered_word : (to : Option ℕ) (w : Word) → Answered to (Some w)
answered_word None w = tt
answered_word (Some k) w = tt

valued : (p : Program) (a : Activation) (qs : List Word) (o : Op) (os : List Op) (v w : Word) → a.code ≡ o ∷ os → StandsIn p a qs → v ≡ w → EffectSame p a (value_effect a w) (value_effect (holding qs a) v)
valued p a qs o os v w ec st e = (
  with_register (head_destination a.code) (Some w) qs,
  ap (λ (x : Word). value_effect (holding qs a) x) e,
  stands_past p a qs o os (Some w) ec (answered_word (given_by o) w) st,
  refl,
)

divided_by : (p : Program) (a : Activation) (qs : List Word) (o : Op) (os : List Op) (w : Option Word) → a.code ≡ o ∷ os → StandsIn p a qs → EffectSame p a (division a w) (division (holding qs a) w)
divided_by p a qs o os None ec st = refl
divided_by p a qs o os (Some w) ec st = valued p a qs o os w w ec st refl

divided : (p : Program) (a : Activation) (qs : List Word) (o : Op) (os : List Op) (v w : Option Word) → a.code ≡ o ∷ os → StandsIn p a qs → v ≡ w → EffectSame p a (division a w) (division (holding qs a) v)
divided p a qs o os v w ec st e = subst (λ (x : Option Word). EffectSame p a (division a w) (division (holding qs a) x)) (sym e) (divided_by p a qs o os w ec st)

-- jumps

jump_by : (p : Program) → AllVerified p → (a : Activation) (qs : List Word) (b : CodeBlock) (label : List ℕ) (o : Op) (os : List Op) (f : Option Function) → function_of p a.function ≡ f → a.code ≡ o ∷ os → is_terminator o ≡ true → given_by o ≡ None → IsIn label (targets_of o) → code_block_named a.blocks label ≡ Some b →
    StandsBy f a qs → StandsBy f (at_block p a b) (with_phis p (holding qs a) b.code qs)
jump_by p ver a qs b label o os None ef ec ends gives target eb st = no_ops (sym st.0 ∙ ec)
jump_by p ver a qs b label o os (Some g) ef ec ends gives target eb st =
    jumped p (module_of p (home_or_kernel p a.function)) g (sound_at p ver a.function g ef) a qs b label o os ec ends gives target (arrives g a label b st.blocks eb) st

arrives_same : (p : Program) → AllVerified p → (a : Activation) (qs : List Word) (label : List ℕ) (o : Op) (os : List Op) (b : Option CodeBlock) → a.code ≡ o ∷ os → is_terminator o ≡ true → given_by o ≡ None → IsIn label (targets_of o) → code_block_named a.blocks label ≡ b → StandsIn p a qs →
    EffectSame p a (arrival p a b) (arrival p (holding qs a) b)
arrives_same p ver a qs label o os None ec ends gives target eb st = refl
arrives_same p ver a qs label o os (Some b) ec ends gives target eb st = (
  with_phis p (holding qs a) b.code qs,
  refl,
  jump_by p ver a qs b label o os (function_of p a.function) refl ec ends gives target eb st,
  refl,
)

jump_same : (p : Program) → AllVerified p → (a : Activation) (qs : List Word) (label other : List ℕ) (o : Op) (os : List Op) → a.code ≡ o ∷ os → is_terminator o ≡ true → given_by o ≡ None → IsIn label (targets_of o) → other ≡ label → StandsIn p a qs →
    EffectSame p a (jump_effect p a label) (jump_effect p (holding qs a) other)
jump_same p ver a qs label other o os ec ends gives target e st =
    subst (λ (l : List ℕ). EffectSame p a (jump_effect p a label) (jump_effect p (holding qs a) l)) (sym e)
    (arrives_same p ver a qs label o os (code_block_named a.blocks label) ec ends gives target refl st)

cases_same : (p : Program) (a : Activation) (qs : List Word) (n : ℕ) (cs : List SwitchCase) → ((c : SwitchCase) → IsIn c cs → operand p (holding qs a) c.value ≡ operand p a c.value) →
    find (λ (c : SwitchCase). nat_eq (bits p (holding qs a) c.value) n) cs ≡ find (λ (c : SwitchCase). nat_eq (bits p a c.value) n) cs
cases_same p a qs n [] h = refl
cases_same p a qs n (c ∷ cs) h = λ j. cond (nat_eq (h c (inl refl) j).bits n) (Some c) (cases_same p a qs n cs (λ x i. h x (inr i)) j)

label_same : (p : Program) (a : Activation) (qs : List Word) (m n : ℕ) (otherwise : List ℕ) (cs : List SwitchCase) → m ≡ n → ((c : SwitchCase) → IsIn c cs → operand p (holding qs a) c.value ≡ operand p a c.value) →
    chosen_label p (holding qs a) m otherwise cs ≡ chosen_label p a n otherwise cs
label_same p a qs m n otherwise cs e h =
    ap (λ (k : ℕ). chosen_label p (holding qs a) k otherwise cs) e ∙ ap (λ (found : Option SwitchCase). unwrap_or (option_map (λ (c : SwitchCase). c.label) found) otherwise) (cases_same p a qs n cs h)

-- calls

-- an effect that is no register step is the same as itself
itself : (p : Program) (a : Activation) (t : Target) (w : List Word) → EffectSame p a (target_effect t w) (target_effect t w)
itself p a (ToNative k) w = refl
itself p a (ToSlot s) [] = refl
itself p a (ToSlot s) (x ∷ w) = refl
itself p a (ToImport n) w = refl
itself p a (ToOwn n) w = refl
itself p a Nowhere w = refl

call_same : (p : Program) (a : Activation) (qs : List Word) (y : Callee) (args : List Argument) (v w : List Word) → SameOperands p a qs (callee_operands y ++ args) → v ≡ w → EffectSame p a (call_effect p a y w) (call_effect p (holding qs a) y v)
call_same p a qs (callee.Symbol (symbol.Function f)) args v w h e =
    subst (λ (x : List Word). EffectSame p a (target_effect (target p (text_of p a) f) w) (target_effect (target p (text_of p a) f) x)) (sym e) (itself p a (target p (text_of p a) f) w)
call_same p a qs (callee.Symbol (symbol.Global g)) args v w h e = refl
call_same p a qs (callee.Register r) args v w h e = λ j. Enters (what.Enter (Indirect (h (argument Ptr (value.Register r)) (inl refl) j).bits) (e j))

-- each instruction

effect_by : (p : Program) → AllVerified p → (a : Activation) (qs : List Word) (o : Op) (os : List Op) → a.code ≡ o ∷ os → StandsIn p a qs → SameOperands p a qs (operands_read o) → EffectSame p a (effect p a o) (effect p (holding qs a) o)
effect_by p ver a qs (op.Binary to b ty x y) os ec st h =
    divided p a qs (op.Binary to b ty x y) os _ _ ec st (λ j. binary b (h (argument ty x) (inl refl) j) (h (argument ty y) (inr (inl refl)) j))
effect_by p ver a qs (op.Compare to pred ty x y) os ec st h =
    valued p a qs (op.Compare to pred ty x y) os _ _ ec st (λ j. truth_word (compare pred (h (argument ty x) (inl refl) j) (h (argument ty y) (inr (inl refl)) j)))
effect_by p ver a qs (op.Convert to how from x into) os ec st h =
    valued p a qs (op.Convert to how from x into) os _ _ ec st (λ j. conversion how (h (argument from x) (inl refl) j) into)
effect_by p ver a qs (op.Unary to o ty x) os ec st h =
    valued p a qs (op.Unary to o ty x) os _ _ ec st (λ j. unary_value o (h (argument ty x) (inl refl) j))
effect_by p ver a qs (op.Select to test ty x y) os ec st h =
    valued p a qs (op.Select to test ty x y) os _ _ ec st
    (λ j. choice (h (argument (Int W1) test) (inl refl) j).bits (h (argument ty x) (inr (inl refl)) j) (h (argument ty y) (inr (inr (inl refl))) j))
effect_by p ver a qs (op.Alloca to ty) os ec st h = refl
effect_by p ver a qs (op.Load to ty at) os ec st h = λ j. Wants (what.Load (h (argument Ptr at) (inl refl) j).bits (width_of ty))
effect_by p ver a qs (op.Store ty v at) os ec st h =
    λ j. Wants (what.Store (h (argument Ptr at) (inr (inl refl)) j).bits (word (width_of ty) (h (argument ty v) (inl refl) j).bits))
effect_by p ver a qs (op.GetElementPtr to ty base indices) os ec st h =
    valued p a qs (op.GetElementPtr to ty base indices) os _ _ ec st
    (λ j. word_of_int W64 (pos (h (argument Ptr base) (inl refl) j).bits +ℤ element_offset (types_of p a) ty (indices_same p a qs indices (λ x i. h x (inr i)) j)))
effect_by p ver a qs (op.Call to ret y args) os ec st h =
    call_same p a qs y args (argument_words p (holding qs a) args) (argument_words p a args) h (words_same p a qs args (λ x i. h x (in_second x (callee_operands y) args i)))
effect_by p ver a qs (op.CopyBlock moves dest source len) os ec st h =
    λ j. Wants (what.Copy (h (argument Ptr dest) (inl refl) j).bits (h (argument Ptr source) (inr (inl refl)) j).bits (h len (inr (inr (inl refl))) j).bits)
effect_by p ver a qs (op.FillBlock dest byte len) os ec st h =
    λ j. Wants (what.Fill (h (argument Ptr dest) (inl refl) j).bits (word W8 (h (argument (Int W8) byte) (inr (inl refl)) j).bits).bits (h len (inr (inr (inl refl))) j).bits)
effect_by p ver a qs (op.Ret v) os ec st h = refl
effect_by p ver a qs (op.Jump label) os ec st h = jump_same p ver a qs label label (op.Jump label) os ec refl refl (inl refl) refl st
effect_by p ver a qs (op.Branch test x y) os ec st h =
    jump_same p ver a qs (choice (bits p a test) x y) (choice (bits p (holding qs a) test) x y) (op.Branch test x y) os ec refl refl (chosen (bits p a test) x y)
    (λ j. choice (h (argument (Int W1) test) (inl refl) j).bits x y) st
effect_by p ver a qs (op.Switch ty v otherwise cases) os ec st h =
    jump_same p ver a qs (chosen_label p a (bits p a v) otherwise cases) (chosen_label p (holding qs a) (bits p (holding qs a) v) otherwise cases) (op.Switch ty v otherwise cases) os ec refl refl
    (case_in cases (λ (c : SwitchCase). nat_eq (bits p a c.value) (bits p a v)) otherwise)
    (label_same p a qs (bits p (holding qs a) v) (bits p a v) otherwise cases (λ j. (h (argument ty v) (inl refl) j).bits)
    (λ c i. h (argument ty c.value) (inr (in_map (λ (c : SwitchCase). argument ty c.value) c cases i)))) st
effect_by p ver a qs o os ec st h = refl

pub effect_same : (p : Program) → AllVerified p → (a : Activation) (qs : List Word) (o : Op) (os : List Op) → a.code ≡ o ∷ os → StandsIn p a qs → EffectSame p a (effect p a o) (effect p (holding qs a) o)
effect_same p ver a qs o os ec st = effect_by p ver a qs o os ec st (operands_same p ver a qs o os ec st)

-- the value that is returned is the same

returned_by_same : (p : Program) (a : Activation) (qs : List Word) (o : Op) → SameOperands p a qs (operands_read o) → returned_by p (holding qs a) o ≡ returned_by p a o
returned_by_same p a qs (op.Ret None) h = refl
returned_by_same p a qs (op.Ret (Some x)) h = λ j. Some (h x (inl refl) j)
returned_by_same p a qs o h = refl

returned_cases : (p : Program) → AllVerified p → (a : Activation) (qs : List Word) (code : List Op) → a.code ≡ code → StandsIn p a qs → returned_at p (holding qs a) code ≡ returned_at p a code
returned_cases p ver a qs [] ec st = refl
returned_cases p ver a qs (o ∷ os) ec st = returned_by_same p a qs o (operands_same p ver a qs o os ec st)

pub returned_same : (p : Program) → AllVerified p → (a : Activation) (qs : List Word) → StandsIn p a qs → returned_value p (holding qs a) ≡ returned_value p a
returned_same p ver a qs st = returned_cases p ver a qs a.code refl st
