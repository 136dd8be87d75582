-- What an instruction asks for fits, and what it goes on to is at a place of its text.
use Rattle.std.proofs.Common.{◌≡◌, ℕ, zero, suc, ◌≤◌, Bool, true, false, ◌||◌, List, [], ◌∷◌, map, Option, Some, None, inl, inr, refl, sym, ◌∙◌, ap}
use Rattle.std.specs.Prelude.{slice_get, option_map, option_and_then, is_none, is_some, nat_eq}
use Rattle.lx_words.specs.declared.word.Width.{Width}
use Rattle.lx_words.specs.declared.word.Width.TheVariants.{W1, W64}
use Rattle.lx_words.specs.Width.{same_width}
use Rattle.lx_words.specs.Word.{Word, compare}
use Rattle.lx_words.proofs.Tests.{true_false, first_of, second_of, next_above, le_trans}
use Rattle.lx_words.proofs.Options.{some_none, none_some, some_same}
use Rattle.lx_caps.specs.declared.Principal.{Principal}
use Rattle.lx_caps.specs.declared.Principal.TheVariants.{Kernel, Shared, Global, Inst}
use Rattle.lx_annot.specs.declared.interface.Slot.{Slot as SlotType}
use Rattle.lx_ir.specs.declared.types.Scalar.{Scalar}
use Rattle.lx_ir.specs.declared.types.Scalar.TheVariants.{Int, Ptr}
use Rattle.lx_ir.specs.declared.module.Function.{Function}
use Rattle.lx_ir.specs.declared.module.Module.{Module}
use Rattle.lx_ir.specs.declared.module.Symbol.TheVariants as symbol
use Rattle.lx_ir.specs.declared.instr.Argument.{Argument}
use Rattle.lx_ir.specs.declared.instr.Callee.{Callee}
use Rattle.lx_ir.specs.declared.instr.Callee.TheVariants as callee
use Rattle.lx_ir.specs.declared.instr.Conversion.{Conversion}
use Rattle.lx_ir.specs.declared.instr.Conversion.TheVariants as conversions
use Rattle.lx_ir.specs.declared.instr.Op.{Op}
use Rattle.lx_ir.specs.declared.instr.Op.TheVariants as op
use Rattle.lx_ir.specs.declared.instr.SwitchCase.{SwitchCase}
use Rattle.lx_ir.specs.IrType.{IrType}
use Rattle.lx_ir.specs.Layout.{width_of}
use Rattle.lx_ir.specs.Lawful.{has_form, is_lawful_callee}
use Rattle.lx_ir.specs.Operands.{argument, callee_operands, given_by, is_phi, is_terminator, operands_of, result_of, targets_of}
use Rattle.lx_ir.specs.Faults.{are_arguments, has_signature}
use Rattle.lx_ir.specs.Faults.{same_result as same_scalars}
use Rattle.lx_model.specs.declared.program.Program.{Program}
use Rattle.lx_model.specs.declared.request.Way.{Way}
use Rattle.lx_model.specs.declared.request.Way.TheVariants.{Script, Direct, Indirect, Slot}
use Rattle.lx_model.specs.declared.request.What.{What}
use Rattle.lx_model.specs.declared.request.What.TheVariants as what
use Rattle.lx_model.specs.Program.{Home, NativeCall, Alloc, Free, ZeroBytes, TryLock, NoteValue, AliasPrincipal, native_call, home_or_kernel, module_of, result_width, same_result, same_widths, param_widths, declared_width, are_declared, Target, ToNative, ToSlot, ToImport, ToOwn, Nowhere, target}
use Rattle.lx_model.specs.Thread.{CodeBlock, Activation, Frame, activation_behind}
use Rattle.lx_model.specs.Effect.{Effect, Moves, Wants, Enters, Calls, Traps, effect, division, truth_word, conversion, unary_width, choice, arrival, jump_effect, chosen_label, code_block_named, target_effect, slot_effect, call_effect, text_of, types_of, bits, operand, argument_words, returned_value, returned_at, returned_by}
use Rattle.lx_model.specs.Enter.{text_of_principal}
use Rattle.lx_model.specs.Fits.{FitsFunction, FitsStack, FitsWhat, MayCall, native_widths, widths}
use Rattle.lx_link_texts.specs.Signatures.{are_behind_pointer, native_result}
use Rattle.lx_link_texts.specs.WellFormed.{IsWellFormed}
use Rattle.lx_images.specs.Places.{IsIn}
use Rattle.lx_simulation.proofs.Elements.{in_second}
use Rattle.lx_simulation.proofs.Frames.{chosen, case_in}
use Rattle.lx_linked.specs.Threads.{Runs, Expects}
use Rattle.lx_linked.specs.Threads.{result_of as width_of_result}
use Rattle.lx_linked.proofs.Widths.{widths_itself, result_itself, scalars_are, arguments_are, argument_width, binary_width}
use Rattle.lx_linked.proofs.Functions.{Known}
use Rattle.lx_linked.proofs.FittingFrames.{GivesWide, Stands, stands, operands_wide, past_runs}
use Rattle.lx_linked.proofs.Jumping.{jump_runs}
use Rattle.lx_linked.proofs.Aligns.{alloca_within}
use Rattle.lx_linked.proofs.Callees.{known_at, MayCallFrom, TargetFits, target_fits}

-- what is known of who waits for a reply

-- the function stands at this instruction
abbrev pub At : Program → Activation → Op → List Op → Type 0
At p a o os = Runs p a × (a.code ≡ o ∷ os)

-- it stands at a call
abbrev pub AtCall : Activation → Type 0
AtCall a = (to : Option ℕ) × (ret : Option Scalar) × (c : Callee) × (args : List Argument) × (os : List Op) × (a.code ≡ op.Call to ret c args ∷ os)

-- what is entered by this way gives what the call expects
abbrev pub ExpectsWay : Program → Way → Activation → Type 0
ExpectsWay p (Script n) a = ⊥
ExpectsWay p (Direct n) a = Expects (width_of_result p n) a.code
ExpectsWay p (Indirect at) a = AtCall a
ExpectsWay p (Slot at ty) a = (t : SlotType) × (slice_get p.interface.slots ty ≡ Some t) × Expects (declared_width t.ret) a.code

abbrev pub EnteredFrom : Program → Way → List Frame → Type 0
EnteredFrom p way [] = Unit {0}
EnteredFrom p way (f ∷ fs) = Runs p f.run × ExpectsWay p way f.run

-- each of these values may be given to the instruction
abbrev pub Takes : Program → Activation → (Option Word → Type 0) → Type 0
Takes p a ok = (o : Op) × (os : List Op) × Runs p a × (a.code ≡ o ∷ os) × ((v : Option Word) → ok v → GivesWide o v)

abbrev pub OnTop : (Frame → Type 0) → List Frame → Type 0
OnTop P [] = Unit {0}
OnTop P (f ∷ fs) = P f

-- the width of a value
abbrev pub width_if : Option Word → Option Width
width_if v = option_map (λ (w : Word). w.width) v

-- bytes of the stack are asked for above the function's
abbrev pub TakesBytes : Program → ℕ → Activation → Type 0
TakesBytes p at a = (to : ℕ) × (ty : IrType) × (os : List Op) × Runs p a × (a.code ≡ op.Alloca to ty ∷ os) × (a.high ≤ at)

abbrev pub Asked : Program → List Frame → What → Type 0
Asked p fs (what.Alloca at size) = OnTop (λ f. TakesBytes p at f.run) fs
Asked p fs (what.Load at width) = OnTop (λ f. Takes p f.run (λ v. width_if v ≡ Some width)) fs
Asked p fs (what.Store at v) = OnTop (λ f. Takes p f.run (λ v. Unit {0})) fs
Asked p fs (what.Copy to from len) = OnTop (λ f. Takes p f.run (λ v. Unit {0})) fs
Asked p fs (what.Fill to byte len) = OnTop (λ f. Takes p f.run (λ v. Unit {0})) fs
Asked p fs (what.Native k args) = OnTop (λ f. Takes p f.run (λ v. native_result (native_call k) ≡ width_if v)) fs
Asked p fs (what.Enter way args) = EnteredFrom p way fs
Asked p fs (what.Return low high) = OnTop (λ f. width_if (returned_value p f.run) ≡ width_of_result p f.run.function) fs
Asked p fs w = Unit {0}

-- effects

abbrev pub EffectFits : Program → ℕ → Frame → List Frame → Effect → Type 0
EffectFits p t f fs (Moves b) = Runs p b × (b.function ≡ f.run.function) × (b.low ≡ f.run.low) × (b.high ≡ f.run.high)
EffectFits p t f fs (Wants w) = FitsWhat p t f.principal w × Asked p (f ∷ fs) w
EffectFits p t f fs (Enters w) = FitsWhat p t f.principal w × Asked p (f ∷ fs) w
EffectFits p t f fs (Calls n args) = FitsFunction p n args × (home_or_kernel p n ≡ text_of p f.run) × Expects (width_of_result p n) f.run.code
EffectFits p t f fs (Traps trap) = Unit {0}

-- values

pub gives_none : (o : Op) (w : Option Word) → given_by o ≡ None → GivesWide o w
gives_none o w en = λ r e. none_some (sym en ∙ e)

pub gives_word : (o : Op) (w : Word) (ty : Scalar) → result_of o ≡ Some ty → w.width ≡ width_of ty → GivesWide o (Some w)
gives_word o w ty er ew = λ r e. (w, refl, λ t et. ew ∙ ap width_of (some_same (sym er ∙ et)))

gives_if : (o : Op) (ty : Scalar) (v : Option Word) → result_of o ≡ Some ty → width_if v ≡ Some (width_of ty) → GivesWide o v
gives_if o ty None er ew = none_some ew
gives_if o ty (Some w) er ew = gives_word o w ty er (some_same ew)

pub gives_call : (to : Option ℕ) (ret : Option Scalar) (c : Callee) (args : List Argument) (v : Option Word) → (is_none to || is_some ret) ≡ true → option_map width_of ret ≡ width_if v → GivesWide (op.Call to ret c args) v
gives_call None ret c args v shape e = gives_none (op.Call None ret c args) v refl
gives_call (Some q) None c args v shape e = true_false (sym shape)
gives_call (Some q) (Some s) c args None shape e = some_none e
gives_call (Some q) (Some s) c args (Some w) shape e = gives_word (op.Call (Some q) (Some s) c args) w s refl (sym (some_same e))

pub call_shape : (m : Module) (to : Option ℕ) (ret : Option Scalar) (c : Callee) (args : List Argument) → has_form m (op.Call to ret c args) ≡ true → (is_none to || is_some ret) ≡ true
call_shape m to ret c args e = first_of (is_none to || is_some ret) (is_lawful_callee m c) e

chosen_width : (n : ℕ) (a b : Word) (w : Width) → a.width ≡ w → b.width ≡ w → (choice n a b).width ≡ w
chosen_width zero a b w ea eb = eb
chosen_width (suc n) a b w ea eb = ea

truth_width : (b : Bool) → (truth_word b).width ≡ W1
truth_width true = refl
truth_width false = refl

conversion_width : (how : Conversion) (a : Word) (into : Scalar) → (conversion how a into).width ≡ width_of into
conversion_width conversions.SExt a into = refl
conversion_width _ a into = refl

-- labels

-- arguments

pub argument_widths : (p : Program) (a : Activation) (args : List Argument) → ((x : Argument) → IsIn x args → (operand p a x.value).width ≡ width_of x.ty) → widths (argument_words p a args) ≡ map argument_width args
argument_widths p a [] h = refl
argument_widths p a (x ∷ args) h = λ k. h x (inl refl) k ∷ argument_widths p a args (λ y i. h y (inr i)) k

signature : (ret : Option Scalar) (args : List Argument) (o : Option Function) → has_signature ret args o ≡ true → (g : Function) × (o ≡ Some g) × (map argument_width args ≡ param_widths g) × (option_map width_of ret ≡ result_width g)
signature ret args None e = true_false (sym e)
signature ret args (Some g) e =
    (g, refl, arguments_are args g.params (second_of (same_scalars ret g.ret) (are_arguments args g.params) e), scalars_are ret g.ret (first_of (same_scalars ret g.ret) (are_arguments args g.params) e))

pub same_listed : (vs ws : List Width) → vs ≡ ws → same_widths vs ws ≡ true
same_listed vs ws e = ap (same_widths vs) (sym e) ∙ widths_itself vs

pub same_given : (v w : Option Width) → v ≡ w → same_result v w ≡ true
same_given v w e = ap (same_result v) (sym e) ∙ result_itself v

-- a principal that may call the native

may_call : (q : Principal) (h : Home) (n : NativeCall) → text_of_principal q ≡ h → MayCallFrom h n → MayCall q n
may_call q h Alloc e may = tt
may_call q h Free e may = tt
may_call q h ZeroBytes e may = tt
may_call q h TryLock e may = tt
may_call q h NoteValue e may = tt
may_call Kernel None AliasPrincipal e may = absurd may
may_call Kernel (Some m) AliasPrincipal e may = none_some e
may_call (Shared m) h AliasPrincipal e may = refl
may_call (Global m) h AliasPrincipal e may = refl
may_call (Inst m k) h AliasPrincipal e may = refl

behind_pointer : (t : SlotType) (x : Width) (ws : List Width) → are_behind_pointer t.params (x ∷ ws) ≡ true → are_declared t.params ws ≡ true
behind_pointer t x ws e = second_of (same_width W64 x) (are_declared t.params ws) e

-- a function that runs

-- the function is left at its call, which is given a value of the width that it expects
pub left_runs : (p : Program) → IsWellFormed p → (a : Activation) (w : Option Width) (v : Option Word) → Runs p a → Expects w a.code → width_if v ≡ w → Runs p (activation_behind v a)
left_runs p wf a w v r x e =
    let kn = known_at p wf a.function r.0 r.1 in
    let s = stands (module_of p (text_of p a)) r.0 kn a r.2 (op.Call x.0 x.1 x.2 x.3) x.4 x.5 in
    (r.0, r.1, past_runs (module_of p (text_of p a)) r.0 kn a r.2 (op.Call x.0 x.1 x.2 x.3) x.4 v s x.5 (gives_call x.0 x.1 x.2 x.3 v (call_shape (module_of p (text_of p a)) x.0 x.1 x.2 x.3 s.shape) (x.6 ∙ sym e)))

-- any function that takes this value
pub taken_runs : (p : Program) → IsWellFormed p → (a : Activation) (ok : Option Word → Type 0) (v : Option Word) → Takes p a ok → ok v → Runs p (activation_behind v a)
taken_runs p wf a ok v x e =
    let r = x.2 in
    let kn = known_at p wf a.function r.0 r.1 in
    (r.0, r.1, past_runs (module_of p (text_of p a)) r.0 kn a r.2 x.0 x.1 v (stands (module_of p (text_of p a)) r.0 kn a r.2 x.0 x.1 x.3) x.3 (x.4 v e))

-- what is known of the instruction at the top

record Top (p : Program) (f : Frame) (o : Op) (os : List Op) : Type 0 where
  runs : Runs p f.run
  code : f.run.code ≡ o ∷ os
  known : Known (module_of p (text_of p f.run)) runs.0
  stands_at : Stands (module_of p (text_of p f.run)) runs.0 f.run runs.2 o os

top : (p : Program) → IsWellFormed p → (f : Frame) (o : Op) (os : List Op) → Runs p f.run → f.run.code ≡ o ∷ os → Top p f o os
top p wf f o os r ec =
    let kn = known_at p wf f.run.function r.0 r.1 in record { runs = r; code = ec; known = kn; stands_at = stands (module_of p (text_of p f.run)) r.0 kn f.run r.2 o os ec }

-- its operands are as wide as their types
wide : (p : Program) (f : Frame) (o : Op) (os : List Op) → Top p f o os → is_phi o ≡ false → (x : Argument) → IsIn x (operands_of o) → (operand p f.run x.value).width ≡ width_of x.ty
wide p f o os h plain x i = operands_wide p (module_of p (text_of p f.run)) h.runs.0 h.known f.run h.runs.2 o os h.stands_at plain x i

moved : (p : Program) (t : ℕ) (f : Frame) (fs : List Frame) (o : Op) (os : List Op) (w : Word) → Top p f o os → GivesWide o (Some w) → EffectFits p t f fs (Moves (activation_behind (Some w) f.run))
moved p t f fs o os w h gives =
    ((h.runs.0, h.runs.1, past_runs (module_of p (text_of p f.run)) h.runs.0 h.known f.run h.runs.2 o os (Some w) h.stands_at h.code gives), refl, refl, refl)

divided : (p : Program) (t : ℕ) (f : Frame) (fs : List Frame) (o : Op) (os : List Op) (w : Option Word) → Top p f o os → ((v : Word) → w ≡ Some v → GivesWide o (Some v)) → EffectFits p t f fs (division f.run w)
divided p t f fs o os None h gives = tt
divided p t f fs o os (Some v) h gives = moved p t f fs o os v h (gives v refl)

arrived : (p : Program) (t : ℕ) (f : Frame) (fs : List Frame) (o : Op) (os : List Op) (label : List ℕ) (b : Option CodeBlock) → Top p f o os → is_terminator o ≡ true → given_by o ≡ None → IsIn label (targets_of o) → code_block_named f.run.blocks label ≡ b →
    EffectFits p t f fs (arrival p f.run b)
arrived p t f fs o os label None h ends none target eb = tt
arrived p t f fs o os label (Some b) h ends none target eb =
    ((h.runs.0, h.runs.1, jump_runs p (module_of p (text_of p f.run)) h.runs.0 h.known f.run h.runs.2 o os label b h.stands_at ends none target eb), refl, refl, refl)

jumps : (p : Program) (t : ℕ) (f : Frame) (fs : List Frame) (o : Op) (os : List Op) (label : List ℕ) → Top p f o os → is_terminator o ≡ true → given_by o ≡ None → IsIn label (targets_of o) → EffectFits p t f fs (jump_effect p f.run label)
jumps p t f fs o os label h ends none target = arrived p t f fs o os label (code_block_named f.run.blocks label) h ends none target refl

-- calls

slot_called : (p : Program) (t : ℕ) (f : Frame) (fs : List Frame) (ty : ℕ) (args : List Word) (st : SlotType) → Runs p f.run → Expects (declared_width st.ret) f.run.code → slice_get p.interface.slots ty ≡ Some st → are_behind_pointer st.params (widths args) ≡ true →
    EffectFits p t f fs (slot_effect ty args)
slot_called p t f fs ty [] st r x es e = tt
slot_called p t f fs ty (s ∷ args) st r x es e = ((st, es, behind_pointer st s.width (widths args) e), (r, (st, es, x)))

target_called : (p : Program) (t : ℕ) (f : Frame) (fs : List Frame) (to : Option ℕ) (ret : Option Scalar) (c : Callee) (args : List Argument) (os : List Op) (ws : List Width) (res : Option Width) (x : Target) →
    text_of_principal f.principal ≡ text_of p f.run → Top p f (op.Call to ret c args) os → widths (argument_words p f.run args) ≡ ws → option_map width_of ret ≡ res → TargetFits p (text_of p f.run) ws res x →
    EffectFits p t f fs (target_effect x (argument_words p f.run args))
target_called p t f fs to ret c args os ws res (ToNative k) who h ew er fits = (
  (fits.0, same_listed (widths (argument_words p f.run args)) (native_widths (native_call k)) (ew ∙ fits.1), may_call f.principal (text_of p f.run) (native_call k) who fits.3),
  (op.Call to ret c args, os, h.runs, h.code, λ v e. gives_call to ret c args v (call_shape (module_of p (text_of p f.run)) to ret c args h.stands_at.shape) (er ∙ (fits.2 ∙ e))),
)
target_called p t f fs to ret c args os ws res (ToSlot s) who h ew er fits =
    slot_called p t f fs s (argument_words p f.run args) fits.0 h.runs (to, ret, c, args, os, h.code, er ∙ sym fits.3) fits.1 (ap (are_behind_pointer fits.0.params) ew ∙ fits.2)
target_called p t f fs to ret c args os ws res (ToImport n) who h ew er fits =
    let of = fits.1 in (
      (fits.0, (of.0, of.1, same_listed (widths (argument_words p f.run args)) (param_widths of.0) (ew ∙ of.2))),
      (h.runs, (to, ret, c, args, os, h.code, er ∙ (of.3 ∙ sym (ap (λ (o : Option Function). option_and_then result_width o) of.1)))),
    )
target_called p t f fs to ret c args os ws res (ToOwn n) who h ew er fits =
    let of = fits.1 in (
      (of.0, of.1, same_listed (widths (argument_words p f.run args)) (param_widths of.0) (ew ∙ of.2)),
      fits.0,
      (to, ret, c, args, os, h.code, er ∙ (of.3 ∙ sym (ap (λ (o : Option Function). option_and_then result_width o) of.1))),
    )
target_called p t f fs to ret c args os ws res Nowhere who h ew er fits = tt

called : (p : Program) → IsWellFormed p → (t : ℕ) (f : Frame) (fs : List Frame) (to : Option ℕ) (ret : Option Scalar) (c : Callee) (args : List Argument) (os : List Op) → text_of_principal f.principal ≡ text_of p f.run → Top p f (op.Call to ret c args) os →
    EffectFits p t f fs (call_effect p f.run c (argument_words p f.run args))
called p wf t f fs to ret (callee.Symbol (symbol.Function k)) args os who h =
    let sig = signature ret args (slice_get (module_of p (text_of p f.run)).functions k) h.stands_at.form in
    target_called p t f fs to ret (callee.Symbol (symbol.Function k)) args os (param_widths sig.0) (result_width sig.0) (target p (text_of p f.run) k) who h
    (argument_widths p f.run args (λ x i. wide p f (op.Call to ret (callee.Symbol (symbol.Function k)) args) os h refl x (in_second x (callee_operands (callee.Symbol (symbol.Function k))) args i)) ∙ sig.2) sig.3
    (target_fits p wf (text_of p f.run) k sig.0 sig.1)
called p wf t f fs to ret (callee.Symbol (symbol.Global k)) args os who h = tt
called p wf t f fs to ret (callee.Register r) args os who h = (tt, (h.runs, (to, ret, callee.Register r, args, os, h.code)))

-- a return

returned_width : (p : Program) (f : Frame) (v : Option Argument) (os : List Op) (g : Function) → ((x : Argument) → IsIn x (operands_of (op.Ret v)) → (operand p f.run x.value).width ≡ width_of x.ty) →
    same_scalars (option_map (λ (a : Argument). a.ty) v) g.ret ≡ true → width_if (returned_by p f.run (op.Ret v)) ≡ result_width g
returned_width p f None os g h e = scalars_are None g.ret e
returned_width p f (Some x) os g h e = ap (λ (w : Width). Some w) (h x (inl refl)) ∙ scalars_are (Some x.ty) g.ret e

returns : (p : Program) (f : Frame) (v : Option Argument) (os : List Op) → Top p f (op.Ret v) os → width_if (returned_value p f.run) ≡ width_of_result p f.run.function
returns p f v os h =
    ap (λ (xs : List Op). width_if (returned_at p f.run xs)) h.code
    ∙ (returned_width p f v os h.runs.0 (λ x i. wide p f (op.Ret v) os h refl x i) h.stands_at.form ∙ sym (ap (λ (o : Option Function). option_and_then result_width o) h.runs.1))

-- bytes of the stack

allocates : (p : Program) (t : ℕ) (f : Frame) (to : ℕ) (ty : IrType) (os : List Op) (fs : List Frame) → FitsStack t f.run.low f.run.high → Top p f (op.Alloca to ty) os → EffectFits p t f fs (effect p f.run (op.Alloca to ty))
allocates p t f to ty os fs stack h = (
  (le_trans _ _ _ stack.0 (le_trans _ _ _ stack.1 (next_above f.run.high _)), alloca_within (types_of p f.run) ty t f.run.high stack.2),
  (to, ty, os, h.runs, h.code, next_above f.run.high _),
)

takes_any : (p : Program) (f : Frame) (o : Op) (os : List Op) → Top p f o os → given_by o ≡ None → Takes p f.run (λ v. Unit {0})
takes_any p f o os h none = (o, os, h.runs, h.code, λ v e. gives_none o v none)

-- each instruction

fits_by : (p : Program) → IsWellFormed p → (t : ℕ) (f : Frame) (fs : List Frame) → text_of_principal f.principal ≡ text_of p f.run → FitsStack t f.run.low f.run.high → (o : Op) (os : List Op) → Top p f o os → EffectFits p t f fs (effect p f.run o)
fits_by p wf t f fs who stack (op.Binary to b ty x y) os h =
    divided p t f fs (op.Binary to b ty x y) os _ h
    (λ w e. gives_word (op.Binary to b ty x y) w ty refl (binary_width b (operand p f.run x) (operand p f.run y) w e ∙ wide p f (op.Binary to b ty x y) os h refl (argument ty x) (inl refl)))
fits_by p wf t f fs who stack (op.Compare to pred ty x y) os h =
    moved p t f fs (op.Compare to pred ty x y) os _ h (gives_word (op.Compare to pred ty x y) _ (Int W1) refl (truth_width (compare pred (operand p f.run x) (operand p f.run y))))
fits_by p wf t f fs who stack (op.Convert to how from x into) os h =
    moved p t f fs (op.Convert to how from x into) os _ h (gives_word (op.Convert to how from x into) _ into refl (conversion_width how (operand p f.run x) into))
fits_by p wf t f fs who stack (op.Unary to o ty x) os h =
    moved p t f fs (op.Unary to o ty x) os _ h (gives_word (op.Unary to o ty x) _ ty refl (unary_width o (operand p f.run x) ∙ wide p f (op.Unary to o ty x) os h refl (argument ty x) (inl refl)))
fits_by p wf t f fs who stack (op.Select to test ty x y) os h =
    moved p t f fs (op.Select to test ty x y) os _ h
    (gives_word (op.Select to test ty x y) _ ty refl
    (chosen_width (bits p f.run test) (operand p f.run x) (operand p f.run y) (width_of ty) (wide p f (op.Select to test ty x y) os h refl (argument ty x) (inr (inl refl))) (wide p f (op.Select to test ty x y) os h refl (argument ty y) (inr (inr (inl refl))))))
fits_by p wf t f fs who stack (op.GetElementPtr to ty base indices) os h =
    moved p t f fs (op.GetElementPtr to ty base indices) os _ h (gives_word (op.GetElementPtr to ty base indices) _ Ptr refl refl)
fits_by p wf t f fs who stack (op.Alloca to ty) os h = allocates p t f to ty os fs stack h
fits_by p wf t f fs who stack (op.Load to ty at) os h =
    (tt, (op.Load to ty at, os, h.runs, h.code, λ v e. gives_if (op.Load to ty at) ty v refl e))
fits_by p wf t f fs who stack (op.Store ty v at) os h = (tt, takes_any p f (op.Store ty v at) os h refl)
fits_by p wf t f fs who stack (op.CopyBlock moves dest source len) os h = (tt, takes_any p f (op.CopyBlock moves dest source len) os h refl)
fits_by p wf t f fs who stack (op.FillBlock dest byte len) os h = (tt, takes_any p f (op.FillBlock dest byte len) os h refl)
fits_by p wf t f fs who stack (op.Call to ret c args) os h = called p wf t f fs to ret c args os who h
fits_by p wf t f fs who stack (op.Ret v) os h = (stack, returns p f v os h)
fits_by p wf t f fs who stack (op.Jump label) os h = jumps p t f fs (op.Jump label) os label h refl refl (inl refl)
fits_by p wf t f fs who stack (op.Branch test x y) os h = jumps p t f fs (op.Branch test x y) os (choice (bits p f.run test) x y) h refl refl (chosen (bits p f.run test) x y)
fits_by p wf t f fs who stack (op.Switch ty v otherwise cases) os h =
    jumps p t f fs (op.Switch ty v otherwise cases) os (chosen_label p f.run (bits p f.run v) otherwise cases) h refl refl (case_in cases (λ (c : SwitchCase). nat_eq (bits p f.run c.value) (bits p f.run v)) otherwise)
fits_by p wf t f fs who stack o os h = tt

pub effect_fits : (p : Program) → IsWellFormed p → (t : ℕ) (f : Frame) (fs : List Frame) → text_of_principal f.principal ≡ text_of p f.run → FitsStack t f.run.low f.run.high → (o : Op) (os : List Op) → Runs p f.run → f.run.code ≡ o ∷ os →
    EffectFits p t f fs (effect p f.run o)
effect_fits p wf t f fs who stack o os r ec = fits_by p wf t f fs who stack o os (top p wf f o os r ec)
