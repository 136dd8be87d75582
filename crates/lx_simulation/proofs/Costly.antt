-- A step that costs a unit, of the top frame, is one step of both machines.
use Rattle.std.proofs.Common.{◌≡◌, ℕ, ◌+◌, ◌≤◌, Bool, true, false, not, ◌&&◌, arith, List, [], ◌∷◌, Option, Some, None, inl, refl, sym, subst, ◌∙◌, ap}
use Rattle.std.specs.Prelude.{bytes_eq, codes, cond, slice_get}
use Rattle.lx_words.specs.Word.{Word}
use Rattle.lx_words.proofs.Tests.{eq_self, true_false}
use Rattle.lx_ir.specs.declared.module.Function.{Function}
use Rattle.lx_ir.specs.Lookup.{is_defined}
use Rattle.lx_caps.specs.declared.Principal.{Principal}
use Rattle.lx_caps.specs.declared.Principal.TheVariants.{Kernel}
use Rattle.lx_model.specs.declared.program.Program.{Program}
use Rattle.lx_model.specs.declared.program.ScriptCall.{ScriptCall}
use Rattle.lx_model.specs.declared.request.Trap.TheVariants.{Unreachable}
use Rattle.lx_model.specs.declared.request.Way.TheVariants.{Direct, Slot}
use Rattle.lx_model.specs.declared.request.What.TheVariants as what
use Rattle.lx_model.specs.declared.request.Request.{Request}
use Rattle.lx_model.specs.Program.{Home, home_or_kernel}
use Rattle.lx_model.specs.Thread.{Activation, Crossing, Frame, Ending, Thread}
use Rattle.lx_model.specs.Effect.{text_of}
use Rattle.lx_model.specs.Next.{request}
use Rattle.lx_simulation.proofs.Counted.{Code, AtEnter, ImageFrame, Wraps, ImageThread, top}
use Rattle.lx_images.specs.Guarded.{waiting_run, Accepted}
use Rattle.lx_simulation.proofs.CountedStands.{under, waiting_frames, shadow_of, RunsAs, Called, InBodyOf, WaitWell}
use Rattle.lx_ir.specs.declared.types.Scalar.{Scalar}
use Rattle.lx_ir.specs.declared.instr.Argument.{Argument}
use Rattle.lx_ir.specs.declared.instr.Callee.TheVariants as callee
use Rattle.lx_ir.specs.declared.module.Symbol.TheVariants as symbol
use Rattle.lx_ir.specs.declared.instr.Op.{Op}
use Rattle.lx_ir.specs.declared.instr.Op.TheVariants as op
use Rattle.lx_model.specs.Program.{Target, ToNative, ToSlot, ToImport, ToOwn, Nowhere, own, kernel_import, kernel_function, number_of, target_of, target, module_of}
use Rattle.lx_model.specs.Effect.{Effect, Traps, effect, target_effect, slot_effect, argument_words}
use Rattle.lx_model.specs.Next.{Asks, effect_step, has_room, if_room}
use Rattle.lx_simulation.proofs.Counted.{ImageStep, Marks, no_marks, asker, costly_step, wrapped_import}
use Rattle.lx_simulation.proofs.Counted.{Asks as ImageAsks, effect_step as image_effect_step, has_room as image_has_room, if_room as image_if_room}
use Rattle.lx_images.specs.Guarded.{bare_of, guarded_effect, guarded_op, CallsOutIf, CallsOut}
use Rattle.lx_image_texts.specs.Marks.{is_wrapped, wrapper_number, callee_if, callee_for}
use Rattle.lx_images.specs.ImageCode.{stores_in}
use Rattle.lx_simulation.proofs.CountedStands.{AsksAlike, StepsAgree}
use Rattle.lx_simulation.proofs.Guarding.{IsCall, effect-guarded, called-guarded}
use Rattle.lx_simulation.proofs.Absorbing.{thread_of, image_thread, frame_of}
use Rattle.lx_simulation.proofs.Replies.{direct_alike}
use Rattle.lx_simulation.proofs.Marking.{marks_for, top_if}
use Rattle.lx_simulation.proofs.Asked.{IsLawful, lawful}
use Rattle.lx_simulation.proofs.Targets.{TargetFits, target_fits, past_functions}
use Rattle.lx_simulation.proofs.Effects.{room-waiting, room_alike, on_top, effect_agrees}

-- the frame on top in its body, and the frames below
pub record Standing (c : Code) (a : Activation) (q : Principal) (x : Option Crossing) (fs : List Frame) : Type 0 where
  pub kern : RunsAs (text_of c.program a) q
  pub called : Called x q fs
  pub body : InBodyOf x
  pub wait : WaitWell c.program fs

-- with the home that the text has
abbrev pub Agrees : Code → ℕ → List ScriptCall → List Ending → ℕ → Activation → Principal → Option Crossing → List Frame → Effect → ImageStep → Type 0
Agrees c t calls ended fuel a q x fs e i =
    StepsAgree c t (effect_step c.program t (thread_of calls ended fuel None (frame_of a q x ∷ fs)) (frame_of a q x) fs e) i

effect_agrees_at : (c : Code) → Accepted c → (t : ℕ) (calls : List ScriptCall) (ended : List Ending) (fuel : ℕ) (old : List ImageFrame) (a : Activation) (q : Principal) (x : Option Crossing) (fs : List Frame) (m : Marks) (e : Effect) (h : Home) →
    text_of c.program a ≡ h → Standing c a q x fs → IsLawful c a h m (shadow_of (frame_of a q x ∷ fs)) q e →
    Agrees c t calls ended fuel a q x fs e
    (image_effect_step c (image_thread calls ended fuel None old (shadow_of (frame_of a q x ∷ fs))) m (waiting_run c h a) (under x (waiting_frames c fs)) (guarded_effect c h e))
effect_agrees_at c acc t calls ended fuel old a q x fs m e h eh s l =
    subst (λ (g : Home). Agrees c t calls ended fuel a q x fs e
    (image_effect_step c (image_thread calls ended fuel None old (shadow_of (frame_of a q x ∷ fs))) m (waiting_run c g a) (under x (waiting_frames c fs)) (guarded_effect c g e)))
    eh (effect_agrees c acc t calls ended fuel old a q x fs m e s.kern s.called s.body s.wait
    (subst (λ (g : Home). IsLawful c a g m (shadow_of (frame_of a q x ∷ fs)) q e) (sym eh) l))

-- the step of an image's instruction, behind its mark
abbrev pub costly : Code → List ScriptCall → List Ending → ℕ → List ImageFrame → Activation → Principal → Option Crossing → List Frame → Home → Marks → Op → Option ℕ → ImageStep
costly c calls ended fuel old a q x fs h m o w =
    costly_step c m (waiting_run c h a) (under x (waiting_frames c fs)) o w (image_thread calls ended fuel None old (shadow_of (frame_of a q x ∷ fs)))

-- no call

unwrapped : (c : Code) (h : Home) (o : Op) → (IsCall o → ⊥) → wrapped_import c h (guarded_op c h o) ≡ None
unwrapped c h (op.Call to ret y args) n = absurd (n tt)
unwrapped c h (op.Guard at size narrow) n = refl
unwrapped c h _ n = refl

other_agrees : (c : Code) → Accepted c → (t : ℕ) (calls : List ScriptCall) (ended : List Ending) (fuel : ℕ) (old : List ImageFrame) (a : Activation) (q : Principal) (x : Option Crossing) (fs : List Frame) (h : Home) (o : Op) (os : List Op) →
    (IsCall o → ⊥) → text_of c.program a ≡ h → Standing c a q x fs → RunsAs h q → a.code ≡ o ∷ os →
    Agrees c t calls ended fuel a q x fs (effect c.program a o)
    (costly c calls ended fuel old a q x fs h (marks_for c.program a h (bare_of c a.function a.label (stores_in os)) o) (guarded_op c h o) (wrapped_import c h (guarded_op c h o)))
other_agrees c acc t calls ended fuel old a q x fs h o os n eh s kern ec =
    let v : ImageThread = image_thread calls ended fuel None old (shadow_of (frame_of a q x ∷ fs)) in
    let m : Marks = marks_for c.program a h (bare_of c a.function a.label (stores_in os)) o in
    let e : costly c calls ended fuel old a q x fs h m (guarded_op c h o) (wrapped_import c h (guarded_op c h o))
    ≡ image_effect_step c v m (waiting_run c h a) (under x (waiting_frames c fs)) (guarded_effect c h (effect c.program a o))
    = ap (λ (w : Option ℕ). costly c calls ended fuel old a q x fs h m (guarded_op c h o) w) (unwrapped c h o n)
    ∙ ap (λ (y : Effect). image_effect_step c v m (waiting_run c h a) (under x (waiting_frames c fs)) y) (effect-guarded c h c.program a o n) in
    subst (λ (i : ImageStep). Agrees c t calls ended fuel a q x fs (effect c.program a o) i) (sym e)
    (effect_agrees_at c acc t calls ended fuel old a q x fs m (effect c.program a o) h eh s
    (lawful c a h (shadow_of (frame_of a q x ∷ fs)) q o os kern (sym (on_top q a x fs s.called)) n ec))

-- a call of a name

unmarked_asker : (h : Home) (shadow : List Principal) (q : Principal) (k : ℕ) (args : List Word) → RunsAs h q → top shadow ≡ q → asker h no_marks shadow (what.Native k args) ≡ q
unmarked_asker None shadow q k args kern e = sym kern
unmarked_asker (Some m) shadow q k args kern e = e

lawful_slot : (c : Code) (a : Activation) (h : Home) (shadow : List Principal) (q : Principal) (s : ℕ) (args : List Word) → h ≡ None → q ≡ Kernel → IsLawful c a h no_marks shadow q (slot_effect s args)
lawful_slot c a h shadow q s [] eh k = tt
lawful_slot c a h shadow q s (w ∷ ws) eh k = (k, ap (λ (g : Home). asker g no_marks shadow (what.Enter (Slot w.bits s) ws)) eh ∙ sym k)

abbrev pub IsImport : Target → Type 0
IsImport (ToImport n) = Unit {0}
IsImport _ = ⊥

lawful_target : (c : Code) (a : Activation) (shadow : List Principal) (q : Principal) (h : Home) (t : Target) (args : List Word) → text_of c.program a ≡ h → RunsAs h q → top shadow ≡ q → TargetFits c.program h t → (IsImport t → ⊥) →
    IsLawful c a h no_marks shadow q (target_effect t args)
lawful_target c a shadow q h (ToNative k) args eh kern e fits n = (tt, inl (unmarked_asker h shadow q k args kern e))
lawful_target c a shadow q h (ToSlot s) args eh kern e fits n = lawful_slot c a h shadow q s args fits (subst (λ (g : Home). RunsAs g q) fits kern)
lawful_target c a shadow q h (ToImport k) args eh kern e fits n = absurd (n tt)
lawful_target c a shadow q h (ToOwn k) args eh kern e fits n = fits ∙ sym eh
lawful_target c a shadow q h Nowhere args eh kern e fits n = tt

-- a name that is no wrapper's
plain_named : (c : Code) → Accepted c → (t : ℕ) (calls : List ScriptCall) (ended : List Ending) (fuel : ℕ) (old : List ImageFrame) (a : Activation) (q : Principal) (x : Option Crossing) (fs : List Frame) (h : Home) (to : Option ℕ) (ret : Option Scalar) (f : ℕ) (args : List Argument) (w : Option ℕ) →
    w ≡ None → text_of c.program a ≡ h → Standing c a q x fs → RunsAs h q → (IsImport (target c.program h f) → ⊥) →
    Agrees c t calls ended fuel a q x fs (effect c.program a (op.Call to ret (callee.Symbol (symbol.Function f)) args))
    (costly c calls ended fuel old a q x fs h no_marks (op.Call to ret (callee.Symbol (symbol.Function f)) args) w)
plain_named c acc t calls ended fuel old a q x fs h to ret f args w ew eh s kern n =
    let o : Op = op.Call to ret (callee.Symbol (symbol.Function f)) args in
    let v : ImageThread = image_thread calls ended fuel None old (shadow_of (frame_of a q x ∷ fs)) in
    let e : costly c calls ended fuel old a q x fs h no_marks o w
    ≡ image_effect_step c v no_marks (waiting_run c h a) (under x (waiting_frames c fs)) (guarded_effect c h (effect c.program a o))
    = ap (λ (y : Option ℕ). costly c calls ended fuel old a q x fs h no_marks o y) ew
    ∙ ap (λ (y : Effect). image_effect_step c v no_marks (waiting_run c h a) (under x (waiting_frames c fs)) y)
    (called-guarded c h c.program a (callee.Symbol (symbol.Function f)) (argument_words c.program a args)) in
    let at : target c.program (text_of c.program a) f ≡ target c.program h f = ap (λ (g : Home). target c.program g f) eh in
    let l : IsLawful c a h no_marks (shadow_of (frame_of a q x ∷ fs)) q (target_effect (target c.program h f) (argument_words c.program a args))
    = lawful_target c a (shadow_of (frame_of a q x ∷ fs)) q h (target c.program h f) (argument_words c.program a args) eh kern (sym (on_top q a x fs s.called)) (target_fits c.program h f) n in
    subst (λ (i : ImageStep). Agrees c t calls ended fuel a q x fs (effect c.program a o) i) (sym e)
    (effect_agrees_at c acc t calls ended fuel old a q x fs no_marks (effect c.program a o) h eh s
    (subst (λ (g : Target). IsLawful c a h no_marks (shadow_of (frame_of a q x ∷ fs)) q (target_effect g (argument_words c.program a args))) (sym at) l))

-- a wrapper's name
wrapper_named : (c : Code) → Accepted c → (t : ℕ) (calls : List ScriptCall) (ended : List Ending) (fuel : ℕ) (old : List ImageFrame) (a : Activation) (q : Principal) (x : Option Crossing) (fs : List Frame) (m : ℕ) (to : Option ℕ) (ret : Option Scalar) (f g : ℕ) (args : List Argument) (n : ℕ) (w : Option ℕ) →
    w ≡ Some n → text_of c.program a ≡ Some m → Standing c a q x fs → target c.program (Some m) f ≡ ToImport n → home_or_kernel c.program n ≡ None →
    Agrees c t calls ended fuel a q x fs (effect c.program a (op.Call to ret (callee.Symbol (symbol.Function f)) args))
    (costly c calls ended fuel old a q x fs (Some m) no_marks (op.Call to ret (callee.Symbol (symbol.Function g)) args) w)
wrapper_named c acc t calls ended fuel old a q x fs m to ret f g args n w ew eh s et home =
    let words : List Word = argument_words c.program a args in
    let gs : List Frame = frame_of a q x ∷ fs in
    let thread : Thread = thread_of calls ended fuel None gs in
    let v : ImageThread = image_thread calls ended fuel None old (shadow_of gs) in
    let w' : ImageThread = image_thread calls ended fuel None (Wraps n words AtEnter ∷ waiting_frames c gs) (shadow_of gs) in
    let r : Request = request q (what.Enter (Direct n) words) in
    let r' : Request = request (top (shadow_of gs)) (what.Enter (Direct n) words) in
    let asks : AsksAlike c t thread r w' r'
    = (
      inl (ap (λ (who : Principal). request who (what.Enter (Direct n) words)) (sym (on_top q a x fs s.called))),
      home,
      direct_alike c acc t calls ended fuel gs q n words (on_top q a x fs s.called) ((s.kern, s.called), s.body, s.wait),
    ) in
    let roomy : StepsAgree c t (if_room (has_room gs) thread (Asks thread r)) (image_if_room (has_room gs) v (ImageAsks w' r'))
    = room_alike c t calls ended fuel gs old (shadow_of gs) (has_room gs) (Asks thread r) (ImageAsks w' r') asks in
    let wrapped : StepsAgree c t (if_room (has_room gs) thread (Asks thread r)) (image_if_room (image_has_room (waiting_frames c gs)) v (ImageAsks w' r'))
    = subst (λ (b : Bool). StepsAgree c t (if_room (has_room gs) thread (Asks thread r)) (image_if_room b v (ImageAsks w' r'))) (sym (room-waiting c gs)) roomy in
    let homed : StepsAgree c t (if_room (has_room gs) thread (Asks thread r)) (costly c calls ended fuel old a q x fs (text_of c.program a) no_marks (op.Call to ret (callee.Symbol (symbol.Function g)) args) (Some n))
    = wrapped in
    let there : StepsAgree c t (if_room (has_room gs) thread (Asks thread r)) (costly c calls ended fuel old a q x fs (Some m) no_marks (op.Call to ret (callee.Symbol (symbol.Function g)) args) w)
    = subst (λ (y : Option ℕ). StepsAgree c t (if_room (has_room gs) thread (Asks thread r)) (costly c calls ended fuel old a q x fs (Some m) no_marks (op.Call to ret (callee.Symbol (symbol.Function g)) args) y)) (sym ew)
    (subst (λ (h : Home). StepsAgree c t (if_room (has_room gs) thread (Asks thread r)) (costly c calls ended fuel old a q x fs h no_marks (op.Call to ret (callee.Symbol (symbol.Function g)) args) (Some n))) eh homed) in
    let at : target c.program (text_of c.program a) f ≡ ToImport n = ap (λ (h : Home). target c.program h f) eh ∙ et in
    subst (λ (y : Target). Agrees c t calls ended fuel a q x fs (target_effect y words) (costly c calls ended fuel old a q x fs (Some m) no_marks (op.Call to ret (callee.Symbol (symbol.Function g)) args) w)) (sym at) there

at_least : (n k : ℕ) → n ≤ n + k
at_least n k = omega arith

-- a module's call of a function of its own, or of what is not there
wrapped_cases : (d e : Bool) (o k : Target) → (not d && not e) ≡ true → cond d o (cond e (ToNative 5) k) ≡ k
wrapped_cases false false o k h = refl
wrapped_cases false true o k h = cc
wrapped_cases true e o k h = cc

own_is_no_import : (n : Option ℕ) → IsImport (own n) → ⊥
own_is_no_import None i = i
own_is_no_import (Some n) i = i

unwrapped_cases : (d e : Bool) (n : Option ℕ) (k : Target) → (not d && not e) ≡ false → IsImport (cond d (own n) (cond e (ToNative 5) k)) → ⊥
unwrapped_cases false false n k h i = true_false h
unwrapped_cases false true n k h i = i
unwrapped_cases true e n k h i = own_is_no_import n i

-- a call that names nothing in the program, nor in the image
nowhere_named : (c : Code) → Accepted c → (t : ℕ) (calls : List ScriptCall) (ended : List Ending) (fuel : ℕ) (old : List ImageFrame) (a : Activation) (q : Principal) (x : Option Crossing) (fs : List Frame) (m : ℕ) (to : Option ℕ) (ret : Option Scalar) (f g : ℕ) (args : List Argument) (w : Option ℕ) →
    w ≡ None → text_of c.program a ≡ Some m → Standing c a q x fs → target c.program (Some m) f ≡ Nowhere → target c.program (Some m) g ≡ Nowhere →
    Agrees c t calls ended fuel a q x fs (effect c.program a (op.Call to ret (callee.Symbol (symbol.Function f)) args))
    (costly c calls ended fuel old a q x fs (Some m) no_marks (op.Call to ret (callee.Symbol (symbol.Function g)) args) w)
nowhere_named c acc t calls ended fuel old a q x fs m to ret f g args w ew eh s ef eg =
    let words : List Word = argument_words c.program a args in
    let v : ImageThread = image_thread calls ended fuel None old (shadow_of (frame_of a q x ∷ fs)) in
    let e : costly c calls ended fuel old a q x fs (Some m) no_marks (op.Call to ret (callee.Symbol (symbol.Function g)) args) w
    ≡ image_effect_step c v no_marks (waiting_run c (Some m) a) (under x (waiting_frames c fs)) (Traps Unreachable)
    = ap (λ (y : Option ℕ). costly c calls ended fuel old a q x fs (Some m) no_marks (op.Call to ret (callee.Symbol (symbol.Function g)) args) y) ew
    ∙ ap (λ (y : Target). image_effect_step c v no_marks (waiting_run c (Some m) a) (under x (waiting_frames c fs)) (target_effect y words)) (ap (λ (h : Home). target c.program h g) eh ∙ eg) in
    subst (λ (y : Target). Agrees c t calls ended fuel a q x fs (target_effect y words) (costly c calls ended fuel old a q x fs (Some m) no_marks (op.Call to ret (callee.Symbol (symbol.Function g)) args) w))
    (sym (ap (λ (h : Home). target c.program h f) eh ∙ ef))
    (subst (λ (i : ImageStep). Agrees c t calls ended fuel a q x fs (Traps Unreachable) i) (sym e)
    (effect_agrees_at c acc t calls ended fuel old a q x fs no_marks (Traps Unreachable) (Some m) eh s tt))

wrapped_named : (c : Code) → Accepted c → (t : ℕ) (calls : List ScriptCall) (ended : List Ending) (fuel : ℕ) (old : List ImageFrame) (a : Activation) (q : Principal) (x : Option Crossing) (fs : List Frame) (m : ℕ) (to : Option ℕ) (ret : Option Scalar) (f : ℕ) (args : List Argument) (g : ℕ) (k : Option ℕ) (w : Option ℕ) →
    w ≡ k → target c.program (Some m) f ≡ kernel_import k → target c.program (Some m) g ≡ Nowhere → text_of c.program a ≡ Some m → Standing c a q x fs →
    Agrees c t calls ended fuel a q x fs (effect c.program a (op.Call to ret (callee.Symbol (symbol.Function f)) args))
    (costly c calls ended fuel old a q x fs (Some m) no_marks (op.Call to ret (callee.Symbol (symbol.Function g)) args) w)
wrapped_named c acc t calls ended fuel old a q x fs m to ret f args g (Some n) w ew et eg eh s =
    wrapper_named c acc t calls ended fuel old a q x fs m to ret f g args n w ew eh s et (subst (λ (y : Target). TargetFits c.program (Some m) y) et (target_fits c.program (Some m) f))
wrapped_named c acc t calls ended fuel old a q x fs m to ret f args g None w ew et eg eh s =
    nowhere_named c acc t calls ended fuel old a q x fs m to ret f g args w ew eh s et eg

wrapped_or : (c : Code) → Accepted c → (t : ℕ) (calls : List ScriptCall) (ended : List Ending) (fuel : ℕ) (old : List ImageFrame) (a : Activation) (q : Principal) (x : Option Crossing) (fs : List Frame) (m : ℕ) (to : Option ℕ) (ret : Option Scalar) (f : ℕ) (args : List Argument) (g : Function) (b : Bool) →
    is_wrapped g ≡ b → target c.program (Some m) f ≡ target_of c.program (Some m) f (Some g) → CallsOutIf b c m f g → text_of c.program a ≡ Some m → Standing c a q x fs →
    Agrees c t calls ended fuel a q x fs (effect c.program a (op.Call to ret (callee.Symbol (symbol.Function f)) args))
    (costly c calls ended fuel old a q x fs (Some m) no_marks (op.Call to ret (callee_if b (module_of c.program (Some m)) f) args) (wrapped_import c (Some m) (op.Call to ret (callee_if b (module_of c.program (Some m)) f) args)))
wrapped_or c acc t calls ended fuel old a q x fs m to ret f args g false eb et out eh s =
    plain_named c acc t calls ended fuel old a q x fs (Some m) to ret f args _ out eh s tt
    (λ i. unwrapped_cases (is_defined g) (bytes_eq g.name (codes "lxfi_princ_alias")) (number_of c.program (Some m) f) (kernel_import (kernel_function c.program g.name)) eb (subst IsImport et i))
wrapped_or c acc t calls ended fuel old a q x fs m to ret f args g true eb et out eh s =
    wrapped_named c acc t calls ended fuel old a q x fs m to ret f args (wrapper_number (module_of c.program (Some m)) f) (kernel_function c.program g.name) _ out
    (et ∙ wrapped_cases (is_defined g) (bytes_eq g.name (codes "lxfi_princ_alias")) (own (number_of c.program (Some m) f)) (kernel_import (kernel_function c.program g.name)) eb)
    (past_functions c.program (Some m) (wrapper_number (module_of c.program (Some m)) f) (at_least _ _)) eh s

-- a module's call of a name, by the function of that name
named_cases : (c : Code) → Accepted c → (t : ℕ) (calls : List ScriptCall) (ended : List Ending) (fuel : ℕ) (old : List ImageFrame) (a : Activation) (q : Principal) (x : Option Crossing) (fs : List Frame) (m : ℕ) (to : Option ℕ) (ret : Option Scalar) (f : ℕ) (args : List Argument) (g : Option Function) →
    target c.program (Some m) f ≡ target_of c.program (Some m) f g → CallsOut c m f g → text_of c.program a ≡ Some m → Standing c a q x fs →
    Agrees c t calls ended fuel a q x fs (effect c.program a (op.Call to ret (callee.Symbol (symbol.Function f)) args))
    (costly c calls ended fuel old a q x fs (Some m) no_marks (op.Call to ret (callee_for (module_of c.program (Some m)) f g) args) (wrapped_import c (Some m) (op.Call to ret (callee_for (module_of c.program (Some m)) f g) args)))
named_cases c acc t calls ended fuel old a q x fs m to ret f args (Some g) et out eh s =
    wrapped_or c acc t calls ended fuel old a q x fs m to ret f args g (is_wrapped g) refl et out eh s
named_cases c acc t calls ended fuel old a q x fs m to ret f args None et out eh s =
    subst (λ (y : Target). Agrees c t calls ended fuel a q x fs (target_effect y (argument_words c.program a args)) (costly c calls ended fuel old a q x fs (Some m) no_marks (op.Call to ret (callee.Symbol (symbol.Global 0)) args) None))
    (sym (ap (λ (h : Home). target c.program h f) eh ∙ et))
    (effect_agrees_at c acc t calls ended fuel old a q x fs no_marks (Traps Unreachable) (Some m) eh s tt)

no_import : (p : Program) (t : Target) → TargetFits p None t → IsImport t → ⊥
no_import p (ToImport n) fits i = fits
no_import p (ToNative k) fits i = i
no_import p (ToSlot k) fits i = i
no_import p (ToOwn k) fits i = i
no_import p Nowhere fits i = i

-- any instruction
costly_in : (c : Code) → Accepted c → (t : ℕ) (calls : List ScriptCall) (ended : List Ending) (fuel : ℕ) (old : List ImageFrame) (a : Activation) (q : Principal) (x : Option Crossing) (fs : List Frame) (h : Home) (o : Op) (os : List Op) →
    text_of c.program a ≡ h → Standing c a q x fs → RunsAs h q → a.code ≡ o ∷ os →
    Agrees c t calls ended fuel a q x fs (effect c.program a o)
    (costly c calls ended fuel old a q x fs h (marks_for c.program a h (bare_of c a.function a.label (stores_in os)) o) (guarded_op c h o) (wrapped_import c h (guarded_op c h o)))
costly_in c acc t calls ended fuel old a q x fs None (op.Call to ret (callee.Symbol (symbol.Function f)) args) os eh s kern ec =
    plain_named c acc t calls ended fuel old a q x fs None to ret f args None refl eh s kern (no_import c.program _ (target_fits c.program None f))
costly_in c acc t calls ended fuel old a q x fs (Some m) (op.Call to ret (callee.Symbol (symbol.Function f)) args) os eh s kern ec =
    named_cases c acc t calls ended fuel old a q x fs m to ret f args (slice_get (module_of c.program (Some m)).functions f) refl (acc.wrappers m f) eh s
costly_in c acc t calls ended fuel old a q x fs None (op.Call to ret (callee.Symbol (symbol.Global g)) args) os eh s kern ec =
    effect_agrees_at c acc t calls ended fuel old a q x fs no_marks (Traps Unreachable) None eh s tt
costly_in c acc t calls ended fuel old a q x fs (Some m) (op.Call to ret (callee.Symbol (symbol.Global g)) args) os eh s kern ec =
    effect_agrees_at c acc t calls ended fuel old a q x fs no_marks (Traps Unreachable) (Some m) eh s tt
costly_in c acc t calls ended fuel old a q x fs None (op.Call to ret (callee.Register r) args) os eh s kern ec =
    effect_agrees_at c acc t calls ended fuel old a q x fs no_marks (effect c.program a (op.Call to ret (callee.Register r) args)) None eh s (tt, sym kern)
costly_in c acc t calls ended fuel old a q x fs (Some m) (op.Call to ret (callee.Register r) args) os eh s kern ec =
    effect_agrees_at c acc t calls ended fuel old a q x fs (marks_for c.program a (Some m) (bare_of c a.function a.label (stores_in os)) (op.Call to ret (callee.Register r) args)) (effect c.program a (op.Call to ret (callee.Register r) args)) (Some m) eh s
    (tt, top_if _ (shadow_of (frame_of a q x ∷ fs)) (eq_self _) ∙ sym (on_top q a x fs s.called))
costly_in c acc t calls ended fuel old a q x fs h o os eh s kern ec =
    other_agrees c acc t calls ended fuel old a q x fs h o os (λ (i : IsCall o). absurd i) eh s kern ec

pub costly_agrees : (c : Code) → Accepted c → (t : ℕ) (calls : List ScriptCall) (ended : List Ending) (fuel : ℕ) (old : List ImageFrame) (a : Activation) (q : Principal) (x : Option Crossing) (fs : List Frame) (o : Op) (os : List Op) →
    Standing c a q x fs → a.code ≡ o ∷ os →
    Agrees c t calls ended fuel a q x fs (effect c.program a o)
    (costly c calls ended fuel old a q x fs (text_of c.program a) (marks_for c.program a (text_of c.program a) (bare_of c a.function a.label (stores_in os)) o) (guarded_op c (text_of c.program a) o) (wrapped_import c (text_of c.program a) (guarded_op c (text_of c.program a) o)))
costly_agrees c acc t calls ended fuel old a q x fs o os s ec = costly_in c acc t calls ended fuel old a q x fs (text_of c.program a) o os refl s s.kern ec
