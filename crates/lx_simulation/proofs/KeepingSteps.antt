-- A step, an event and a run keep the bytes that functions have on the stack.
use Rattle.std.proofs.Common.{◌≡◌, ℕ, zero, suc, ◌<◌, ◌≤◌, Bool, true, false, List, [], ◌∷◌, Option, Some, None, refl, sym, subst}
use Rattle.lx_words.specs.Word.{Word}
use Rattle.lx_words.proofs.Tests.{next_above}
use Rattle.lx_caps.specs.declared.Principal.{Principal}
use Rattle.lx_caps.specs.declared.Principal.TheVariants.{Kernel}
use Rattle.lx_caps.specs.Regions.{stack_end}
use Rattle.lx_caps.specs.History.{History}
use Rattle.lx_model.specs.declared.program.Program.{Program}
use Rattle.lx_model.specs.declared.program.ScriptCall.{ScriptCall}
use Rattle.lx_model.specs.declared.request.Outcome.{Outcome}
use Rattle.lx_model.specs.declared.request.Outcome.TheVariants.{Trapped}
use Rattle.lx_model.specs.declared.request.What.{What}
use Rattle.lx_model.specs.declared.request.What.TheVariants as what
use Rattle.lx_model.specs.Thread.{Range, Activation, Stage, Crossing, Frame, Ending, Thread, activation, top_of_stack}
use Rattle.lx_model.specs.Next.{request, after_leaving}
use Rattle.lx_model.specs.State.{State}
use Rattle.lx_images.specs.Kept.{KeepsAll, LiesIn, FramesKept, Kept, StepKept}
use Rattle.lx_simulation.proofs.Absorbing.{thread_of, frame_of}
use Rattle.lx_ir.specs.declared.instr.Op.{Op}
use Rattle.lx_ir.specs.declared.instr.Op.TheVariants as op
use Rattle.lx_ir.specs.declared.instr.Callee.{Callee}
use Rattle.lx_ir.specs.declared.instr.Callee.TheVariants as callee
use Rattle.lx_ir.specs.declared.module.Symbol.TheVariants as symbol
use Rattle.lx_model.specs.declared.request.Outcome.TheVariants.{Budget}
use Rattle.lx_model.specs.declared.request.Trap.TheVariants.{Unreachable, TooDeep}
use Rattle.lx_model.specs.declared.request.Way.TheVariants.{Script}
use Rattle.lx_model.specs.Program.{Target, ToNative, ToSlot, ToImport, ToOwn, Nowhere, target}
use Rattle.lx_model.specs.Thread.{CodeBlock, Pre, Body, Post}
use Rattle.lx_model.specs.Effect.{Effect, Moves, Wants, Enters, Calls, Traps, effect, division, arrival, target_effect, slot_effect, call_effect, text_of, argument_words}
use Rattle.lx_model.specs.Next.{Step, Goes, Asks, comes_to, if_room, if_paid, has_room, has_action, effect_step, instruction_step, stage_step, post_step, frame_step, start_step, undue_step, step, pre_action, post_action}
use Rattle.lx_simulation.proofs.Keeping.{AskFits, served_kept, started_kept}

-- an effect asks for the function's own bytes, or for ones above

abbrev SamePart : Activation → Activation → Type 0
SamePart a b = (b.low ≡ a.low) × (b.high ≡ a.high) × (b.allocas ≡ a.allocas)

abbrev WantFits : Activation → What → Type 0
WantFits a (what.Alloca at size) = a.high ≤ at
WantFits a (what.Return low high) = (low ≡ a.low) × (high ≡ a.high)
WantFits a w = Unit {0}

abbrev EnterFits : What → Type 0
EnterFits (what.Enter way args) = Unit {0}
EnterFits w = ⊥

abbrev EffectFits : Activation → Effect → Type 0
EffectFits a (Moves b) = SamePart a b
EffectFits a (Wants w) = WantFits a w
EffectFits a (Enters w) = EnterFits w
EffectFits a (Calls n args) = Unit {0}
EffectFits a (Traps trap) = Unit {0}

divided_fits : (a : Activation) (w : Option Word) → EffectFits a (division a w)
divided_fits a None = tt
divided_fits a (Some w) = (refl, refl, refl)

arrived_fits : (p : Program) (a : Activation) (b : Option CodeBlock) → EffectFits a (arrival p a b)
arrived_fits p a None = tt
arrived_fits p a (Some b) = (refl, refl, refl)

slot_fits : (a : Activation) (s : ℕ) (args : List Word) → EffectFits a (slot_effect s args)
slot_fits a s [] = tt
slot_fits a s (w ∷ ws) = tt

target_fits : (a : Activation) (y : Target) (args : List Word) → EffectFits a (target_effect y args)
target_fits a (ToNative k) args = tt
target_fits a (ToSlot s) args = slot_fits a s args
target_fits a (ToImport n) args = tt
target_fits a (ToOwn n) args = tt
target_fits a Nowhere args = tt

called_fits : (p : Program) (a : Activation) (y : Callee) (args : List Word) → EffectFits a (call_effect p a y args)
called_fits p a (callee.Symbol (symbol.Function f)) args = target_fits a (target p (text_of p a) f) args
called_fits p a (callee.Symbol (symbol.Global g)) args = tt
called_fits p a (callee.Register r) args = tt

effect_fits : (p : Program) (a : Activation) (o : Op) → EffectFits a (effect p a o)
effect_fits p a (op.Binary to b ty x y) = divided_fits a _
effect_fits p a (op.Compare to pred ty x y) = (refl, refl, refl)
effect_fits p a (op.Convert to how from x into) = (refl, refl, refl)
effect_fits p a (op.Unary to o ty x) = (refl, refl, refl)
effect_fits p a (op.Select to test ty x y) = (refl, refl, refl)
effect_fits p a (op.GetElementPtr to ty base indices) = (refl, refl, refl)
effect_fits p a (op.Alloca to ty) = next_above a.high _
effect_fits p a (op.Ret v) = (refl, refl)
effect_fits p a (op.Call to ret y args) = called_fits p a y (argument_words p a args)
effect_fits p a (op.Jump label) = arrived_fits p a _
effect_fits p a (op.Branch test x y) = arrived_fits p a _
effect_fits p a (op.Switch ty v otherwise cases) = arrived_fits p a _
effect_fits p a o = tt

-- steps

want_asks : (a : Activation) (q : Principal) (x : Option Crossing) (fs : List Frame) (w : What) → WantFits a w → AskFits (frame_of a q x ∷ fs) q w
want_asks a q x fs (what.Alloca at size) h = (h, refl)
want_asks a q x fs (what.Return low high) h = h
want_asks a q x fs w h = tt

enter_asks : (fs : List Frame) (q : Principal) (w : What) → EnterFits w → AskFits fs q w
enter_asks fs q (what.Enter way args) h = tt
enter_asks fs q w h = absurd h

abbrev PartKept : History → ℕ → Principal → List Frame → ℕ → ℕ → List Range → Type 0
PartKept h t q fs low high rs =
    ((top_of_stack t fs ≤ low) × (low ≤ high) × (high ≤ stack_end t) × LiesIn low high rs) × KeepsAll h q rs × FramesKept h t fs

moved_kept : (h : History) (t : ℕ) (a b : Activation) (q : Principal) (x : Option Crossing) (fs : List Frame) → SamePart a b →
    FramesKept h t (frame_of a q x ∷ fs) → FramesKept h t (frame_of b q x ∷ fs)
moved_kept h t a b q x fs same k =
    subst (λ (rs : List Range). PartKept h t q fs b.low b.high rs) (sym same.2)
    (subst (λ (high : ℕ). PartKept h t q fs b.low high a.allocas) (sym same.1)
    (subst (λ (low : ℕ). PartKept h t q fs low a.high a.allocas) (sym same.0) k))

ends_kept : (p : Program) (s : State) (t : ℕ) (calls : List ScriptCall) (ended : List Ending) (fuel : ℕ) (fs : List Frame) (o : Outcome) → t < 16 →
    StepKept p s t (comes_to o (thread_of calls ended fuel None fs))
ends_kept p s t calls ended fuel fs o low = served_kept p s t calls ended fuel (Some o) [] Kernel (what.Finish o) low tt tt

room_kept : (p : Program) (s : State) (t : ℕ) (calls : List ScriptCall) (ended : List Ending) (fuel : ℕ) (fs : List Frame) (b : Bool) (i : Step) → t < 16 →
    StepKept p s t i → StepKept p s t (if_room b (thread_of calls ended fuel None fs) i)
room_kept p s t calls ended fuel fs true i low k = k
room_kept p s t calls ended fuel fs false i low k = ends_kept p s t calls ended fuel fs (Trapped TooDeep) low

effect_kept : (p : Program) (s : State) (t : ℕ) (calls : List ScriptCall) (ended : List Ending) (fuel : ℕ) (a : Activation) (q : Principal) (x : Option Crossing) (fs : List Frame) (e : Effect) → t < 16 →
    FramesKept s.history t (frame_of a q x ∷ fs) → EffectFits a e →
    StepKept p s t (effect_step p t (thread_of calls ended fuel None (frame_of a q x ∷ fs)) (frame_of a q x) fs e)
effect_kept p s t calls ended fuel a q x fs (Moves b) low k fits = moved_kept s.history t a b q x fs fits k
effect_kept p s t calls ended fuel a q x fs (Wants w) low k fits =
    served_kept p s t calls ended fuel None (frame_of a q x ∷ fs) q w low k (want_asks a q x fs w fits)
effect_kept p s t calls ended fuel a q x fs (Enters w) low k fits =
    room_kept p s t calls ended fuel (frame_of a q x ∷ fs) (has_room (frame_of a q x ∷ fs)) (Asks (thread_of calls ended fuel None (frame_of a q x ∷ fs)) (request q w)) low
    (served_kept p s t calls ended fuel None (frame_of a q x ∷ fs) q w low k (enter_asks (frame_of a q x ∷ fs) q w fits))
effect_kept p s t calls ended fuel a q x fs (Calls n args) low k fits =
    room_kept p s t calls ended fuel (frame_of a q x ∷ fs) (has_room (frame_of a q x ∷ fs))
    (Goes (thread_of calls ended fuel None (frame_of (activation p n args a.high) q None ∷ frame_of a q x ∷ fs))) low
    (started_kept s.history t p n args q None (frame_of a q x ∷ fs) k)
effect_kept p s t calls ended fuel a q x fs (Traps trap) low k fits = ends_kept p s t calls ended fuel (frame_of a q x ∷ fs) (Trapped trap) low

code_kept : (p : Program) (s : State) (t : ℕ) (calls : List ScriptCall) (ended : List Ending) (fuel : ℕ) (a : Activation) (q : Principal) (x : Option Crossing) (fs : List Frame) (code : List Op) → t < 16 →
    FramesKept s.history t (frame_of a q x ∷ fs) →
    StepKept p s t (if_paid (thread_of calls ended fuel None (frame_of a q x ∷ fs)) (instruction_step p t (frame_of a q x) fs code))
code_kept p s t calls ended zero a q x fs code low k = ends_kept p s t calls ended 0 (frame_of a q x ∷ fs) Budget low
code_kept p s t calls ended (suc n) a q x fs [] low k = ends_kept p s t calls ended n (frame_of a q x ∷ fs) (Trapped Unreachable) low
code_kept p s t calls ended (suc n) a q x fs (o ∷ os) low k = effect_kept p s t calls ended n a q x fs (effect p a o) low k (effect_fits p a o)

leaves_kept : (h : History) (t : ℕ) (calls : List ScriptCall) (ended : List Ending) (fuel : ℕ) (old fs : List Frame) (w : Option Word) → FramesKept h t fs → Kept h t (after_leaving w fs (thread_of calls ended fuel None old))
leaves_kept h t calls ended fuel old [] w k = tt
leaves_kept h t calls ended fuel old (f ∷ fs) w k = k

post_kept : (p : Program) (s : State) (t : ℕ) (calls : List ScriptCall) (ended : List Ending) (fuel : ℕ) (f : Frame) (c : Crossing) (i : ℕ) (w : Option Word) (fs : List Frame) (more : Bool) → t < 16 →
    FramesKept s.history t (f ∷ fs) → StepKept p s t (post_step more f fs c i w (thread_of calls ended fuel None (f ∷ fs)))
post_kept p s t calls ended fuel f c i w fs false low k = leaves_kept s.history t calls ended fuel (f ∷ fs) fs w k.2
post_kept p s t calls ended zero f c i w fs true low k = ends_kept p s t calls ended 0 (f ∷ fs) Budget low
post_kept p s t calls ended (suc n) f c i w fs true low k = served_kept p s t calls ended n None (f ∷ fs) f.principal (post_action f c i w).what low k tt

stage_kept : (p : Program) (s : State) (t : ℕ) (calls : List ScriptCall) (ended : List Ending) (fuel : ℕ) (f : Frame) (c : Crossing) (st : Stage) (fs : List Frame) → t < 16 →
    FramesKept s.history t (f ∷ fs) → StepKept p s t (stage_step p t f fs c st (thread_of calls ended fuel None (f ∷ fs)))
stage_kept p s t calls ended zero f c (Pre i) fs low k = ends_kept p s t calls ended 0 (f ∷ fs) Budget low
stage_kept p s t calls ended (suc n) f c (Pre i) fs low k = served_kept p s t calls ended n None (f ∷ fs) c.source (pre_action f c i).what low k tt
stage_kept p s t calls ended fuel f c Body fs low k = code_kept p s t calls ended fuel f.run f.principal f.crossing fs f.run.code low k
stage_kept p s t calls ended fuel f c (Post i w) fs low k = post_kept p s t calls ended fuel f c i w fs (has_action p c.function true i) low k

frame_kept : (p : Program) (s : State) (t : ℕ) (calls : List ScriptCall) (ended : List Ending) (fuel : ℕ) (f : Frame) (x : Option Crossing) (fs : List Frame) → t < 16 →
    FramesKept s.history t (f ∷ fs) → StepKept p s t (frame_step p t f fs x (thread_of calls ended fuel None (f ∷ fs)))
frame_kept p s t calls ended fuel f None fs low k = code_kept p s t calls ended fuel f.run f.principal f.crossing fs f.run.code low k
frame_kept p s t calls ended fuel f (Some c) fs low k = stage_kept p s t calls ended fuel f c c.stage fs low k

start_kept : (p : Program) (s : State) (t : ℕ) (calls : List ScriptCall) (ended : List Ending) (fuel : ℕ) (cs : List ScriptCall) → t < 16 → StepKept p s t (start_step cs (thread_of calls ended fuel None []))
start_kept p s t calls ended fuel [] low = ends_kept p s t calls ended fuel [] Budget low
start_kept p s t calls ended zero (call ∷ cs) low = ends_kept p s t calls ended 0 [] Budget low
start_kept p s t calls ended (suc n) (call ∷ cs) low = served_kept p s t calls ended n None [] Kernel (what.Enter (Script call.function) call.args) low tt tt

undue_kept : (p : Program) (s : State) (t : ℕ) (calls : List ScriptCall) (ended : List Ending) (fuel : ℕ) (fs : List Frame) → t < 16 → FramesKept s.history t fs → StepKept p s t (undue_step p t fs (thread_of calls ended fuel None fs))
undue_kept p s t calls ended fuel [] low k = start_kept p s t calls ended fuel calls low
undue_kept p s t calls ended fuel (f ∷ fs) low k = frame_kept p s t calls ended fuel f f.crossing fs low k

due_kept : (p : Program) (s : State) (t : ℕ) (calls : List ScriptCall) (ended : List Ending) (fuel : ℕ) (due : Option Outcome) (fs : List Frame) → t < 16 → FramesKept s.history t fs → StepKept p s t (step p t (thread_of calls ended fuel due fs))
due_kept p s t calls ended fuel None fs low k = undue_kept p s t calls ended fuel fs low k
due_kept p s t calls ended fuel (Some o) fs low k = served_kept p s t calls ended fuel (Some o) fs Kernel (what.Finish o) low k tt

pub step_kept : (p : Program) (s : State) (t : ℕ) (thread : Thread) → t < 16 → Kept s.history t thread → StepKept p s t (step p t thread)
step_kept p s t thread low k = due_kept p s t thread.calls thread.ended thread.fuel thread.due thread.frames low k
