-- No thread of a run ends its call with a refusal of its own.
use Rattle.std.proofs.Common.{◌≡◌, ℕ, zero, suc, ◌+◌, ◌*◌, Bool, true, false, Option, Some, None, List, [], ◌∷◌, length, refl}
use Rattle.std.specs.Prelude.{⊤}
use Rattle.lx_words.specs.Word.{Word}
use Rattle.lx_caps.specs.declared.Principal.{Principal}
use Rattle.lx_ir.specs.declared.instr.Callee.{Callee}
use Rattle.lx_ir.specs.declared.instr.Callee.TheVariants as callee
use Rattle.lx_ir.specs.declared.instr.Op.{Op}
use Rattle.lx_ir.specs.declared.instr.Op.TheVariants as op
use Rattle.lx_ir.specs.declared.module.Symbol.TheVariants as symbol
use Rattle.lx_model.specs.declared.program.Program.{Program}
use Rattle.lx_model.specs.declared.program.ScriptCall.{ScriptCall}
use Rattle.lx_model.specs.declared.request.Outcome.{Outcome}
use Rattle.lx_model.specs.declared.request.Request.{Request}
use Rattle.lx_model.specs.declared.request.Reply.{Reply}
use Rattle.lx_model.specs.declared.request.Reply.TheVariants.{Value, Done, Entered, Ended}
use Rattle.lx_model.specs.declared.request.Way.{Way}
use Rattle.lx_model.specs.declared.request.What.{What}
use Rattle.lx_model.specs.declared.request.What.TheVariants as what
use Rattle.lx_model.specs.Program.{Target, ToNative, ToSlot, ToImport, ToOwn, Nowhere, target}
use Rattle.lx_model.specs.Thread.{Activation, CodeBlock, Crossing, Ending, Frame, Stage, Pre, Body, Post, Thread}
use Rattle.lx_model.specs.Effect.{Effect, Moves, Wants, Enters, Calls, Traps, arrival, call_effect, code_block_named, division, effect, jump_effect, slot_effect, target_effect, text_of, returned_value}
use Rattle.lx_model.specs.Next.{Asking, Step, Goes, Asks, absorb, after_entry, after_leaving, after_reply, after_ret, after_ret_of, due_or, effect_step, entered_frame, fits_site, frame_step, has_action, has_room, if_paid, if_room, instruction_step, next, next_within, post_action, post_step, pre_action, stage_step, start_step, step, undue_step}
use Rattle.lx_model.specs.PlainLaws.{is_refused}

-- the request brings a refusal
abbrev pub brings_refusal : What → Bool
brings_refusal (what.Finish o) = is_refused o
brings_refusal _ = false

abbrev owes_refusal : Option Outcome → Bool
owes_refusal None = false
owes_refusal (Some o) = is_refused o

-- a refusal is not what is due to the thread
abbrev pub OwesNone : Thread → Type 0
OwesNone x = owes_refusal x.due ≡ false

-- instructions

abbrev EffectPlain : Effect → Type 0
EffectPlain (Moves a) = ⊤
EffectPlain (Wants w) = brings_refusal w ≡ false
EffectPlain (Enters w) = brings_refusal w ≡ false
EffectPlain (Calls n args) = ⊤
EffectPlain (Traps trap) = ⊤

divided : (a : Activation) (w : Option Word) → EffectPlain (division a w)
divided a None = tt
divided a (Some w) = tt

arrived : (p : Program) (a : Activation) (b : Option CodeBlock) → EffectPlain (arrival p a b)
arrived p a None = tt
arrived p a (Some b) = tt

jumped : (p : Program) (a : Activation) (label : List ℕ) → EffectPlain (jump_effect p a label)
jumped p a label = arrived p a (code_block_named a.blocks label)

slot_called : (ty : ℕ) (args : List Word) → EffectPlain (slot_effect ty args)
slot_called ty [] = tt
slot_called ty (s ∷ args) = refl

target_called : (x : Target) (args : List Word) → EffectPlain (target_effect x args)
target_called (ToNative k) args = refl
target_called (ToSlot s) args = slot_called s args
target_called (ToImport n) args = refl
target_called (ToOwn n) args = tt
target_called Nowhere args = tt

called : (p : Program) (a : Activation) (c : Callee) (args : List Word) → EffectPlain (call_effect p a c args)
called p a (callee.Symbol (symbol.Function f)) args = target_called (target p (text_of p a) f) args
called p a (callee.Symbol (symbol.Global g)) args = tt
called p a (callee.Register r) args = refl

effect_plain : (p : Program) (a : Activation) (o : Op) → EffectPlain (effect p a o)
effect_plain p a (op.Binary to o ty x y) = divided a _
effect_plain p a (op.Compare to pred ty x y) = tt
effect_plain p a (op.Convert to how from x into) = tt
effect_plain p a (op.Unary to o ty x) = tt
effect_plain p a (op.Select to test ty x y) = tt
effect_plain p a (op.Phi to ty edges) = tt
effect_plain p a (op.Alloca to ty) = refl
effect_plain p a (op.Load to ty at) = refl
effect_plain p a (op.Store ty v at) = refl
effect_plain p a (op.GetElementPtr to ty base indices) = tt
effect_plain p a (op.Call to ret c args) = called p a c _
effect_plain p a (op.CopyBlock moves dest source len) = refl
effect_plain p a (op.FillBlock dest byte len) = refl
effect_plain p a (op.Ret v) = refl
effect_plain p a (op.Jump label) = jumped p a label
effect_plain p a (op.Branch test first second) = jumped p a _
effect_plain p a (op.Switch ty v otherwise cases) = jumped p a _
effect_plain p a op.Unreachable = tt
effect_plain p a (op.Guard at size narrow) = tt
effect_plain p a (op.Check x) = tt
effect_plain p a (op.Enter g) = tt
effect_plain p a (op.Pre g k) = tt
effect_plain p a (op.Post g k) = tt
effect_plain p a (op.Leave g) = tt

-- steps

abbrev StepPlain : Step → Type 0
StepPlain (Goes x) = OwesNone x
StepPlain (Asks x r) = OwesNone x × (brings_refusal r.what ≡ false)

roomed : (b : Bool) (x : Thread) (s : Step) → StepPlain s → StepPlain (if_room b x s)
roomed true x s h = h
roomed false x s h = (refl, refl)

effected : (p : Program) (t : ℕ) (x : Thread) (f : Frame) (fs : List Frame) (e : Effect) → OwesNone x → EffectPlain e → StepPlain (effect_step p t x f fs e)
effected p t x f fs (Moves a) h k = h
effected p t x f fs (Wants w) h k = (h, k)
effected p t x f fs (Enters w) h k = roomed (has_room (f ∷ fs)) x _ (h, k)
effected p t x f fs (Calls n args) h k = roomed (has_room (f ∷ fs)) x _ h
effected p t x f fs (Traps trap) h k = (refl, refl)

instructed : (p : Program) (t : ℕ) (f : Frame) (fs : List Frame) (os : List Op) (x : Thread) → OwesNone x → StepPlain (instruction_step p t f fs os x)
instructed p t f fs [] x h = (refl, refl)
instructed p t f fs (o ∷ os) x h = effected p t x f fs (effect p f.run o) h (effect_plain p f.run o)

-- a step that costs a unit
paid : (calls : List ScriptCall) (over : List Ending) (fuel : ℕ) (due : Option Outcome) (frames : List Frame) (go : Thread → Step)
    → ((n : ℕ) → StepPlain (go (record { calls = calls; ended = over; fuel = n; due = due; frames = frames })))
    → StepPlain (if_paid (record { calls = calls; ended = over; fuel = fuel; due = due; frames = frames }) go)
paid calls over zero due frames go h = (refl, refl)
paid calls over (suc n) due frames go h = h n

ran : (p : Program) (t : ℕ) (f : Frame) (fs : List Frame) (x : Thread) → OwesNone x → StepPlain (if_paid x (instruction_step p t f fs f.run.code))
ran p t f fs x h = paid x.calls x.ended x.fuel x.due x.frames (instruction_step p t f fs f.run.code) (λ n. instructed p t f fs f.run.code _ h)

asked : (r : Request) (x : Thread) → brings_refusal r.what ≡ false → OwesNone x → StepPlain (if_paid x (λ poorer. Asks poorer r))
asked r x none h = paid x.calls x.ended x.fuel x.due x.frames (λ poorer. Asks poorer r) (λ n. (h, none))

left : (v : Option Word) (fs : List Frame) (x : Thread) → OwesNone x → OwesNone (after_leaving v fs x)
left v [] x h = refl
left v (f ∷ fs) x h = h

posted : (b : Bool) (f : Frame) (fs : List Frame) (c : Crossing) (k : ℕ) (v : Option Word) (x : Thread) → OwesNone x → StepPlain (post_step b f fs c k v x)
posted true f fs c k v x h = asked (post_action f c k v) x refl h
posted false f fs c k v x h = left v fs x h

staged : (p : Program) (t : ℕ) (f : Frame) (fs : List Frame) (c : Crossing) (s : Stage) (x : Thread) → OwesNone x → StepPlain (stage_step p t f fs c s x)
staged p t f fs c (Pre k) x h = asked (pre_action f c k) x refl h
staged p t f fs c Body x h = ran p t f fs x h
staged p t f fs c (Post k v) x h = posted (has_action p c.function true k) f fs c k v x h

framed : (p : Program) (t : ℕ) (f : Frame) (fs : List Frame) (c : Option Crossing) (x : Thread) → OwesNone x → StepPlain (frame_step p t f fs c x)
framed p t f fs None x h = ran p t f fs x h
framed p t f fs (Some c) x h = staged p t f fs c c.stage x h

started : (cs : List ScriptCall) (x : Thread) → OwesNone x → StepPlain (start_step cs x)
started [] x h = (refl, refl)
started (c ∷ cs) x h = asked _ x refl h

undue_plain : (p : Program) (t : ℕ) (frames : List Frame) (x : Thread) → OwesNone x → StepPlain (undue_step p t frames x)
undue_plain p t [] x h = started x.calls x h
undue_plain p t (f ∷ fs) x h = framed p t f fs f.crossing x h

due_plain : (due : Option Outcome) (x : Thread) (s : Step) → owes_refusal due ≡ false → OwesNone x → StepPlain s → StepPlain (due_or due x s)
due_plain None x s none h k = k
due_plain (Some o) x s none h k = (h, none)

step_plain : (p : Program) (t : ℕ) (x : Thread) → OwesNone x → StepPlain (step p t x)
step_plain p t x h = due_plain x.due x (undue_step p t x.frames x) h h (undue_plain p t x.frames x h)

abbrev AskingPlain : Asking → Type 0
AskingPlain a = OwesNone a.thread × (brings_refusal a.request.what ≡ false)

goes_on : (n : ℕ) (p : Program) (t : ℕ) (s : Step) → StepPlain s → ((more : Thread) → OwesNone more → AskingPlain (next_within n p t more))
    → AskingPlain (elim s [ Goes more ↦ next_within n p t more | Asks more r ↦ record { thread = more; request = r } ])
goes_on n p t (Goes more) h k = k more h
goes_on n p t (Asks more r) h k = h

within_plain : (n : ℕ) (p : Program) (t : ℕ) (x : Thread) → OwesNone x → AskingPlain (next_within n p t x)
within_plain zero p t x h = (h, refl)
within_plain (suc n) p t x h = goes_on n p t (step p t x) (step_plain p t x h) (λ more k. within_plain n p t more k)

pub next_plain : (p : Program) (t : ℕ) (x : Thread) → OwesNone x → AskingPlain (next p t x)
next_plain p t x h = within_plain (2 * x.fuel + length x.frames + 1) p t x h

-- behind a reply

entered : (b : Bool) (way : Way) (f : Frame) (x : Thread) → OwesNone x → OwesNone (after_entry b way f x)
entered true way f x h = h
entered false way f x h = refl

returned_of : (c : Option Crossing) (f : Frame) (fs : List Frame) (v : Option Word) (x : Thread) → OwesNone x → OwesNone (after_ret_of c f fs v x)
returned_of None f fs v x h = left v fs x h
returned_of (Some c) f fs v x h = h

returned : (p : Program) (frames : List Frame) (x : Thread) → OwesNone x → OwesNone (after_ret p frames x)
returned p [] x h = h
returned p (f ∷ fs) x h = returned_of f.crossing f fs (returned_value p f.run) x h

valued : (p : Program) (t : ℕ) (x : Thread) (who : Principal) (w : What) (v : Word) → OwesNone x → OwesNone (after_reply p t x who w (Value v))
valued p t x who (what.Load at width) v h = h
valued p t x who (what.Store at w) v h = h
valued p t x who (what.Copy to from len) v h = h
valued p t x who (what.Fill to byte len) v h = h
valued p t x who (what.Alloca at size) v h = h
valued p t x who (what.Enter way args) v h = h
valued p t x who (what.Perform n post k env source dest) v h = h
valued p t x who (what.Return low high) v h = returned p x.frames x h
valued p t x who (what.Native k args) v h = h
valued p t x who (what.Finish o) v h = h

done : (p : Program) (t : ℕ) (x : Thread) (who : Principal) (w : What) → OwesNone x → OwesNone (after_reply p t x who w Done)
done p t x who (what.Load at width) h = h
done p t x who (what.Store at w) h = h
done p t x who (what.Copy to from len) h = h
done p t x who (what.Fill to byte len) h = h
done p t x who (what.Alloca at size) h = h
done p t x who (what.Enter way args) h = h
done p t x who (what.Perform n post k env source dest) h = h
done p t x who (what.Return low high) h = returned p x.frames x h
done p t x who (what.Native k args) h = h
done p t x who (what.Finish o) h = h

entry : (p : Program) (t : ℕ) (x : Thread) (who : Principal) (w : What) (n : ℕ) (q : Principal) (c : Bool) → OwesNone x → OwesNone (after_reply p t x who w (Entered n q c))
entry p t x who (what.Load at width) n q c h = h
entry p t x who (what.Store at w) n q c h = h
entry p t x who (what.Copy to from len) n q c h = h
entry p t x who (what.Fill to byte len) n q c h = h
entry p t x who (what.Alloca at size) n q c h = h
entry p t x who (what.Enter way args) n q c h = entered (fits_site p way x.frames n) way (entered_frame p t who args x.frames n q c) x h
entry p t x who (what.Perform m post k env source dest) n q c h = h
entry p t x who (what.Return low high) n q c h = returned p x.frames x h
entry p t x who (what.Native k args) n q c h = h
entry p t x who (what.Finish o) n q c h = h

pub absorb_plain : (p : Program) (t : ℕ) (x : Thread) (r : Request) (reply : Reply) → OwesNone x → OwesNone (absorb p t x r reply)
absorb_plain p t x r (Value v) h = valued p t x r.who r.what v h
absorb_plain p t x r Done h = done p t x r.who r.what h
absorb_plain p t x r (Entered n q c) h = entry p t x r.who r.what n q c h
absorb_plain p t x r (Ended o) h = refl
