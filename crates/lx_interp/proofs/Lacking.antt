-- Where a step may want memory.
use Rattle.std.proofs.Common.{◌≡◌, ℕ, ◌<◌, Bool, true, false, Option, Some, None, IsSome, List, ◌∷◌, drop, refl, sym, ap, ◌∙◌, subst}
use Rattle.std.specs.Prelude.{find, slice_get}
use Rattle.std.proofs.lemmas.Option.{same_Some}
use Rattle.lx_words.specs.Word.{Word, binary}
use Rattle.lx_ir.specs.declared.instr.Op.{Op}
use Rattle.lx_ir.specs.declared.instr.Op.TheVariants as op
use Rattle.lx_model.specs.declared.program.Program.{Program}
use Rattle.lx_model.specs.Thread.{Activation, CodeBlock}
use Rattle.lx_model.specs.Effect.{Effect, Wants, Enters, Calls, arrival, bits, choice, chosen_label, code_block_named, division, effect, is_phi, operand, text_of}
use Rattle.lx_model.specs.Next.{has_action}
use Rattle.lx_images.specs.Image.{Code, ImageFrame, Runs, wrapped_import}
use Rattle.lx_image_code.specs.declared.line.Line.TheVariants as line
use Rattle.lx_image_code.specs.declared.wrappers.Wrapper.{Wrapper}
use Rattle.lx_image_steps.specs.Effects.{effect_of, IsBlockOf, label_after, Leads}
use Rattle.lx_image_steps.specs.Next.{IsNext, calls_next}
use Rattle.lx_image_steps.specs.Standing.{block_or_none, head_of, run_of}
use Rattle.lx_image_steps.specs.declared.activation.Activation.{Activation as Running}
use Rattle.lx_image_steps.specs.declared.effect.Effect.{Effect as Found}
use Rattle.lx_image_steps.specs.declared.effect.Effect.TheVariants as found
use Rattle.lx_image_steps.specs.declared.next.Step.{Step}
use Rattle.lx_image_steps.specs.declared.next.Step.TheVariants as step
use Rattle.lx_frames.specs.declared.frame.Frame.{Frame as KeptFrame}
use Rattle.lx_frames.specs.declared.frame.Frame.TheVariants as kept
use Rattle.lx_frames.specs.Frames.{IsUncountedOn, Stack, frames_of, function_on, line_on, running_on}
use Rattle.lx_frames.specs.Stack.{takes_room}
use Rattle.lx_interp.specs.declared.runner.Runner.{Runner}
use Rattle.lx_interp.specs.Lacks.{FoundLacks, FoundLacksOn, GoesToPhis, HasPhis, HasPhisIn, LineLacks, MayLack, NextOn, OpLacks, RunLacks, TopLacks}
use Rattle.lx_interp.specs.Runner.{HasStayed, asked_by}

-- the instruction by which memory is wanted

call_op : (p : Program) (a : Activation) (o : Option Op) → calls_next o ≡ true → OpLacks p a o
call_op p a None h = absurd (cc)
call_op p a (Some (op.Call to ret callee args)) h = tt
call_op p a (Some o) h = absurd (cc)

crosses_op : (c : Code) (a : Activation) (o : Op) (n : ℕ) → wrapped_import c (text_of c.program a) o ≡ Some n → OpLacks c.program a (Some o)
crosses_op c a (op.Call to ret callee args) n e = tt
crosses_op c a o n e = absurd (cc)

phis_in : (b : Option CodeBlock) → IsSome (find is_phi (block_or_none b).code) → HasPhisIn b
phis_in None h = absurd (cc)
phis_in (Some b) h = h

goes_to : (a : Activation) (label : Option (List ℕ)) (k : ℕ) → IsBlockOf a label k → HasPhis a k → GoesToPhis a label
goes_to a None k is h = absurd is
goes_to a (Some label) k is h = subst HasPhisIn is (phis_in (slice_get a.blocks k) h)

jump_op : (p : Program) (a : Activation) (o : Op) (k : ℕ) → IsBlockOf a (label_after p a o) k → HasPhis a k → OpLacks p a (Some o)
jump_op p a (op.Call to ret callee args) k is h = tt
jump_op p a (op.Alloca to ty) k is h = tt
jump_op p a o k is h = goes_to a (label_after p a o) k is h

-- an effect keeps something: it asks for room, or calls
keeps : Effect → Bool
keeps (Wants w) = takes_room w
keeps (Enters w) = true
keeps (Calls n args) = true
keeps e = false

lost : {A : Type 0} (b : Bool) → b ≡ false → b ≡ true → A
lost b e h =
    let x : true ≡ false = sym h ∙ e in
    absurd (cc)

arrival_keeps : (p : Program) (a : Activation) (b : Option CodeBlock) → keeps (arrival p a b) ≡ false
unfolding keeps
arrival_keeps p a None = refl
arrival_keeps p a (Some b) = refl

division_keeps : (a : Activation) (w : Option Word) → keeps (division a w) ≡ false
unfolding keeps
division_keeps a None = refl
division_keeps a (Some w) = refl

asks_op : (p : Program) (a : Activation) (o : Op) → keeps (effect p a o) ≡ true → OpLacks p a (Some o)
unfolding keeps
asks_op p a (op.Call to ret callee args) h = tt
asks_op p a (op.Alloca to ty) h = tt
asks_op p a (op.Binary to o ty x y) h = lost _ (division_keeps a (binary o (operand p a x) (operand p a y))) h
asks_op p a (op.Jump label) h = lost _ (arrival_keeps p a (code_block_named a.blocks label)) h
asks_op p a (op.Branch test first second) h = lost _ (arrival_keeps p a (code_block_named a.blocks (choice (bits p a test) first second))) h
asks_op p a (op.Switch ty v otherwise cases) h = lost _ (arrival_keeps p a (code_block_named a.blocks (chosen_label p a (bits p a v) otherwise cases))) h
asks_op p a o h = absurd (cc)

found_op : (p : Program) (a : Activation) (o : Op) (e : Found) → effect_of p a e ≡ effect p a o → Leads a (label_after p a o) e → FoundLacks a e → OpLacks p a (Some o)
unfolding keeps
found_op p a o (found.Jumps k) is leads h = jump_op p a o k leads h
found_op p a o (found.Wants w) is leads h = asks_op p a o (ap keeps (sym is) ∙ h)
found_op p a o (found.Enters w) is leads h = asks_op p a o (ap keeps (sym is))
found_op p a o (found.Calls n args) is leads h = asks_op p a o (ap keeps (sym is))
found_op p a o (found.Gives w) is leads h = absurd h
found_op p a o (found.Traps trap) is leads h = absurd h

-- what is found of the function on top

pub next_on : (c : Code) (top : Option KeptFrame) (run : Running) (s : Option Step) → Some run ≡ running_on top → IsNext c (run_of c run) (head_of (run_of c run).code) s → NextOn c top s
next_on c top run s e is = λ other here.
    let same : run ≡ other = cc in
    subst (λ (r : Running). IsNext c (run_of c r) (head_of (run_of c r).code) s) same is

pub nothing_on : (c : Code) (top : Option KeptFrame) → None ≡ running_on top → NextOn c top None
nothing_on c top e = λ other here. absurd (cc)

pub call_lacks : (c : Code) (top : Option KeptFrame) (run : Running) → Some run ≡ running_on top → calls_next (head_of (run_of c run).code) ≡ true → RunLacks c top
call_lacks c top run e h = λ other here.
    let same : run ≡ other = cc in
    call_op c.program (run_of c other) (head_of (run_of c other).code) (subst (λ (r : Running). calls_next (head_of (run_of c r).code) ≡ true) same h)

does_op : (c : Code) (a : Activation) (o : Option Op) (e : Found) → IsNext c a o (Some (step.Does e)) → FoundLacks a e → OpLacks c.program a o
does_op c a o e is h = subst (OpLacks c.program a) (sym is.1) (found_op c.program a is.0 e is.2.1 is.2.2 h)

crosses_next : (c : Code) (a : Activation) (o : Option Op) (n : ℕ) (args : List Word) (wrapper : Wrapper) → IsNext c a o (Some (step.Crosses n args wrapper)) → OpLacks c.program a o
crosses_next c a o n args wrapper is = subst (OpLacks c.program a) (sym is.1) (crosses_op c a is.0 n is.2.0)

pub does_lacks : (c : Code) (top : Option KeptFrame) (s : Option Step) (e : Found) → s ≡ Some (step.Does e) → NextOn c top s → FoundLacksOn c top e → RunLacks c top
does_lacks c top s e is next h = λ run here.
    does_op c (run_of c run) (head_of (run_of c run).code) e (subst (IsNext c (run_of c run) (head_of (run_of c run).code)) is (next run here)) (h run here)

pub crosses_lacks : (c : Code) (top : Option KeptFrame) (s : Option Step) (n : ℕ) (args : List Word) (wrapper : Wrapper) → s ≡ Some (step.Crosses n args wrapper) → NextOn c top s → RunLacks c top
crosses_lacks c top s n args wrapper is next = λ run here.
    crosses_next c (run_of c run) (head_of (run_of c run).code) n args wrapper (subst (IsNext c (run_of c run) (head_of (run_of c run).code)) is (next run here))

-- where a step has left the frames as they were

ran_in : Activation → List ImageFrame → Activation
ran_in d (Runs a ∷ fs) = a
ran_in d fs = d

pub ran_lacks : (c : Code) (fuel : ℕ) (top new : Option KeptFrame) (below rest : Stack) → 0 < fuel → IsSome (running_on top) → RunLacks c top → frames_of c new rest ≡ frames_of c top below → TopLacks c fuel new
unfolding ran_in
ran_lacks c fuel None new below rest paid there lacks e = absurd (cc)
ran_lacks c fuel (Some (kept.Wraps n args wrapper at x)) new below rest paid there lacks e = absurd (cc)
ran_lacks c fuel (Some (kept.Runs run)) None below rest paid there lacks e = absurd (cc)
ran_lacks c fuel (Some (kept.Runs run)) (Some (kept.Wraps n args wrapper at x)) below rest paid there lacks e = absurd (cc)
ran_lacks c fuel (Some (kept.Runs run)) (Some (kept.Runs now)) below rest paid there lacks e =
    let same : run_of c run ≡ run_of c now = ap (ran_in (run_of c run)) (sym e) in
    (paid, subst (λ (a : Activation). OpLacks c.program a (head_of a.code)) same (lacks run refl))

pub start_lacks : (c : Code) (fuel : ℕ) (top new : Option KeptFrame) (below rest : Stack) → 0 < fuel → top ≡ None → frames_of c new rest ≡ frames_of c top below → TopLacks c fuel new
start_lacks c fuel None None below rest paid none e = paid
start_lacks c fuel None (Some f) below rest paid none e = absurd (cc)
start_lacks c fuel (Some f) new below rest paid none e = absurd (cc)

-- a wrapper at a line

asked_lacks : (p : Program) (n at : ℕ) (post : Bool) (k : ℕ) → true ≡ has_action p n post k → LineLacks p n at (asked_by post k)
asked_lacks p n at true k has = sym has
asked_lacks p n at false k has = sym has

pub acts_lacks : (c : Code) (fuel : ℕ) (top : Option KeptFrame) (below : Stack) (post : Bool) (k : ℕ) → line_on (frames_of c top below) ≡ Some (asked_by post k) → true ≡ has_action c.program (function_on top) post k → TopLacks c fuel top
acts_lacks c fuel None below post k e has = absurd (cc)
acts_lacks c fuel (Some (kept.Runs run)) below post k e has = absurd (cc)
acts_lacks c fuel (Some (kept.Wraps n args wrapper at x)) below post k e has = subst (LineLacks c.program n at) (sym (same_Some _ _ e)) (asked_lacks c.program n at post k has)

pub leaves_lacks : (c : Code) (fuel : ℕ) (top : Option KeptFrame) (below : Stack) → line_on (frames_of c top below) ≡ Some line.Leave → IsUncountedOn top → TopLacks c fuel top
leaves_lacks c fuel None below e h = absurd h
leaves_lacks c fuel (Some (kept.Runs run)) below e h = absurd h
leaves_lacks c fuel (Some (kept.Wraps n args wrapper at x)) below e h = subst (LineLacks c.program n at) (sym (same_Some _ _ e)) h

-- a step that has left the thread as it was, and comes to no outcome
pub may_lack : (c : Code) (old new : Runner) → old.due ≡ None → HasStayed c old new → TopLacks c new.fuel new.stack.top → MayLack c new
may_lack c old new due stays lacks = record { undue = ap (λ v. v.due) stays.state ∙ due; lacks = lacks }
