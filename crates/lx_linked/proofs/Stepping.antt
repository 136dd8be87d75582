-- A step of a thread is a step of the thread that began its functions with other words.
use Rattle.std.proofs.Common.{◌≡◌, ℕ, zero, suc, Bool, true, false, List, [], ◌∷◌, length, Option, Some, None, refl, sym, subst, ap}
use Rattle.std.specs.Prelude.{is_some, nat_lt}
use Rattle.lx_words.specs.Word.{Word}
use Rattle.lx_ir.specs.declared.instr.Op.{Op}
use Rattle.lx_model.specs.declared.program.Program.{Program}
use Rattle.lx_model.specs.declared.program.ScriptCall.{ScriptCall}
use Rattle.lx_model.specs.declared.request.Outcome.{Outcome}
use Rattle.lx_model.specs.declared.request.Outcome.TheVariants.{Returned, Trapped, Budget}
use Rattle.lx_model.specs.declared.request.Trap.TheVariants.{TooDeep, Unreachable}
use Rattle.lx_model.specs.Program.{function_of}
use Rattle.lx_model.specs.Thread.{Activation, Stage, Pre, Body, Post, Crossing, Frame, Ending, Thread, with_register, head_destination, activation_behind}
use Rattle.lx_model.specs.Effect.{Effect, Moves, Wants, Enters, Calls, Traps, effect}
use Rattle.lx_model.specs.Next.{Step, Goes, Asks, request, with_run, own_frame, comes_to, if_room, if_paid, has_room, frame_limit, effect_step, instruction_step, has_action, after_leaving, stage_step, post_step, frame_step, start_step, undue_step, step}
use Rattle.lx_linked.specs.Filled.{Fill, refill, param_count}
use Rattle.lx_linked.proofs.Standing.{holding}
use Rattle.lx_linked.proofs.AssignedEffects.{EffectSame, effect_same}
use Rattle.lx_linked.proofs.Signatures.{Linked, Takes}
use Rattle.lx_linked.proofs.Calling.{needs, EffectFits, effect_fits, HasResult}
use Rattle.lx_linked.proofs.Entering.{top_code}
use Rattle.lx_linked.proofs.Frames.{frame_with, with_all, thread_of, thread_with, StageGives, CrossingGives, Owes, FramesStood, CallsFit, ThreadStood, AskedWell, ComesSame, as_many, kept, left, emptied, pushed, begun, stands_behind}

-- the other step: it goes to the same thread with other registers, or asks the same from there
abbrev pub StepSame : Fill → Program → ℕ → Thread → Step → Step → Type 0
StepSame fill p t before (Goes x) i = (y : Thread) × (i ≡ Goes y) × ComesSame fill p t before x y
StepSame fill p t before (Asks x r) i = (rs : List (List Word)) × (i ≡ Asks (thread_with rs x) r) × ThreadStood p x rs × AskedWell p x.frames r.what

ends_same : (fill : Fill) (p : Program) (t : ℕ) (before : Thread) (calls : List ScriptCall) (ended : List Ending) (fuel : ℕ) (fs gs : List Frame) (o : Outcome) → CallsFit p calls →
    StepSame fill p t before (comes_to o (thread_of calls ended fuel None fs)) (comes_to o (thread_of calls ended fuel None gs))
ends_same fill p t before calls ended fuel fs gs o fit = ([], refl, (tt, fit), tt)

room_same : (fill : Fill) (p : Program) (t : ℕ) (before : Thread) (calls : List ScriptCall) (ended : List Ending) (fuel : ℕ) (fs gs : List Frame) (b c : Bool) (i k : Step) → CallsFit p calls → c ≡ b → StepSame fill p t before i k →
    StepSame fill p t before (if_room b (thread_of calls ended fuel None fs) i) (if_room c (thread_of calls ended fuel None gs) k)
room_same fill p t before calls ended fuel fs gs b c i k fit e same =
    subst (λ (x : Bool). StepSame fill p t before (if_room b (thread_of calls ended fuel None fs) i) (if_room x (thread_of calls ended fuel None gs) k)) (sym e) (by_room b)
  where
    by_room : (x : Bool) → StepSame fill p t before (if_room x (thread_of calls ended fuel None fs) i) (if_room x (thread_of calls ended fuel None gs) k)
    by_room true = same
    by_room false = ends_same fill p t before calls ended fuel fs gs (Trapped TooDeep) fit

rooms : (m n : ℕ) → m ≡ n → nat_lt (suc m) frame_limit ≡ nat_lt (suc n) frame_limit
rooms m n e = ap (λ (k : ℕ). nat_lt (suc k) frame_limit) e

-- the effect of an instruction

moved_owes : (p : Program) (f : Frame) (fs : List Frame) (c : Activation) → c.function ≡ f.run.function → Owes p f fs → Owes p (with_run f c) fs
moved_owes p f fs c e owes h = let o = owes h in (subst (HasResult p) (sym e) o.0, o.1)

entered_owes : (p : Program) (f : Frame) (fs : List Frame) (n count : ℕ) → f.run.function ≡ n → f.crossing ≡ None → Takes p (needs (top_code fs)) count n → Owes p f fs
entered_owes p f fs n count e x takes h = (subst (HasResult p) (sym e) (λ g eg. (takes g eg).1 h), subst CrossingGives (sym x) tt)

step_of : (fill : Fill) (p : Program) (t : ℕ) (before : Thread) (calls : List ScriptCall) (ended : List Ending) (fuel : ℕ) (f : Frame) (fs : List Frame) (q : List Word) (qs : List (List Word)) (e x : Effect) → length before.frames ≡ suc (length (with_all qs fs)) → CallsFit p calls →
    FramesStood p (f ∷ fs) (q ∷ qs) → EffectSame p f.run e x → EffectFits p f.run.code e →
    StepSame fill p t before (effect_step p t (thread_of calls ended fuel None (f ∷ fs)) f fs e) (effect_step p t (thread_of calls ended fuel None (frame_with q f ∷ with_all qs fs)) (frame_with q f) (with_all qs fs) x)
step_of fill p t before calls ended fuel f fs q qs (Moves c) x many fit st same fits =
    subst (λ (y : Effect). StepSame fill p t before (effect_step p t (thread_of calls ended fuel None (f ∷ fs)) f fs (Moves c)) (effect_step p t (thread_of calls ended fuel None (frame_with q f ∷ with_all qs fs)) (frame_with q f) (with_all qs fs) y)) (sym same.1) (
      thread_of calls ended fuel None (with_run f (holding same.0 c) ∷ with_all qs fs),
      refl,
      (
        same.0 ∷ qs,
        kept fill p t before (thread_of calls ended fuel None (with_run f (holding same.0 c) ∷ with_all qs fs)) many,
        ((same.2, moved_owes p f fs c same.3 st.1, st.2), fit),
      ),
    )
step_of fill p t before calls ended fuel f fs q qs (Wants w) x many fit st same fits =
    subst (λ (y : Effect). StepSame fill p t before (effect_step p t (thread_of calls ended fuel None (f ∷ fs)) f fs (Wants w)) (effect_step p t (thread_of calls ended fuel None (frame_with q f ∷ with_all qs fs)) (frame_with q f) (with_all qs fs) y)) (sym same)
    (q ∷ qs, refl, (st, fit), fits)
step_of fill p t before calls ended fuel f fs q qs (Enters w) x many fit st same fits =
    subst (λ (y : Effect). StepSame fill p t before (effect_step p t (thread_of calls ended fuel None (f ∷ fs)) f fs (Enters w)) (effect_step p t (thread_of calls ended fuel None (frame_with q f ∷ with_all qs fs)) (frame_with q f) (with_all qs fs) y)) (sym same)
    (room_same fill p t before calls ended fuel (f ∷ fs) (frame_with q f ∷ with_all qs fs) (has_room (f ∷ fs)) (has_room (frame_with q f ∷ with_all qs fs)) (Asks (thread_of calls ended fuel None (f ∷ fs)) (request f.principal w)) (Asks (thread_of calls ended fuel None (frame_with q f ∷ with_all qs fs)) (request f.principal w)) fit
    (rooms (length (with_all qs fs)) (length fs) (as_many p fs qs st.2)) (q ∷ qs, refl, (st, fit), fits))
step_of fill p t before calls ended fuel f fs q qs (Calls n args) x many fit st same fits =
    let own : Frame = own_frame p t f n args in
    subst (λ (y : Effect). StepSame fill p t before (effect_step p t (thread_of calls ended fuel None (f ∷ fs)) f fs (Calls n args)) (effect_step p t (thread_of calls ended fuel None (frame_with q f ∷ with_all qs fs)) (frame_with q f) (with_all qs fs) y)) (sym same)
    (room_same fill p t before calls ended fuel (f ∷ fs) (frame_with q f ∷ with_all qs fs) (has_room (f ∷ fs)) (has_room (frame_with q f ∷ with_all qs fs)) (Goes (thread_of calls ended fuel None (own ∷ f ∷ fs))) (Goes (thread_of calls ended fuel None (own ∷ frame_with q f ∷ with_all qs fs))) fit
    (rooms (length (with_all qs fs)) (length fs) (as_many p fs qs st.2)) (
      thread_of calls ended fuel None (own ∷ frame_with q f ∷ with_all qs fs),
      refl,
      (
        refill (param_count (function_of p n)) (fill t before) own.run.registers ∷ q ∷ qs,
        pushed fill p t before calls ended fuel None own (frame_with q f ∷ with_all qs fs) many,
        ((begun p (needs f.run.code) n args f.run.high (fill t before) fits, entered_owes p own (f ∷ fs) n (length args) refl refl fits, st), fit),
      ),
    ))
step_of fill p t before calls ended fuel f fs q qs (Traps trap) x many fit st same fits =
    subst (λ (y : Effect). StepSame fill p t before (effect_step p t (thread_of calls ended fuel None (f ∷ fs)) f fs (Traps trap)) (effect_step p t (thread_of calls ended fuel None (frame_with q f ∷ with_all qs fs)) (frame_with q f) (with_all qs fs) y)) (sym same)
    (ends_same fill p t before calls ended fuel (f ∷ fs) (frame_with q f ∷ with_all qs fs) (Trapped trap) fit)

-- an instruction

code_same : (fill : Fill) (p : Program) → Linked p → (t : ℕ) (before : Thread) (calls : List ScriptCall) (ended : List Ending) (fuel : ℕ) (f : Frame) (fs : List Frame) (q : List Word) (qs : List (List Word)) (code : List Op) → f.run.code ≡ code → length before.frames ≡ suc (length (with_all qs fs)) → CallsFit p calls →
    FramesStood p (f ∷ fs) (q ∷ qs) →
    StepSame fill p t before (if_paid (thread_of calls ended fuel None (f ∷ fs)) (instruction_step p t f fs code)) (if_paid (thread_of calls ended fuel None (frame_with q f ∷ with_all qs fs)) (instruction_step p t (frame_with q f) (with_all qs fs) code))
code_same fill p l t before calls ended zero f fs q qs code ec many fit st = ends_same fill p t before calls ended 0 (f ∷ fs) (frame_with q f ∷ with_all qs fs) Budget fit
code_same fill p l t before calls ended (suc n) f fs q qs [] ec many fit st = ends_same fill p t before calls ended n (f ∷ fs) (frame_with q f ∷ with_all qs fs) (Trapped Unreachable) fit
code_same fill p l t before calls ended (suc n) f fs q qs (o ∷ os) ec many fit st =
    step_of fill p t before calls ended n f fs q qs (effect p f.run o) (effect p (holding q f.run) o) many fit st (effect_same p l.verified f.run q o os ec st.0) (effect_fits p l f.run q o os ec st.0)

-- a frame that is left

pub leaves_same : (fill : Fill) (p : Program) (t : ℕ) (before : Thread) (calls : List ScriptCall) (ended : List Ending) (fuel : ℕ) (due : Option Outcome) (old gone : List Frame) (fs : List Frame) (qs : List (List Word)) (v : Option Word) → length before.frames ≡ suc (length (with_all qs fs)) → CallsFit p calls →
    FramesStood p fs qs → (needs (top_code fs) ≡ true → is_some v ≡ true) →
    ComesSame fill p t before (after_leaving v fs (thread_of calls ended fuel due old)) (after_leaving v (with_all qs fs) (thread_of calls ended fuel due gone))
leaves_same fill p t before calls ended fuel due old gone [] [] v many fit st gives = ([], emptied fill p t before calls ended fuel (Some (Returned v)), (tt, fit))
leaves_same fill p t before calls ended fuel due old gone [] (q ∷ qs) v many fit st gives = absurd st
leaves_same fill p t before calls ended fuel due old gone (f ∷ fs) [] v many fit st gives = absurd st
leaves_same fill p t before calls ended fuel due old gone (f ∷ fs) (q ∷ qs) v many fit st gives = (
  with_register (head_destination f.run.code) v q ∷ qs,
  left fill p t before (thread_of calls ended fuel due (with_run f (activation_behind v (holding q f.run)) ∷ with_all qs fs)) many,
  ((stands_behind p f.run q v gives st.0, st.1, st.2), fit),
)

post_same : (fill : Fill) (p : Program) (t : ℕ) (before : Thread) (calls : List ScriptCall) (ended : List Ending) (fuel : ℕ) (f : Frame) (c : Crossing) (i : ℕ) (v : Option Word) (fs : List Frame) (q : List Word) (qs : List (List Word)) (more : Bool) → length before.frames ≡ suc (length (with_all qs fs)) → CallsFit p calls →
    FramesStood p (f ∷ fs) (q ∷ qs) → (needs (top_code fs) ≡ true → is_some v ≡ true) →
    StepSame fill p t before (post_step more f fs c i v (thread_of calls ended fuel None (f ∷ fs))) (post_step more (frame_with q f) (with_all qs fs) c i v (thread_of calls ended fuel None (frame_with q f ∷ with_all qs fs)))
post_same fill p t before calls ended fuel f c i v fs q qs false many fit st gives = (
  after_leaving v (with_all qs fs) (thread_of calls ended fuel None (frame_with q f ∷ with_all qs fs)),
  refl,
  leaves_same fill p t before calls ended fuel None (f ∷ fs) (frame_with q f ∷ with_all qs fs) fs qs v many fit st.2 gives,
)
post_same fill p t before calls ended zero f c i v fs q qs true many fit st gives = ends_same fill p t before calls ended 0 (f ∷ fs) (frame_with q f ∷ with_all qs fs) Budget fit
post_same fill p t before calls ended (suc n) f c i v fs q qs true many fit st gives = (q ∷ qs, refl, (st, fit), tt)

stage_same : (fill : Fill) (p : Program) → Linked p → (t : ℕ) (before : Thread) (calls : List ScriptCall) (ended : List Ending) (fuel : ℕ) (f : Frame) (c : Crossing) (s : Stage) (fs : List Frame) (q : List Word) (qs : List (List Word)) → length before.frames ≡ suc (length (with_all qs fs)) → CallsFit p calls →
    FramesStood p (f ∷ fs) (q ∷ qs) → (needs (top_code fs) ≡ true → StageGives s) →
    StepSame fill p t before (stage_step p t f fs c s (thread_of calls ended fuel None (f ∷ fs))) (stage_step p t (frame_with q f) (with_all qs fs) c s (thread_of calls ended fuel None (frame_with q f ∷ with_all qs fs)))
stage_same fill p l t before calls ended zero f c (Pre i) fs q qs many fit st gives = ends_same fill p t before calls ended 0 (f ∷ fs) (frame_with q f ∷ with_all qs fs) Budget fit
stage_same fill p l t before calls ended (suc n) f c (Pre i) fs q qs many fit st gives = (q ∷ qs, refl, (st, fit), tt)
stage_same fill p l t before calls ended fuel f c Body fs q qs many fit st gives = code_same fill p l t before calls ended fuel f fs q qs f.run.code refl many fit st
stage_same fill p l t before calls ended fuel f c (Post i v) fs q qs many fit st gives = post_same fill p t before calls ended fuel f c i v fs q qs (has_action p c.function true i) many fit st gives

frame_same : (fill : Fill) (p : Program) → Linked p → (t : ℕ) (before : Thread) (calls : List ScriptCall) (ended : List Ending) (fuel : ℕ) (f : Frame) (x : Option Crossing) (fs : List Frame) (q : List Word) (qs : List (List Word)) → f.crossing ≡ x → length before.frames ≡ suc (length (with_all qs fs)) → CallsFit p calls →
    FramesStood p (f ∷ fs) (q ∷ qs) →
    StepSame fill p t before (frame_step p t f fs x (thread_of calls ended fuel None (f ∷ fs))) (frame_step p t (frame_with q f) (with_all qs fs) x (thread_of calls ended fuel None (frame_with q f ∷ with_all qs fs)))
frame_same fill p l t before calls ended fuel f None fs q qs ex many fit st = code_same fill p l t before calls ended fuel f fs q qs f.run.code refl many fit st
frame_same fill p l t before calls ended fuel f (Some c) fs q qs ex many fit st =
    stage_same fill p l t before calls ended fuel f c c.stage fs q qs many fit st (λ h. subst CrossingGives ex (st.1 h).1)

start_same : (fill : Fill) (p : Program) (t : ℕ) (before : Thread) (all : List ScriptCall) (ended : List Ending) (fuel : ℕ) (cs : List ScriptCall) → CallsFit p all → CallsFit p cs → StepSame fill p t before (start_step cs (thread_of all ended fuel None [])) (start_step cs (thread_of all ended fuel None []))
start_same fill p t before all ended fuel [] fit mine = ends_same fill p t before all ended fuel [] [] Budget fit
start_same fill p t before all ended zero (call ∷ cs) fit mine = ends_same fill p t before all ended 0 [] [] Budget fit
start_same fill p t before all ended (suc n) (call ∷ cs) fit mine = ([], refl, (tt, fit), (mine.0, refl))

undue_same : (fill : Fill) (p : Program) → Linked p → (t : ℕ) (before : Thread) (calls : List ScriptCall) (ended : List Ending) (fuel : ℕ) (fs : List Frame) (qs : List (List Word)) → length before.frames ≡ length (with_all qs fs) → CallsFit p calls → FramesStood p fs qs →
    StepSame fill p t before (undue_step p t fs (thread_of calls ended fuel None fs)) (undue_step p t (with_all qs fs) (thread_of calls ended fuel None (with_all qs fs)))
undue_same fill p l t before calls ended fuel [] [] many fit st = start_same fill p t before calls ended fuel calls fit fit
undue_same fill p l t before calls ended fuel [] (q ∷ qs) many fit st = absurd st
undue_same fill p l t before calls ended fuel (f ∷ fs) [] many fit st = absurd st
undue_same fill p l t before calls ended fuel (f ∷ fs) (q ∷ qs) many fit st = frame_same fill p l t before calls ended fuel f f.crossing fs q qs refl many fit st

due_same : (fill : Fill) (p : Program) → Linked p → (t : ℕ) (before : Thread) (calls : List ScriptCall) (ended : List Ending) (fuel : ℕ) (due : Option Outcome) (fs : List Frame) (qs : List (List Word)) → length before.frames ≡ length (with_all qs fs) → CallsFit p calls → FramesStood p fs qs →
    StepSame fill p t before (step p t (thread_of calls ended fuel due fs)) (step p t (thread_of calls ended fuel due (with_all qs fs)))
due_same fill p l t before calls ended fuel None fs qs many fit st = undue_same fill p l t before calls ended fuel fs qs many fit st
due_same fill p l t before calls ended fuel (Some o) fs qs many fit st = (qs, refl, (st, fit), tt)

pub step_same : (fill : Fill) (p : Program) → Linked p → (t : ℕ) (thread : Thread) (qs : List (List Word)) → ThreadStood p thread qs → StepSame fill p t (thread_with qs thread) (step p t thread) (step p t (thread_with qs thread))
step_same fill p l t thread qs st = due_same fill p l t (thread_with qs thread) thread.calls thread.ended thread.fuel thread.due thread.frames qs refl st.1 st.0
