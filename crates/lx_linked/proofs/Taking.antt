-- A thread that takes in a reply fits behind it.
use Rattle.std.proofs.Common.{◌≡◌, ℕ, suc, ◌+◌, ◌<◌, ◌≤◌, Bool, true, false, List, [], ◌∷◌, Option, Some, None, refl, sym, subst, ◌∙◌, ap, arith, ltb-true}
use Rattle.std.specs.Prelude.{option_map, option_and_then, unwrap_or, slice_get, cond, length}
use Rattle.std.proofs.lemmas.List.Elements.{All-tail}
use Rattle.lx_words.specs.declared.word.Width.{Width}
use Rattle.lx_words.specs.declared.word.Width.TheVariants.{W64}
use Rattle.lx_words.specs.Word.{Word, word}
use Rattle.lx_words.proofs.Tests.{true_false, second_of}
use Rattle.lx_words.proofs.Options.{none_some, some_same}
use Rattle.lx_caps.specs.declared.Principal.{Principal}
use Rattle.lx_caps.specs.Regions.{stack_start, stack_end}
use Rattle.lx_annot.specs.declared.interface.Slot.{Slot as SlotType}
use Rattle.lx_ir.specs.declared.types.Scalar.TheVariants.{Ptr}
use Rattle.lx_ir.specs.declared.module.Function.{Function}
use Rattle.lx_ir.specs.declared.instr.Op.{Op}
use Rattle.lx_ir.specs.declared.instr.Op.TheVariants as op
use Rattle.lx_model.specs.declared.program.Program.{Program}
use Rattle.lx_model.specs.declared.program.ScriptCall.{ScriptCall}
use Rattle.lx_model.specs.declared.request.Outcome.{Outcome}
use Rattle.lx_model.specs.declared.request.Reply.{Reply}
use Rattle.lx_model.specs.declared.request.Reply.TheVariants.{Value, Done, Entered, Ended}
use Rattle.lx_model.specs.declared.request.Way.{Way}
use Rattle.lx_model.specs.declared.request.Way.TheVariants.{Script, Direct, Indirect, Slot}
use Rattle.lx_model.specs.declared.request.What.{What}
use Rattle.lx_model.specs.declared.request.What.TheVariants as what
use Rattle.lx_model.specs.Program.{native_call, module_of, function_of, param_widths, declared_width, are_declared, has_slot_signature, result_width, same_result}
use Rattle.lx_model.specs.Thread.{Activation, Stage, Pre, Body, Post, Crossing, Frame, Ending, Thread, activation, activation_behind, top_of_stack}
use Rattle.lx_model.specs.Effect.{call_result, returned_value, text_of}
use Rattle.lx_model.specs.Next.{absorb, actions_of, after_action, after_entry, after_ret, after_ret_of, crossing_if, crossing_on, entered_frame, first_stage, fits_site, has_action, next, next_stage, other_calls, request, thread_behind, with_alloca}
use Rattle.lx_model.specs.Fits.{FitsFunction, FitsPrincipal, FitsStack}
use Rattle.lx_link_texts.specs.Signatures.{native_result}
use Rattle.lx_link_texts.specs.WellFormed.{FitsCall, IsWellFormed}
use Rattle.lx_simulation.proofs.Absorbing.{thread_of}
use Rattle.lx_linked.specs.Threads.{CrossingFits, Expects, FrameFits, FramesFit, Runs, RunsAt, StageFits, ThreadFits, Waits}
use Rattle.lx_linked.specs.Threads.{result_of as width_of_result}
use Rattle.lx_linked.specs.Replies.{EnteredWell, LeadsTo, ReplyFits}
use Rattle.lx_linked.proofs.Widths.{result_is}
use Rattle.lx_linked.proofs.FittingFrames.{stands, past_runs}
use Rattle.lx_linked.proofs.Callees.{known_at}
use Rattle.lx_linked.proofs.FittingEffects.{Asked, EnteredFrom, OnTop, Takes, TakesBytes, gives_word, same_given, taken_runs, width_if}
use Rattle.lx_linked.proofs.Steps.{AllCalls, frame_runs, leaves, next_fits, started}

-- values

behind : (p : Program) → IsWellFormed p → (t : ℕ) (calls : List ScriptCall) (ended : List Ending) (fuel : ℕ) (due : Option Outcome) (fs : List Frame) (ok : Option Word → Type 0) (v : Option Word) → t < 16 → AllCalls p calls → FramesFit p t fs → OnTop (λ f. Takes p f.run ok) fs → ok v →
    ThreadFits p t (thread_behind v (thread_of calls ended fuel due fs))
behind p wf t calls ended fuel due [] ok v few fit h asked e = record { few = few; calls = fit; frames = tt }
behind p wf t calls ended fuel due (f ∷ fs) ok v few fit h asked e =
    record { few = few; calls = fit; frames = (frame_runs p t f fs (activation_behind v f.run) refl h.0.stack (taken_runs p wf f.run ok v asked e) h.0, h.1) }

-- bytes of the stack

with_bytes : (g : Function) (a : Activation) (at size : ℕ) → RunsAt g a → RunsAt g (with_alloca at size a)
with_bytes g a at size st =
    record {
      block = st.block;
      place = st.place;
      walk = st.walk;
      comes = st.comes;
      blocks = st.blocks;
      label = st.label;
      code = st.code;
      many = st.many;
      widths = st.widths;
    }

bytes_runs : (p : Program) → IsWellFormed p → (a : Activation) (at size : ℕ) → TakesBytes p at a → Runs p (activation_behind (Some (word W64 at)) (with_alloca at size a))
bytes_runs p wf a at size x =
    let r = x.3 in
    let o : Op = op.Alloca x.0 x.1 in
    let kn = known_at p wf a.function r.0 r.1 in
    let st : RunsAt r.0 (with_alloca at size a) = with_bytes r.0 a at size r.2 in
    (r.0, r.1, past_runs (module_of p (text_of p a)) r.0 kn (with_alloca at size a) st o x.2 (Some (word W64 at)) (stands (module_of p (text_of p a)) r.0 kn (with_alloca at size a) st o x.2 x.4) x.4 (gives_word o (word W64 at) Ptr refl refl))

more_stack : (t low high at size : ℕ) → FitsStack t low high → high ≤ at → at + size ≤ stack_end t → FitsStack t low (at + size)
more_stack t low high at size s above end = (s.0, further low high at size s.1 above, end) where
  further : (a b c d : ℕ) → a ≤ b → b ≤ c → a ≤ c + d
  further a b c d h k = omega (arith, h, k)

allocated : (p : Program) → IsWellFormed p → (t : ℕ) (calls : List ScriptCall) (ended : List Ending) (fuel : ℕ) (due : Option Outcome) (fs : List Frame) (who : Principal) (at size : ℕ) → t < 16 → AllCalls p calls → FramesFit p t fs → OnTop (λ f. TakesBytes p at f.run) fs →
    at + size ≤ stack_end t → ThreadFits p t (absorb p t (thread_of calls ended fuel due fs) (request who (what.Alloca at size)) Done)
allocated p wf t calls ended fuel due [] who at size few fit h asked e = record { few = few; calls = fit; frames = tt }
allocated p wf t calls ended fuel due (f ∷ fs) who at size few fit h asked e = record {
  few = few;
  calls = fit;
  frames = (
    frame_runs p t f fs (activation_behind (Some (word W64 at)) (with_alloca at size f.run)) refl (more_stack t f.run.low f.run.high at size h.0.stack asked.5 e) (bytes_runs p wf f.run at size asked) h.0,
    h.1,
  );
}

-- entries

slot_result : (t : SlotType) (o : Option SlotType) (f : Option Function) → o ≡ Some t → unwrap_or (option_and_then (λ (s : SlotType). option_map (has_slot_signature s) f) o) false ≡ true → declared_width t.ret ≡ option_and_then result_width f
slot_result t None f eo e = none_some eo
slot_result t (Some s) None eo e = true_false (sym e)
slot_result t (Some s) (Some f) eo e =
    ap (λ (x : SlotType). declared_width x.ret) (sym (some_same eo)) ∙ result_is (declared_width s.ret) (result_width f) (second_of (are_declared s.params (param_widths f)) (same_result (declared_width s.ret) (result_width f)) e)

waits : (p : Program) (way : Way) (fs : List Frame) (n : ℕ) → EnteredFrom p way fs → LeadsTo p way n → fits_site p way fs n ≡ true → Waits p n fs
waits p way [] n from leads fits = tt
waits p (Script m) (f ∷ fs) n from leads fits = absurd from.1
waits p (Direct m) (f ∷ fs) n from leads fits = (from.0, subst (λ (k : ℕ). Expects (width_of_result p k) f.run.code) (sym leads) from.1)
waits p (Indirect a) (f ∷ fs) n from leads fits =
    let x = from.1 in
    (from.0, (x.0, x.1, x.2, x.3, x.4, x.5, sym (ap call_result x.5) ∙ result_is (call_result f.run.code) (width_of_result p n) fits))
waits p (Slot at ty) (f ∷ fs) n from leads fits =
    let t = from.1 in
    (from.0, subst (λ (w : Option Width). Expects w f.run.code) (slot_result t.0 (slice_get p.interface.slots ty) (function_of p n) t.1 leads) t.2)

top_stack : (p : Program) (t : ℕ) (fs : List Frame) → FramesFit p t fs → FitsStack t (top_of_stack t fs) (top_of_stack t fs)
top_stack p t [] h = (same (stack_start t), same (stack_start t), whole t) where
  same : (a : ℕ) → a ≤ a
  same a = omega arith

  whole : (k : ℕ) → stack_start k ≤ stack_end k
  whole k = omega arith
top_stack p t (f ∷ fs) h = (above _ _ _ h.0.stack.0 h.0.stack.1, same f.run.high, h.0.stack.2) where
  same : (a : ℕ) → a ≤ a
  same a = omega arith

  above : (a b c : ℕ) → a ≤ b → b ≤ c → a ≤ c
  above a b c h k = omega (arith, h, k)

first_fits : (p : Program) (a : Activation) (n : ℕ) (b : Bool) → has_action p n false 0 ≡ b → Runs p a → StageFits p a n (first_stage b)
first_fits p a n true e r = (ltb-true 0 (length (actions_of p n false)) e, r)
first_fits p a n false e r = r

crossing_made : (p : Program) (a : Activation) (n : ℕ) (who : Principal) (args : List Word) (b : Bool) → a.function ≡ n → FitsPrincipal p who → FitsFunction p n args → Runs p a →
    CrossingFits p a (crossing_if b (record { function = n; source = who; args = args; stage = first_stage (has_action p n false 0) }))
crossing_made p a n who args true e source fits r = (sym e, source, fits, first_fits p a n (has_action p n false 0) refl r)
crossing_made p a n who args false e source fits r = r

entered : (p : Program) (t : ℕ) (calls : List ScriptCall) (ended : List Ending) (fuel : ℕ) (due : Option Outcome) (fs : List Frame) (who : Principal) (way : Way) (args : List Word) (n : ℕ) (q : Principal) (crosses fits : Bool) → fits_site p way fs n ≡ fits → t < 16 → AllCalls p calls →
    FramesFit p t fs → FitsPrincipal p who → EnteredFrom p way fs → EnteredWell p way args n q → ThreadFits p t (after_entry fits way (entered_frame p t who args fs n q crosses) (thread_of calls ended fuel due fs))
entered p t calls ended fuel due fs who way args n q crosses false ef few fit h source from well = record { few = few; calls = fit; frames = tt }
entered p t calls ended fuel due fs who way args n q crosses true ef few fit h source from well =
    let r = started p n args (top_of_stack t fs) well.0 in record {
      few = few;
      calls = fit;
      frames = (
        record {
          text = well.1;
          stack = top_stack p t fs h;
          crossing = crossing_made p (activation p n args (top_of_stack t fs)) n who args crosses refl source well.0 r;
          below = waits p way fs n from well.2 ef;
        },
        h,
      );
    }

-- actions

further_stage : (p : Program) (a : Activation) (n k : ℕ) (b : Bool) → has_action p n false k ≡ b → Runs p a → StageFits p a n (cond b (Pre k) Body)
further_stage p a n k true e r = (ltb-true k (length (actions_of p n false)) e, r)
further_stage p a n k false e r = r

next_stage_fits : (p : Program) (a : Activation) (n : ℕ) (s : Stage) → StageFits p a n s → StageFits p a n (next_stage p n s)
next_stage_fits p a n (Pre k) h = further_stage p a n (suc k) (has_action p n false (suc k)) refl h.1
next_stage_fits p a n Body h = h
next_stage_fits p a n (Post k v) h = h

crossing_on_fits : (p : Program) (a : Activation) (x : Option Crossing) → CrossingFits p a x → CrossingFits p a (crossing_on p x)
crossing_on_fits p a None h = h
crossing_on_fits p a (Some c) h = (h.0, h.1, h.2, next_stage_fits p a c.function c.stage h.3)

acted : (p : Program) (t : ℕ) (calls : List ScriptCall) (ended : List Ending) (fuel : ℕ) (due : Option Outcome) (fs : List Frame) → t < 16 → AllCalls p calls → FramesFit p t fs → ThreadFits p t (after_action p (thread_of calls ended fuel due fs))
acted p t calls ended fuel due [] few fit h = record { few = few; calls = fit; frames = tt }
acted p t calls ended fuel due (f ∷ fs) few fit h = record {
  few = few;
  calls = fit;
  frames = (record { text = h.0.text; stack = h.0.stack; crossing = crossing_on_fits p f.run f.crossing h.0.crossing; below = h.0.below }, h.1);
}

-- returns

ret_of : (p : Program) → IsWellFormed p → (t : ℕ) (calls : List ScriptCall) (ended : List Ending) (fuel : ℕ) (due : Option Outcome) (old : List Frame) (f : Frame) (x : Option Crossing) (fs : List Frame) (v : Option Word) → t < 16 → AllCalls p calls → FrameFits p t f fs → FramesFit p t fs →
    CrossingFits p f.run x → width_if v ≡ width_of_result p f.run.function → ThreadFits p t (after_ret_of x f fs v (thread_of calls ended fuel due old))
ret_of p wf t calls ended fuel due old f None fs v few fit top below h e = leaves p wf t calls ended fuel due old fs f.run.function v few fit top.below below e
ret_of p wf t calls ended fuel due old f (Some c) fs v few fit top below h e = record {
  few = few;
  calls = fit;
  frames = (
    record {
      text = top.text;
      stack = top.stack;
      crossing = (h.0, h.1, h.2, same_given (width_if v) (width_of_result p c.function) (e ∙ ap (width_of_result p) (sym h.0)));
      below = top.below;
    },
    below,
  );
}

returned : (p : Program) → IsWellFormed p → (t : ℕ) (calls : List ScriptCall) (ended : List Ending) (fuel : ℕ) (due : Option Outcome) (fs : List Frame) → t < 16 → AllCalls p calls → FramesFit p t fs →
    OnTop (λ f. width_if (returned_value p f.run) ≡ width_of_result p f.run.function) fs → ThreadFits p t (after_ret p fs (thread_of calls ended fuel due fs))
returned p wf t calls ended fuel due [] few fit h asked = record { few = few; calls = fit; frames = h }
returned p wf t calls ended fuel due (f ∷ fs) few fit h asked = ret_of p wf t calls ended fuel due (f ∷ fs) f f.crossing fs (returned_value p f.run) few fit h.0 h.1 h.0.crossing asked

-- each reply

ended_calls : (p : Program) (calls : List ScriptCall) → AllCalls p calls → AllCalls p (other_calls calls)
ended_calls p [] fit = fit
ended_calls p (c ∷ cs) fit = All-tail (FitsCall p) c cs fit

taken : (p : Program) → IsWellFormed p → (t : ℕ) (calls : List ScriptCall) (ended : List Ending) (fuel : ℕ) (due : Option Outcome) (fs : List Frame) (who : Principal) (w : What) (reply : Reply) → t < 16 → AllCalls p calls → FramesFit p t fs → FitsPrincipal p who → Asked p fs w → ReplyFits p t w reply →
    ThreadFits p t (absorb p t (thread_of calls ended fuel due fs) (request who w) reply)
taken p wf t calls ended fuel due fs who w (Ended o) few fit h source asked r = record { few = few; calls = ended_calls p calls fit; frames = tt }
taken p wf t calls ended fuel due fs who (what.Load at width) (Value v) few fit h source asked r = behind p wf t calls ended fuel due fs (λ x. width_if x ≡ Some width) (Some v) few fit h asked (ap (λ (k : Width). Some k) r)
taken p wf t calls ended fuel due fs who (what.Native k args) (Value v) few fit h source asked r = behind p wf t calls ended fuel due fs (λ x. native_result (native_call k) ≡ width_if x) (Some v) few fit h asked r
taken p wf t calls ended fuel due fs who (what.Native k args) Done few fit h source asked r = behind p wf t calls ended fuel due fs (λ x. native_result (native_call k) ≡ width_if x) None few fit h asked r
taken p wf t calls ended fuel due fs who (what.Enter way args) (Entered n q crosses) few fit h source asked r = entered p t calls ended fuel due fs who way args n q crosses (fits_site p way fs n) refl few fit h source asked r
taken p wf t calls ended fuel due fs who (what.Store at v) Done few fit h source asked r = behind p wf t calls ended fuel due fs (λ x. Unit {0}) None few fit h asked tt
taken p wf t calls ended fuel due fs who (what.Copy to from len) Done few fit h source asked r = behind p wf t calls ended fuel due fs (λ x. Unit {0}) None few fit h asked tt
taken p wf t calls ended fuel due fs who (what.Fill to byte len) Done few fit h source asked r = behind p wf t calls ended fuel due fs (λ x. Unit {0}) None few fit h asked tt
taken p wf t calls ended fuel due fs who (what.Alloca at size) Done few fit h source asked r = allocated p wf t calls ended fuel due fs who at size few fit h asked r
taken p wf t calls ended fuel due fs who (what.Perform n post k env from dest) Done few fit h source asked r = acted p t calls ended fuel due fs few fit h
taken p wf t calls ended fuel due fs who (what.Return low high) Done few fit h source asked r = returned p wf t calls ended fuel due fs few fit h asked
taken p wf t calls ended fuel due fs who (what.Load at width) Done few fit h source asked r = absurd r
taken p wf t calls ended fuel due fs who (what.Load at width) (Entered n q crosses) few fit h source asked r = absurd r
taken p wf t calls ended fuel due fs who (what.Native k args) (Entered n q crosses) few fit h source asked r = absurd r
taken p wf t calls ended fuel due fs who (what.Enter way args) (Value v) few fit h source asked r = absurd r
taken p wf t calls ended fuel due fs who (what.Enter way args) Done few fit h source asked r = absurd r
taken p wf t calls ended fuel due fs who (what.Store at x) (Value v) few fit h source asked r = absurd r
taken p wf t calls ended fuel due fs who (what.Store at x) (Entered n q crosses) few fit h source asked r = absurd r
taken p wf t calls ended fuel due fs who (what.Copy to from len) (Value v) few fit h source asked r = absurd r
taken p wf t calls ended fuel due fs who (what.Copy to from len) (Entered n q crosses) few fit h source asked r = absurd r
taken p wf t calls ended fuel due fs who (what.Fill to byte len) (Value v) few fit h source asked r = absurd r
taken p wf t calls ended fuel due fs who (what.Fill to byte len) (Entered n q crosses) few fit h source asked r = absurd r
taken p wf t calls ended fuel due fs who (what.Alloca at size) (Value v) few fit h source asked r = absurd r
taken p wf t calls ended fuel due fs who (what.Alloca at size) (Entered n q crosses) few fit h source asked r = absurd r
taken p wf t calls ended fuel due fs who (what.Perform n post k env from dest) (Value v) few fit h source asked r = absurd r
taken p wf t calls ended fuel due fs who (what.Perform n post k env from dest) (Entered m q crosses) few fit h source asked r = absurd r
taken p wf t calls ended fuel due fs who (what.Return low high) (Value v) few fit h source asked r = absurd r
taken p wf t calls ended fuel due fs who (what.Return low high) (Entered n q crosses) few fit h source asked r = absurd r
taken p wf t calls ended fuel due fs who (what.Finish o) (Value v) few fit h source asked r = absurd r
taken p wf t calls ended fuel due fs who (what.Finish o) Done few fit h source asked r = absurd r
taken p wf t calls ended fuel due fs who (what.Finish o) (Entered n q crosses) few fit h source asked r = absurd r

-- a thread that fits fits behind each reply that may be given to it
pub kept : (p : Program) (t : ℕ) (thread : Thread) (reply : Reply) → IsWellFormed p → ThreadFits p t thread → ReplyFits p t (next p t thread).request.what reply → ThreadFits p t (absorb p t (next p t thread).thread (next p t thread).request reply)
kept p t thread reply wf h r =
    let a = next_fits p wf t thread h in
    let x = (next p t thread).thread in
    let q = (next p t thread).request in
    taken p wf t x.calls x.ended x.fuel x.due x.frames q.who q.what reply h.few a.0.calls a.0.frames a.1.1 a.2 r
