-- A refusal is the outcome of a call, and stays one.
use Rattle.std.proofs.Common.{◌≡◌, ℕ, zero, suc, ◌+◌, ◌*◌, Bool, true, false, not, ◌&&◌, Option, Some, None, List, [], ◌∷◌, ◌++◌, length, slice_get, refl, sym, ap, subst, ◌∙◌}
use Rattle.std.specs.List.{list_all, flat_map, enumerate_from}
use Rattle.std.proofs.lemmas.Bool.{and_parts}
use Rattle.std.proofs.lemmas.List.Folds.{list_all-append, list_all-map}
use Rattle.std.proofs.lemmas.Option.{same_Some}
use Rattle.lx_words.specs.Word.{Word}
use Rattle.lx_caps.specs.declared.Principal.{Principal}
use Rattle.lx_caps.specs.declared.Principal.TheVariants.{Kernel}
use Rattle.lx_ir.specs.declared.instr.Op.{Op}
use Rattle.lx_model.specs.declared.program.Program.{Program}
use Rattle.lx_model.specs.declared.program.ScriptCall.{ScriptCall}
use Rattle.lx_model.specs.declared.account.CallOutcome.{CallOutcome}
use Rattle.lx_model.specs.declared.request.Outcome.{Outcome}
use Rattle.lx_model.specs.declared.request.Reply.{Reply}
use Rattle.lx_model.specs.declared.request.Reply.TheVariants.{Value, Done, Entered, Ended}
use Rattle.lx_model.specs.declared.request.Request.{Request}
use Rattle.lx_model.specs.declared.request.Way.{Way}
use Rattle.lx_model.specs.declared.request.Way.TheVariants.{Script}
use Rattle.lx_model.specs.declared.request.What.{What}
use Rattle.lx_model.specs.declared.request.What.TheVariants as what
use Rattle.lx_model.specs.Account.{thread_outcomes}
use Rattle.lx_model.specs.Effect.{Effect, Moves, Wants, Enters, Calls, Traps, effect, returned_value}
use Rattle.lx_model.specs.Next.{Asking, Step, Goes, Asks, absorb, after_entry, after_leaving, after_reply, after_ret, after_ret_of, due_or, effect_step, ending, entered_frame, fits_site, frame_step, has_action, has_room, if_paid, if_room, instruction_step, next, next_within, post_action, post_step, pre_action, request, stage_step, start_step, step, undue_step}
use Rattle.lx_model.specs.PlainLaws.{is_refused, is_refusal}
use Rattle.lx_model.specs.Thread.{Crossing, Ending, Frame, Stage, Pre, Body, Post, Thread, has_call, has_work}

-- register steps leave the calls, those that are left and those that have ended

abbrev Has : List ScriptCall → List Ending → Thread → Type 0
Has calls over x = (x.calls ≡ calls) × (x.ended ≡ over)

abbrev StepHas : List ScriptCall → List Ending → Step → Type 0
StepHas calls over (Goes x) = Has calls over x
StepHas calls over (Asks x r) = Has calls over x

roomed : (calls : List ScriptCall) (over : List Ending) (b : Bool) (x : Thread) (s : Step) → Has calls over x → StepHas calls over s → StepHas calls over (if_room b x s)
roomed calls over true x s h k = k
roomed calls over false x s h k = h

effected : (calls : List ScriptCall) (over : List Ending) (p : Program) (t : ℕ) (x : Thread) (f : Frame) (fs : List Frame) (e : Effect) → Has calls over x → StepHas calls over (effect_step p t x f fs e)
effected calls over p t x f fs (Moves a) h = h
effected calls over p t x f fs (Wants w) h = h
effected calls over p t x f fs (Enters w) h = roomed calls over (has_room (f ∷ fs)) x _ h h
effected calls over p t x f fs (Calls n args) h = roomed calls over (has_room (f ∷ fs)) x _ h h
effected calls over p t x f fs (Traps trap) h = h

instructed : (calls : List ScriptCall) (over : List Ending) (p : Program) (t : ℕ) (f : Frame) (fs : List Frame) (os : List Op) (x : Thread) → Has calls over x → StepHas calls over (instruction_step p t f fs os x)
instructed calls over p t f fs [] x h = h
instructed calls over p t f fs (o ∷ os) x h = effected calls over p t x f fs (effect p f.run o) h

-- a step that costs a unit
paid : (calls : List ScriptCall) (over : List Ending) (cs : List ScriptCall) (es : List Ending) (fuel : ℕ) (due : Option Outcome) (frames : List Frame) (go : Thread → Step)
    → (cs ≡ calls) × (es ≡ over) → ((n : ℕ) → StepHas calls over (go (record { calls = cs; ended = es; fuel = n; due = due; frames = frames })))
    → StepHas calls over (if_paid (record { calls = cs; ended = es; fuel = fuel; due = due; frames = frames }) go)
paid calls over cs es zero due frames go h k = h
paid calls over cs es (suc n) due frames go h k = k n

ran : (calls : List ScriptCall) (over : List Ending) (p : Program) (t : ℕ) (f : Frame) (fs : List Frame) (x : Thread) → Has calls over x
    → StepHas calls over (if_paid x (instruction_step p t f fs f.run.code))
ran calls over p t f fs x h =
    paid calls over x.calls x.ended x.fuel x.due x.frames (instruction_step p t f fs f.run.code) h (λ n. instructed calls over p t f fs f.run.code _ h)

-- a request that is paid for
asked : (calls : List ScriptCall) (over : List Ending) (r : Request) (x : Thread) → Has calls over x → StepHas calls over (if_paid x (λ poorer. Asks poorer r))
asked calls over r x h = paid calls over x.calls x.ended x.fuel x.due x.frames (λ poorer. Asks poorer r) h (λ n. h)

left : (calls : List ScriptCall) (over : List Ending) (v : Option Word) (fs : List Frame) (x : Thread) → Has calls over x → Has calls over (after_leaving v fs x)
left calls over v [] x h = h
left calls over v (f ∷ fs) x h = h

posted : (calls : List ScriptCall) (over : List Ending) (b : Bool) (f : Frame) (fs : List Frame) (c : Crossing) (k : ℕ) (v : Option Word) (x : Thread) → Has calls over x
    → StepHas calls over (post_step b f fs c k v x)
posted calls over true f fs c k v x h = asked calls over (post_action f c k v) x h
posted calls over false f fs c k v x h = left calls over v fs x h

staged : (calls : List ScriptCall) (over : List Ending) (p : Program) (t : ℕ) (f : Frame) (fs : List Frame) (c : Crossing) (s : Stage) (x : Thread) → Has calls over x
    → StepHas calls over (stage_step p t f fs c s x)
staged calls over p t f fs c (Pre k) x h = asked calls over (pre_action f c k) x h
staged calls over p t f fs c Body x h = ran calls over p t f fs x h
staged calls over p t f fs c (Post k v) x h = posted calls over (has_action p c.function true k) f fs c k v x h

framed : (calls : List ScriptCall) (over : List Ending) (p : Program) (t : ℕ) (f : Frame) (fs : List Frame) (c : Option Crossing) (x : Thread) → Has calls over x
    → StepHas calls over (frame_step p t f fs c x)
framed calls over p t f fs None x h = ran calls over p t f fs x h
framed calls over p t f fs (Some c) x h = staged calls over p t f fs c c.stage x h

started : (calls : List ScriptCall) (over : List Ending) (cs : List ScriptCall) (x : Thread) → Has calls over x → StepHas calls over (start_step cs x)
started calls over [] x h = h
started calls over (c ∷ cs) x h = asked calls over (request Kernel (what.Enter (Script c.function) c.args)) x h

undue_has : (calls : List ScriptCall) (over : List Ending) (p : Program) (t : ℕ) (frames : List Frame) (x : Thread) → Has calls over x → StepHas calls over (undue_step p t frames x)
undue_has calls over p t [] x h = started calls over x.calls x h
undue_has calls over p t (f ∷ fs) x h = framed calls over p t f fs f.crossing x h

due_has : (calls : List ScriptCall) (over : List Ending) (due : Option Outcome) (x : Thread) (s : Step) → Has calls over x → StepHas calls over s → StepHas calls over (due_or due x s)
due_has calls over None x s h k = k
due_has calls over (Some o) x s h k = h

step_has : (calls : List ScriptCall) (over : List Ending) (p : Program) (t : ℕ) (x : Thread) → Has calls over x → StepHas calls over (step p t x)
step_has calls over p t x h = due_has calls over x.due x (undue_step p t x.frames x) h (undue_has calls over p t x.frames x h)

abbrev AskingHas : List ScriptCall → List Ending → Asking → Type 0
AskingHas calls over a = Has calls over a.thread

goes_on : (calls : List ScriptCall) (over : List Ending) (n : ℕ) (p : Program) (t : ℕ) (s : Step) → StepHas calls over s → ((more : Thread) → Has calls over more → AskingHas calls over (next_within n p t more))
    → AskingHas calls over (elim s [ Goes more ↦ next_within n p t more | Asks more r ↦ record { thread = more; request = r } ])
goes_on calls over n p t (Goes more) h k = k more h
goes_on calls over n p t (Asks more r) h k = h

within_has : (calls : List ScriptCall) (over : List Ending) (n : ℕ) (p : Program) (t : ℕ) (x : Thread) → Has calls over x → AskingHas calls over (next_within n p t x)
within_has calls over zero p t x h = h
within_has calls over (suc n) p t x h =
    goes_on calls over n p t (step p t x) (step_has calls over p t x h) (λ more k. within_has calls over n p t more k)

next_has : (p : Program) (t : ℕ) (x : Thread) → AskingHas x.calls x.ended (next p t x)
next_has p t x = within_has x.calls x.ended (2 * x.fuel + length x.frames + 1) p t x (refl, refl)

-- a reply that ends no call leaves those that have ended

entry_keeps : (b : Bool) (way : Way) (f : Frame) (x : Thread) → (after_entry b way f x).ended ≡ x.ended
entry_keeps true way f x = refl
entry_keeps false way f x = refl

leaving_keeps : (v : Option Word) (fs : List Frame) (x : Thread) → (after_leaving v fs x).ended ≡ x.ended
leaving_keeps v [] x = refl
leaving_keeps v (f ∷ fs) x = refl

ret_of_keeps : (c : Option Crossing) (f : Frame) (fs : List Frame) (v : Option Word) (x : Thread) → (after_ret_of c f fs v x).ended ≡ x.ended
ret_of_keeps None f fs v x = leaving_keeps v fs x
ret_of_keeps (Some c) f fs v x = refl

ret_keeps : (p : Program) (fs : List Frame) (x : Thread) → (after_ret p fs x).ended ≡ x.ended
ret_keeps p [] x = refl
ret_keeps p (f ∷ fs) x = ret_of_keeps f.crossing f fs (returned_value p f.run) x

value_keeps : (p : Program) (t : ℕ) (x : Thread) (who : Principal) (w : What) (v : Word) → (after_reply p t x who w (Value v)).ended ≡ x.ended
value_keeps p t x who (what.Load at width) v = refl
value_keeps p t x who (what.Store at w) v = refl
value_keeps p t x who (what.Copy to from len) v = refl
value_keeps p t x who (what.Fill to byte len) v = refl
value_keeps p t x who (what.Alloca at size) v = refl
value_keeps p t x who (what.Enter way args) v = refl
value_keeps p t x who (what.Perform n post k env source dest) v = refl
value_keeps p t x who (what.Return low high) v = ret_keeps p x.frames x
value_keeps p t x who (what.Native k args) v = refl
value_keeps p t x who (what.Finish o) v = refl

done_keeps : (p : Program) (t : ℕ) (x : Thread) (who : Principal) (w : What) → (after_reply p t x who w Done).ended ≡ x.ended
done_keeps p t x who (what.Load at width) = refl
done_keeps p t x who (what.Store at w) = refl
done_keeps p t x who (what.Copy to from len) = refl
done_keeps p t x who (what.Fill to byte len) = refl
done_keeps p t x who (what.Alloca at size) = refl
done_keeps p t x who (what.Enter way args) = refl
done_keeps p t x who (what.Perform n post k env source dest) = refl
done_keeps p t x who (what.Return low high) = ret_keeps p x.frames x
done_keeps p t x who (what.Native k args) = refl
done_keeps p t x who (what.Finish o) = refl

entered_keeps : (p : Program) (t : ℕ) (x : Thread) (who : Principal) (w : What) (n : ℕ) (q : Principal) (crosses : Bool) → (after_reply p t x who w (Entered n q crosses)).ended ≡ x.ended
entered_keeps p t x who (what.Load at width) n q crosses = refl
entered_keeps p t x who (what.Store at w) n q crosses = refl
entered_keeps p t x who (what.Copy to from len) n q crosses = refl
entered_keeps p t x who (what.Fill to byte len) n q crosses = refl
entered_keeps p t x who (what.Alloca at size) n q crosses = refl
entered_keeps p t x who (what.Enter way args) n q crosses = entry_keeps (fits_site p way x.frames n) way (entered_frame p t who args x.frames n q crosses) x
entered_keeps p t x who (what.Perform m post k env source dest) n q crosses = refl
entered_keeps p t x who (what.Return low high) n q crosses = ret_keeps p x.frames x
entered_keeps p t x who (what.Native k args) n q crosses = refl
entered_keeps p t x who (what.Finish o) n q crosses = refl

-- none of the calls that have ended was refused

abbrev AreCalm : List Ending → Type 0
AreCalm over = list_all (λ e. not (is_refused e.outcome)) over ≡ true

abbrev pub IsCalm : Thread → Type 0
IsCalm x = AreCalm x.ended

not_refused : (b : Bool) → (not b && true) ≡ true → b ≡ false
not_refused true h = absurd (cc)
not_refused false h = refl

ended_calm : (over : List Ending) (calls : List ScriptCall) (o : Outcome) → has_call calls ≡ true → AreCalm (over ++ ending o calls) → AreCalm over × (is_refused o ≡ false)
ended_calm over [] o work calm = absurd (cc)
ended_calm over (c ∷ cs) o work calm =
    let both = and_parts (list_all (λ (e : Ending). not (is_refused e.outcome)) over) (list_all (λ (e : Ending). not (is_refused e.outcome)) (ending o (c ∷ cs)))
    (sym (list_all-append (λ (e : Ending). not (is_refused e.outcome)) over (ending o (c ∷ cs))) ∙ calm) in
    (both.0, not_refused (is_refused o) both.1)

absorbed_calm : (p : Program) (t : ℕ) (x : Thread) (r : Request) (reply : Reply) → has_call x.calls ≡ true → IsCalm (absorb p t x r reply) → IsCalm x × (is_refusal reply ≡ false)
absorbed_calm p t x r (Value v) work calm = (subst AreCalm (value_keeps p t x r.who r.what v) calm, refl)
absorbed_calm p t x r Done work calm = (subst AreCalm (done_keeps p t x r.who r.what) calm, refl)
absorbed_calm p t x r (Entered n q crosses) work calm = (subst AreCalm (entered_keeps p t x r.who r.what n q crosses) calm, refl)
absorbed_calm p t x r (Ended o) work calm = ended_calm x.ended x.calls o work calm

-- where none was refused behind a reply, none was before, and the reply is no refusal
pub turn_calm : (p : Program) (t : ℕ) (x : Thread) (reply : Reply) → has_work x ≡ true → IsCalm (absorb p t (next p t x).thread (next p t x).request reply)
    → IsCalm x × (is_refusal reply ≡ false)
turn_calm p t x reply work calm =
    let same = next_has p t x in
    let before = absorbed_calm p t (next p t x).thread (next p t x).request reply (ap has_call same.0 ∙ work) calm in
    (subst AreCalm same.1 before.0, before.1)

-- the outcomes of an account are those of its threads

abbrev is_calm_call : CallOutcome → Bool
is_calm_call c = not (is_refused c.outcome)

first_calm : (k : ℕ) (x : Thread) → list_all is_calm_call (thread_outcomes (k, x)) ≡ true → IsCalm x
first_calm k x all = sym (list_all-map is_calm_call (λ (e : Ending). record { thread = k; function = e.function; outcome = e.outcome }) x.ended) ∙ all

pub threads_calm : (k : ℕ) (xs : List Thread) → list_all is_calm_call (flat_map thread_outcomes (enumerate_from k xs)) ≡ true
    → (t : ℕ) (x : Thread) → slice_get xs t ≡ Some x → IsCalm x
threads_calm k [] all t x at = absurd (cc)
threads_calm k (y ∷ ys) all zero x at =
    subst IsCalm (same_Some y x at)
    (first_calm k y (and_parts _ _ (sym (list_all-append is_calm_call (thread_outcomes (k, y)) (flat_map thread_outcomes (enumerate_from (k + 1) ys))) ∙ all)).0)
threads_calm k (y ∷ ys) all (suc t) x at =
    threads_calm (k + 1) ys (and_parts _ _ (sym (list_all-append is_calm_call (thread_outcomes (k, y)) (flat_map thread_outcomes (enumerate_from (k + 1) ys))) ∙ all)).1 t x at
