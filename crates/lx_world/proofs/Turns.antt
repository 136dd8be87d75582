-- What a thread of images asks is served, and what it is served answers it.
use Rattle.std.proofs.Common.{◌≡◌, ℕ, ◌+◌, ◌*◌, ◌<◌, ◌≤◌, true, false, Option, Some, None, List, length, IsTrue, refl, sym, ap, subst, ◌∙◌, arith}
use Rattle.std.specs.Prelude.{nat_le}
use Rattle.std.proofs.lemmas.Bool.Decides.{nat_tests}
use Rattle.std.proofs.lemmas.Option.{same_Some}
use Rattle.lx_words.specs.Word.{Word}
use Rattle.lx_caps.specs.Regions.{stack_end}
use Rattle.lx_caps.specs.History.{History}
use Rattle.lx_caps.specs.declared.Principal.{Principal}
use Rattle.lx_model.specs.declared.program.Program.{Program}
use Rattle.lx_model.specs.declared.program.ScriptCall.{ScriptCall}
use Rattle.lx_model.specs.declared.request.Outcome.{Outcome}
use Rattle.lx_model.specs.declared.request.Outcome.TheVariants.{Trapped}
use Rattle.lx_model.specs.declared.request.Reply.{Reply}
use Rattle.lx_model.specs.declared.request.Reply.TheVariants.{Value, Done, Entered, Ended}
use Rattle.lx_model.specs.declared.request.Request.{Request}
use Rattle.lx_model.specs.declared.request.Trap.TheVariants.{StackFull}
use Rattle.lx_model.specs.declared.request.Way.{Way}
use Rattle.lx_model.specs.declared.request.What.{What}
use Rattle.lx_model.specs.declared.request.What.TheVariants as what
use Rattle.lx_model.specs.State.{State}
use Rattle.lx_model.specs.Thread.{has_call}
use Rattle.lx_images.specs.Image.{Code, ImageThread, image_next, image_absorb}
use Rattle.lx_model.specs.Decide.{decide, decide_what}
use Rattle.lx_model.specs.Serve.{grant_what, serve, serve_by}
use Rattle.lx_world.specs.ImageRequestLaws.{ImageRequestLaws}
use Rattle.lx_world.specs.OnImageStack.{AreOnImageStack}
use Rattle.lx_run_laws.specs.Servable.{is_servable}
use Rattle.lx_interp.specs.declared.runner.Runner.{Runner}
use Rattle.lx_interp.specs.Runner.{may_answer, is_spent, IsAsking, IsAt, calls_left}
use Rattle.lx_interp.specs.Runner.{StandsFor as Runs}
use Rattle.lx_serve.specs.declared.shared.SharedPart.{SharedPart}
use Rattle.lx_serve.specs.Room.{taken_by}
use Rattle.lx_serve.specs.Served.{is_ended}
use Rattle.lx_serve.specs.Stands.{IsUndecided, StandsForState, Serves, program_of}
use Rattle.lx_world.specs.Answers.{ImageAnswerLaws}
use Rattle.lx_world.specs.Worlds.{HasTurned, StandsFor}
use Rattle.lx_world.proofs.Calls.{room_of_ends}
use Rattle.lx_model.proofs.Passing.{passed}

never : false ≡ true → ⊥
never e = cc

-- the end of a call answers the request to end it
pub spent_by : (w : What) (r : Reply) → ((o : Outcome) → w ≡ what.Finish o → is_ended r ≡ true) → is_spent w r ≡ true
spent_by w (Ended o) h = refl
spent_by (what.Load at width) (Value v) h = refl
spent_by (what.Store at x) (Value v) h = refl
spent_by (what.Copy to from len) (Value v) h = refl
spent_by (what.Fill to byte len) (Value v) h = refl
spent_by (what.Alloca at size) (Value v) h = refl
spent_by (what.Enter way args) (Value v) h = refl
spent_by (what.Perform n post k env source dest) (Value v) h = refl
spent_by (what.Return low high) (Value v) h = refl
spent_by (what.Native k args) (Value v) h = refl
spent_by (what.Finish o) (Value v) h = absurd (never (h o refl))
spent_by (what.Load at width) Done h = refl
spent_by (what.Store at v) Done h = refl
spent_by (what.Copy to from len) Done h = refl
spent_by (what.Fill to byte len) Done h = refl
spent_by (what.Alloca at size) Done h = refl
spent_by (what.Enter way args) Done h = refl
spent_by (what.Perform n post k env source dest) Done h = refl
spent_by (what.Return low high) Done h = refl
spent_by (what.Native k args) Done h = refl
spent_by (what.Finish o) Done h = absurd (never (h o refl))
spent_by (what.Load at width) (Entered n q crosses) h = refl
spent_by (what.Store at v) (Entered n q crosses) h = refl
spent_by (what.Copy to from len) (Entered n q crosses) h = refl
spent_by (what.Fill to byte len) (Entered n q crosses) h = refl
spent_by (what.Alloca at size) (Entered n q crosses) h = refl
spent_by (what.Enter way args) (Entered n q crosses) h = refl
spent_by (what.Perform m post k env source dest) (Entered n q crosses) h = refl
spent_by (what.Return low high) (Entered n q crosses) h = refl
spent_by (what.Native k args) (Entered n q crosses) h = refl
spent_by (what.Finish o) (Entered n q crosses) h = absurd (never (h o refl))

-- whatever answers an entry or the call of a native
any_entry : (way : Way) (args : List Word) (answer : Reply) → may_answer (what.Enter way args) answer ≡ true
any_entry way args (Value v) = refl
any_entry way args Done = refl
any_entry way args (Entered n q crosses) = refl
any_entry way args (Ended o) = refl

any_native : (k : ℕ) (args : List Word) (answer : Reply) → may_answer (what.Native k args) answer ≡ true
any_native k args (Value v) = refl
any_native k args Done = refl
any_native k args (Entered n q crosses) = refl
any_native k args (Ended o) = refl

-- a stack ends within the addresses that a register holds
in_reach : (t n : ℕ) → t < 16 → nat_le n (stack_end t) ≡ true → nat_le n 9223372036854775808 ≡ true
in_reach t n few is = grind (arith, nat_tests)

-- what is granted answers what is asked
granted_answers : (p : Program) (s : State) (t : ℕ) (who : Principal) (w : What) → t < 16 → decide_what p s t who w ≡ None → may_answer w (grant_what p s t who w).reply ≡ true
granted_answers p s t who (what.Load at width) few is = refl
granted_answers p s t who (what.Store at v) few is = refl
granted_answers p s t who (what.Copy to from len) few is = refl
granted_answers p s t who (what.Fill to byte len) few is = refl
granted_answers p s t who (what.Alloca at size) few is = in_reach t (at + size) few (passed (nat_le (at + size) (stack_end t)) (Trapped StackFull) is)
granted_answers p s t who (what.Enter way args) few is = any_entry way args _
granted_answers p s t who (what.Perform n post k env source dest) few is = refl
granted_answers p s t who (what.Return low high) few is = refl
granted_answers p s t who (what.Native k args) few is = any_native k args _
granted_answers p s t who (what.Finish o) few is = refl

served_answers : (p : Program) (s : State) (t : ℕ) (r : Request) (d : Option Outcome) → t < 16 → decide p s t r ≡ d → may_answer r.what (serve_by d p s t r).reply ≡ true
served_answers p s t r None few is = granted_answers p s t r.who r.what few is
served_answers p s t r (Some o) few is = refl

-- what is served answers what is asked
serve_answers : (p : Program) (s : State) (t : ℕ) (r : Request) → t < 16 → may_answer r.what (serve p s t r).reply ≡ true
serve_answers p s t r few = served_answers p s t r (decide p s t r) few refl

-- an event: the request is served, and the reply is taken in
pub turned : {C : Type 0} (stands : C → History → Type 0) (laws : ImageRequestLaws) (c : Code) (t : ℕ) (s : State) (v : ImageThread) (old new : SharedPart C) (mid after : Runner) (q : Request) (answer : Reply)
    → StandsForState stands c.program old s → t < 16 → AreOnImageStack t v.frames → IsAsking c t mid (image_next c v) → Some q ≡ Some (image_next c v).request
    → (is_servable c.program t q ≡ true → Serves stands c.program new answer (serve c.program s t q))
    → (IsTrue (may_answer (image_next c v).request.what answer) → Runs c t after (image_absorb c t (image_next c v).thread (image_next c v).request answer))
    → (IsTrue (may_answer (image_next c v).request.what answer) → IsAt c t after (image_absorb c t (image_next c v).thread (image_next c v).request answer))
    → HasTurned stands c t new after answer s v
turned stands laws c t s v old new mid after q answer st few on asks is serves absorbs exact =
    let r = (image_next c v).request in
    let same : q ≡ r = same_Some q r is in
    let sv = subst (λ (z : Request). is_servable c.program t z ≡ true → Serves stands c.program new answer (serve c.program s t z)) same serves (laws.asks c t v few on) in
    let may = subst (λ (a : Reply). may_answer r.what a ≡ true) (sym sv.reply) (serve_answers c.program s t r few) in
    record {
      shared = sv.state;
      reply = sv.reply;
      exact = subst (λ (a : Reply). IsAt c t after (image_absorb c t (image_next c v).thread r a)) sv.reply (exact may);
      runner = record {
        runs = subst (λ (a : Reply). Runs c t after (image_absorb c t (image_next c v).thread r a)) sv.reply (absorbs may);
        stack = laws.stays c s t v on;
      };
    }

-- and it leaves room for the ends of the calls that are left
pub turned_ends : {C : Type 0} (stands : C → History → Type 0) (laws : ImageRequestLaws) (c : Code) (t : ℕ) (s : State) (v : ImageThread) (old new : SharedPart C) (mid after : Runner) (q : Request) (answer : Reply)
    → StandsForState stands c.program old s → t < 16 → AreOnImageStack t v.frames → IsAsking c t mid (image_next c v) → Some q ≡ Some (image_next c v).request
    → (is_servable c.program t q ≡ true → Serves stands c.program new answer (serve c.program s t q))
    → (IsTrue (may_answer (image_next c v).request.what answer) → Runs c t after (image_absorb c t (image_next c v).thread (image_next c v).request answer))
    → (IsTrue (may_answer (image_next c v).request.what answer) → IsAt c t after (image_absorb c t (image_next c v).thread (image_next c v).request answer))
    → (before : List ScriptCall) (room left : ℕ) → has_call before ≡ true → calls_left mid ≡ before → room ≤ left + taken_by answer
    → 2 * length (calls_left after) + room ≤ 2 * length before + left
turned_ends stands laws c t s v old new mid after q answer st few on asks is serves absorbs exact before room left work same leaves =
    let r = (image_next c v).request in
    let asked : q ≡ r = same_Some q r is in
    let sv = subst (λ (z : Request). is_servable c.program t z ≡ true → Serves stands c.program new answer (serve c.program s t z)) asked serves (laws.asks c t v few on) in
    let h = turned stands laws c t s v old new mid after q answer st few on asks is serves absorbs exact in
    room_of_ends c t (image_next c v).thread r (serve c.program s t r).reply answer before (calls_left mid) (calls_left after) room left work same (ap (λ (y : ImageThread). y.calls) asks.thread)
    h.runner.runs.calls sv.reply leaves

pub has_work_of : (c : Code) (t : ℕ) (r : Runner) (v : ImageThread) → StandsFor c t r v → IsTrue (has_call (calls_left r)) → IsTrue (has_call v.calls)
has_work_of c t r v st work = ap has_call (sym st.runs.calls) ∙ work

pub image_answer_laws : ImageAnswerLaws
image_answer_laws = record { answers = serve_answers }

-- what is served for the part's own program is served for each that it stands for
module _ {C : Type 0} (stands : C → History → Type 0) (old : SharedPart C) (t : ℕ) (r : Request) where
  pub served_for : (new : SharedPart C) (answer : Reply)
      → ((s : State) → StandsForState stands (program_of old) old s → is_servable (program_of old) t r ≡ true → Serves stands (program_of old) new answer (serve (program_of old) s t r))
      → (p : Program) (s : State) → StandsForState stands p old s → is_servable p t r ≡ true → Serves stands p new answer (serve p s t r)
  served_for new answer serves p s st =
      subst (λ (q : Program). (x : State) → StandsForState stands q old x → is_servable q t r ≡ true → Serves stands q new answer (serve q x t r)) st.program serves s st

  pub stays_for : (new : SharedPart C)
      → ((s : State) → StandsForState stands (program_of old) old s → StandsForState stands (program_of old) new s)
      → (p : Program) (s : State) → StandsForState stands p old s → StandsForState stands p new s
  stays_for new stays p s st = subst (λ (q : Program). (x : State) → StandsForState stands q old x → StandsForState stands q new x) st.program stays s st

  pub undecided_for : ((s : State) → StandsForState stands (program_of old) old s → IsUndecided (program_of old) s t r.who r.what)
      → (p : Program) (s : State) → StandsForState stands p old s → IsUndecided p s t r.who r.what
  undecided_for none p s st = subst (λ (q : Program). (x : State) → StandsForState stands q old x → IsUndecided q x t r.who r.what) st.program none s st
