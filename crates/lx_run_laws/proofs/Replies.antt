-- Behind a reply the functions of a thread keep to its stack.
use Rattle.std.proofs.Common.{◌≡◌, ℕ, ◌+◌, ◌≤◌, Bool, true, false, Option, Some, None, List, [], ◌∷◌, refl, arith}
use Rattle.std.specs.Prelude.{nat_le}
use Rattle.std.proofs.lemmas.Bool.Decides.{nat_tests}
use Rattle.lx_words.specs.declared.word.Width.TheVariants.{W64}
use Rattle.lx_words.specs.Word.{Word, word}
use Rattle.lx_caps.specs.Regions.{stack_start, stack_end}
use Rattle.lx_caps.specs.declared.Principal.{Principal}
use Rattle.lx_model.specs.declared.program.Program.{Program}
use Rattle.lx_model.specs.declared.request.Outcome.{Outcome}
use Rattle.lx_model.specs.declared.request.Outcome.TheVariants.{Trapped}
use Rattle.lx_model.specs.declared.request.Reply.{Reply}
use Rattle.lx_model.specs.declared.request.Reply.TheVariants.{Value, Done, Entered, Ended}
use Rattle.lx_model.specs.declared.request.Request.{Request}
use Rattle.lx_model.specs.declared.request.Trap.TheVariants.{StackFull}
use Rattle.lx_model.specs.declared.request.Way.{Way}
use Rattle.lx_model.specs.declared.request.What.{What}
use Rattle.lx_model.specs.declared.request.What.TheVariants as what
use Rattle.lx_model.specs.Thread.{Crossing, Frame, Thread, activation_behind, top_of_stack}
use Rattle.lx_model.specs.Effect.{returned_value}
use Rattle.lx_model.specs.Next.{absorb, after_entry, after_ret, after_ret_of, crossing_on, entered_frame, fits_site, next, on_top, request, with_alloca, with_run}
use Rattle.lx_model.specs.State.{State}
use Rattle.lx_model.specs.Decide.{decide, decide_what}
use Rattle.lx_model.specs.Serve.{grant_what, serve, serve_by}
use Rattle.lx_run_laws.specs.Servable.{is_on_stack}
use Rattle.lx_run_laws.specs.OnStack.{IsOnStack, AreOnStack}
use Rattle.lx_run_laws.proofs.Steps.{IsAskedOn, left_on, next_on, top_on}
use Rattle.lx_model.proofs.Passing.{passed}

behind_on : (t : ℕ) (v : Option Word) (fs : List Frame) → AreOnStack t fs → AreOnStack t (on_top (λ f. with_run f (activation_behind v f.run)) fs)
behind_on t v [] all = tt
behind_on t v (f ∷ fs) all = all

acted_on : (p : Program) (t : ℕ) (fs : List Frame) → AreOnStack t fs → AreOnStack t (on_top (λ f. record f { crossing = crossing_on p f.crossing }) fs)
acted_on p t [] all = tt
acted_on p t (f ∷ fs) all = all

-- bytes of the stack

pub lodged : (t low high at size : ℕ) → is_on_stack t low high ≡ true → high ≤ at → nat_le (at + size) (stack_end t) ≡ true → is_on_stack t low (at + size) ≡ true
lodged t low high at size on above room = grind (arith, nat_tests)

lodged_on : (t : ℕ) (v : Option Word) (at size : ℕ) (fs : List Frame) → AreOnStack t fs → top_of_stack t fs ≤ at → nat_le (at + size) (stack_end t) ≡ true
    → AreOnStack t (on_top (λ f. with_run f (activation_behind v f.run)) (on_top (λ f. with_run f (with_alloca at size f.run)) fs))
lodged_on t v at size [] all above room = tt
lodged_on t v at size (f ∷ fs) all above room = (lodged t f.run.low f.run.high at size all.0 above room, all.1)

-- a function that is entered

pub empty_on : (t : ℕ) → is_on_stack t (stack_start t) (stack_start t) ≡ true
empty_on t = grind (arith, nat_tests)

stack_top_on : (t : ℕ) (fs : List Frame) → AreOnStack t fs → is_on_stack t (top_of_stack t fs) (top_of_stack t fs) ≡ true
stack_top_on t [] all = empty_on t
stack_top_on t (f ∷ fs) all = top_on t f.run.low f.run.high all.0

entry_on : (t : ℕ) (b : Bool) (way : Way) (f : Frame) (thread : Thread) → IsOnStack t f → AreOnStack t thread.frames → AreOnStack t (after_entry b way f thread).frames
entry_on t true way f thread on all = (on, all)
entry_on t false way f thread on all = tt

entered_on : (p : Program) (t : ℕ) (x : Thread) (who : Principal) (way : Way) (args : List Word) (answer : Reply) → AreOnStack t x.frames
    → AreOnStack t (absorb p t x (request who (what.Enter way args)) answer).frames
entered_on p t x who way args (Value v) all = behind_on t (Some v) x.frames all
entered_on p t x who way args Done all = behind_on t None x.frames all
entered_on p t x who way args (Entered n q crosses) all =
    entry_on t (fits_site p way x.frames n) way (entered_frame p t who args x.frames n q crosses) x (stack_top_on t x.frames all) all
entered_on p t x who way args (Ended o) all = tt

native_on : (p : Program) (t : ℕ) (x : Thread) (who : Principal) (k : ℕ) (args : List Word) (answer : Reply) → AreOnStack t x.frames
    → AreOnStack t (absorb p t x (request who (what.Native k args)) answer).frames
native_on p t x who k args (Value v) all = behind_on t (Some v) x.frames all
native_on p t x who k args Done all = behind_on t None x.frames all
native_on p t x who k args (Entered n q crosses) all = behind_on t None x.frames all
native_on p t x who k args (Ended o) all = tt

-- a return

ret_on : (p : Program) (t : ℕ) (c : Option Crossing) (f : Frame) (fs : List Frame) (v : Option Word) (thread : Thread) → IsOnStack t f → AreOnStack t fs
    → AreOnStack t (after_ret_of c f fs v thread).frames
ret_on p t None f fs v thread on rest = left_on t v fs thread rest
ret_on p t (Some c) f fs v thread on rest = (on, rest)

returned_on : (p : Program) (t : ℕ) (frames : List Frame) (thread : Thread) → AreOnStack t frames → AreOnStack t thread.frames → AreOnStack t (after_ret p frames thread).frames
returned_on p t [] thread h all = all
returned_on p t (f ∷ fs) thread h all = ret_on p t f.crossing f fs (returned_value p f.run) thread h.0 h.1

-- what is served

granted_on : (p : Program) (s : State) (t : ℕ) (x : Thread) (who : Principal) (w : What) → IsAskedOn p t x.frames (request who w) → decide_what p s t who w ≡ None
    → AreOnStack t (absorb p t x (request who w) (grant_what p s t who w).reply).frames
granted_on p s t x who (what.Load at width) h is = behind_on t _ x.frames h.frames_on
granted_on p s t x who (what.Store at v) h is = behind_on t None x.frames h.frames_on
granted_on p s t x who (what.Copy to from len) h is = behind_on t None x.frames h.frames_on
granted_on p s t x who (what.Fill to byte len) h is = behind_on t None x.frames h.frames_on
granted_on p s t x who (what.Alloca at size) h is =
    lodged_on t (Some (word W64 at)) at size x.frames h.frames_on h.above (passed (nat_le (at + size) (stack_end t)) (Trapped StackFull) is)
granted_on p s t x who (what.Enter way args) h is = entered_on p t x who way args _ h.frames_on
granted_on p s t x who (what.Perform n post k env source dest) h is = acted_on p t x.frames h.frames_on
granted_on p s t x who (what.Return low high) h is = returned_on p t x.frames x h.frames_on h.frames_on
granted_on p s t x who (what.Native k args) h is = native_on p t x who k args _ h.frames_on
granted_on p s t x who (what.Finish o) h is = tt

served_on : (p : Program) (s : State) (t : ℕ) (x : Thread) (r : Request) (d : Option Outcome) → decide p s t r ≡ d → IsAskedOn p t x.frames r
    → AreOnStack t (absorb p t x r (serve_by d p s t r).reply).frames
served_on p s t x r (Some o) is h = tt
served_on p s t x r None is h = granted_on p s t x r.who r.what h is

pub absorbed_on : (p : Program) (s : State) (t : ℕ) (x : Thread) → AreOnStack t x.frames
    → AreOnStack t (absorb p t (next p t x).thread (next p t x).request (serve p s t (next p t x).request).reply).frames
absorbed_on p s t x all = served_on p s t (next p t x).thread (next p t x).request (decide p s t (next p t x).request) refl (next_on p t x all)
