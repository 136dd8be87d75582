-- A crossing does its function's annotation: the actions before the body and those behind it, each once and in order.
use Rattle.std.specs.Prelude.{◌≡◌, ℕ, zero, suc, ◌+◌, ◌<◌, true, false, Option, Some, None, List, ◌∷◌, length}
use Rattle.lx_words.specs.Word.{Word}
use Rattle.lx_caps.specs.declared.Principal.{Principal}
use Rattle.lx_model.specs.declared.program.Program.{Program}
use Rattle.lx_model.specs.declared.request.Reply.TheVariants.{Done, Entered}
use Rattle.lx_model.specs.declared.request.Request.{Request}
use Rattle.lx_model.specs.declared.request.Way.{Way}
use Rattle.lx_model.specs.declared.request.What.TheVariants.{Enter, Perform, Return}
use Rattle.lx_model.specs.Effect.{returned_value}
use Rattle.lx_model.specs.Next.{Goes, absorb, after_leaving, fits_site, next, request, step}
use Rattle.lx_model.specs.Program.{annotation_or_none}
use Rattle.lx_model.specs.Thread.{Body, Crossing, Frame, Thread, activation, top_of_stack}

-- how many actions the function's annotation has before the body, and how many behind it
abbrev pub count_before : Program → ℕ → ℕ
count_before p n = length (annotation_or_none p n).pre

abbrev pub count_behind : Program → ℕ → ℕ
count_behind p n = length (annotation_or_none p n).post

-- an action before the body: in the caller's name, from the caller to the function that is entered
abbrev pub action_before : (caller callee : Principal) → ℕ → List Word → ℕ → Request
action_before caller callee n args k = request caller (Perform n false k (record { args = args; ret = None }) caller callee)

-- an action behind it, with the value: in the name of the function that ran, from it to the caller
abbrev pub action_behind : (caller callee : Principal) → ℕ → List Word → Option Word → ℕ → Request
action_behind caller callee n args v k = request callee (Perform n true k (record { args = args; ret = v }) callee caller)

-- the thread behind so many requests, each of which was served
abbrev pub behind_done : ℕ → Program → ℕ → Thread → Thread
behind_done zero p t x = x
behind_done (suc n) p t x = behind_done n p t (absorb p t (next p t x).thread (next p t x).request Done)

-- what a thread asks for behind `k` requests that were served
abbrev pub request_behind : ℕ → Program → ℕ → Thread → Request
request_behind k p t x = (next p t (behind_done k p t x)).request

-- the frame of a call that crossed, in its body
abbrev pub body_frame : Program → ℕ → Principal → Principal → ℕ → List Word → List Frame → Frame
body_frame p t caller callee n args frames = record {
  run = activation p n args (top_of_stack t frames);
  principal = callee;
  crossing = Some (record { function = n; source = caller; args = args; stage = Body });
}

-- the thread that a call was entered for, and the thread behind a return
abbrev pub entered : Program → ℕ → Thread → Principal → Way → List Word → ℕ → Principal → Thread
entered p t x caller way args n callee = absorb p t x (request caller (Enter way args)) (Entered n callee true)

abbrev pub returned : Program → ℕ → Thread → Principal → ℕ → ℕ → Thread
returned p t x callee low high = absorb p t x (request callee (Return low high)) Done

-- a thread that has fuel for the actions before the body comes to them, and then to the body
pub record DoesBefore (p : Program) (t : ℕ) (x : Thread) (caller : Principal) (way : Way) (args : List Word) (n : ℕ) (callee : Principal) (fuel : ℕ) : Type 0 where
  pub asks : (k : ℕ) → k < count_before p n → request_behind k p t (entered p t x caller way args n callee) ≡ action_before caller callee n args k
  pub goes_on : behind_done (count_before p n) p t (entered p t x caller way args n callee)
      ≡ record x { fuel = fuel; frames = body_frame p t caller callee n args x.frames ∷ x.frames }

-- behind the return of a crossing it comes to the actions behind the body, with the value that was returned, and then leaves the crossing
pub record DoesBehind (p : Program) (t : ℕ) (x : Thread) (f : Frame) (fs : List Frame) (c : Crossing) (low high fuel : ℕ) : Type 0 where
  pub asks : (k : ℕ) → k < count_behind p c.function
      → request_behind k p t (returned p t x f.principal low high) ≡ action_behind c.source f.principal c.function c.args (returned_value p f.run) k
  pub leaves : (y : Thread) → y ≡ behind_done (count_behind p c.function) p t (returned p t x f.principal low high)
      → (y.fuel ≡ fuel) × (step p t y ≡ Goes (after_leaving (returned_value p f.run) fs y))

pub record CrossingLaws : Type 0 where
  pub before : (p : Program) (t : ℕ) (x : Thread) (caller : Principal) (way : Way) (args : List Word) (n : ℕ) (callee : Principal) (fuel : ℕ)
      → x.due ≡ None → fits_site p way x.frames n ≡ true → x.fuel ≡ fuel + count_before p n → DoesBefore p t x caller way args n callee fuel
  pub behind : (p : Program) (t : ℕ) (x : Thread) (f : Frame) (fs : List Frame) (c : Crossing) (low high fuel : ℕ)
      → x.due ≡ None → x.frames ≡ f ∷ fs → f.crossing ≡ Some c → x.fuel ≡ fuel + count_behind p c.function → DoesBehind p t x f fs c low high fuel
