-- The machine that begins each function with other words in the registers that are no parameter's. All else is as the monitor's machine
-- does it.
use Rattle.std.specs.Prelude.{ℕ, zero, suc, ◌+◌, ◌*◌, Bool, true, false, Option, Some, None, List, [], ◌∷◌, length, nat_lt, slice_get, slice_set}
use Rattle.lx_words.specs.Word.{Word}
use Rattle.lx_ir.specs.declared.module.Function.{Function}
use Rattle.lx_model.specs.declared.program.Program.{Program}
use Rattle.lx_model.specs.declared.request.Outcome.TheVariants.{Budget}
use Rattle.lx_model.specs.declared.request.Reply.{Reply}
use Rattle.lx_model.specs.declared.request.Request.{Request}
use Rattle.lx_model.specs.Program.{function_of}
use Rattle.lx_model.specs.Thread.{Activation, Frame, Thread, has_work}
use Rattle.lx_model.specs.Next.{Step, Goes, Asks, Asking, step, finish, absorb, on_top, with_run}
use Rattle.lx_model.specs.Serve.{Served, serve}
use Rattle.lx_model.specs.World.{World}

-- the words for the registers of a function that is entered: by the thread's number, the thread before, and the register's place behind
-- the parameters
abbrev pub Fill : Type 0
Fill = ℕ → Thread → ℕ → Word

-- so many words stay, and others come in place of the rest
abbrev pub refill : ℕ → (ℕ → Word) → List Word → List Word
refill k fresh [] = []
refill zero fresh (x ∷ xs) = fresh 0 ∷ refill zero (λ i. fresh (suc i)) xs
refill (suc k) fresh (x ∷ xs) = x ∷ refill k fresh xs

-- how many parameters a function has
abbrev pub param_count : Option Function → ℕ
param_count None = 0
param_count (Some f) = length f.params

-- a function at its start: the parameters stay
abbrev pub filled_activation : Program → (ℕ → Word) → Activation → Activation
filled_activation p fresh a = record a { registers = refill (param_count (function_of p a.function)) fresh a.registers }

-- its frame
abbrev pub filled_frame : Program → (ℕ → Word) → Frame → Frame
filled_frame p fresh f = with_run f (filled_activation p fresh f.run)

-- the thread with its top frame at such a start, if a function was entered
abbrev pub filled_if : Bool → Program → (ℕ → Word) → Thread → Thread
filled_if true p fresh thread = record thread { frames = on_top (filled_frame p fresh) thread.frames }
filled_if false p fresh thread = thread

-- a thread that has a frame more than before has entered a function
abbrev pub filled : Fill → Program → ℕ → Thread → Thread → Thread
filled fill p t before after = filled_if (nat_lt (length before.frames) (length after.frames)) p (fill t before) after

-- the next step of a thread
abbrev pub filled_step : Fill → Program → ℕ → Thread → Step
filled_step fill p t thread = elim (step p t thread) [ Goes further ↦ Goes (filled fill p t thread further) | Asks further r ↦ Asks further r ]

-- at most so many steps
abbrev pub filled_within : Fill → ℕ → Program → ℕ → Thread → Asking
filled_within fill zero p t thread = record { thread = thread; request = finish Budget }
filled_within fill (suc n) p t thread =
    elim (filled_step fill p t thread) [ Goes further ↦ filled_within fill n p t further | Asks further r ↦ record { thread = further; request = r } ]

-- the thread at its next request
abbrev pub filled_next : Fill → Program → ℕ → Thread → Asking
filled_next fill p t thread = filled_within fill (2 * thread.fuel + length thread.frames + 1) p t thread

-- the thread takes a reply in
abbrev pub filled_absorb : Fill → Program → ℕ → Thread → Request → Reply → Thread
filled_absorb fill p t thread r reply = filled fill p t thread (absorb p t thread r reply)

-- a world behind the reply that a thread takes in
abbrev pub after_filled : Fill → Program → ℕ → World → Asking → Served → World
after_filled fill p t w asking x =
    record { state = x.state; threads = slice_set w.threads t (filled_absorb fill p t asking.thread asking.request x.reply) }

-- a world behind a request
abbrev pub filled_request : Fill → Program → ℕ → World → Asking → World
filled_request fill p t w asking = after_filled fill p t w asking (serve p w.state t asking.request)

-- one event of a thread that has a call left
abbrev pub filled_event_if : Bool → Fill → Program → ℕ → World → Thread → World
filled_event_if true fill p t w thread = filled_request fill p t w (filled_next fill p t thread)
filled_event_if false fill p t w thread = w

-- one event of a thread, if there is one
abbrev pub filled_event_of : Option Thread → Fill → Program → ℕ → World → World
filled_event_of None fill p t w = w
filled_event_of (Some thread) fill p t w = filled_event_if (has_work thread) fill p t w thread

-- one event
abbrev pub filled_event : Fill → Program → ℕ → World → World
filled_event fill p t w = filled_event_of (slice_get w.threads t) fill p t w

-- the events of a schedule
abbrev pub filled_run : Fill → Program → List ℕ → World → World
filled_run fill p [] w = w
filled_run fill p (t ∷ ts) w = filled_run fill p ts (filled_event fill p t w)
