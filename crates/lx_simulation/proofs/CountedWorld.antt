-- Events and runs of instrumented code.
use Rattle.std.specs.Prelude.{ℕ, Bool, true, false, Option, Some, None, List, [], ◌∷◌, map, slice_get, slice_set}
use Rattle.lx_model.specs.declared.program.ScriptCall.{ScriptCall}
use Rattle.lx_model.specs.Thread.{first_fuel, has_call}
use Rattle.lx_model.specs.State.{State}
use Rattle.lx_model.specs.Serve.{Served, serve}
use Rattle.lx_model.specs.Opening.{opening_state}
use Rattle.lx_simulation.proofs.Counted.{Code, ImageThread, ImageAsking, image_next, image_absorb}

-- what all threads share, and the threads
pub record ImageWorld : Type 0 where
  pub state : State
  pub threads : List ImageThread

-- the asking thread takes the reply in; the other threads stay
abbrev pub image_after_reply : Code → ℕ → ImageWorld → ImageAsking → Served → ImageWorld
image_after_reply c t w asking x =
    record { state = x.state; threads = slice_set w.threads t (image_absorb c t asking.thread asking.request x.reply) }

-- its request is served
abbrev pub image_after_request : Code → ℕ → ImageWorld → ImageAsking → ImageWorld
image_after_request c t w asking = image_after_reply c t w asking (serve c.program w.state t asking.request)

-- an event of a thread that has work; without work nothing happens
abbrev pub image_event_if : Bool → Code → ℕ → ImageWorld → ImageThread → ImageWorld
image_event_if true c t w v = image_after_request c t w (image_next c v)
image_event_if false c t w v = w

-- an event of this thread, if there is one
abbrev pub image_event_of : Option ImageThread → Code → ℕ → ImageWorld → ImageWorld
image_event_of None c t w = w
image_event_of (Some v) c t w = image_event_if (has_call v.calls) c t w v

-- one event; the same monitor serves it
abbrev pub image_event : Code → ℕ → ImageWorld → ImageWorld
image_event c t w = image_event_of (slice_get w.threads t) c t w

-- the events of a schedule
abbrev pub image_run : Code → List ℕ → ImageWorld → ImageWorld
image_run c [] w = w
image_run c (t ∷ ts) w = image_run c ts (image_event c t w)

-- a thread before its first call
abbrev pub fresh_image_thread : List ScriptCall → ImageThread
fresh_image_thread calls =
    record { calls = calls; ended = []; fuel = first_fuel calls; due = None; frames = []; shadow = [] }

-- the world before its first event
abbrev pub image_opening : Code → List (List ScriptCall) → ImageWorld
image_opening c script = record { state = opening_state c.program; threads = map fresh_image_thread script }
