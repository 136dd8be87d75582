-- The world stands for a world of images.
use Rattle.std.specs.Prelude.{◌≡◌, ◌≤◌, ◌*◌, ℕ, suc, Bool, true, not, List, [], ◌∷◌, length, option_map, unwrap_or, slice_get}
use Rattle.std.specs.List.{sum_by}
use Rattle.lx_caps.specs.History.{History}
use Rattle.lx_model.specs.declared.program.Program.{Program}
use Rattle.lx_model.specs.declared.program.ScriptCall.{ScriptCall}
use Rattle.lx_model.specs.declared.request.Reply.{Reply}
use Rattle.lx_model.specs.State.{State}
use Rattle.lx_model.specs.Thread.{has_call}
use Rattle.lx_model.specs.Serve.{serve}
use Rattle.lx_images.specs.Image.{Code, ImageThread, image_next, image_absorb}
use Rattle.lx_images.specs.ImageWorld.{ImageWorld}
use Rattle.lx_interp.specs.declared.runner.Runner.{Runner}
use Rattle.lx_interp.specs.Runner.{IsAt, StandsFor as Runs, calls_left, events_left, events_of}
use Rattle.lx_serve.specs.Room.{journal_room, store_room}
use Rattle.lx_serve.specs.Stands.{StandsForState}
use Rattle.lx_serve.specs.declared.shared.SharedPart.{SharedPart}
use Rattle.lx_world.specs.OnImageStack.{AreOnImageStack}
use Rattle.lx_world.specs.declared.world.World.{World}

-- the runner stands for a state of the thread, whose functions keep to its stack
pub record StandsFor (c : Code) (t : ℕ) (r : Runner) (v : ImageThread) : Type 0 where
  pub runs : Runs c t r v
  pub stack : AreOnImageStack t v.frames

-- the runners stand for the threads, the first of which has this number
abbrev pub AllStand : Code → ℕ → List Runner → List ImageThread → Type 0
AllStand c t [] [] = Unit {0}
AllStand c t [] (v ∷ vs) = ⊥
AllStand c t (r ∷ rs) [] = ⊥
AllStand c t (r ∷ rs) (v ∷ vs) = StandsFor c t r v × AllStand c (suc t) rs vs

-- the shared part stands for the state, and the runners for the threads
pub record StandsForWorld {C : Type 0} (stands : C → History → Type 0) (c : Code) (w : World C) (m : ImageWorld) : Type 0 where
  pub code : w.code ≡ c
  pub shared : StandsForState stands c.program w.shared m.state
  pub threads : AllStand c 0 w.runners.list.items m.threads

-- behind an event of the thread: its request is served with this reply, and it has taken it in
pub record HasTurned {C : Type 0} (stands : C → History → Type 0) (c : Code) (t : ℕ) (part : SharedPart C) (r : Runner) (answer : Reply) (s : State) (v : ImageThread) : Type 0 where
  pub shared : StandsForState stands c.program part (serve c.program s t (image_next c v).request).state
  pub reply : answer ≡ (serve c.program s t (image_next c v).request).reply
  pub runner : StandsFor c t r (image_absorb c t (image_next c v).thread (image_next c v).request (serve c.program s t (image_next c v).request).reply)
  pub exact : IsAt c t r (image_absorb c t (image_next c v).thread (image_next c v).request (serve c.program s t (image_next c v).request).reply)

-- nothing has happened that the state or the thread shows
pub record HasStayed {C : Type 0} (stands : C → History → Type 0) (c : Code) (t : ℕ) (part : SharedPart C) (r : Runner) (s : State) (v : ImageThread) : Type 0 where
  pub shared : StandsForState stands c.program part s
  pub runner : StandsFor c t r v

-- the code that runs
abbrev pub code_of : {C : Type 0} → World C → Code
code_of w = w.code

-- its program
abbrev pub program_of : {C : Type 0} → World C → Program
program_of w = w.code.program

-- how many events the world may still have
abbrev pub events_in : {C : Type 0} → World C → ℕ
events_in w = sum_by events_left w.runners.list.items

-- how many events a script may have: of each call its fuel, and its end
abbrev pub script_events : List (List ScriptCall) → ℕ
script_events script = sum_by events_of script

-- the journal has room for all events that the world may still have
abbrev pub HasRoom : {C : Type 0} → World C → Type 0
HasRoom w = events_in w ≤ journal_room w.shared

-- how many calls a world has that have not ended
abbrev pub calls_in : {C : Type 0} → World C → ℕ
calls_in w = sum_by (λ r. length (calls_left r)) w.runners.list.items

-- how many calls a script has
abbrev pub script_calls : List (List ScriptCall) → ℕ
script_calls script = sum_by length script

-- the store has room for the end of each call that has not ended, which is two acts
abbrev pub HasEndsRoom : {C : Type 0} → (C → ℕ) → World C → Type 0
HasEndsRoom spare w = 2 * calls_in w ≤ store_room spare w.shared

-- the runner has no call left
abbrev pub is_idle : Runner → Bool
is_idle r = not (has_call (calls_left r))

-- there is no such runner, or it has no call left
abbrev pub is_idle_at : List Runner → ℕ → Bool
is_idle_at rs k = unwrap_or (option_map is_idle (slice_get rs k)) true
