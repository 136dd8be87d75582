-- Images ask where their program asks, and the line of that place is that of the instruction that runs.
use Rattle.std.specs.Prelude.{◌≡◌, ◌≢◌, ℕ, ◌≤◌, Some, List, ◌∷◌, length, slice_get, option_map}
use Rattle.lx_ir.specs.declared.module.Function.{Function}
use Rattle.lx_ir.specs.declared.instr.Instr.{Instr}
use Rattle.lx_ir.specs.declared.instr.Op.{Op}
use Rattle.lx_model.specs.declared.program.Program.{Program}
use Rattle.lx_model.specs.declared.program.ScriptCall.{ScriptCall}
use Rattle.lx_model.specs.Program.{function_of}
use Rattle.lx_model.specs.Thread.{Activation, Thread}
use Rattle.lx_model.specs.declared.request.Outcome.{Outcome}
use Rattle.lx_model.specs.Next.{Asks, finish, step, next}
use Rattle.lx_model.specs.World.{opening, run}
use Rattle.lx_link_texts.specs.WellFormed.{IsWellFormed, FitsCalls}
use Rattle.lx_images.specs.Asker.{image_asker, image_asks_at}
use Rattle.lx_images.specs.Fitting.{ScriptFits}
use Rattle.lx_images.specs.Guarded.{Accepted}
use Rattle.lx_images.specs.Image.{Code, ImageThread, image_step, image_next}
use Rattle.lx_images.specs.Image.{Asks as ImageAsks}
use Rattle.lx_images.specs.ImageWorld.{image_opening, image_run}
use Rattle.lx_images.specs.Stands.{Well, ThreadStands}
use Rattle.lx_simulation.specs.Simulation.{AllGuarded}
use Rattle.lx_code_lines.specs.Place.{Place, place_of, acting, asker, asks_at, image_place, instr_at, line_of}
use Rattle.lx_code_lines.specs.PlaceRows.{WorkedPlaces}

-- the image thread asks at the place at which the program's asks
abbrev pub AsksThere : Code → ℕ → Thread → ImageThread → Type 0
AsksThere c t thread v = option_map image_place (image_asks_at c v) ≡ asks_at c.program t thread

-- so it is of the threads with each number behind this schedule of this script
abbrev pub AllAskThere : Code → List (List ScriptCall) → List ℕ → Type 0
AllAskThere c script schedule =
    (t : ℕ) (thread : Thread) (v : ImageThread) → slice_get (run c.program schedule (opening c.program script)).threads t ≡ Some thread
    → slice_get (image_run c schedule (image_opening c script)).threads t ≡ Some v → AsksThere c t thread v

-- the place means an instruction of a function of the program, which does this, and the place's line is the instruction's
pub record Means (p : Program) (x : Place) (o : Op) : Type 0 where
  pub function : Function
  pub instr : Instr
  pub defined : function_of p x.function ≡ Some function
  pub stands : instr_at function x ≡ Some instr
  pub does : instr.op ≡ o
  pub line : line_of p x ≡ Some instr.line

pub record PlaceLaws : Type 0 where
  -- the step of the thread at whose step the next request is asked is that request, whatever the program, and so it is with images
  pub asks : (p : Program) (t : ℕ) (thread : Thread) → step p t (asker p t thread) ≡ Asks (next p t thread).thread (next p t thread).request
  pub image_asks : (c : Code) (v : ImageThread) → image_step c (image_asker c v) ≡ ImageAsks (image_next c v).thread (image_next c v).request
  -- a thread of accepted images asks at the place at which the thread asks that it stands for
  pub same : (c : Code) → Accepted c → (t : ℕ) (thread : Thread) (v : ImageThread) → Well c.program t thread → ThreadStands c thread v → AsksThere c t thread v
  -- so it is of each thread at each point of a run, where each store has its guard
  pub in_runs : (c : Code) → Accepted c → AllGuarded c → (script : List (List ScriptCall)) (schedule : List ℕ) → AllAskThere c script schedule
  -- and where at most sixteen threads make calls that fit
  pub in_fitting_runs : (c : Code) → Accepted c → (script : List (List ScriptCall)) (schedule : List ℕ) → length script ≤ 16 → ScriptFits c.program script → AllAskThere c script schedule
  -- at each point of a run of a well-formed program, where the function for which a thread asks has an instruction left, its place means that one
  pub means : (p : Program) → IsWellFormed p → (script : List (List ScriptCall)) (schedule : List ℕ) → FitsCalls p script → (t : ℕ) (thread : Thread) → slice_get (run p schedule (opening p script)).threads t ≡ Some thread
      → (a : Activation) (o : Op) (os : List Op) → acting (asker p t thread).frames ≡ Some a → a.code ≡ o ∷ os → Means p (place_of a) o
  -- it has one left at each request but the end of a call, unless the script asks, and so the place has a line
  pub has_line : (p : Program) → IsWellFormed p → (script : List (List ScriptCall)) (schedule : List ℕ) → FitsCalls p script → (t : ℕ) (thread : Thread) → slice_get (run p schedule (opening p script)).threads t ≡ Some thread
      → ((o : Outcome) → (next p t thread).request ≢ finish o) → (x : Place) → asks_at p t thread ≡ Some x → (o : Op) × Means p x o
  -- worked places
  pub rows : WorkedPlaces
