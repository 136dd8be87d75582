-- Accepted images run as their programs do under the monitor.
use Rattle.std.specs.Prelude.{◌≡◌, ℕ, suc, ◌+◌, ◌*◌, ◌<◌, ◌≤◌, false, Option, Some, List, length, map, slice_get}
use Rattle.lx_ir.specs.declared.module.Function.{Function}
use Rattle.lx_ir.specs.declared.module.Module.{Module}
use Rattle.lx_ir.specs.declared.instr.Op.{Op}
use Rattle.lx_ir.specs.Verified.{IsVerified}
use Rattle.lx_image_texts.specs.Marks.{without_marks}
use Rattle.lx_link_texts.specs.WellFormed.{IsWellFormed, FitsCalls}
use Rattle.lx_model.specs.declared.program.Program.{Program}
use Rattle.lx_model.specs.declared.program.ProgramFunction.TheVariants.{Of}
use Rattle.lx_model.specs.declared.program.ScriptCall.{ScriptCall}
use Rattle.lx_model.specs.Program.{Home, module_of}
use Rattle.lx_model.specs.Thread.{Thread}
use Rattle.lx_model.specs.Next.{step, next}
use Rattle.lx_model.specs.World.{World, event, opening, run}
use Rattle.lx_images.specs.Image.{Code, ImageThread, image_step, image_next_within, image_next}
use Rattle.lx_images.specs.ImageWorld.{ImageWorld, image_event, image_opening, image_run}
use Rattle.lx_images.specs.ImageCode.{Bare, text_op, image_ops}
use Rattle.lx_images.specs.Guarded.{Accepted, SlotCalls, bare_of}
use Rattle.lx_images.specs.HasImages.{IsLinked, HasImages}
use Rattle.lx_images.specs.Stands.{Well, WorldWell, ThreadStands, StepsAgree, StandsFor, StoresHeld}
use Rattle.lx_images.specs.Fitting.{ScriptFits}
use Rattle.lx_images.specs.Kept.{WorldKept}
use Rattle.lx_images.specs.Places.{WorldPlaces}
use Rattle.lx_images.specs.Lines.{LineLaws}
use Rattle.lx_simulation.specs.Images.{code_of, AreImages, AreFullImages}
use Rattle.lx_simulation.specs.Showing.{ShowingLaws}
use Rattle.lx_simulation.specs.Crossing.{CrossingLaws}
use Rattle.lx_simulation.specs.Forming.{FormingLaws}

-- each store of a module's function has its guard in the images; the kernel's have none
abbrev pub AllGuarded : Code → Type 0
AllGuarded c =
    (n m k : ℕ) (f : Function) → slice_get c.program.functions n ≡ Some (Of (Some m) k) → slice_get (module_of c.program (Some m)).functions k ≡ Some f → (label : List ℕ) (j : ℕ) → bare_of c n label j ≡ false

pub record SimulationLaws : Type 0 where
  -- whatever the schedule, the world of a well-formed program's images stands for the monitor's world of the program
  pub stands : (p : Program) (images : List Module) → IsWellFormed p → AreImages p images → (script : List (List ScriptCall)) (schedule : List ℕ) → length script ≤ 16 → FitsCalls p script → StandsFor (code_of p images) (run p schedule (opening p script)) (image_run (code_of p images) schedule (image_opening (code_of p images) script))
  -- a well-formed program is linked as the machines need it
  pub linked : (p : Program) → IsWellFormed p → IsLinked p
  -- a program with the images of its modules is accepted
  pub images_are : (c : Code) → HasImages c → Accepted c
  -- whatever the schedule, the world of accepted images stands for the monitor's
  pub runs : (c : Code) → Accepted c → (script : List (List ScriptCall)) (schedule : List ℕ) → length script ≤ 16 → ScriptFits c.program script → StandsFor c (run c.program schedule (opening c.program script)) (image_run c schedule (image_opening c script))
  -- where each store has its guard, so it does whatever the calls are
  pub guarded_runs : (c : Code) → Accepted c → AllGuarded c → (script : List (List ScriptCall)) (schedule : List ℕ) → StandsFor c (run c.program schedule (opening c.program script)) (image_run c schedule (image_opening c script))
  -- and what an image thread asks for next is asked for the monitor's principal too
  pub asks : (c : Code) → Accepted c → AllGuarded c → (t : ℕ) (thread : Thread) (v : ImageThread) → Well c.program t thread → ThreadStands c thread v → (image_next c v).request ≡ (next c.program t thread).request
  -- so it is of each thread at each point of a run
  pub asked_in_runs : (c : Code) → Accepted c → AllGuarded c → (script : List (List ScriptCall)) (schedule : List ℕ) (t : ℕ) (thread : Thread) (v : ImageThread) → slice_get (run c.program schedule (opening c.program script)).threads t ≡ Some thread → slice_get (image_run c schedule (image_opening c script)).threads t ≡ Some v → (image_next c v).request ≡ (next c.program t thread).request
  -- images that are made with all guards have each store's
  pub guarded : (p : Program) (images : List Module) → AreFullImages p images → AllGuarded (code_of p images)
  -- whatever the schedule, each function of a module keeps the bytes that it has on the stack
  pub keeps : (p : Program) (script : List (List ScriptCall)) (schedule : List ℕ) → length script ≤ 16 → WorldKept (run p schedule (opening p script))
  -- and each register of an alloca of a module's function holds the place of its bytes, once it is assigned
  pub places : (p : Program) → ((h : Home) → IsVerified (module_of p h)) → SlotCalls p → (script : List (List ScriptCall)) (schedule : List ℕ) → ScriptFits p script → WorldPlaces p (run p schedule (opening p script))
  -- one event: the worlds stand for each other behind it, where what its store needs is held
  pub events : (c : Code) → Accepted c → (t : ℕ) (w : World) (v : ImageWorld) → WorldWell c.program w → StandsFor c w v → StoresHeld c w → StandsFor c (event c.program t w) (image_event c t v)
  -- one step of a thread is one step of each image thread that stands for it
  pub steps : (c : Code) → Accepted c → (t : ℕ) (thread : Thread) (v : ImageThread) → Well c.program t thread → ThreadStands c thread v → StepsAgree c t (step c.program t thread) (image_step c v)
  -- an image thread comes to a request within its steps, whatever the code
  pub image_asks : (n : ℕ) (c : Code) (v : ImageThread) → 2 * v.fuel + length v.frames < n → image_next_within (suc n) c v ≡ image_next_within n c v
  -- the machine that passes marks and free lines at once does what the machine of lines does
  pub by_lines : LineLaws
  -- what a world of images shows is what the monitor's world shows that it stands for
  pub showing : ShowingLaws
  -- the wrappers of images do what the annotations say, and no wrapper does what it has no line for
  pub crossing : CrossingLaws
  -- and they have the form of wrappers
  pub forming : FormingLaws
  -- without its marks an image's text is the program's, with the calls of imports to their wrappers
  pub erases : (text : Option Module) (bare : Bare) (os : List Op) → without_marks (image_ops text bare os) ≡ map (text_op text) os
