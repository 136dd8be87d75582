-- A traced run stands for the monitor's run of the program behind the events of a schedule.
use Rattle.std.specs.Prelude.{ℕ, List}
use Rattle.lx_caps.specs.History.{History}
use Rattle.lx_ir.specs.declared.module.Module.{Module}
use Rattle.lx_model.specs.declared.program.Program.{Program}
use Rattle.lx_model.specs.declared.program.ScriptCall.{ScriptCall}
use Rattle.lx_link_texts.specs.WellFormed.{IsWellFormed}
use Rattle.lx_images.specs.Guarded.{Accepted}
use Rattle.lx_images.specs.ImageWorld.{ImageWorld, image_opening, image_run}
use Rattle.lx_simulation.specs.Images.{code_of}
use Rattle.lx_simulation.specs.Simulation.{AllGuarded}
use Rattle.lx_world.specs.Exact.{IsExact, IsExactBut}
use Rattle.lx_world.specs.Worlds.{StandsForWorld}
use Rattle.lx_code_lines.specs.Lines.{AreLinesOf}
use Rattle.lx_trace.specs.declared.run.TraceRun.{TraceRun}

-- the images' world behind the events of a schedule
abbrev pub image_behind : Program → List Module → List (List ScriptCall) → List ℕ → ImageWorld
image_behind p images script schedule = image_run (code_of p images) schedule (image_opening (code_of p images) script)

-- its world stands for the images' behind these events, images of a well-formed program in which each store has its guard, and its lines are
-- those of the program's text
pub record IsOfRun {C : Type 0} (stands : C → History → Type 0) (p : Program) (script : List (List ScriptCall)) (schedule : List ℕ) (r : TraceRun C) : Type 0 where
  pub formed : IsWellFormed p
  pub images : List Module
  pub accepted : Accepted (code_of p images)
  pub guarded : AllGuarded (code_of p images)
  pub world : StandsForWorld stands (code_of p images) r.world (image_behind p images script schedule)
  pub lines : AreLinesOf (code_of p images) r.lines

-- so it does, and each of its threads is exactly there
pub record StandsForTrace {C : Type 0} (stands : C → History → Type 0) (p : Program) (script : List (List ScriptCall)) (schedule : List ℕ) (r : TraceRun C) : Type 0 where
  pub of_run : IsOfRun stands p script schedule r
  pub exact : IsExact (code_of p of_run.images) r.world (image_behind p of_run.images script schedule)

-- and each of its threads but one, which may be on its way to what it asks next
pub record IsPrepared {C : Type 0} (stands : C → History → Type 0) (p : Program) (script : List (List ScriptCall)) (schedule : List ℕ) (t : ℕ) (r : TraceRun C) : Type 0 where
  pub of_run : IsOfRun stands p script schedule r
  pub exact : IsExactBut t (code_of p of_run.images) r.world (image_behind p of_run.images script schedule)
