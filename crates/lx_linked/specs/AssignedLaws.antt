-- Nobody reads a register before it is assigned.
use Rattle.std.specs.Prelude.{◌≡◌, ℕ, ◌+◌, ◌<◌, List, length, slice_index_or}
use Rattle.lx_words.specs.Word.{Word}
use Rattle.lx_ir.specs.Verified.{IsVerified}
use Rattle.lx_link_texts.specs.WellFormed.{IsWellFormed, FitsCalls}
use Rattle.lx_model.specs.declared.program.Program.{Program}
use Rattle.lx_model.specs.declared.program.ScriptCall.{ScriptCall}
use Rattle.lx_model.specs.Program.{Home, module_of}
use Rattle.lx_model.specs.Thread.{zero_word}
use Rattle.lx_model.specs.World.{opening, run}
use Rattle.lx_linked.specs.Imports.{ImportsFit}
use Rattle.lx_linked.specs.Filled.{Fill, refill, filled_run}
use Rattle.lx_linked.specs.Alike.{AlikeWorlds}

-- laws of runs whose functions begin with other words
pub record AssignedLaws : Type 0 where
  -- whatever the schedule, and whatever words a function begins with in place of blank ones, the run of a well-formed program is the
  -- same; and each register that an instruction reads holds the same word, so it is a parameter or was given in this call
  pub assigned : (p : Program) → IsWellFormed p → (script : List (List ScriptCall)) (schedule : List ℕ) → FitsCalls p script → (fill : Fill) → AlikeWorlds fill p (run p schedule (opening p script)) (filled_run fill p schedule (opening p script))
  -- so it is of any program whose texts are verified and whose imports fit
  pub of_texts : (p : Program) → ((h : Home) → IsVerified (module_of p h)) → ImportsFit p → (script : List (List ScriptCall)) (schedule : List ℕ) → FitsCalls p script → (fill : Fill) → AlikeWorlds fill p (run p schedule (opening p script)) (filled_run fill p schedule (opening p script))
  -- a function that begins has the other words behind its parameters, and its parameters are as they were
  pub others : (params i : ℕ) (fresh : ℕ → Word) (registers : List Word) → params + i < length registers → slice_index_or (refill params fresh registers) (params + i) zero_word ≡ fresh i
  pub parameters : (params r : ℕ) (fresh : ℕ → Word) (registers : List Word) → r < params → slice_index_or (refill params fresh registers) r zero_word ≡ slice_index_or registers r zero_word
