-- What a run tells.
use Rattle.std.specs.Prelude.{◌≡◌, ℕ, suc, Bool, true, false, List, [], ◌∷◌, ◌++◌, Option, Some, None, option_map, if◌then◌else◌}
use Rattle.std.specs.List.{list_all}
use Rattle.lx_model.specs.declared.program.Program.{Program}
use Rattle.lx_model.specs.declared.program.ScriptCall.{ScriptCall}
use Rattle.lx_model.specs.declared.account.Account.{Account}
use Rattle.lx_model.specs.declared.account.CallOutcome.{CallOutcome}
use Rattle.lx_model.specs.declared.request.Outcome.{Outcome}
use Rattle.lx_model.specs.declared.request.Outcome.TheVariants.{Returned}
use Rattle.lx_model.specs.World.{World, opening, run, event, can_act, is_done, is_whole}
use Rattle.lx_model.specs.Account.{account, schedule_of}
use Rattle.lx_report.specs.Report.{report_text, schedule_line}
use Rattle.lx_report.specs.Laws.{IsSchedule}
use Rattle.lx_run_laws.specs.Authorised.{AreAuthorised}
use Rattle.lx_run_laws.specs.PlainRuns.{IsPlainRun}
use Rattle.lx_linked.specs.Explained.{IsExplainedRun}
use Rattle.lx_linked.specs.Fitting.{IsFittingRun}
use Rattle.lx_runs.specs.declared.told.Told.{Told}
use Rattle.lx_runs.specs.declared.told.Told.TheVariants as told

abbrev pub is_returned : Outcome → Bool
is_returned (Returned v) = true
is_returned _ = false

-- every call returned
abbrev pub all_returned : List CallOutcome → Bool
all_returned calls = list_all (λ c. is_returned c.outcome) calls

-- the text is the account of a world, whose schedule is the one on the text's first line, and the only one that may stand there
pub record IsAccountOf (p : Program) (w : World) (returned : Bool) (text : List ℕ) : Type 0 where
  pub reported : text ≡ report_text p (account p w)
  pub line : (rest : List ℕ) × (text ≡ schedule_line (schedule_of w) ++ rest)
  pub only : (other : List ℕ) (rest : List ℕ) → IsSchedule other → text ≡ schedule_line other ++ rest → other ≡ schedule_of w
  pub status : all_returned (account p w).outcomes ≡ returned

-- The text is the account of the monitor's run of the program as it is written, under a whole schedule. The schedule is
-- the one on the text's first line, and the only one that may stand there
pub record IsReport (p : Program) (script : List (List ScriptCall)) (returned : Bool) (text : List ℕ) : Type 0 where
  pub schedule : List ℕ
  pub whole : is_whole p schedule (opening p script) ≡ true
  pub reported : text ≡ report_text p (account p (run p schedule (opening p script)))
  pub line : (rest : List ℕ) × (text ≡ schedule_line schedule ++ rest)
  pub only : (other : List ℕ) (rest : List ℕ) → IsSchedule other → text ≡ schedule_line other ++ rest → other ≡ schedule
  pub status : all_returned (account p (run p schedule (opening p script))).outcomes ≡ returned
  -- what each act needed was held by the principal on top of its thread's stack, by the grants and strips before it; what
  -- was not held was refused, naming the principal and the capability; a call that was stopped changed nothing else
  pub authorised : AreAuthorised p schedule (opening p script)
  -- each event that was not refused is the step of the programs as they are written, without the monitor; where no call
  -- came to a refusal the whole run is theirs
  pub plain : IsPlainRun p script schedule
  -- each refusal has its cause, and names what was not met; what entered a function was what the call leads to; who owned what before the
  -- first call; and in each world on the way everybody who owns or runs is listed, module text runs as its module, and a call that is
  -- stopped leaves nothing but its outcome
  pub explained : IsExplainedRun p script schedule
  -- no register is read before it is given; and in each world on the way what a thread asks for names what is there, as it takes it, and
  -- keeps to the thread's stack
  pub fitting : IsFittingRun p script schedule

-- the schedule is the one that is replayed, where one is
abbrev pub IsAsked : Option (List ℕ) → List ℕ → Type 0
IsAsked None schedule = Unit {0}
IsAsked (Some asked) schedule = schedule ≡ asked

-- the first entry of a schedule, counted from 0, that names a thread without work, or the number of entries where work remains behind the last
abbrev pub broken_at : Program → List ℕ → World → Option ℕ
broken_at p [] w = if is_done w then None else Some 0
broken_at p (t ∷ ts) w = if can_act w t then option_map suc (broken_at p ts (event p t w)) else Some 0

-- of a program and its calls, under the schedule that is replayed, where one is
abbrev pub TellsRun : Program → List (List ScriptCall) → Option (List ℕ) → Told → Type 0
TellsRun p script asked (told.Broken entry) = (s : List ℕ) × (asked ≡ Some s) × (broken_at p s (opening p script) ≡ Some entry)
TellsRun p script asked (told.Report text returned) = (r : IsReport p script returned text) × IsAsked asked r.schedule

-- the account is that of the monitor's run of the program as it is written, under a whole schedule
abbrev pub IsAccountOfRun : Program → List (List ScriptCall) → Account → Type 0
IsAccountOfRun p script a =
    (schedule : List ℕ) × (is_whole p schedule (opening p script) ≡ true) × (a ≡ account p (run p schedule (opening p script)))
