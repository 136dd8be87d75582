-- What a worked program says: the account that the definitions give of its run. Short forms for scripts and accounts.
use Rattle.std.specs.Prelude.{◌≡◌, ℕ, true, List, [], ◌∷◌, map, replicate}
use Rattle.lx_words.specs.Word.{Word}
use Rattle.lx_caps.specs.declared.Principal.TheVariants.{Shared, Inst}
use Rattle.lx_caps.specs.declared.Cap.{Cap}
use Rattle.lx_caps.specs.declared.Cap.TheVariants.{Call}
use Rattle.lx_model.specs.declared.program.Program.{Program}
use Rattle.lx_model.specs.declared.program.ScriptCall.{ScriptCall}
use Rattle.lx_model.specs.declared.request.Outcome.{Outcome}
use Rattle.lx_model.specs.declared.account.Account.{Account}
use Rattle.lx_model.specs.declared.account.CallOutcome.{CallOutcome}
use Rattle.lx_model.specs.declared.account.ImageCount.{ImageCount}
use Rattle.lx_model.specs.declared.account.InstanceName.{InstanceName}
use Rattle.lx_model.specs.declared.account.Owned.{Owned}
use Rattle.lx_model.specs.World.{opening, run, is_whole}
use Rattle.lx_model.specs.Account.{account}

-- The account of a program's run of a script by the account's schedule is this one, and the schedule is whole.
pub record GivesAccount (p : Program) (script : List (List ScriptCall)) (told : Account) : Type 0 where
  pub account_is : account p (run p told.schedule (opening p script)) ≡ told
  pub is_whole_is : is_whole p told.schedule (opening p script) ≡ true

-- a call of the function with this number
abbrev pub fuelled : ℕ → List Word → ℕ → ScriptCall
fuelled n args fuel = record { function = n; args = args; fuel = fuel }

-- one with 100 units of fuel
abbrev pub asked : ℕ → List Word → ScriptCall
asked n args = fuelled n args 100

-- so many events of a thread
abbrev pub events : ℕ → ℕ → List ℕ
events t n = replicate n t

-- a call of a thread that ended so
abbrev pub ended : ℕ → ℕ → Outcome → CallOutcome
ended t n outcome = record { thread = t; function = n; outcome = outcome }

-- what the first module's shared principal owns, and what an instance of that module does
abbrev pub shared : Cap → Owned
shared c = record { who = Shared 0; cap = c }

abbrev pub of_instance : ℕ → Cap → Owned
of_instance k c = record { who = Inst 0 k; cap = c }

-- the calls of these addresses
abbrev pub calls_at : List ℕ → List Owned
calls_at places = map (λ a. shared (Call a)) places

-- the first name of an instance
abbrev pub named : ℕ → ℕ → InstanceName
named k address = record { «module» = 0; instance = k; value = address }

-- an image with so many guards, checks and wrappers
abbrev pub image : ℕ → ℕ → ℕ → List ImageCount
image guards checks wrappers = record { guards = guards; checks = checks; wrappers = wrappers } ∷ []

-- an account without notes and names
abbrev pub plain_account : List ℕ → List CallOutcome → List ImageCount → List Owned → Account
plain_account schedule outcomes images owners =
    record { schedule = schedule; outcomes = outcomes; notes = []; images = images; owners = owners; names = [] }
