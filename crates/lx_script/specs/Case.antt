-- What a case says, and its limits.
use Rattle.std.specs.Prelude.{ℕ, ◌≤◌, List, length, sum_by}
use Rattle.lx_script.specs.declared.case.Origin.{Origin}
use Rattle.lx_script.specs.declared.case.CaseModule.{CaseModule}
use Rattle.lx_script.specs.declared.case.CaseCall.{CaseCall}

-- A case: where kernel and interface come from, its modules, and the calls of each thread.
pub record Case : Type 0 where
  pub kernel : Origin
  pub interface : Origin
  pub modules : List CaseModule
  pub threads : List (List CaseCall)

abbrev pub most_modules : ℕ
most_modules = 64

abbrev pub most_threads : ℕ
most_threads = 16

abbrev pub most_calls : ℕ
most_calls = 4096

-- of one call, and of all of them together
abbrev pub most_fuel : ℕ
most_fuel = 1048576

-- how many calls all threads make
abbrev pub call_count : List (List CaseCall) → ℕ
call_count threads = sum_by length threads

-- the fuel of some calls, and of all threads
abbrev pub thread_fuel : List CaseCall → ℕ
thread_fuel calls = sum_by (λ (c : CaseCall). c.fuel) calls

abbrev pub fuel_sum : List (List CaseCall) → ℕ
fuel_sum threads = sum_by thread_fuel threads

-- There are no more modules, threads and calls, and no more fuel, than a case may have.
pub record IsWithinLimits (modules : List CaseModule) (threads : List (List CaseCall)) : Type 0 where
  pub modules_within : length modules ≤ most_modules
  pub threads_within : length threads ≤ most_threads
  pub calls_within : call_count threads ≤ most_calls
  pub fuel_within : fuel_sum threads ≤ most_fuel
