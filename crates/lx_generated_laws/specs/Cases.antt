-- The case that a generated text says.
use Rattle.std.specs.Prelude.{ℕ, zero, suc, ◌+◌, ◌*◌, ◌%◌, ◌==◌, ◌≤◌, pos, Some, List, [], ◌∷◌, filter, length, codes}
use Rattle.std.specs.List.{range_with_len}
use Rattle.lx_generate.specs.Generated.{callee, case_text}
use Rattle.lx_script.specs.declared.case.Origin.TheVariants.{Builtin}
use Rattle.lx_script.specs.declared.case.CaseArg.TheVariants.{Number}
use Rattle.lx_script.specs.declared.case.CaseCall.{CaseCall}
use Rattle.lx_script.specs.declared.case.CaseModule.{CaseModule}
use Rattle.lx_script.specs.Case.{Case, most_calls}
use Rattle.lx_script.specs.Grammar.{SaysCase}

-- the calls of n that stand in a thread, by their numbers
abbrev pub numbers_in : ℕ → ℕ → List ℕ
numbers_in n thread = filter (λ j. j % 4 == thread) (range_with_len 0 n)

-- call j of n, in its line
abbrev pub call_of : ℕ → ℕ → ℕ → CaseCall
call_of n row j = record { target = record { «module» = Some 0; function = callee j }; args = Number (pos (3 * j + n)) ∷ []; fuel = 100; line = row }

-- calls of n in order, from a line on
abbrev pub calls_from : ℕ → ℕ → List ℕ → List CaseCall
calls_from n row [] = []
calls_from n row (j ∷ js) = call_of n row j ∷ calls_from n (row + 1) js

-- the line behind those of a thread's calls, where they begin with this one
abbrev pub row_behind : ℕ → ℕ → ℕ → ℕ
row_behind n thread row = row + length (numbers_in n thread)

-- the line of the first call of a thread: the lines of four statements and that of the word `thread` stand before those of the first thread
abbrev pub first_row : ℕ → ℕ → ℕ
first_row n zero = 6
first_row n (suc t) = row_behind n t (first_row n t) + 1

abbrev pub thread_calls : ℕ → ℕ → List CaseCall
thread_calls n thread = calls_from n (first_row n thread) (numbers_in n thread)

abbrev pub generated_modules : List CaseModule
generated_modules = record { name = codes "gen"; file = codes "gen.ll" } ∷ []

abbrev pub generated_case : ℕ → Case
generated_case n = record {
  kernel = Builtin;
  interface = Builtin;
  modules = generated_modules;
  threads = thread_calls n 0 ∷ thread_calls n 1 ∷ thread_calls n 2 ∷ thread_calls n 3 ∷ [];
}

-- The text that is generated for any number of calls that a case may have says this case.
abbrev pub CasesAreSaid : Type 0
CasesAreSaid = (n : ℕ) → n ≤ most_calls → SaysCase (case_text n) (generated_case n)
