-- The texts of a generated case link, whatever the lines of the kernel and the module.
use Rattle.std.proofs.Common.{◌≡◌, ◌∙◌, ℕ, ◌+◌, ◌*◌, ◌^◌, ◌<◌, ◌≤◌, Bool, true, false, List, [], ◌∷◌, Option, Some, None, refl, ap, arith}
use Rattle.std.specs.Prelude.{◌==◌, ◌%◌, codes, pos, if◌then◌else◌}
use Rattle.std.specs.List.{AllByRecursion}
use Rattle.std.specs.Option.{option_or}
use Rattle.std.proofs.lemmas.Bool.{lt-ltb}
use Rattle.lx_words.specs.declared.word.Width.TheVariants.{W64}
use Rattle.lx_words.specs.Width.{modulus}
use Rattle.lx_ir.specs.declared.module.Module.{Module}
use Rattle.lx_ir.specs.declared.module.Parameter.{Parameter}
use Rattle.lx_propagate.specs.Slots.{conflict_of}
use Rattle.lx_model.specs.declared.program.Program.{Program}
use Rattle.lx_link_texts.specs.declared.sources.Sources.{Sources}
use Rattle.lx_link_texts.specs.declared.fault.FaultKind.TheVariants.{SignatureDiffers}
use Rattle.lx_link_texts.specs.declared.fault.Source.TheVariants as source
use Rattle.lx_link_texts.specs.Faults.{Fault, fault, fault_unless, limit_fault, text_fault}
use Rattle.lx_link_texts.specs.Placing.{functions_of, global_size, globals_end, program_of}
use Rattle.lx_script.specs.declared.case.CaseArg.TheVariants.{Number}
use Rattle.lx_script.specs.declared.case.CaseCall.{CaseCall}
use Rattle.lx_generate.specs.Generated.{callee}
use Rattle.lx_link.specs.Answers.{link_fault, named_modules, sources_of}
use Rattle.lx_link.specs.Calls.{all_fit, call_fault, call_fault_by, function_named, parameters, script_fault, thread_fault}
use Rattle.lx_generated_laws.specs.Kernel.{interface}
use Rattle.lx_generated_laws.specs.RowTexts.{i64, param}
use Rattle.lx_generated_laws.specs.Cases.{call_of, calls_from, first_row, generated_case, generated_modules, numbers_in, thread_calls}
use Rattle.lx_generated_laws.proofs.Counts.{AreBelow, numbers_below}
use Rattle.lx_generated_laws.proofs.Hosted.{guest, host}

-- no function of the module gets two slot types that differ
pub no_conflict : (n : Module) → conflict_of interface (guest n) ≡ None
unfolding guest
no_conflict n = refl

-- the number of the function that a call calls
abbrev number_of : ℕ → ℕ
number_of j = if j % 10 == 9 then 20 else 19

by_callee : (P : List ℕ → ℕ → Type 0) → P (codes "stray") 20 → P (codes "work") 19 → (j : ℕ) → P (callee j) (number_of j)
unfolding callee
by_callee P stray work j = by (j % 10 == 9)
  where
    by : (b : Bool) → P (if b then codes "stray" else codes "work") (if b then 20 else 19)
    by true = stray
    by false = work

abbrev the_parameters : List Parameter
the_parameters = param (codes "n") i64 ∷ []

-- what a program has whose second text is the module
record Has (p : Program) : Type 0 where
  stray : function_named p (Some 0) (codes "stray") ≡ Some 20
  work : function_named p (Some 0) (codes "work") ≡ Some 19
  of_stray : parameters p 20 ≡ the_parameters
  of_work : parameters p 19 ≡ the_parameters

module _ (p : Program) (has : Has p) where
  fits : (k : ℕ) → k < 2 ^ 64 → all_fit p the_parameters (Number (pos k) ∷ []) ≡ true
  fits k less = rw (lt-ltb k (modulus W64) less) refl

  called : (j : ℕ) → function_named p (Some 0) (callee j) ≡ Some (number_of j)
  called j = by_callee (λ name k. function_named p (Some 0) name ≡ Some k) has.stray has.work j

  parameters_are : (j : ℕ) → parameters p (number_of j) ≡ the_parameters
  parameters_are j = by_callee (λ name k. parameters p k ≡ the_parameters) has.of_stray has.of_work j

  call_fits : (n row j : ℕ) → 3 * j + n < 2 ^ 64 → call_fault p (call_of n row j) ≡ None
  call_fits n row j less =
      ap (call_fault_by p (call_of n row j)) (called j)
      ∙ ap (λ (b : Bool). fault_unless b (fault SignatureDiffers source.Case row (callee j))) (ap (λ (xs : List Parameter). all_fit p xs (Number (pos (3 * j + n)) ∷ [])) (parameters_are j) ∙ fits (3 * j + n) less)

  calls_fit : (n row : ℕ) (js : List ℕ) → n ≤ 4096 → AreBelow n js → thread_fault p (calls_from n row js) ≡ None
  calls_fit n row [] few below = refl
  calls_fit n row (j ∷ js) few below =
      ap (λ o. option_or o (thread_fault p (calls_from n (row + 1) js))) (call_fits n row j (omega (arith, few, below.0))) ∙ calls_fit n (row + 1) js few below.1

  thread_fits : (n thread : ℕ) → n ≤ 4096 → thread_fault p (thread_calls n thread) ≡ None
  thread_fits n thread few = calls_fit n (first_row n thread) (numbers_in n thread) few (numbers_below n thread)

  threads_fit : (ts : List (List CaseCall)) → AllByRecursion (λ t. thread_fault p t ≡ None) ts → script_fault p ts ≡ None
  threads_fit [] h = refl
  threads_fit (t ∷ ts) h = ap (λ o. option_or o (script_fault p ts)) h.0 ∙ threads_fit ts h.1

  script_fits : (n : ℕ) → n ≤ 4096 → script_fault p (generated_case n).threads ≡ None
  script_fits n few = threads_fit (generated_case n).threads (thread_fits n 0 few, (thread_fits n 1 few, (thread_fits n 2 few, (thread_fits n 3 few, tt))))

-- the texts, with the lines of these modules
abbrev texts : Module → Module → Sources
texts a b = sources_of (host a) interface (named_modules generated_modules (guest b ∷ []))

no_text_fault : (a b : Module) → text_fault (texts a b) ≡ None
unfolding host guest
no_text_fault a b = refl

no_limit_fault : (a b : Module) → limit_fault (texts a b) ≡ None
unfolding host guest functions_of globals_end global_size
no_limit_fault a b = refl

program_has : (a b : Module) → Has (program_of (texts a b))
unfolding host guest functions_of
program_has a b = record { stray = refl; work = refl; of_stray = refl; of_work = refl }

fault_of : (text limit script : Option Fault) → text ≡ None → limit ≡ None → script ≡ None → option_or text (option_or limit script) ≡ None
fault_of text limit script t l s = ap (λ o. option_or o (option_or limit script)) t ∙ ap (λ o. option_or o script) l ∙ s

pub no_link_fault : (a b : Module) (n : ℕ) → n ≤ 4096 → link_fault (texts a b) (generated_case n) ≡ None
no_link_fault a b n few =
    fault_of (text_fault (texts a b)) (limit_fault (texts a b)) (script_fault (program_of (texts a b)) (generated_case n).threads)
    (no_text_fault a b) (no_limit_fault a b) (script_fits (program_of (texts a b)) (program_has a b) n few)
