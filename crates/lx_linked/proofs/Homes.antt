-- Each function by number is a native, the kernel's, or of a module of the program.
use Rattle.std.proofs.Common.{◌≡◌, ℕ, suc, ◌+◌, ◌≤◌, Bool, true, false, Some, None, List, [], ◌∷◌, ◌++◌, length, refl, ◌∙◌, arith}
use Rattle.std.specs.List.{list_all}
use Rattle.std.specs.Prelude.{nat_lt}
use Rattle.std.proofs.lemmas.Bool.{and_from}
use Rattle.std.proofs.lemmas.Bool.Decides.{nat_tests}
use Rattle.std.proofs.lemmas.List.Folds.{list_all-append}
use Rattle.lx_ir.specs.declared.module.Function.{Function}
use Rattle.lx_ir.specs.Lookup.{is_defined}
use Rattle.lx_model.specs.declared.program.Program.{Program}
use Rattle.lx_model.specs.declared.program.ProgramFunction.{ProgramFunction}
use Rattle.lx_model.specs.declared.program.ProgramFunction.TheVariants.{Of}
use Rattle.lx_model.specs.declared.program.ProgramModule.{ProgramModule}
use Rattle.lx_model.specs.Program.{Home}
use Rattle.lx_link_texts.specs.declared.sources.Sources.{Sources}
use Rattle.lx_link_texts.specs.Placing.{entries_from, entry_if, functions_of, module_entries, natives, program_of}
use Rattle.lx_run_laws.specs.Listed.{has_homes, is_of_program}

abbrev AllOf : Program → List ProgramFunction → Type 0
AllOf p xs = list_all (is_of_program p) xs ≡ true

joined : (p : Program) (xs ys : List ProgramFunction) → AllOf p xs → AllOf p ys → AllOf p (xs ++ ys)
joined p xs ys all more = list_all-append (is_of_program p) xs ys ∙ and_from (list_all (is_of_program p) xs) (list_all (is_of_program p) ys) all more

entry_of : (p : Program) (b : Bool) (x : ProgramFunction) → is_of_program p x ≡ true → AllOf p (entry_if b x)
entry_of p true x is = and_from (is_of_program p x) true is refl
entry_of p false x is = refl

entries_of : (p : Program) (home : Home) (k : ℕ) (fs : List Function) → ((f : ℕ) → is_of_program p (Of home f) ≡ true) → AllOf p (entries_from home k fs)
entries_of p home k [] is = refl
entries_of p home k (f ∷ fs) is =
    joined p (entry_if (is_defined f) (Of home k)) (entries_from home (k + 1) fs) (entry_of p (is_defined f) (Of home k) (is k)) (entries_of p home (k + 1) fs is)

first_below : (k n m : ℕ) → k + suc n ≤ m → nat_lt k m ≡ true
first_below k n m most = grind (arith, nat_tests, most)

modules_of : (p : Program) (k : ℕ) (ms : List ProgramModule) → k + length ms ≤ length p.modules → AllOf p (module_entries k ms)
modules_of p k [] most = refl
modules_of p k (m ∷ ms) most =
    joined p (entries_from (Some k) 0 m.«module».functions) (module_entries (k + 1) ms)
    (entries_of p (Some k) 0 m.«module».functions (λ f. first_below k (length ms) (length p.modules) most)) (modules_of p (k + 1) ms (omega (arith, most)))

pub homes : (s : Sources) → has_homes (program_of s) ≡ true
unfolding functions_of
homes s =
    let p = program_of s in
    joined p (natives ++ entries_from None 0 s.kernel.functions) (module_entries 0 s.modules)
    (joined p natives (entries_from None 0 s.kernel.functions) refl (entries_of p None 0 s.kernel.functions (λ f. refl))) (modules_of p 0 s.modules (omega arith))
