-- Modules without conflicting slot types.
use Rattle.std.proofs.Common.{◌≡◌, zero, suc, List, [], ◌∷◌, length, Ok, Err, arith}
use Rattle.std.specs.Prelude.{All}
use Rattle.lx_ir.specs.declared.module.Module.{Module}
use Rattle.lx_annot.specs.declared.interface.Interface.{Interface}
use Rattle.lx_script.specs.declared.case.CaseModule.{CaseModule}
use Rattle.lx_model.specs.declared.program.ProgramModule.{ProgramModule}
use Rattle.lx_link.specs.Answers.{named_modules}
use Rattle.lx_input.specs.Checks.{EachModule, PropagateTurn}
use Rattle.lx_input.specs.Laws.{HasNoConflict}

-- where each has passed its turn
pub all_agree : (i : Interface) (ns : List CaseModule) (ms : List Module) → length ms ≡ length ns → EachModule (PropagateTurn i) ns ms (Ok tt) → All (HasNoConflict i) ms
all_agree i [] [] as_many h k d below = absurd (omega (arith, below))
all_agree i (n ∷ ns) [] as_many h k d below = absurd (omega (arith, below))
all_agree i [] (m ∷ ms) as_many h k d below = absurd (omega (arith, as_many))
all_agree i (n ∷ ns) (m ∷ ms) as_many (Err e, t, goes) k d below = absurd (cc goes)
all_agree i (n ∷ ns) (m ∷ ms) as_many (Ok x, t, goes) zero d below = t
all_agree i (n ∷ ns) (m ∷ ms) as_many (Ok x, t, goes) (suc k) d below = all_agree i ns ms (omega (arith, as_many)) goes k d (omega (arith, below))

-- the same modules with their names
pub all_named : (i : Interface) (ns : List CaseModule) (ms : List Module) → All (HasNoConflict i) ms → All (λ (m : ProgramModule). HasNoConflict i m.«module») (named_modules ns ms)
all_named i [] [] h k d below = absurd (omega (arith, below))
all_named i (n ∷ ns) [] h k d below = absurd (omega (arith, below))
all_named i [] (m ∷ ms) h k d below = absurd (omega (arith, below))
all_named i (n ∷ ns) (m ∷ ms) h zero d below = h zero m (omega arith)
all_named i (n ∷ ns) (m ∷ ms) h (suc k) d below = all_named i ns ms (λ j e l. h (suc j) e (omega (arith, l))) k d (omega (arith, below))
