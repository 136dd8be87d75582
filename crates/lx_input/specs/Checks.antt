-- Checks of texts that were read, each in its turn. Any of them may come to want of memory.
use Rattle.std.specs.Prelude.{◌≡◌, ℕ, List, ◌∷◌, Some, None, Result, Ok, Err}
use Rattle.lx_ir.specs.declared.module.Module.{Module}
use Rattle.lx_ir.specs.Faults.{Fault, FirstFault}
use Rattle.lx_annot.specs.declared.interface.Interface.{Interface}
use Rattle.lx_propagate.specs.Slots.{Conflict, conflict_of}
use Rattle.lx_script.specs.declared.case.CaseModule.{CaseModule}
use Rattle.lx_files.specs.declared.stop.InputStop.{InputStop}
use Rattle.lx_files.specs.declared.stop.InputStop.TheVariants as stops
use Rattle.lx_files.specs.Turns.{Then, Gives}
use Rattle.lx_input.specs.Lines.{verify_line, conflict_line}

-- a check that is passed tells nothing more
abbrev pub Passed : Type 0
Passed = Unit {0}

-- a module of this file is verified: it has no fault, or the line is about its first
abbrev pub VerifyTurn : {A : Type 0} → List ℕ → Module → Result A InputStop → Type 0
VerifyTurn file m (Ok x) = FirstFault m None
VerifyTurn file m (Err (stops.Fault f)) = (x : Fault) × FirstFault m (Some x) × (f ≡ verify_line file x)
VerifyTurn file m (Err (stops.Unread name)) = ⊥
VerifyTurn file m (Err stops.Memory) = Unit {0}

-- the functions of a module of this file get slot types that agree, or the line is about the first that does not
abbrev pub PropagateTurn : {A : Type 0} → Interface → List ℕ → Module → Result A InputStop → Type 0
PropagateTurn i file m (Ok x) = conflict_of i m ≡ None
PropagateTurn i file m (Err (stops.Fault f)) = (x : Conflict) × (conflict_of i m ≡ Some x) × (f ≡ conflict_line file x)
PropagateTurn i file m (Err (stops.Unread name)) = ⊥
PropagateTurn i file m (Err stops.Memory) = Unit {0}

-- whether a check was passed, where it gives something
abbrev pub passed : {A : Type 0} → Result A InputStop → Result Passed InputStop
passed (Ok x) = Ok tt
passed (Err e) = Err e

-- each module in the order of the case
abbrev pub EachModule : (List ℕ → Module → Result Passed InputStop → Type 0) → List CaseModule → List Module → Result Passed InputStop → Type 0
EachModule turn (n ∷ ns) (m ∷ ms) answer = Then (turn n.file m) (λ _. EachModule turn ns ms) answer
EachModule turn _ _ answer = Gives tt answer
