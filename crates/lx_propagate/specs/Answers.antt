-- What is answered, and what the definitions say.
use Rattle.std.specs.Prelude.{◌≡◌, Option, Some, None, List, Result, MatchResult, ⊤}
use Rattle.lx_ir.specs.declared.module.Module.{Module}
use Rattle.lx_annot.specs.declared.interface.Interface.{Interface}
use Rattle.lx_slot_types.specs.declared.Marked.{Marked}
use Rattle.lx_propagate.specs.declared.fault.PropagateFault.{PropagateFault}
use Rattle.lx_propagate.specs.declared.fault.PropagateFault.TheVariants as fault
use Rattle.lx_propagate.specs.Slots.{Conflict, annotated_of, conflict_of}

-- the fault is this conflict; want of memory may come in the place of any answer
abbrev pub IsAnswer : Option Conflict → PropagateFault → Type 0
IsAnswer x (fault.Conflict line function first second) = x ≡ Some (record { line = line; function = function; first = first; second = second })
IsAnswer x fault.Memory = ⊤

-- without a conflict the answer is each function with its slot type, and else the first conflict
abbrev pub Propagates : Interface → Module → Result (List Marked) PropagateFault → Type 0
Propagates i m r = MatchResult r (λ marks. (conflict_of i m ≡ None) × (marks ≡ annotated_of i m)) (IsAnswer (conflict_of i m))

-- The same, where want of memory has this reason.

abbrev pub IsAnswerOr : Type 0 → Option Conflict → PropagateFault → Type 0
IsAnswerOr want x (fault.Conflict line function first second) = IsAnswer x (fault.Conflict line function first second)
IsAnswerOr want x fault.Memory = want

abbrev pub GivesOr : {T : Type 0} → Type 0 → Option Conflict → Result T PropagateFault → Type 0
GivesOr want x r = MatchResult r (λ _. x ≡ None) (IsAnswerOr want x)

abbrev pub PropagatesOr : Type 0 → Interface → Module → Result (List Marked) PropagateFault → Type 0
PropagatesOr want i m r = MatchResult r (λ marks. (conflict_of i m ≡ None) × (marks ≡ annotated_of i m)) (IsAnswerOr want (conflict_of i m))
