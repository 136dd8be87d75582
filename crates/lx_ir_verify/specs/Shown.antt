-- The faults that are answered, and those of the definitions.
use Rattle.std.specs.Prelude.{◌≡◌, ℕ, List, Option, Some, None, Result, MatchResult, ⊤}
use Rattle.lx_ir.specs.declared.module.Function.{Function}
use Rattle.lx_ir.specs.Faults.{Fault, fault_unless, has_block}
use Rattle.lx_ir.specs.Faults as fault
use Rattle.lx_ir_verify.specs.declared.fault.VerifyFault.{VerifyFault}
use Rattle.lx_ir_verify.specs.declared.fault.VerifyFault.TheVariants.{TypeDiffers, NoSuchLabel, NotAssigned, PhiEdges, NoTerminator, Memory}

-- the fault is this one; want of memory may come in the place of any answer
abbrev pub IsAnswer : Option Fault → VerifyFault → Type 0
IsAnswer x (TypeDiffers line what) = x ≡ Some (fault.TypeDiffers line what)
IsAnswer x (NoSuchLabel line what) = x ≡ Some (fault.NoSuchLabel line what)
IsAnswer x (NotAssigned line what) = x ≡ Some (fault.NotAssigned line what)
IsAnswer x (PhiEdges line what) = x ≡ Some (fault.PhiEdges line what)
IsAnswer x (NoTerminator line what) = x ≡ Some (fault.NoTerminator line what)
IsAnswer x Memory = ⊤

-- the fault is one that comes in a module; want of memory may come in the place of any answer
abbrev pub IsOneOf : (Option Fault → Type 0) → VerifyFault → Type 0
IsOneOf P (TypeDiffers line what) = P (Some (fault.TypeDiffers line what))
IsOneOf P (NoSuchLabel line what) = P (Some (fault.NoSuchLabel line what))
IsOneOf P (NotAssigned line what) = P (Some (fault.NotAssigned line what))
IsOneOf P (PhiEdges line what) = P (Some (fault.PhiEdges line what))
IsOneOf P (NoTerminator line what) = P (Some (fault.NoTerminator line what))
IsOneOf P Memory = ⊤

-- a pass goes on where no fault comes first, and answers the fault that comes first
abbrev pub Answers : {T : Type 0} → (Option Fault → Type 0) → Result T VerifyFault → Type 0
Answers P r = MatchResult r (λ _. P None) (IsOneOf P)

-- a pass goes on exactly where there is no fault, and answers the fault that there is
abbrev pub Gives : {T : Type 0} → Option Fault → Result T VerifyFault → Type 0
Gives x r = MatchResult r (λ _. x ≡ None) (IsAnswer x)

-- fault 2, if the function lacks a label of an instruction on this line
abbrev pub missing_fault : Function → ℕ → List ℕ → Option Fault
missing_fault f line label = fault_unless (has_block f label) (fault.NoSuchLabel line label)
