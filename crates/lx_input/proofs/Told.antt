-- What the checks answer is told as it is found.
use Rattle.std.proofs.Common.{◌≡◌, ℕ, List, Some, Err}
use Rattle.lx_ir.specs.declared.module.Module.{Module}
use Rattle.lx_ir.specs.Faults.{Fault, FirstFault}
use Rattle.lx_ir.specs.Faults as finds
use Rattle.lx_ir_verify.specs.declared.fault.VerifyFault.{VerifyFault}
use Rattle.lx_ir_verify.specs.declared.fault.VerifyFault.TheVariants as verifies
use Rattle.lx_ir_verify.specs.Shown.{IsOneOf}
use Rattle.lx_annot.specs.declared.interface.Interface.{Interface}
use Rattle.lx_slot_types.specs.declared.Marked.{Marked}
use Rattle.lx_propagate.specs.Slots.{Conflict, conflict_of}
use Rattle.lx_propagate.specs.declared.fault.PropagateFault.{PropagateFault}
use Rattle.lx_propagate.specs.declared.fault.PropagateFault.TheVariants as propagates
use Rattle.lx_propagate.specs.Answers.{IsAnswer}
use Rattle.lx_files.specs.declared.line.FaultLine.{FaultLine}
use Rattle.lx_files.specs.declared.stop.InputStop.{InputStop}
use Rattle.lx_files.specs.declared.stop.InputStop.TheVariants as stops
use Rattle.lx_files.specs.Faults.{IsTold}
use Rattle.lx_input.specs.Lines.{verify_line, verify_answer, conflict_line, propagate_answer}
use Rattle.lx_input.specs.Checks.{VerifyTurn, PropagateTurn}

-- the line of an answer is that of the fault

verify_fault : (file : List ℕ) (m : Module) (e : VerifyFault) (f : FaultLine) → IsOneOf (FirstFault m) e → verify_answer file e ≡ Some f → (x : Fault) × FirstFault m (Some x) × (f ≡ verify_line file x)
verify_fault file m verifies.Memory f is told = absurd (cc)
verify_fault file m (verifies.TypeDiffers line what) f is told = (finds.TypeDiffers line what, is, cc)
verify_fault file m (verifies.NoSuchLabel line what) f is told = (finds.NoSuchLabel line what, is, cc)
verify_fault file m (verifies.NotAssigned line what) f is told = (finds.NotAssigned line what, is, cc)
verify_fault file m (verifies.PhiEdges line what) f is told = (finds.PhiEdges line what, is, cc)
verify_fault file m (verifies.NoTerminator line what) f is told = (finds.NoTerminator line what, is, cc)

pub verify_told : (file : List ℕ) (m : Module) (e : VerifyFault) (s : InputStop) → IsOneOf (FirstFault m) e → IsTold (verify_answer file e) s → VerifyTurn {A = Module} file m (Err s)
verify_told file m e stops.Memory is told = tt
verify_told file m e (stops.Fault f) is told = verify_fault file m e f is told
verify_told file m e (stops.Unread name) is told = absurd told

propagate_fault : (i : Interface) (file : List ℕ) (m : Module) (e : PropagateFault) (f : FaultLine) → IsAnswer (conflict_of i m) e → propagate_answer file e ≡ Some f
    → (x : Conflict) × (conflict_of i m ≡ Some x) × (f ≡ conflict_line file x)
propagate_fault i file m propagates.Memory f is told = absurd (cc)
propagate_fault i file m (propagates.Conflict line function first second) f is told =
    (record { line = line; function = function; first = first; second = second }, is, cc)

pub propagate_told : (i : Interface) (file : List ℕ) (m : Module) (e : PropagateFault) (s : InputStop) → IsAnswer (conflict_of i m) e → IsTold (propagate_answer file e) s
    → PropagateTurn {A = List Marked} i file m (Err s)
propagate_told i file m e stops.Memory is told = tt
propagate_told i file m e (stops.Fault f) is told = propagate_fault i file m e f is told
propagate_told i file m e (stops.Unread name) is told = absurd told
