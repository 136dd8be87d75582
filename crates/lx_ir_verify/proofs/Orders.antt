-- Lemmas on the order of passes.
use Rattle.std.proofs.Common.{◌≡◌, Option, Some, None, sym, subst}
use Rattle.std.specs.Prelude.{Result, Ok, Err}
use Rattle.lx_ir.specs.declared.module.Function.{Function}
use Rattle.lx_ir.specs.declared.module.Module.{Module}
use Rattle.lx_ir.specs.Faults.{Fault, FirstOrUnassigned, FunctionFault, FirstOfFunctions, FirstBehind, FirstFault, earlier_fault, first_some, global_fault}
use Rattle.lx_ir_verify.specs.declared.fault.VerifyFault.{VerifyFault}
use Rattle.lx_ir_verify.specs.declared.fault.VerifyFault.TheVariants.{TypeDiffers, NoSuchLabel, NotAssigned, PhiEdges, NoTerminator, Memory}
use Rattle.lx_ir_verify.specs.Shown.{IsAnswer, Gives, IsOneOf, Answers}

-- a fault that is known
pub one_of : (P : Option Fault → Type 0) (x : Option Fault) (e : VerifyFault) → P x → IsAnswer x e → IsOneOf P e
one_of P x (TypeDiffers line what) p h = subst P h p
one_of P x (NoSuchLabel line what) p h = subst P h p
one_of P x (NotAssigned line what) p h = subst P h p
one_of P x (PhiEdges line what) p h = subst P h p
one_of P x (NoTerminator line what) p h = subst P h p
one_of P x Memory p h = tt

pub of_one : {T : Type 0} (P : Option Fault → Type 0) (x : Option Fault) (r : Result T VerifyFault) → P x → Gives x r → Answers P r
of_one P x (Ok v) p h = subst P h p
of_one P x (Err e) p h = one_of P x e p h

earlier_by : (m : Module) (f : Function) (x : Option Fault) (e : VerifyFault) → IsAnswer x e → IsOneOf (FirstOrUnassigned x f) e
earlier_by m f None (TypeDiffers line what) h = cc
earlier_by m f None (NoSuchLabel line what) h = cc
earlier_by m f None (NotAssigned line what) h = cc
earlier_by m f None (PhiEdges line what) h = cc
earlier_by m f None (NoTerminator line what) h = cc
earlier_by m f None Memory h = tt
earlier_by m f (Some x) (TypeDiffers line what) h = sym h
earlier_by m f (Some x) (NoSuchLabel line what) h = sym h
earlier_by m f (Some x) (NotAssigned line what) h = sym h
earlier_by m f (Some x) (PhiEdges line what) h = sym h
earlier_by m f (Some x) (NoTerminator line what) h = sym h
earlier_by m f (Some x) Memory h = tt

-- a fault of the first four passes
pub earlier : (m : Module) (f : Function) (e : VerifyFault) → IsAnswer (earlier_fault m f) e → IsOneOf (FunctionFault m f) e
earlier m f e h = earlier_by m f (earlier_fault m f) e h

behind_by : (m : Module) (x : Option Fault) (e : VerifyFault) → IsAnswer x e → IsOneOf (FirstBehind x m) e
behind_by m None (TypeDiffers line what) h = cc
behind_by m None (NoSuchLabel line what) h = cc
behind_by m None (NotAssigned line what) h = cc
behind_by m None (PhiEdges line what) h = cc
behind_by m None (NoTerminator line what) h = cc
behind_by m None Memory h = tt
behind_by m (Some x) (TypeDiffers line what) h = sym h
behind_by m (Some x) (NoSuchLabel line what) h = sym h
behind_by m (Some x) (NotAssigned line what) h = sym h
behind_by m (Some x) (PhiEdges line what) h = sym h
behind_by m (Some x) (NoTerminator line what) h = sym h
behind_by m (Some x) Memory h = tt

-- a fault of a global
pub of_global : (m : Module) (e : VerifyFault) → IsAnswer (first_some (global_fault m) m.globals) e → IsOneOf (FirstFault m) e
of_global m e h = behind_by m (first_some (global_fault m) m.globals) e h

-- without one, those of functions
pub behind_globals : (m : Module) → first_some (global_fault m) m.globals ≡ None → (r : Option Fault) → FirstOfFunctions m m.functions r → FirstFault m r
behind_globals m h r g = subst (λ x. FirstBehind x m r) (sym h) g
