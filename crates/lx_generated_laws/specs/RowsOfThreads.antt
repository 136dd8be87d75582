-- Worked rows of two threads: a packet that one thread gives back between the other's two stores.
use Rattle.lx_annot.specs.Action as action
use Rattle.lx_annot.specs.Expr as expr
use Rattle.lx_annot.specs.declared.action.CapSpec.TheVariants as spec
use Rattle.lx_annot.specs.declared.expr.Ty.TheVariants as ty
use Rattle.lx_annot.specs.declared.interface.Interface.{Interface}
use Rattle.lx_caps.specs.declared.Cap.TheVariants as caps
use Rattle.lx_caps.specs.declared.Principal.TheVariants.{Shared}
use Rattle.lx_generated_laws.specs.Accounts.{GivesAccount, asked, events, ended, shared, calls_at, image, plain_account}
use Rattle.lx_generated_laws.specs.InterfaceTexts.{parameter, annotated, export}
use Rattle.lx_generated_laws.specs.Programs.{over}
use Rattle.lx_generated_laws.specs.RowTexts.{i64, reg, n64, the_global, to_nothing, line, arg, call, param, block, define, declare, global, of_functions}
use Rattle.lx_generated_laws.specs.RowTexts.{no_interface}
use Rattle.lx_ir.specs.Init.{Plain}
use Rattle.lx_ir.specs.IrType.{One}
use Rattle.lx_ir.specs.declared.instr.Op.TheVariants as op
use Rattle.lx_ir.specs.declared.module.Module.{Module}
use Rattle.lx_ir.specs.declared.types.Scalar.TheVariants.{Ptr}
use Rattle.lx_model.specs.declared.account.Account.{Account}
use Rattle.lx_model.specs.declared.program.Program.{Program}
use Rattle.lx_model.specs.declared.program.ProgramFunction.TheVariants.{Of}
use Rattle.lx_model.specs.declared.program.ScriptCall.{ScriptCall}
use Rattle.lx_model.specs.declared.request.Outcome.TheVariants.{Returned, Refused}
use Rattle.lx_model.specs.declared.request.Outcome.{Outcome}
use Rattle.lx_model.specs.declared.request.Refusal.TheVariants as refusal
use Rattle.std.specs.Prelude.{ℕ, Some, None, List, [], ◌∷◌, ◌++◌, codes}

abbrev pub kernel : Module
kernel =
    of_functions
    (declare (codes "k.alloc") (param [] i64 ∷ []) (Some Ptr)
    ∷ declare (codes "k.free") (param [] Ptr ∷ []) None
    ∷ define (codes "get") (param (codes "n") i64 ∷ []) (codes "p" ∷ []) (Some Ptr)
    (block (codes "0") (call (Some 1) (Some Ptr) 0 (arg i64 (reg 0) ∷ []) ∷ line (op.Ret (Some (arg Ptr (reg 1)))) ∷ []) ∷ [])
    ∷ define (codes "put") (param (codes "p") Ptr ∷ []) [] None
    (block (codes "0") (call None None 1 (arg Ptr (reg 0) ∷ []) ∷ line (op.Ret None) ∷ []) ∷ [])
    ∷ [])

abbrev pub interface : Interface
interface =
    record no_interface {
      exports =
          export (codes "get") (parameter (codes "n") ty.I64 ∷ []) ty.Ptr (annotated None [] (action.Transfer (spec.Write (expr.Return ty.Ptr) (expr.Param 0 ty.I64)) ∷ [])) 2
          ∷ export (codes "put") (parameter (codes "p") ty.Ptr ∷ []) ty.Void (annotated None (action.Transfer (spec.Write (expr.Param 0 ty.Ptr) (expr.Number 8)) ∷ []) []) 3
          ∷ [];
    }

abbrev pub user : Module
user =
    record {
      types = [];
      globals = global (codes "box") (One Ptr) (Plain to_nothing) ∷ [];
      functions =
          declare (codes "get") (param [] i64 ∷ []) (Some Ptr)
          ∷ declare (codes "put") (param [] Ptr ∷ []) None
          ∷ define (codes "make") [] (codes "p" ∷ []) None
          (block (codes "0") (
          call (Some 0) (Some Ptr) 0 (arg i64 (n64 8) ∷ [])
          ∷ line (op.Store Ptr (reg 0) (the_global 0)) ∷ line (op.Ret None) ∷ []) ∷ [])
          ∷ define (codes "drop") [] (codes "p" ∷ []) None
          (block (codes "0") (
          line (op.Load 0 Ptr (the_global 0))
          ∷ call None None 1 (arg Ptr (reg 0) ∷ []) ∷ line (op.Ret None) ∷ []) ∷ [])
          ∷ define (codes "poke") [] (codes "p" ∷ []) None
          (block (codes "0") (
          line (op.Load 0 Ptr (the_global 0))
          ∷ line (op.Store i64 (n64 5) (reg 0)) ∷ line (op.Store i64 (n64 6) (reg 0)) ∷ line (op.Ret None) ∷ []) ∷ [])
          ∷ [];
    }

abbrev pub program : Program
program = over (record { kernel = kernel; functions = Of None 2 ∷ Of None 3 ∷ []; globals = []; interface = interface }) user (2 ∷ 3 ∷ 4 ∷ []) (0x1000000 ∷ [])

abbrev pub script : List (List ScriptCall)
script = (asked 8 [] ∷ asked 9 [] ∷ []) ∷ (asked 10 [] ∷ []) ∷ []

abbrev pub between : List ℕ
between = events 0 8 ++ events 1 3 ++ events 0 4 ++ events 1 1 ++ events 0 4

abbrev pub before : List ℕ
before = events 0 8 ++ events 1 6 ++ events 0 8

abbrev pub told : List ℕ → Outcome → Account
told schedule poked =
    plain_account schedule (ended 0 8 (Returned None) ∷ ended 0 9 (Returned None) ∷ ended 1 10 poked ∷ []) (image 3 0 2)
    (shared (caps.Write 0x1000000 8) ∷ calls_at (0x10060 ∷ 0x10070 ∷ 0x10080 ∷ 0x10090 ∷ 0x100a0 ∷ []))

pub record WorkedThreads : Type 0 where
  pub refused : GivesAccount program script (told between (Refused (refusal.Write (Shared 0) 0x2000000 8)))
  pub returned : GivesAccount program script (told before (Returned None))
