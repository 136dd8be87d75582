-- References that are handed out on a condition.
use Rattle.lx_annot.specs.Action as action
use Rattle.lx_annot.specs.Expr as expr
use Rattle.lx_annot.specs.declared.action.CapSpec.TheVariants as spec
use Rattle.lx_annot.specs.declared.expr.Mark.TheVariants as mark
use Rattle.lx_annot.specs.declared.expr.Ty.TheVariants as ty
use Rattle.lx_annot.specs.declared.interface.Interface.{Interface}
use Rattle.lx_caps.specs.declared.Cap.TheVariants as caps
use Rattle.lx_caps.specs.declared.Principal.TheVariants.{Shared}
use Rattle.lx_generated_laws.specs.Accounts.{GivesAccount, asked, events, ended, shared, calls_at, image, plain_account}
use Rattle.lx_generated_laws.specs.InterfaceTexts.{parameter, annotated, export}
use Rattle.lx_generated_laws.specs.Programs.{Base, over}
use Rattle.lx_generated_laws.specs.RowTexts.{i64, reg, line, arg, call, param, block, define, declare, of_functions}
use Rattle.lx_ir.specs.declared.instr.Conversion.TheVariants as convert
use Rattle.lx_ir.specs.declared.instr.Op.TheVariants as op
use Rattle.lx_ir.specs.declared.module.Module.{Module}
use Rattle.lx_ir.specs.declared.types.Scalar.TheVariants.{Ptr}
use Rattle.lx_model.specs.declared.program.ProgramFunction.TheVariants.{Of}
use Rattle.lx_model.specs.declared.request.Outcome.TheVariants.{Returned, Refused}
use Rattle.lx_model.specs.declared.request.Refusal.TheVariants as refusal
use Rattle.lx_words.specs.Word.{word}
use Rattle.lx_words.specs.declared.word.Width.TheVariants.{W64}
use Rattle.std.specs.Prelude.{Some, None, [], ◌∷◌, ◌++◌, codes}

abbrev pub own_kernel : Module
own_kernel =
    of_functions
    (define (codes "open") (param (codes "n") i64 ∷ []) (codes "p" ∷ []) (Some Ptr)
    (block (codes "0") (line (op.Convert 1 convert.IntToPtr i64 (reg 0) Ptr) ∷ line (op.Ret (Some (arg Ptr (reg 1)))) ∷ []) ∷ [])
    ∷ define (codes "use") (param (codes "p") Ptr ∷ []) [] None
    (block (codes "0") (line (op.Ret None) ∷ []) ∷ [])
    ∷ [])

abbrev pub own_interface : Interface
own_interface =
    record {
      reftypes = codes "file" ∷ [];
      iterators = [];
      slots = [];
      fields = [];
      exports =
          export (codes "open") (parameter (codes "n") ty.I64 ∷ []) ty.Ptr
          (annotated None [] (action.If (expr.Binary mark.Less (expr.Param 0 ty.I64) (expr.Number 4)) (action.Copy (spec.Ref 0 (expr.Return ty.Ptr))) ∷ [])) 3
          ∷ export (codes "use") (parameter (codes "p") ty.Ptr ∷ []) ty.Void (annotated None (action.Check (spec.Ref 0 (expr.Param 0 ty.Ptr)) ∷ []) []) 4
          ∷ [];
    }

abbrev pub own_base : Base
own_base = record { kernel = own_kernel; functions = Of None 0 ∷ Of None 1 ∷ []; globals = []; interface = own_interface }

abbrev pub the_module : Module
the_module =
    of_functions
    (declare (codes "open") (param [] i64 ∷ []) (Some Ptr)
    ∷ declare (codes "use") (param [] Ptr ∷ []) None
    ∷ define (codes "main") (param (codes "n") i64 ∷ []) (codes "p" ∷ []) None
    (block (codes "0") (call (Some 1) (Some Ptr) 0 (arg i64 (reg 0) ∷ []) ∷ call None None 1 (arg Ptr (reg 1) ∷ []) ∷ line (op.Ret None) ∷ []) ∷ [])
    ∷ [])

abbrev pub References : Type 0
References =
    GivesAccount (over own_base the_module (2 ∷ []) [])
    ((asked 8 (word W64 3 ∷ []) ∷ asked 8 (word W64 5 ∷ []) ∷ asked 8 (word W64 18446744073709551615 ∷ []) ∷ []) ∷ [])
    (plain_account (events 0 24) (ended 0 8 (Returned None) ∷ ended 0 8 (Refused (refusal.Ref (Shared 0) 0 5)) ∷ ended 0 8 (Returned None) ∷ [])
    (image 0 0 2) (calls_at (0x10060 ∷ 0x10070 ∷ 0x10080 ∷ []) ++ shared (caps.Ref 0 0x3) ∷ shared (caps.Ref 0 0xffffffffffffffff) ∷ []))
