-- The built-in kernel and interface.
use Rattle.std.specs.Prelude.{Some, None, [], ◌∷◌, codes}
use Rattle.lx_words.specs.declared.word.Width.TheVariants.{W8, W32, W64}
use Rattle.lx_words.specs.declared.word.BinOp.TheVariants as binop
use Rattle.lx_words.specs.declared.word.Pred.TheVariants as pred
use Rattle.lx_words.specs.Word.{word}
use Rattle.lx_ir.specs.declared.types.Scalar.TheVariants.{Int, Ptr}
use Rattle.lx_ir.specs.declared.module.Blank.TheVariants.{Zero}
use Rattle.lx_ir.specs.declared.module.Symbol.TheVariants as symbol
use Rattle.lx_ir.specs.declared.module.Pointer.TheVariants as pointer
use Rattle.lx_ir.specs.declared.module.Constant.TheVariants as constant
use Rattle.lx_ir.specs.declared.module.Value.TheVariants as value
use Rattle.lx_ir.specs.declared.module.Module.{Module}
use Rattle.lx_ir.specs.declared.instr.Callee.TheVariants as callee
use Rattle.lx_ir.specs.declared.instr.Op.TheVariants as op
use Rattle.lx_ir.specs.IrType.{One, Array, Struct, Named, none, also}
use Rattle.lx_ir.specs.Init.{Plain, Empty}
use Rattle.lx_generated_laws.specs.RowTexts.{i32, i64, reg, line, arg, block, define, declare, global, param}
use Rattle.lx_generated_laws.specs.InterfaceTexts.{parameter, annotated, slot, export, field}
use Rattle.lx_annot.specs.declared.expr.Ty.TheVariants as ty
use Rattle.lx_annot.specs.declared.expr.Mark.TheVariants as mark
use Rattle.lx_annot.specs.declared.action.CapSpec.TheVariants as spec
use Rattle.lx_annot.specs.declared.action.Who.TheVariants as who
use Rattle.lx_annot.specs.declared.interface.Interface.{Interface}
use Rattle.lx_annot.specs.Action as action
use Rattle.lx_annot.specs.Expr as expr

abbrev pub kernel : Module
kernel =
    record {
      types = (record { name = (codes "struct.device"); ty = (Struct (also (One Ptr) (also (One i64) (also (One Ptr) none)))) } ∷ record { name = (codes "struct.dev_ops"); ty = (Struct (also (One Ptr) (also (One Ptr) none))) } ∷ []);
      globals = (global (codes "lock") (One i32) (Plain (constant.Number (word W32 0))) ∷ global (codes "ndevs") (One i64) (Plain (constant.Number (word W64 0))) ∷ global (codes "devs") (Array 8 (Named 0)) (Empty Zero) ∷ []);
      functions =
          declare (codes "k.alloc") (param [] i64 ∷ []) (Some Ptr)
          ∷ declare (codes "k.free") (param [] Ptr ∷ []) None
          ∷ declare (codes "k.zero") (param [] Ptr ∷ param [] i64 ∷ []) None
          ∷ declare (codes "k.try_lock") (param [] Ptr ∷ []) (Some i32)
          ∷ declare (codes "k.note") (param [] i64 ∷ []) None
          ∷ declare (codes "k.slot.probe") (param [] Ptr ∷ param [] Ptr ∷ []) (Some i32)
          ∷ declare (codes "k.slot.xmit") (param [] Ptr ∷ param [] Ptr ∷ param [] Ptr ∷ []) (Some i32)
          ∷ define (codes "kmalloc") (param (codes "n") i64 ∷ []) ((codes "d") ∷ (codes "ok") ∷ (codes "m") ∷ (codes "p") ∷ (codes "z") ∷ (codes "u") ∷ []) (Some Ptr) (block (codes "a") (line (op.Binary 1 binop.Sub i64 (reg 0) (value.Constant (constant.Number (word W64 1)))) ∷ line (op.Compare 2 pred.Ult i64 (reg 1) (value.Constant (constant.Number (word W64 1048560)))) ∷ line (op.Branch (reg 2) (codes "b") (codes "none")) ∷ []) ∷ block (codes "b") (line (op.Binary 3 binop.Add i64 (reg 0) (value.Constant (constant.Number (word W64 16)))) ∷ line (op.Call (Some 4) (Some Ptr) (callee.Symbol (symbol.Function 0)) (arg i64 (reg 3) ∷ [])) ∷ line (op.Compare 5 pred.Eq Ptr (reg 4) (value.Constant (constant.Pointer pointer.Null))) ∷ line (op.Branch (reg 5) (codes "none") (codes "c")) ∷ []) ∷ block (codes "c") (line (op.Store i64 (reg 0) (reg 4)) ∷ line (op.GetElementPtr 6 (One (Int W8)) (reg 4) (arg i64 (value.Constant (constant.Number (word W64 16))) ∷ [])) ∷ line (op.Ret (Some (arg Ptr (reg 6)))) ∷ []) ∷ block (codes "none") (line (op.Ret (Some (arg Ptr (value.Constant (constant.Pointer pointer.Null))))) ∷ []) ∷ [])
          ∷ define (codes "kzalloc") (param (codes "n") i64 ∷ []) ((codes "p") ∷ (codes "z") ∷ []) (Some Ptr) (block (codes "a") (line (op.Call (Some 1) (Some Ptr) (callee.Symbol (symbol.Function 7)) (arg i64 (reg 0) ∷ [])) ∷ line (op.Compare 2 pred.Eq Ptr (reg 1) (value.Constant (constant.Pointer pointer.Null))) ∷ line (op.Branch (reg 2) (codes "c") (codes "b")) ∷ []) ∷ block (codes "b") (line (op.Call None None (callee.Symbol (symbol.Function 2)) (arg Ptr (reg 1) ∷ arg i64 (reg 0) ∷ [])) ∷ line (op.Jump (codes "c")) ∷ []) ∷ block (codes "c") (line (op.Ret (Some (arg Ptr (reg 1)))) ∷ []) ∷ [])
          ∷ define (codes "kfree") (param (codes "p") Ptr ∷ []) ((codes "z") ∷ (codes "h") ∷ []) None (block (codes "a") (line (op.Compare 1 pred.Eq Ptr (reg 0) (value.Constant (constant.Pointer pointer.Null))) ∷ line (op.Branch (reg 1) (codes "c") (codes "b")) ∷ []) ∷ block (codes "b") (line (op.GetElementPtr 2 (One (Int W8)) (reg 0) (arg i64 (value.Constant (constant.Number (word W64 18446744073709551600))) ∷ [])) ∷ line (op.Call None None (callee.Symbol (symbol.Function 1)) (arg Ptr (reg 2) ∷ [])) ∷ line (op.Jump (codes "c")) ∷ []) ∷ block (codes "c") (line (op.Ret None) ∷ []) ∷ [])
          ∷ define (codes "dev_register") (param (codes "ops") Ptr ∷ []) ((codes "g") ∷ (codes "t") ∷ (codes "n") ∷ (codes "f") ∷ (codes "dv") ∷ (codes "ip") ∷ (codes "n1") ∷ (codes "r") ∷ []) (Some Ptr) (block (codes "a") (line (op.Jump (codes "l")) ∷ []) ∷ block (codes "l") (line (op.Call (Some 1) (Some i32) (callee.Symbol (symbol.Function 3)) (arg Ptr (value.Constant (constant.Pointer (pointer.Symbol (symbol.Global 0) 0))) ∷ [])) ∷ line (op.Compare 2 pred.Eq i32 (reg 1) (value.Constant (constant.Number (word W32 0)))) ∷ line (op.Branch (reg 2) (codes "l") (codes "b")) ∷ []) ∷ block (codes "b") (line (op.Load 3 i64 (value.Constant (constant.Pointer (pointer.Symbol (symbol.Global 1) 0)))) ∷ line (op.Compare 4 pred.Ult i64 (reg 3) (value.Constant (constant.Number (word W64 8)))) ∷ line (op.Branch (reg 4) (codes "c") (codes "e")) ∷ []) ∷ block (codes "c") (line (op.GetElementPtr 5 (Named 0) (value.Constant (constant.Pointer (pointer.Symbol (symbol.Global 2) 0))) (arg i64 (reg 3) ∷ [])) ∷ line (op.Store Ptr (reg 0) (reg 5)) ∷ line (op.GetElementPtr 6 (Named 0) (reg 5) (arg i64 (value.Constant (constant.Number (word W64 0))) ∷ arg i32 (value.Constant (constant.Number (word W32 1))) ∷ [])) ∷ line (op.Store i64 (reg 3) (reg 6)) ∷ line (op.Binary 7 binop.Add i64 (reg 3) (value.Constant (constant.Number (word W64 1)))) ∷ line (op.Store i64 (reg 7) (value.Constant (constant.Pointer (pointer.Symbol (symbol.Global 1) 0)))) ∷ line (op.Jump (codes "e")) ∷ []) ∷ block (codes "e") (line (op.Phi 8 Ptr (record { value = (value.Constant (constant.Pointer pointer.Null)); label = (codes "b") } ∷ record { value = (reg 5); label = (codes "c") } ∷ [])) ∷ line (op.Store i32 (value.Constant (constant.Number (word W32 0))) (value.Constant (constant.Pointer (pointer.Symbol (symbol.Global 0) 0)))) ∷ line (op.Ret (Some (arg Ptr (reg 8)))) ∷ []) ∷ [])
          ∷ define (codes "dev_set_priv") (param (codes "dev") Ptr ∷ param (codes "v") Ptr ∷ []) ((codes "p") ∷ []) None (block (codes "a") (line (op.GetElementPtr 2 (Named 0) (reg 0) (arg i64 (value.Constant (constant.Number (word W64 0))) ∷ arg i32 (value.Constant (constant.Number (word W32 2))) ∷ [])) ∷ line (op.Store Ptr (reg 1) (reg 2)) ∷ line (op.Ret None) ∷ []) ∷ [])
          ∷ define (codes "dev_zero") (param (codes "p") Ptr ∷ param (codes "n") i64 ∷ []) ([]) None (block (codes "a") (line (op.Call None None (callee.Symbol (symbol.Function 2)) (arg Ptr (reg 0) ∷ arg i64 (reg 1) ∷ [])) ∷ line (op.Ret None) ∷ []) ∷ [])
          ∷ define (codes "dev_wipe") (param (codes "p") Ptr ∷ param (codes "n") i64 ∷ []) ([]) None (block (codes "a") (line (op.Call None None (callee.Symbol (symbol.Function 2)) (arg Ptr (reg 0) ∷ arg i64 (reg 1) ∷ [])) ∷ line (op.Ret None) ∷ []) ∷ [])
          ∷ define (codes "skb_new") (param (codes "n") i64 ∷ []) ((codes "s") ∷ (codes "z") ∷ (codes "d") ∷ (codes "y") ∷ (codes "q") ∷ []) (Some Ptr) (block (codes "a") (line (op.Call (Some 1) (Some Ptr) (callee.Symbol (symbol.Function 7)) (arg i64 (value.Constant (constant.Number (word W64 24))) ∷ [])) ∷ line (op.Compare 2 pred.Eq Ptr (reg 1) (value.Constant (constant.Pointer pointer.Null))) ∷ line (op.Branch (reg 2) (codes "no") (codes "b")) ∷ []) ∷ block (codes "b") (line (op.Call (Some 3) (Some Ptr) (callee.Symbol (symbol.Function 7)) (arg i64 (reg 0) ∷ [])) ∷ line (op.Compare 4 pred.Eq Ptr (reg 3) (value.Constant (constant.Pointer pointer.Null))) ∷ line (op.Branch (reg 4) (codes "u") (codes "c")) ∷ []) ∷ block (codes "c") (line (op.Store Ptr (reg 3) (reg 1)) ∷ line (op.GetElementPtr 5 (One (Int W8)) (reg 1) (arg i64 (value.Constant (constant.Number (word W64 8))) ∷ [])) ∷ line (op.Store i64 (reg 0) (reg 5)) ∷ line (op.Ret (Some (arg Ptr (reg 1)))) ∷ []) ∷ block (codes "u") (line (op.Call None None (callee.Symbol (symbol.Function 9)) (arg Ptr (reg 1) ∷ [])) ∷ line (op.Jump (codes "no")) ∷ []) ∷ block (codes "no") (line (op.Ret (Some (arg Ptr (value.Constant (constant.Pointer pointer.Null))))) ∷ []) ∷ [])
          ∷ define (codes "netif_rx") (param (codes "s") Ptr ∷ []) ((codes "q") ∷ (codes "n") ∷ []) (Some i32) (block (codes "a") (line (op.GetElementPtr 1 (One (Int W8)) (reg 0) (arg i64 (value.Constant (constant.Number (word W64 8))) ∷ [])) ∷ line (op.Load 2 i64 (reg 1)) ∷ line (op.Call None None (callee.Symbol (symbol.Function 4)) (arg i64 (reg 2) ∷ [])) ∷ line (op.Ret (Some (arg i32 (value.Constant (constant.Number (word W32 0)))))) ∷ []) ∷ [])
          ∷ define (codes "hook_get") ([]) ([]) (Some Ptr) (block (codes "a") (line (op.Ret (Some (arg Ptr (value.Constant (constant.Pointer (pointer.Symbol (symbol.Function 17) 0)))))) ∷ []) ∷ [])
          ∷ define (codes "hook_fn") (param (codes "x") i64 ∷ []) ((codes "y") ∷ []) (Some i64) (block (codes "a") (line (op.Binary 1 binop.Add i64 (reg 0) (value.Constant (constant.Number (word W64 1)))) ∷ line (op.Ret (Some (arg i64 (reg 1)))) ∷ []) ∷ [])
          ∷ define (codes "do_probe") (param (codes "i") i64 ∷ []) ((codes "d") ∷ (codes "o") ∷ (codes "r") ∷ []) (Some i32) (block (codes "a") (line (op.GetElementPtr 1 (Named 0) (value.Constant (constant.Pointer (pointer.Symbol (symbol.Global 2) 0))) (arg i64 (reg 0) ∷ [])) ∷ line (op.Load 2 Ptr (reg 1)) ∷ line (op.Call (Some 3) (Some i32) (callee.Symbol (symbol.Function 5)) (arg Ptr (reg 2) ∷ arg Ptr (reg 1) ∷ [])) ∷ line (op.Ret (Some (arg i32 (reg 3)))) ∷ []) ∷ [])
          ∷ define (codes "do_xmit") (param (codes "i") i64 ∷ param (codes "s") Ptr ∷ []) ((codes "d") ∷ (codes "o") ∷ (codes "x") ∷ (codes "r") ∷ []) (Some i32) (block (codes "a") (line (op.GetElementPtr 2 (Named 0) (value.Constant (constant.Pointer (pointer.Symbol (symbol.Global 2) 0))) (arg i64 (reg 0) ∷ [])) ∷ line (op.Load 3 Ptr (reg 2)) ∷ line (op.GetElementPtr 4 (Named 1) (reg 3) (arg i64 (value.Constant (constant.Number (word W64 0))) ∷ arg i32 (value.Constant (constant.Number (word W32 1))) ∷ [])) ∷ line (op.Call (Some 5) (Some i32) (callee.Symbol (symbol.Function 6)) (arg Ptr (reg 4) ∷ arg Ptr (reg 1) ∷ arg Ptr (reg 2) ∷ [])) ∷ line (op.Ret (Some (arg i32 (reg 5)))) ∷ []) ∷ [])
          ∷ [];
    }

abbrev pub interface : Interface
interface =
    record {
      reftypes = (codes "device" ∷ []);
      iterators =
          record { name = (codes "skb_caps"); items = (record { cond = None; cap = spec.Write (expr.Param 0 ty.Ptr) (expr.Number 24) } ∷ record { cond = None; cap = spec.Write (expr.Load64 (expr.Param 0 ty.Ptr)) (expr.Load64 (expr.Binary mark.Add (expr.Param 0 ty.Ptr) (expr.Number 8))) } ∷ []); line = 3 }
          ∷ [];
      slots =
          slot (codes "probe") (parameter (codes "dev") ty.Ptr ∷ []) ty.I32
          (annotated (Some (who.Value (expr.Param 0 ty.Ptr))) (action.Copy (spec.Ref 0 (expr.Param 0 ty.Ptr)) ∷ []) (action.If (expr.Binary mark.Less (expr.Return ty.I32) (expr.Number 0)) (action.Transfer (spec.Ref 0 (expr.Param 0 ty.Ptr))) ∷ [])) 4
          ∷ slot (codes "xmit") (parameter (codes "skb") ty.Ptr ∷ parameter (codes "dev") ty.Ptr ∷ []) ty.I32
          (annotated (Some (who.Value (expr.Param 1 ty.Ptr))) (action.Transfer (spec.Each 0 (expr.Param 0 ty.Ptr)) ∷ []) (action.If (expr.Binary mark.Less (expr.Return ty.I32) (expr.Number 0)) (action.Transfer (spec.Each 0 (expr.Param 0 ty.Ptr))) ∷ [])) 5
          ∷ [];
      fields =
          field (codes "struct.dev_ops") 0 0 6
          ∷ field (codes "struct.dev_ops") 1 1 7
          ∷ [];
      exports =
          export (codes "kmalloc") (parameter (codes "n") ty.I64 ∷ []) ty.Ptr
          (annotated None [] (action.If (expr.Binary mark.Differs (expr.Return ty.Ptr) (expr.Number 0)) (action.Transfer (spec.Write (expr.Return ty.Ptr) (expr.Param 0 ty.I64))) ∷ [])) 8
          ∷ export (codes "kzalloc") (parameter (codes "n") ty.I64 ∷ []) ty.Ptr
          (annotated None [] (action.If (expr.Binary mark.Differs (expr.Return ty.Ptr) (expr.Number 0)) (action.Transfer (spec.Write (expr.Return ty.Ptr) (expr.Param 0 ty.I64))) ∷ [])) 9
          ∷ export (codes "kfree") (parameter (codes "p") ty.Ptr ∷ []) ty.Void
          (annotated None (action.If (expr.Binary mark.Differs (expr.Param 0 ty.Ptr) (expr.Number 0)) (action.Transfer (spec.Write (expr.Param 0 ty.Ptr) (expr.Load64 (expr.Binary mark.Sub (expr.Param 0 ty.Ptr) (expr.Number 16))))) ∷ []) []) 10
          ∷ export (codes "dev_register") (parameter (codes "ops") ty.Ptr ∷ []) ty.Ptr
          (annotated None [] []) 11
          ∷ export (codes "dev_set_priv") (parameter (codes "dev") ty.Ptr ∷ parameter (codes "v") ty.Ptr ∷ []) ty.Void
          (annotated None (action.Check (spec.Ref 0 (expr.Param 0 ty.Ptr)) ∷ []) []) 12
          ∷ export (codes "dev_zero") (parameter (codes "p") ty.Ptr ∷ parameter (codes "n") ty.I64 ∷ []) ty.Void
          (annotated None (action.Check (spec.Write (expr.Param 0 ty.Ptr) (expr.Param 1 ty.I64)) ∷ []) []) 13
          ∷ export (codes "dev_wipe") (parameter (codes "p") ty.Ptr ∷ parameter (codes "n") ty.I64 ∷ []) ty.Void
          (annotated None (action.Transfer (spec.Write (expr.Param 0 ty.Ptr) (expr.Param 1 ty.I64)) ∷ []) (action.Transfer (spec.Write (expr.Param 0 ty.Ptr) (expr.Param 1 ty.I64)) ∷ [])) 14
          ∷ export (codes "skb_new") (parameter (codes "n") ty.I64 ∷ []) ty.Ptr
          (annotated None [] (action.If (expr.Binary mark.Differs (expr.Return ty.Ptr) (expr.Number 0)) (action.Transfer (spec.Write (expr.Return ty.Ptr) (expr.Number 24))) ∷ action.If (expr.Binary mark.Differs (expr.Return ty.Ptr) (expr.Number 0)) (action.Transfer (spec.Write (expr.Load64 (expr.Return ty.Ptr)) (expr.Param 0 ty.I64))) ∷ [])) 15
          ∷ export (codes "netif_rx") (parameter (codes "skb") ty.Ptr ∷ []) ty.I32
          (annotated None (action.Transfer (spec.Each 0 (expr.Param 0 ty.Ptr)) ∷ []) []) 16
          ∷ export (codes "hook_get") [] ty.Ptr
          (annotated None [] (action.Copy (spec.Call (expr.Return ty.Ptr)) ∷ [])) 17
          ∷ export (codes "hook_fn") (parameter (codes "x") ty.I64 ∷ []) ty.I64
          (annotated None [] []) 18
          ∷ [];
    }
