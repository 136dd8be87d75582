-- The mark that a call wants.
use Rattle.std.proofs.Common.{◌≡◌, ℕ, Bool, not, Option, List, refl}
use Rattle.lx_ir.specs.declared.types.Scalar.{Scalar}
use Rattle.lx_ir.specs.declared.module.Value.{Value}
use Rattle.lx_ir.specs.declared.instr.Argument.{Argument}
use Rattle.lx_ir.specs.declared.instr.Callee.{Callee}
use Rattle.lx_ir.specs.declared.instr.Callee.TheVariants as callee
use Rattle.lx_ir.specs.declared.instr.Op.TheVariants as op
use Rattle.lx_ir.specs.Lookup.{is_register}
use Rattle.lx_image_texts.specs.Marks.{mark_of}
use Rattle.lx_image_texts.specs.ImageFaults.{is_mark_of}
use Rattle.lx_image_marks.specs.Sites.{fits_called}

pub guard_called : (at size : Value) (narrow : Bool) (to : Option ℕ) (ret : Option Scalar) (c : Callee) (args : List Argument) → not (is_register c) ≡ is_mark_of (op.Guard at size narrow) (mark_of (op.Call to ret c args))
guard_called at size narrow to ret (callee.Register r) args = refl
guard_called at size narrow to ret (callee.Symbol s) args = refl

pub check_called : (target : Value) (to : Option ℕ) (ret : Option Scalar) (c : Callee) (args : List Argument) → fits_called (op.Check target) c ≡ is_mark_of (op.Check target) (mark_of (op.Call to ret c args))
check_called target to ret (callee.Register r) args = refl
check_called target to ret (callee.Symbol s) args = refl
