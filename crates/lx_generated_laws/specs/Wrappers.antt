-- Worked rows: wrappers with parameters, of an import and of a function that stands in a typed field.
use Rattle.std.specs.Prelude.{◌≡◌, ℕ, false, Option, Some, None, List, [], ◌∷◌, map, codes}
use Rattle.lx_ir.specs.declared.types.Scalar.TheVariants.{Ptr}
use Rattle.lx_ir.specs.declared.module.Brackets.TheVariants as brackets
use Rattle.lx_ir.specs.declared.module.Symbol.TheVariants as symbol
use Rattle.lx_ir.specs.declared.module.Function.{Function}
use Rattle.lx_ir.specs.declared.module.Module.{Module}
use Rattle.lx_ir.specs.declared.instr.Callee.TheVariants as callee
use Rattle.lx_ir.specs.declared.instr.Op.TheVariants as op
use Rattle.lx_ir.specs.IrType.{One, Named, Struct, none, also}
use Rattle.lx_ir.specs.Init.{Plain, Group, no_more, more}
use Rattle.lx_ir.specs.Lawful.{IsLawful}
use Rattle.lx_annot.specs.Action.{Copy, Check}
use Rattle.lx_annot.specs.Expr.{Param}
use Rattle.lx_annot.specs.declared.action.CapSpec.TheVariants as spec
use Rattle.lx_annot.specs.declared.expr.Ty.TheVariants as ty
use Rattle.lx_annot.specs.declared.interface.Interface.{Interface}
use Rattle.lx_generated_laws.specs.RowTexts.{i32, i64, reg, n32, n64, arg, param, block, to_function}
use Rattle.lx_generated_laws.specs.InterfaceTexts.{parameter, annotated, slot, export, field}
use Rattle.lx_image_texts.specs.ImageFaults.{WrapperDiffers, BodyReached, ImageFault, first_image_fault}
use Rattle.lx_image_texts.specs.Guards.{function_text, Guards}
use Rattle.lx_image_texts.specs.Instrumented.{leaves_spared, GuardsBut}
use Rattle.lx_image_texts.specs.Erased.{erased_functions}
use Rattle.lx_generated_laws.specs.ImageTexts.{at}
use Rattle.lx_generated_laws.specs.ImageFaults.{fault}

-- `slot probe : i32 (ptr d) pre(copy(ref(device), d)) post(check(ref(device), d))`, `field %struct.dev_ops 0 : probe` and
-- `export put : void (ptr p, i64 n) pre(check(write, p, n))`
abbrev pub device_interface : Interface
device_interface =
    record {
      reftypes = codes "device" ∷ [];
      iterators = [];
      slots = slot (codes "probe") (parameter (codes "d") ty.Ptr ∷ []) ty.I32 (annotated None (Copy (spec.Ref 0 (Param 0 ty.Ptr)) ∷ []) (Check (spec.Ref 0 (Param 0 ty.Ptr)) ∷ [])) 3 ∷ [];
      fields = field (codes "struct.dev_ops") 0 0 4 ∷ [];
      exports =
          export (codes "put") (parameter (codes "p") ty.Ptr ∷ parameter (codes "n") ty.I64 ∷ []) ty.Void
          (annotated None (Check (spec.Write (Param 0 ty.Ptr) (Param 1 ty.I64)) ∷ []) []) 5
          ∷ [];
    }

-- `@ops = global %struct.dev_ops { ptr @F }` with the function F of this number, and these functions
abbrev pub ops_with : ℕ → List Function → Module
ops_with there functions =
    record {
      types = record { name = codes "struct.dev_ops"; ty = Struct (also (One Ptr) none) } ∷ [];
      globals =
          record {
            name = codes "ops";
            constant = false;
            ty = Named 0;
            init = Group brackets.Struct (One Ptr ∷ []) (more (Plain (to_function there)) no_more);
            line = 2;
          }
          ∷ [];
      functions = functions;
    }

-- with `declare void @put(ptr, i64)`, and `@probe`, which calls the function with this number with 8 for the length; then further functions
abbrev pub device_with : ℕ → ℕ → List Function → Module
device_with there called others =
    ops_with there
    (record { name = codes "put"; params = param [] Ptr ∷ param [] i64 ∷ []; locals = []; ret = None; blocks = None; line = 3 }
    ∷ record {
      name = codes "probe";
      params = param (codes "d") Ptr ∷ [];
      locals = [];
      ret = Some i32;
      blocks = Some (block (codes "0") (at 6 (op.Call None None (callee.Symbol (symbol.Function called)) (arg Ptr (reg 0) ∷ arg i64 (n64 8) ∷ [])) ∷ at 7 (op.Ret (Some (arg i32 (n32 0)))) ∷ []) ∷ []);
      line = 4;
    }
    ∷ others)

abbrev pub device_module : Module
device_module = device_with 1 0 []

-- `define void @lxfi.out.put(ptr %0, i64 %1)`, where the first parameter has this name
abbrev pub put_wrapper : List ℕ → Function
put_wrapper given =
    record {
      name = codes "lxfi.out.put";
      params = param given Ptr ∷ param (codes "1") i64 ∷ [];
      locals = [];
      ret = None;
      blocks =
          Some (block (codes "0") (at 11 (op.Enter (symbol.Function 0)) ∷ at 12 (op.Pre (symbol.Function 0) 0)
          ∷ at 13 (op.Call None None (callee.Symbol (symbol.Function 0)) (arg Ptr (reg 0) ∷ arg i64 (reg 1) ∷ []))
          ∷ at 14 (op.Leave (symbol.Function 0)) ∷ at 15 (op.Ret None) ∷ []) ∷ []);
      line = 9;
    }

-- `define i32 @lxfi.in.probe(ptr %0)`
abbrev pub probe_wrapper : Function
probe_wrapper =
    record {
      name = codes "lxfi.in.probe";
      params = param (codes "0") Ptr ∷ [];
      locals = codes "r" ∷ [];
      ret = Some i32;
      blocks =
          Some (block (codes "0") (at 19 (op.Enter (symbol.Function 1)) ∷ at 20 (op.Pre (symbol.Function 1) 0)
          ∷ at 21 (op.Call (Some 1) (Some i32) (callee.Symbol (symbol.Function 1)) (arg Ptr (reg 0) ∷ []))
          ∷ at 22 (op.Post (symbol.Function 1) 0) ∷ at 23 (op.Leave (symbol.Function 1)) ∷ at 24 (op.Ret (Some (arg i32 (reg 1)))) ∷ []) ∷ []);
      line = 17;
    }

abbrev pub device_wrappers : List Function
device_wrappers = put_wrapper (codes "0") ∷ probe_wrapper ∷ []

abbrev pub device_image : Module
device_image = device_with 1 2 device_wrappers

abbrev pub first : Module → Option ImageFault
first x = first_image_fault device_interface x

-- `@ops = global %struct.dev_ops { ptr @llvm.memset.p0.i64 }`, and a function of that name, which the module defines. No text does that,
-- and a wrapper could not call it: a text that calls the name says a block write
abbrev pub memset_module : Module
memset_module =
    ops_with 0
    (record {
      name = codes "llvm.memset.p0.i64";
      params = param (codes "d") Ptr ∷ [];
      locals = [];
      ret = Some i32;
      blocks = Some (block (codes "0") (at 4 (op.Ret (Some (arg i32 (n32 0)))) ∷ []) ∷ []);
      line = 3;
    }
    ∷ [])

pub record WorkedWrappers : Type 0 where
  -- the module with both wrappers is its image, and the one that is made
  pub image : Guards device_interface device_module device_image
  pub made : GuardsBut (leaves_spared device_module) device_interface device_module device_image
  pub erased : erased_functions device_image ≡ map function_text device_module.functions
  pub right : first device_image ≡ None
  -- a call of a wrapper that wraps no import
  pub called : first (device_with 1 3 device_wrappers) ≡ fault BodyReached 6 (codes "probe") 0
  -- a wrapper in the initialiser of a global
  pub mentioned : first (device_with 3 2 device_wrappers) ≡ fault WrapperDiffers 2 (codes "ops") 0
  -- no wrapper of the function in the field, a parameter of another name, and the wrappers in another order
  pub missing : first (device_with 1 2 (put_wrapper (codes "0") ∷ [])) ≡ fault WrapperDiffers 1 (codes "lxfi.in.probe") 0
  pub other_head : first (device_with 1 2 (put_wrapper (codes "p") ∷ probe_wrapper ∷ [])) ≡ fault WrapperDiffers 9 (codes "lxfi.out.put") 0
  pub swapped : first (device_with 1 3 (probe_wrapper ∷ put_wrapper (codes "0") ∷ [])) ≡ fault WrapperDiffers 17 (codes "lxfi.in.probe") 0
  -- it is no lawful module
  pub memset : IsLawful memset_module → ⊥
