-- The modules of the worked rows and their images, each with a place or two where it can be changed.
use Rattle.std.specs.Prelude.{ℕ, ◌+◌, false, Some, None, List, [], ◌∷◌, ◌++◌, codes}
use Rattle.lx_words.specs.declared.word.Width.TheVariants.{W32}
use Rattle.lx_words.specs.Word.{word}
use Rattle.lx_ir.specs.declared.types.Scalar.TheVariants.{Ptr}
use Rattle.lx_ir.specs.declared.module.Symbol.TheVariants as symbol
use Rattle.lx_ir.specs.declared.module.Constant.TheVariants.{Number}
use Rattle.lx_ir.specs.declared.module.Function.{Function}
use Rattle.lx_ir.specs.declared.module.Module.{Module}
use Rattle.lx_ir.specs.declared.instr.Callee.TheVariants as callee
use Rattle.lx_ir.specs.declared.instr.Conversion.TheVariants.{IntToPtr}
use Rattle.lx_ir.specs.declared.instr.Instr.{Instr}
use Rattle.lx_ir.specs.declared.instr.Op.{Op}
use Rattle.lx_ir.specs.declared.instr.Op.TheVariants as op
use Rattle.lx_ir.specs.IrType.{One}
use Rattle.lx_ir.specs.Init.{Plain}
use Rattle.lx_annot.specs.Action.{Copy}
use Rattle.lx_annot.specs.Expr.{Return}
use Rattle.lx_annot.specs.declared.action.CapSpec.TheVariants as spec
use Rattle.lx_annot.specs.declared.expr.Ty.TheVariants as ty
use Rattle.lx_annot.specs.declared.interface.Interface.{Interface}
use Rattle.lx_generated_laws.specs.RowTexts.{i32, i64, reg, n32, n64, the_global, arg, block, no_interface}
use Rattle.lx_generated_laws.specs.InterfaceTexts.{annotated, export}

-- an instruction at its line
abbrev pub at : ℕ → Op → Instr
at n o = record { op = o; line = n }

abbrev pub main : List ℕ
main = codes "main"

-- A module that stores to its one global.

-- `@g = global i32 0`, and a function `@main` at line 2 with this code, and then others
abbrev pub one_with : List Instr → List Function → Module
one_with code others =
    record {
      types = [];
      globals = record { name = codes "g"; constant = false; ty = One i32; init = Plain (Number (word W32 0)); line = 1 } ∷ [];
      functions = record { name = main; params = []; locals = codes "v" ∷ []; ret = Some i32; blocks = Some (block (codes "0") code ∷ []); line = 2 } ∷ others;
    }

abbrev pub guard_of : ℕ → Op
guard_of n = op.Guard (the_global 0) (n64 n) false

abbrev pub store : Op
store = op.Store i32 (n32 7) (the_global 0)

abbrev pub load_and_ret : ℕ → List Instr
load_and_ret n = at n (op.Load 0 i32 (the_global 0)) ∷ at (n + 1) (op.Ret (Some (arg i32 (reg 0)))) ∷ []

abbrev pub one_module : Module
one_module = one_with (at 3 store ∷ load_and_ret 4) []

abbrev pub one_image : Module
one_image = one_with (at 4 (guard_of 4) ∷ at 5 store ∷ load_and_ret 6) []

-- A module that calls a function of the kernel, and what that returns.

-- `export hook_get : ptr () post(copy(call, return))`
abbrev pub hook_interface : Interface
hook_interface = record no_interface { exports = export (codes "hook_get") [] ty.Ptr (annotated None [] (Copy (spec.Call (Return ty.Ptr)) ∷ [])) 2 ∷ [] }

abbrev pub hook_get : Function
hook_get = record { name = codes "hook_get"; params = []; locals = []; ret = Some Ptr; blocks = None; line = 1 }

-- a function without parameters that gives two registers
abbrev pub hook_function : List ℕ → List Instr → ℕ → Function
hook_function name code line =
    record { name = name; params = []; locals = codes "f" ∷ codes "r" ∷ []; ret = Some i64; blocks = Some (block (codes "0") code ∷ []); line = line }

-- a call of the function with this number, and one of what that gave
abbrev pub call_hook_get : ℕ → Op
call_hook_get k = op.Call (Some 0) (Some Ptr) (callee.Symbol (symbol.Function k)) []

abbrev pub call_hook : ℕ → Op
call_hook n = op.Call (Some 1) (Some i64) (callee.Register 0) (arg i64 (n64 n) ∷ [])

abbrev pub ret_hook : Op
ret_hook = op.Ret (Some (arg i64 (reg 1)))

abbrev pub guess : Op
guess = op.Convert 0 IntToPtr i64 (n64 65792) Ptr

abbrev pub hook_module : Module
hook_module =
    record {
      types = [];
      globals = [];
      functions =
          hook_get
          ∷ hook_function main (at 3 (call_hook_get 0) ∷ at 4 (call_hook 41) ∷ at 5 ret_hook ∷ []) 2
          ∷ hook_function (codes "wild") (at 8 guess ∷ at 9 (call_hook 1) ∷ at 10 ret_hook ∷ []) 7
          ∷ [];
    }

-- its image, where `@main` calls the function with this number and has these lines before its indirect call, and the wrapper has these
-- lines behind its call
abbrev pub hook_with : ℕ → List Instr → List Instr → Module
hook_with called before behind =
    record {
      types = [];
      globals = [];
      functions =
          hook_get
          ∷ hook_function main (at 4 (call_hook_get called) ∷ before ++ (at 6 (call_hook 41) ∷ at 7 ret_hook ∷ [])) 2
          ∷ hook_function (codes "wild") (at 11 guess ∷ at 12 (op.Check (reg 0)) ∷ at 13 (call_hook 1) ∷ at 14 ret_hook ∷ []) 9
          ∷ record {
            name = codes "lxfi.out.hook_get";
            params = [];
            locals = codes "r" ∷ [];
            ret = Some Ptr;
            blocks = Some (block (codes "0") (at 18 (op.Enter (symbol.Function 0)) ∷ at 19 (call_hook_get 0) ∷ behind) ∷ []);
            line = 16;
          }
          ∷ [];
    }

abbrev pub check : List Instr
check = at 5 (op.Check (reg 0)) ∷ []

abbrev pub post : List Instr
post = at 20 (op.Post (symbol.Function 0) 0) ∷ []

abbrev pub leave_at : ℕ → List Instr
leave_at n = at n (op.Leave (symbol.Function 0)) ∷ at (n + 1) (op.Ret (Some (arg Ptr (reg 0)))) ∷ []

abbrev pub hook_image : Module
hook_image = hook_with 3 check (post ++ leave_at 21)

-- A function that keeps its argument in an `i32` of its own.

-- with these lines before the store, and this store
abbrev pub quiet_with : List Instr → Op → Module
quiet_with before store =
    record {
      types = [];
      globals = [];
      functions =
          record {
            name = codes "f";
            params = record { name = codes "a"; ty = i32 } ∷ [];
            locals = codes "s" ∷ codes "v" ∷ [];
            ret = Some i32;
            blocks = Some (block (codes "0") (at 3 (op.Alloca 1 (One i32)) ∷ before ++ (at 4 store ∷ at 5 (op.Load 2 i32 (reg 1)) ∷ at 6 (op.Ret (Some (arg i32 (reg 2)))) ∷ [])) ∷ []);
            line = 1;
          }
          ∷ [];
    }

abbrev pub quiet_store : Op
quiet_store = op.Store i32 (reg 0) (reg 1)

abbrev pub quiet_module : Module
quiet_module = quiet_with [] quiet_store

abbrev pub quiet_guard : ℕ → Instr
quiet_guard n = at 4 (op.Guard (reg 1) (n64 n) false)

abbrev pub quiet_guarded : Module
quiet_guarded = quiet_with (quiet_guard 4 ∷ []) quiet_store

-- A block that no walk reaches, in which a guard and its store read registers that nothing gives.

abbrev pub unreached_function : Function
unreached_function =
    record {
      name = codes "f";
      params = [];
      locals = codes "v" ∷ codes "a" ∷ [];
      ret = None;
      blocks = Some (block (codes "0") (at 2 (op.Ret None) ∷ []) ∷ block (codes "1") (at 4 (op.Guard (reg 1) (n64 8) false) ∷ at 5 (op.Store i64 (reg 0) (reg 1)) ∷ at 6 (op.Ret None) ∷ []) ∷ []);
      line = 1;
    }

abbrev pub unreached : Module
unreached = record { types = []; globals = []; functions = unreached_function ∷ [] }
