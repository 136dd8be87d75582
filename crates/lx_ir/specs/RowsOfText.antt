-- Worked rows of text: a small module, and one that has each form of statement.
use Rattle.std.specs.Prelude.{◌≡◌, ℕ, Bool, true, false, Option, Some, None, List, [], ◌∷◌, ◌++◌, codes, flat_map}
use Rattle.lx_words.specs.declared.word.Width.TheVariants.{W1, W8, W16, W32, W64}
use Rattle.lx_words.specs.declared.word.BinOp.TheVariants.{Add}
use Rattle.lx_words.specs.declared.word.Pred.TheVariants.{Slt}
use Rattle.lx_words.specs.Word.{word}
use Rattle.lx_ir.specs.declared.types.Scalar.{Scalar}
use Rattle.lx_ir.specs.declared.types.Scalar.TheVariants.{Int, Ptr}
use Rattle.lx_ir.specs.declared.module.Blank.TheVariants.{Undef, Zero}
use Rattle.lx_ir.specs.declared.module.Symbol.TheVariants as symbol
use Rattle.lx_ir.specs.declared.module.Pointer.{Pointer}
use Rattle.lx_ir.specs.declared.module.Pointer.TheVariants as pointer
use Rattle.lx_ir.specs.declared.module.Constant.{Constant}
use Rattle.lx_ir.specs.declared.module.Constant.TheVariants as constant
use Rattle.lx_ir.specs.declared.module.Value.{Value}
use Rattle.lx_ir.specs.declared.module.Value.TheVariants as value
use Rattle.lx_ir.specs.declared.module.Brackets.TheVariants as brackets
use Rattle.lx_ir.specs.declared.module.Block.{Block}
use Rattle.lx_ir.specs.declared.module.Function.{Function}
use Rattle.lx_ir.specs.declared.module.Module.{Module}
use Rattle.lx_ir.specs.declared.instr.Argument.{Argument}
use Rattle.lx_ir.specs.declared.instr.Callee.TheVariants as callee
use Rattle.lx_ir.specs.declared.instr.Conversion.TheVariants.{ZExt}
use Rattle.lx_ir.specs.declared.instr.Instr.{Instr}
use Rattle.lx_ir.specs.declared.instr.UnaryOp.TheVariants as unary
use Rattle.lx_ir.specs.declared.instr.Op.{Op}
use Rattle.lx_ir.specs.declared.instr.Op.TheVariants as op
use Rattle.lx_ir.specs.IrType.{One, Array, Struct, Packed, Named, none, also}
use Rattle.lx_ir.specs.Init.{Plain, Empty, Bytes, Group, no_more, more}
use Rattle.lx_ir.specs.Lawful.{IsLawful, IsPlain}
use Rattle.lx_ir.specs.Operands.{argument}
use Rattle.lx_ir.specs.Text.{Text, module_text}

abbrev reg : ℕ → Value
reg r = value.Register r

abbrev pointer_value : Pointer → Value
pointer_value p = value.Constant (constant.Pointer p)

abbrev number32 : ℕ → Value
number32 n = value.Constant (constant.Number (word W32 n))

abbrev number64 : ℕ → Value
number64 n = value.Constant (constant.Number (word W64 n))

abbrev at_line : ℕ → Op → Instr
at_line n o = record { op = o; line = n }

abbrev line : Op → Instr
line o = at_line 1 o

abbrev block : List ℕ → List Instr → Block
block name is = record { name = name; instrs = is }

-- a module with one global, and a function that writes and reads it
abbrev pub one : Module
one =
    record {
      types = [];
      globals = record { name = codes "g"; constant = false; ty = One (Int W32); init = Plain (constant.Number (word W32 0)); line = 1 } ∷ [];
      functions =
          record {
            name = codes "main";
            params = [];
            locals = codes "v" ∷ [];
            ret = Some (Int W32);
            blocks =
                Some
                (block (codes "0")
                (at_line 3 (op.Store (Int W32) (number32 7) (pointer_value (pointer.Symbol (symbol.Global 0) 0)))
                ∷ at_line 4 (op.Load 0 (Int W32) (pointer_value (pointer.Symbol (symbol.Global 0) 0)))
                ∷ at_line 5 (op.Ret (Some (argument (Int W32) (reg 0)))) ∷ [])
                ∷ []);
            line = 2;
          }
          ∷ [];
    }

abbrev lines_text : List Text → Text
lines_text lines = flat_map (λ l. l ++ codes "\n") lines

abbrev one_lines : List Text
one_lines =
    codes "@g = global i32 0"
    ∷ codes "define i32 @main() {"
    ∷ codes "0:"
    ∷ codes "  store i32 7, ptr @g"
    ∷ codes "  %v = load i32, ptr @g"
    ∷ codes "  ret i32 %v"
    ∷ codes "}"
    ∷ []

abbrev i8 : Scalar
i8 = Int W8

abbrev i32 : Scalar
i32 = Int W32

abbrev i64 : Scalar
i64 = Int W64

abbrev global_at : ℕ → ℕ → Pointer
global_at k n = pointer.Symbol (symbol.Global k) n

-- each form of type, constant, instruction and statement
abbrev pub forms : Module
forms =
    record {
      types =
          record { name = codes "s"; ty = Struct (also (One i8) (also (Array 2 (One (Int W16))) (also (Struct (also (One i32) (also (One Ptr) none))) none))) }
          ∷ record { name = codes "p"; ty = Packed (also (One i8) (also (One i64) none)) }
          ∷ record { name = codes "a b"; ty = Struct none }
          ∷ [];
      globals =
          record { name = codes "g"; constant = false; ty = One i32; init = Plain (constant.Number (word W32 4294967289)); line = 4 }
          ∷ record { name = codes "t"; constant = true; ty = Array 4 (One i8); init = Bytes (97 ∷ 34 ∷ 92 ∷ 10 ∷ []); line = 5 }
          ∷ record {
            name = codes "h";
            constant = false;
            ty = Named 0;
            init =
                Group brackets.Struct
                (One i8 ∷ Array 2 (One (Int W16)) ∷ Struct (also (One i32) (also (One Ptr) none)) ∷ [])
                (more (Plain (constant.Number (word W8 1)))
                (more
                (Group brackets.Array (One (Int W16) ∷ One (Int W16) ∷ [])
                (more (Plain (constant.Number (word W16 2))) (more (Plain (constant.Number (word W16 65533))) no_more)))
                (more
                (Group brackets.Struct (One i32 ∷ One Ptr ∷ [])
                (more (Plain (constant.Cast (global_at 0 0) W32)) (more (Plain (constant.Pointer (global_at 4 18446744073709551608))) no_more)))
                no_more)));
            line = 6;
          }
          ∷ record { name = codes "z"; constant = false; ty = Named 2; init = Empty Zero; line = 7 }
          ∷ record { name = codes "q r"; constant = false; ty = One Ptr; init = Plain (constant.Pointer (pointer.Number 256)); line = 8 }
          ∷ record { name = codes "b"; constant = true; ty = One (Int W1); init = Plain (constant.Truth true); line = 9 }
          ∷ record {
            name = codes "k";
            constant = false;
            ty = Packed (also (One i8) none);
            init = Group brackets.Packed (One i8 ∷ []) (more (Plain (constant.Number (word W8 255))) no_more);
            line = 10;
          }
          ∷ record { name = codes "n"; constant = false; ty = Array 0 (One Ptr); init = Group brackets.Array [] no_more; line = 11 }
          ∷ [];
      functions =
          record { name = codes "imp"; params = record { name = []; ty = i32 } ∷ record { name = []; ty = Ptr } ∷ []; locals = []; ret = Some Ptr; blocks = None; line = 12 }
          ∷ record { name = codes "stop"; params = []; locals = []; ret = None; blocks = None; line = 13 }
          ∷ record {
            name = codes "all";
            params =
                record { name = codes "c"; ty = Int W1 }
                ∷ record { name = codes "0"; ty = i32 }
                ∷ record { name = codes "x"; ty = i64 }
                ∷ record { name = codes "p"; ty = Ptr }
                ∷ [];
            locals =
                codes "sum" ∷ codes "lt" ∷ codes "w" ∷ codes "fr" ∷ codes "se" ∷ codes "al" ∷ codes "ld" ∷ codes "el" ∷ codes "r" ∷ codes "ph" ∷ [];
            ret = Some i64;
            blocks =
                Some
                (block (codes "a")
                (line (op.Binary 4 Add i32 (reg 1) (number32 4294967295))
                ∷ line (op.Compare 5 Slt i32 (reg 4) (number32 7))
                ∷ line (op.Convert 6 ZExt i32 (reg 4) i64)
                ∷ line (op.Unary 7 unary.Freeze i64 (reg 6))
                ∷ line (op.Select 8 (reg 5) i64 (reg 7) (value.Constant (constant.Blank Undef W64)))
                ∷ line (op.Alloca 9 (Packed (also (One i8) (also (Struct (also (One Ptr) (also (Array 3 (One i32)) none))) none))))
                ∷ line (op.Load 10 i8 (reg 9))
                ∷ line (op.Store i8 (reg 10) (pointer_value (global_at 0 4)))
                ∷ line (op.GetElementPtr 11 (Named 0) (pointer_value (global_at 2 0)) (argument i64 (reg 2) ∷ argument i32 (number32 2) ∷ argument i32 (number32 1) ∷ []))
                ∷ line (op.Call (Some 12) (Some Ptr) (callee.Symbol (symbol.Function 0)) (argument i32 (reg 1) ∷ argument Ptr (pointer_value pointer.Null) ∷ []))
                ∷ line (op.Call None None (callee.Register 3) [])
                ∷ line (op.CopyBlock false (reg 9) (pointer_value (global_at 1 0)) (argument i64 (number64 4)))
                ∷ line (op.CopyBlock true (reg 9) (reg 11) (argument i32 (number32 4)))
                ∷ line (op.FillBlock (reg 9) (value.Constant (constant.Number (word W8 0))) (argument i32 (reg 1)))
                ∷ line (op.Branch (reg 0) (codes "b") (codes "c.x"))
                ∷ [])
                ∷ block (codes "b")
                (line
                (op.Switch i32 (reg 1) (codes "c.x")
                (record { value = number32 1; label = codes "b" } ∷ record { value = number32 4294967294; label = codes "d" } ∷ []))
                ∷ [])
                ∷ block (codes "c.x")
                (line
                (op.Phi 13 i64
                (record { value = reg 8; label = codes "a" } ∷ record { value = value.Constant (constant.Cast pointer.Null W64); label = codes "b" } ∷ []))
                ∷ line (op.Ret (Some (argument i64 (reg 13)))) ∷ [])
                ∷ block (codes "d") (line (op.Jump (codes "e")) ∷ [])
                ∷ block (codes "e") (line (op.Switch (Int W1) (reg 0) (codes "f g") []) ∷ [])
                ∷ block (codes "12") (line op.Unreachable ∷ [])
                ∷ []);
            line = 14;
          }
          ∷ record {
            name = codes "marked";
            params = [];
            locals = codes "-un" ∷ [];
            ret = None;
            blocks =
                Some
                (block (codes "0")
                (line (op.Guard (pointer_value (global_at 0 0)) (number64 4) false)
                ∷ line (op.Guard (reg 0) (number32 9) true)
                ∷ line (op.Check (reg 0))
                ∷ line (op.Enter (symbol.Function 0))
                ∷ line (op.Pre (symbol.Function 0) 0)
                ∷ line (op.Post (symbol.Function 0) 1)
                ∷ line (op.Leave (symbol.Function 0))
                ∷ line (op.Ret None) ∷ [])
                ∷ []);
            line = 36;
          }
          ∷ [];
    }

abbrev forms_lines : List Text
forms_lines =
    codes "%s = type { i8, [2 x i16], { i32, ptr } }"
    ∷ codes "%p = type <{ i8, i64 }>"
    ∷ codes "%\"a b\" = type {}"
    ∷ codes "@g = global i32 -7"
    ∷ codes "@t = constant [4 x i8] c\"a\\22\\5C\\0A\""
    ∷ codes "@h = global %s { i8 1, [2 x i16] [ i16 2, i16 -3 ], { i32, ptr } { i32 ptrtoint (ptr @g to i32), ptr getelementptr (i8, ptr @\"q r\", i64 -8) } }"
    ∷ codes "@z = global %\"a b\" zeroinitializer"
    ∷ codes "@\"q r\" = global ptr inttoptr (i64 256 to ptr)"
    ∷ codes "@b = constant i1 true"
    ∷ codes "@k = global <{ i8 }> <{ i8 -1 }>"
    ∷ codes "@n = global [0 x ptr] []"
    ∷ codes "declare ptr @imp(i32, ptr)"
    ∷ codes "declare void @stop()"
    ∷ codes "define i64 @all(i1 %c, i32 %0, i64 %x, ptr %p) {"
    ∷ codes "a:"
    ∷ codes "  %sum = add i32 %0, -1"
    ∷ codes "  %lt = icmp slt i32 %sum, 7"
    ∷ codes "  %w = zext i32 %sum to i64"
    ∷ codes "  %fr = freeze i64 %w"
    ∷ codes "  %se = select i1 %lt, i64 %fr, i64 undef"
    ∷ codes "  %al = alloca <{ i8, { ptr, [3 x i32] } }>"
    ∷ codes "  %ld = load i8, ptr %al"
    ∷ codes "  store i8 %ld, ptr getelementptr (i8, ptr @g, i64 4)"
    ∷ codes "  %el = getelementptr %s, ptr @h, i64 %x, i32 2, i32 1"
    ∷ codes "  %r = call ptr @imp(i32 %0, ptr null)"
    ∷ codes "  call void %p()"
    ∷ codes "  call void @llvm.memcpy.p0.p0.i64(ptr %al, ptr @t, i64 4, i1 false)"
    ∷ codes "  call void @llvm.memmove.p0.p0.i32(ptr %al, ptr %el, i32 4, i1 false)"
    ∷ codes "  call void @llvm.memset.p0.i32(ptr %al, i8 0, i32 %0, i1 false)"
    ∷ codes "  br i1 %c, label %b, label %c.x"
    ∷ codes "b:"
    ∷ codes "  switch i32 %0, label %c.x [ i32 1, label %b i32 -2, label %d ]"
    ∷ codes "c.x:"
    ∷ codes "  %ph = phi i64 [ %se, %a ], [ ptrtoint (ptr null to i64), %b ]"
    ∷ codes "  ret i64 %ph"
    ∷ codes "d:"
    ∷ codes "  br label %e"
    ∷ codes "e:"
    ∷ codes "  switch i1 %c, label %\"f g\" []"
    ∷ codes "12:"
    ∷ codes "  unreachable"
    ∷ codes "}"
    ∷ codes "define void @marked() {"
    ∷ codes "0:"
    ∷ codes "  call void @lxfi.guard(ptr @g, i64 4)"
    ∷ codes "  call void @lxfi.guard32(ptr %-un, i32 9)"
    ∷ codes "  call void @lxfi.check(ptr %-un)"
    ∷ codes "  call void @lxfi.enter(ptr @imp)"
    ∷ codes "  call void @lxfi.pre(ptr @imp, i32 0)"
    ∷ codes "  call void @lxfi.post(ptr @imp, i32 1)"
    ∷ codes "  call void @lxfi.leave(ptr @imp)"
    ∷ codes "  ret void"
    ∷ codes "}"
    ∷ []

pub record WorkedTexts : Type 0 where
  pub one_text : module_text one ≡ lines_text one_lines
  pub forms_text : module_text forms ≡ lines_text forms_lines
  pub one_lawful : IsLawful one
  pub one_plain : IsPlain one
  pub forms_lawful : IsLawful forms
