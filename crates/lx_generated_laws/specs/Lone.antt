-- Modules without a kernel.
use Rattle.lx_caps.specs.declared.Cap.TheVariants as caps
use Rattle.lx_generated_laws.specs.Accounts.{GivesAccount, fuelled, asked, events, ended, shared, calls_at, image, plain_account}
use Rattle.lx_generated_laws.specs.Programs.{nothing, over}
use Rattle.lx_generated_laws.specs.RowTexts.{i32, i64, reg, n32, n64, the_global, line, arg, call, param, block, define, global, of_functions}
use Rattle.lx_ir.specs.Init.{Bytes}
use Rattle.lx_ir.specs.IrType.{One, Array}
use Rattle.lx_ir.specs.declared.instr.Conversion.TheVariants as convert
use Rattle.lx_ir.specs.declared.instr.Op.TheVariants as op
use Rattle.lx_ir.specs.declared.module.Constant.TheVariants as constant
use Rattle.lx_ir.specs.declared.module.Module.{Module}
use Rattle.lx_ir.specs.declared.module.Value.TheVariants as value
use Rattle.lx_ir.specs.declared.types.Scalar.TheVariants.{Int}
use Rattle.lx_model.specs.declared.request.Outcome.TheVariants.{Returned, Trapped, Budget}
use Rattle.lx_model.specs.declared.request.Trap.TheVariants as trap
use Rattle.lx_words.specs.Word.{word}
use Rattle.lx_words.specs.declared.word.BinOp.TheVariants as binop
use Rattle.lx_words.specs.declared.word.Pred.TheVariants as pred
use Rattle.lx_words.specs.declared.word.Width.TheVariants.{W1, W8, W32}
use Rattle.std.specs.Prelude.{false, Some, None, [], ◌∷◌, codes}

abbrev pub division_module : Module
division_module =
    of_functions
    (define (codes "div") (param (codes "a") i32 ∷ param (codes "b") i32 ∷ []) (codes "q" ∷ []) (Some i32)
    (block (codes "0") (line (op.Binary 2 binop.SDiv i32 (reg 0) (reg 1)) ∷ line (op.Ret (Some (arg i32 (reg 2)))) ∷ []) ∷ [])
    ∷ define (codes "loop") [] [] None
    (block (codes "0") (line (op.Jump (codes "l")) ∷ [])
    ∷ block (codes "l") (line (op.Jump (codes "l")) ∷ []) ∷ [])
    ∷ [])

-- Divisions, and a loop without end.
abbrev pub Divisions : Type 0
Divisions =
    GivesAccount (over nothing division_module (0 ∷ 1 ∷ []) [])
    ((asked 6 (word W32 7 ∷ word W32 0 ∷ []) ∷ asked 6 (word W32 4294967289 ∷ word W32 2 ∷ []) ∷ asked 6 (word W32 2147483648 ∷ word W32 4294967295 ∷ []) ∷ fuelled 7 [] 10 ∷ []) ∷ [])
    (plain_account (events 0 9)
    (ended 0 6 (Trapped trap.Division) ∷ ended 0 6 (Returned (Some (word W32 4294967293))) ∷ ended 0 6 (Trapped trap.Division) ∷ ended 0 7 Budget ∷ [])
    (image 0 0 0) (calls_at (0x10060 ∷ 0x10070 ∷ [])))

abbrev pub compiled_module : Module
compiled_module =
    record {
      types = [];
      globals = (global (codes "src") (Array 4 (One (Int W8))) (Bytes (97 ∷ 98 ∷ 99 ∷ 0 ∷ [])) ∷ []);
      functions =
          define (codes "both") (param (codes "0") i32 ∷ param (codes "1") i32 ∷ []) (codes "3" ∷ codes "4" ∷ codes "5" ∷ codes "6" ∷ codes "7" ∷ codes "9" ∷ codes "10" ∷ codes "12" ∷ codes "13" ∷ []) (Some i32)
          (block (codes "2") (line (op.Alloca 2 (One i32)) ∷ line (op.Alloca 3 (One i32)) ∷ line (op.Alloca 4 (Array 4 (One (Int W8)))) ∷ line (op.Store i32 (reg 0) (reg 2)) ∷ line (op.Store i32 (reg 1) (reg 3)) ∷ line (op.CopyBlock false (reg 4) (the_global 0) (arg i64 (n64 4))) ∷ line (op.Load 5 i32 (reg 2)) ∷ line (op.Compare 6 pred.Ne i32 (reg 5) (n32 0)) ∷ line (op.Branch (reg 6) (codes "8") (codes "11")) ∷ [])
          ∷ block (codes "8") (line (op.Load 7 i32 (reg 3)) ∷ line (op.Compare 8 pred.Ne i32 (reg 7) (n32 0)) ∷ line (op.Jump (codes "11")) ∷ [])
          ∷ block (codes "11") (line (op.Phi 9 (Int W1) (record { value = (value.Constant (constant.Truth false)); label = (codes "2") } ∷ record { value = (reg 8); label = (codes "8") } ∷ [])) ∷ line (op.Convert 10 convert.ZExt (Int W1) (reg 9) i32) ∷ line (op.Ret (Some (arg i32 (reg 10)))) ∷ []) ∷ [])
          ∷ [];
    }

-- A function as a compiler writes it.
abbrev pub Compiled : Type 0
Compiled =
    GivesAccount (over nothing compiled_module (0 ∷ []) (0x1000000 ∷ []))
    ((fuelled 6 (word W32 3 ∷ word W32 5 ∷ []) 15 ∷ asked 6 (word W32 0 ∷ word W32 5 ∷ []) ∷ []) ∷ [])
    (plain_account (events 0 21) (ended 0 6 (Returned (Some (word W32 1))) ∷ ended 0 6 (Returned (Some (word W32 0))) ∷ [])
    (image 3 0 0) (shared (caps.Write 0x1000000 4) ∷ calls_at (0x10060 ∷ [])))

abbrev pub deep_module : Module
deep_module =
    of_functions
    (define (codes "f") [] [] None
    (block (codes "0") (call None None 0 [] ∷ line (op.Ret None) ∷ []) ∷ [])
    ∷ [])

-- A function that calls itself.
abbrev pub TooDeep : Type 0
TooDeep =
    GivesAccount (over nothing deep_module (0 ∷ []) []) ((fuelled 6 [] 1000 ∷ []) ∷ [])
    (plain_account (events 0 2) (ended 0 6 (Trapped trap.TooDeep) ∷ []) (image 0 0 0) (calls_at (0x10060 ∷ [])))

abbrev pub stacks_module : Module
stacks_module =
    of_functions
    (define (codes "a") [] (codes "p" ∷ []) None
    (block (codes "0") (line (op.Alloca 0 (Array 65536 (One (Int W8)))) ∷ line (op.Ret None) ∷ []) ∷ [])
    ∷ define (codes "b") [] (codes "p" ∷ []) None
    (block (codes "0") (line (op.Alloca 0 (Array 65537 (One (Int W8)))) ∷ line (op.Ret None) ∷ []) ∷ [])
    ∷ [])

-- A stack that is full, and one that is too full.
abbrev pub StackFull : Type 0
StackFull =
    GivesAccount (over nothing stacks_module (0 ∷ 1 ∷ []) []) ((fuelled 6 [] 1000 ∷ fuelled 7 [] 1000 ∷ []) ∷ [])
    (plain_account (events 0 6) (ended 0 6 (Returned None) ∷ ended 0 7 (Trapped trap.StackFull) ∷ []) (image 0 0 0) (calls_at (0x10060 ∷ 0x10070 ∷ [])))
