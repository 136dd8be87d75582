-- Modules of one function, `@main`, over the kernel.
use Rattle.lx_caps.specs.declared.Cap.TheVariants as caps
use Rattle.lx_caps.specs.declared.Principal.TheVariants.{Shared}
use Rattle.lx_generated_laws.specs.Accounts.{GivesAccount, asked, events, ended, shared, calls_at, image, plain_account}
use Rattle.lx_generated_laws.specs.Programs.{built_in, over}
use Rattle.lx_generated_laws.specs.RowTexts.{i32, i64, reg, n64, address, line, arg, call, param, block, define, declare, of_functions}
use Rattle.lx_ir.specs.IrType.{One}
use Rattle.lx_ir.specs.declared.instr.Op.TheVariants as op
use Rattle.lx_ir.specs.declared.module.Module.{Module}
use Rattle.lx_ir.specs.declared.types.Scalar.TheVariants.{Ptr}
use Rattle.lx_model.specs.declared.account.ImageCount.{ImageCount}
use Rattle.lx_model.specs.declared.account.Owned.{Owned}
use Rattle.lx_model.specs.declared.program.Program.{Program}
use Rattle.lx_model.specs.declared.request.Outcome.TheVariants.{Returned, Refused}
use Rattle.lx_model.specs.declared.request.Refusal.TheVariants as refusal
use Rattle.lx_model.specs.declared.request.Refusal.{Refusal}
use Rattle.lx_words.specs.Word.{word}
use Rattle.lx_words.specs.declared.word.Width.TheVariants.{W64}
use Rattle.std.specs.Prelude.{ℕ, Some, None, List, [], ◌∷◌, codes}

-- the functions of such a module, of which `@main` alone is its own, by the number of its imports
abbrev pub program : Module → ℕ → Program
program m imports = over built_in m (imports ∷ []) []

-- one call of `@main` behind two imports, which is refused in so many events: the guards and wrappers, and what the module owns
abbrev pub IsRefused : Module → ℕ → Refusal → List ImageCount → List Owned → Type 0
IsRefused m n why counted owners =
    GivesAccount (program m 2) ((asked 19 [] ∷ []) ∷ []) (plain_account (events 0 n) (ended 0 19 (Refused why) ∷ []) counted owners)

abbrev pub freed_module : Module
freed_module =
    of_functions
    (declare (codes "kmalloc") (param [] i64 ∷ []) (Some Ptr)
    ∷ declare (codes "kfree") (param [] Ptr ∷ []) None
    ∷ define (codes "main") [] (codes "p" ∷ []) None
    (block (codes "0") (call (Some 0) (Some Ptr) 0 (arg i64 (n64 8) ∷ []) ∷ line (op.Store i64 (n64 1) (reg 0)) ∷ call None None 1 (arg Ptr (reg 0) ∷ []) ∷ line (op.Store i64 (n64 2) (reg 0)) ∷ line (op.Ret None) ∷ []) ∷ [])
    ∷ [])

-- A store to a block that was given back.
abbrev pub Freed : Type 0
Freed = IsRefused freed_module 12 (refusal.Write (Shared 0) 0x2000010 8) (image 2 0 2) (calls_at (0x10060 ∷ 0x10080 ∷ 0x10130 ∷ []))

abbrev pub bent_module : Module
bent_module =
    of_functions
    (declare (codes "skb_new") (param [] i64 ∷ []) (Some Ptr)
    ∷ declare (codes "netif_rx") (param [] Ptr ∷ []) (Some i32)
    ∷ define (codes "main") [] (codes "s" ∷ codes "r" ∷ []) None
    (block (codes "0") (call (Some 0) (Some Ptr) 0 (arg i64 (n64 8) ∷ []) ∷ line (op.Store Ptr (address 16777216) (reg 0)) ∷ call (Some 1) (Some i32) 1 (arg Ptr (reg 0) ∷ []) ∷ line (op.Ret None) ∷ []) ∷ [])
    ∷ [])

-- A packet whose header points to a global that is not all the module's.
abbrev pub BentPacket : Type 0
BentPacket =
    IsRefused bent_module 16 (refusal.Write (Shared 0) 0x1000000 8) (image 1 0 2)
    (shared (caps.Write 0x2000010 24) ∷ shared (caps.Write 0x2000040 8) ∷ calls_at (0x100d0 ∷ 0x100e0 ∷ 0x10130 ∷ []))

abbrev pub stack_module : Module
stack_module =
    of_functions
    (declare (codes "dev_wipe") (param [] Ptr ∷ param [] i64 ∷ []) None
    ∷ declare (codes "dev_zero") (param [] Ptr ∷ param [] i64 ∷ []) None
    ∷ define (codes "main") [] (codes "b" ∷ []) None
    (block (codes "0") (line (op.Alloca 0 (One i64)) ∷ call None None 1 (arg Ptr (reg 0) ∷ arg i64 (n64 8) ∷ []) ∷ call None None 0 (arg Ptr (reg 0) ∷ arg i64 (n64 8) ∷ []) ∷ line (op.Ret None) ∷ []) ∷ [])
    ∷ [])

-- A transfer of stack bytes.
abbrev pub StackBytes : Type 0
StackBytes = IsRefused stack_module 8 (refusal.OnStack (Shared 0) 0x3000000 8) (image 0 0 2) (calls_at (0x100b0 ∷ 0x100c0 ∷ 0x10130 ∷ []))

abbrev pub edge_module : Module
edge_module =
    of_functions
    (declare (codes "dev_zero") (param [] Ptr ∷ param [] i64 ∷ []) None
    ∷ define (codes "main") (param (codes "p") Ptr ∷ param (codes "n") i64 ∷ []) [] None
    (block (codes "0") (call None None 0 (arg Ptr (reg 0) ∷ arg i64 (reg 1) ∷ []) ∷ line (op.Ret None) ∷ []) ∷ [])
    ∷ [])

-- Ranges at the edges of memory and of the numbers.
abbrev pub Edges : Type 0
Edges =
    GivesAccount (program edge_module 1)
    ((asked 19 (word W64 0 ∷ word W64 0 ∷ []) ∷ asked 19 (word W64 17825784 ∷ word W64 16 ∷ []) ∷ asked 19 (word W64 18446744073709551608 ∷ word W64 16 ∷ []) ∷ []) ∷ [])
    (plain_account (events 0 13)
    (ended 0 19 (Returned None)
    ∷ ended 0 19 (Refused (refusal.Outside (Shared 0) 0x10ffff8 16))
    ∷ ended 0 19 (Refused (refusal.Outside (Shared 0) 0xfffffffffffffff8 16)) ∷ [])
    (image 0 0 1) (calls_at (0x100b0 ∷ 0x10130 ∷ [])))
