-- A packet that is lent to a module for one call.
use Rattle.lx_caps.specs.declared.Cap.TheVariants as caps
use Rattle.lx_caps.specs.declared.Principal.TheVariants.{Inst}
use Rattle.lx_generated_laws.specs.Accounts.{GivesAccount, asked, events, ended, shared, of_instance, calls_at, named, image, plain_account}
use Rattle.lx_generated_laws.specs.Devices.{device_module, ops, dev_register, init}
use Rattle.lx_generated_laws.specs.Lending.{lending_interface}
use Rattle.lx_generated_laws.specs.Programs.{built_in, over}
use Rattle.lx_generated_laws.specs.RowTexts.{i32, i64, reg, n32, n64, the_global, to_function, to_nothing, line, arg, call, param, block, define, declare, global}
use Rattle.lx_ir.specs.Init.{Plain}
use Rattle.lx_ir.specs.IrType.{One}
use Rattle.lx_ir.specs.declared.instr.Op.TheVariants as op
use Rattle.lx_ir.specs.declared.module.Module.{Module}
use Rattle.lx_ir.specs.declared.types.Scalar.TheVariants.{Ptr}
use Rattle.lx_model.specs.declared.account.Account.{Account}
use Rattle.lx_model.specs.declared.account.ImageCount.{ImageCount}
use Rattle.lx_model.specs.declared.program.Program.{Program}
use Rattle.lx_model.specs.declared.program.ScriptCall.{ScriptCall}
use Rattle.lx_model.specs.declared.request.Outcome.TheVariants.{Returned, Refused}
use Rattle.lx_model.specs.declared.request.Outcome.{Outcome}
use Rattle.lx_model.specs.declared.request.Refusal.TheVariants as refusal
use Rattle.lx_words.specs.Word.{word}
use Rattle.lx_words.specs.declared.word.Width.TheVariants.{W32, W64}
use Rattle.std.specs.Prelude.{ℕ, Some, None, List, [], ◌∷◌, ◌++◌, codes}

-- the module with these functions of its own
abbrev pub program : Module → List ℕ → Program
program m functions = over (record built_in { interface = lending_interface }) m functions (0x10000e0 ∷ 0x10000f0 ∷ [])

-- `@init`, then of the kernel: a packet of 8 bytes, which is sent, and a probe
abbrev pub script : List (List ScriptCall)
script = (asked 19 [] ∷ asked 13 (word W64 8 ∷ []) ∷ asked 18 (word W64 0 ∷ word W64 0x2000010 ∷ []) ∷ asked 17 (word W64 0 ∷ []) ∷ []) ∷ []

-- so many events, how sending and the probe end, what the image has, and the import that the module may call
abbrev pub told : ℕ → Outcome → Outcome → List ImageCount → List ℕ → Account
told n sent probed counted imports =
    record (plain_account (events 0 n)
    (ended 0 19 (Returned None) ∷ ended 0 13 (Returned (Some (word W64 0x2000010))) ∷ ended 0 18 sent ∷ ended 0 17 probed ∷ []) counted
    (shared (caps.Write 0x10000e0 24) ∷ calls_at (0x10090 ∷ imports ++ 0x10130 ∷ 0x10140 ∷ 0x10150 ∷ []) ++ of_instance 0 (caps.Ref 0 0x1000020) ∷ []))
    { names = named 0 0x1000020 ∷ [] }

abbrev pub lent_module : Module
lent_module =
    device_module
    (ops (codes "ops") (to_function 2) (to_function 3) ∷ global (codes "keep") (One Ptr) (Plain to_nothing) ∷ [])
    (dev_register
    ∷ init
    ∷ define (codes "probe") (param (codes "d") Ptr ∷ []) (codes "b" ∷ []) (Some i32)
    (block (codes "0") (line (op.Load 1 Ptr (the_global 1)) ∷ line (op.Store i64 (n64 6) (reg 1)) ∷ line (op.Ret (Some (arg i32 (n32 0)))) ∷ []) ∷ [])
    ∷ define (codes "xmit") (param (codes "s") Ptr ∷ param (codes "d") Ptr ∷ []) (codes "b" ∷ []) (Some i32)
    (block (codes "0") (line (op.Load 2 Ptr (reg 0)) ∷ line (op.Store i64 (n64 5) (reg 2)) ∷ line (op.Store Ptr (reg 2) (the_global 1)) ∷ line (op.Ret (Some (arg i32 (n32 0)))) ∷ []) ∷ [])
    ∷ [])

-- It is not the module's in the next call.
abbrev pub LentPacket : Type 0
LentPacket = GivesAccount (program lent_module (1 ∷ 2 ∷ 3 ∷ [])) script (told 39 (Returned (Some (word W32 0))) (Refused (refusal.Write (Inst 0 0) 0x2000040 8)) (image 3 0 3) [])

abbrev pub borrowed_module : Module
borrowed_module =
    device_module
    (ops (codes "ops") (to_function 3) (to_function 4) ∷ global (codes "keep") (One Ptr) (Plain to_nothing) ∷ [])
    (dev_register
    ∷ declare (codes "netif_rx") (param [] Ptr ∷ []) (Some i32)
    ∷ init
    ∷ define (codes "probe") (param (codes "d") Ptr ∷ []) (codes "b" ∷ []) (Some i32)
    (block (codes "0") (line (op.Load 1 Ptr (the_global 1)) ∷ line (op.Store i64 (n64 6) (reg 1)) ∷ line (op.Ret (Some (arg i32 (n32 0)))) ∷ []) ∷ [])
    ∷ define (codes "xmit") (param (codes "s") Ptr ∷ param (codes "d") Ptr ∷ []) (codes "r" ∷ []) (Some i32)
    (block (codes "0") (call (Some 2) (Some i32) 1 (arg Ptr (reg 0) ∷ []) ∷ line (op.Ret (Some (arg i32 (reg 2)))) ∷ []) ∷ [])
    ∷ [])

-- It is given away by the module that has it on loan.
abbrev pub BorrowedPacket : Type 0
BorrowedPacket =
    GivesAccount (program borrowed_module (2 ∷ 3 ∷ 4 ∷ [])) script
    (told 34 (Refused (refusal.Borrowed (Inst 0 0) (caps.Write 0x2000010 24))) (Refused (refusal.Write (Inst 0 0) 0x0 8)) (image 1 0 4) (0x100e0 ∷ []))
