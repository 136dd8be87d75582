-- A slot that a module bends, swaps, zeroes, or does not have.
use Rattle.lx_caps.specs.declared.Cap.TheVariants as caps
use Rattle.lx_caps.specs.declared.Principal.TheVariants.{Kernel, Shared}
use Rattle.lx_generated_laws.specs.Accounts.{GivesAccount, asked, events, ended, shared, calls_at, image, plain_account}
use Rattle.lx_generated_laws.specs.Devices.{device_module, ops, dev_register, init}
use Rattle.lx_generated_laws.specs.Programs.{built_in, over}
use Rattle.lx_generated_laws.specs.RowTexts.{i32, i64, reg, n32, n64, address, the_global, to_function, line, arg, call, param, block, define, declare}
use Rattle.lx_ir.specs.IrType.{Named}
use Rattle.lx_ir.specs.declared.instr.Op.TheVariants as op
use Rattle.lx_ir.specs.declared.module.Module.{Module}
use Rattle.lx_ir.specs.declared.types.Scalar.TheVariants.{Ptr}
use Rattle.lx_model.specs.declared.account.Account.{Account}
use Rattle.lx_model.specs.declared.account.CallOutcome.{CallOutcome}
use Rattle.lx_model.specs.declared.account.Owned.{Owned}
use Rattle.lx_model.specs.declared.program.Program.{Program}
use Rattle.lx_model.specs.declared.program.ScriptCall.{ScriptCall}
use Rattle.lx_model.specs.declared.request.Outcome.TheVariants.{Returned, Refused}
use Rattle.lx_model.specs.declared.request.Outcome.{Outcome}
use Rattle.lx_model.specs.declared.request.Refusal.TheVariants as refusal
use Rattle.lx_words.specs.Word.{word}
use Rattle.lx_words.specs.declared.word.Width.TheVariants.{W64}
use Rattle.std.specs.Prelude.{ℕ, Some, None, List, [], ◌∷◌, codes}

abbrev pub the_module : Module
the_module =
    device_module
    (ops (codes "ops") (to_function 6) (to_function 7) ∷ [])
    (dev_register
    ∷ declare (codes "dev_zero") (param [] Ptr ∷ param [] i64 ∷ []) None
    ∷ init
    ∷ define (codes "bend") [] [] None
    (block (codes "0") (line (op.Store Ptr (address 65792) (the_global 0)) ∷ line (op.Ret None) ∷ []) ∷ [])
    ∷ define (codes "swap") [] (codes "s" ∷ codes "f" ∷ []) None
    (block (codes "0") (line (op.GetElementPtr 0 (Named 0) (the_global 0) (arg i64 (n64 0) ∷ arg i32 (n32 1) ∷ [])) ∷ line (op.Load 1 Ptr (reg 0)) ∷ line (op.Store Ptr (reg 1) (the_global 0)) ∷ line (op.Ret None) ∷ []) ∷ [])
    ∷ define (codes "again") [] [] None
    (block (codes "0") (call None None 1 (arg Ptr (the_global 0) ∷ arg i64 (n64 16) ∷ []) ∷ line (op.Store Ptr (address 65792) (the_global 0)) ∷ line (op.Ret None) ∷ []) ∷ [])
    ∷ define (codes "probe") (param (codes "d") Ptr ∷ []) [] (Some i32)
    (block (codes "0") (line (op.Ret (Some (arg i32 (n32 0)))) ∷ []) ∷ [])
    ∷ define (codes "xmit") (param (codes "s") Ptr ∷ param (codes "d") Ptr ∷ []) [] (Some i32)
    (block (codes "0") (line (op.Ret (Some (arg i32 (n32 0)))) ∷ []) ∷ [])
    ∷ define (codes "cold") [] (codes "d" ∷ []) None
    (block (codes "0") (call (Some 0) (Some Ptr) 0 (arg Ptr (address 33554432) ∷ []) ∷ line (op.Ret None) ∷ []) ∷ [])
    ∷ [])

abbrev pub program : Program
program = over built_in the_module (2 ∷ 3 ∷ 4 ∷ 5 ∷ 6 ∷ 7 ∷ 8 ∷ []) (0x10000e0 ∷ [])

abbrev pub owners : List Owned
owners = shared (caps.Write 0x10000e0 16) ∷ calls_at (0x10090 ∷ 0x100b0 ∷ 0x10130 ∷ 0x10140 ∷ 0x10150 ∷ 0x10160 ∷ 0x10170 ∷ 0x10180 ∷ 0x10190 ∷ [])

-- so many events, and how the calls end
abbrev pub told : ℕ → List CallOutcome → Account
told n outcomes = plain_account (events 0 n) outcomes (image 3 0 4) owners

-- `@do_probe` of the kernel, of the first device
abbrev pub probe : ScriptCall
probe = asked 17 (word W64 0 ∷ [])

-- so many events: `@init`, the function with this number, and the probe, which ends so
abbrev pub EndsProbe : ℕ → ℕ → Outcome → Type 0
EndsProbe n changes outcome =
    GivesAccount program ((asked 19 [] ∷ asked changes [] ∷ probe ∷ []) ∷ [])
    (told n (ended 0 19 (Returned None) ∷ ended 0 changes (Returned None) ∷ ended 0 17 outcome ∷ []))

-- A slot that a module bent to a function which it may not call.
abbrev pub BentSlot : Type 0
BentSlot = EndsProbe 18 20 (Refused (refusal.Writer (Shared 0) 0x10100 0x10000e0))

-- A slot that holds a function of another annotation.
abbrev pub SwappedSlot : Type 0
SwappedSlot = EndsProbe 19 21 (Refused (refusal.OtherAnnotation Kernel 0x10180 0 24))

-- A slot that is zeroed while a module owns it.
abbrev pub ZeroedSlot : Type 0
ZeroedSlot = EndsProbe 22 22 (Refused (refusal.Writer (Shared 0) 0x10100 0x10000e0))

-- A clean slot that holds no function.
abbrev pub ColdSlot : Type 0
ColdSlot =
    GivesAccount program ((asked 25 [] ∷ probe ∷ []) ∷ [])
    (told 14 (ended 0 25 (Returned None) ∷ ended 0 17 (Refused (refusal.NotAnnotated Kernel 0)) ∷ []))
