-- Two instances of one module, of which one writes to what the other owns.
use Rattle.lx_caps.specs.declared.Cap.TheVariants as caps
use Rattle.lx_caps.specs.declared.Principal.TheVariants.{Inst}
use Rattle.lx_generated_laws.specs.Accounts.{GivesAccount, asked, events, ended, shared, of_instance, calls_at, named, image, plain_account}
use Rattle.lx_generated_laws.specs.Devices.{device_module, ops, dev_register}
use Rattle.lx_generated_laws.specs.Programs.{built_in, over}
use Rattle.lx_generated_laws.specs.RowTexts.{i32, i64, reg, n32, n64, address, the_global, to_function, to_nothing, line, arg, call, param, block, define, declare, global}
use Rattle.lx_ir.specs.Init.{Plain}
use Rattle.lx_ir.specs.IrType.{One}
use Rattle.lx_ir.specs.declared.instr.Op.TheVariants as op
use Rattle.lx_ir.specs.declared.module.Constant.TheVariants as constant
use Rattle.lx_ir.specs.declared.module.Module.{Module}
use Rattle.lx_ir.specs.declared.types.Scalar.TheVariants.{Ptr}
use Rattle.lx_model.specs.declared.account.Account.{Account}
use Rattle.lx_model.specs.declared.account.CallOutcome.{CallOutcome}
use Rattle.lx_model.specs.declared.account.InstanceName.{InstanceName}
use Rattle.lx_model.specs.declared.account.Owned.{Owned}
use Rattle.lx_model.specs.declared.program.Program.{Program}
use Rattle.lx_model.specs.declared.program.ScriptCall.{ScriptCall}
use Rattle.lx_model.specs.declared.request.Outcome.TheVariants.{Returned, Refused}
use Rattle.lx_model.specs.declared.request.Refusal.TheVariants as refusal
use Rattle.lx_words.specs.Word.{word}
use Rattle.lx_words.specs.declared.word.Pred.TheVariants as pred
use Rattle.lx_words.specs.declared.word.Width.TheVariants.{W32, W64}
use Rattle.std.specs.Prelude.{ℕ, Some, None, List, [], ◌∷◌, ◌++◌, codes}

abbrev pub the_module : Module
the_module =
    device_module
    (ops (codes "oa") (to_function 5) to_nothing ∷ ops (codes "ob") (to_function 6) to_nothing ∷ global (codes "box") (One Ptr) (Plain to_nothing) ∷ global (codes "flag") (One i64) (Plain (constant.Number (word W64 0))) ∷ [])
    (dev_register
    ∷ declare (codes "kmalloc") (param [] i64 ∷ []) (Some Ptr)
    ∷ declare (codes "lxfi_princ_alias") (param [] Ptr ∷ param [] Ptr ∷ []) None
    ∷ define (codes "init") [] (codes "a" ∷ codes "b" ∷ []) None
    (block (codes "0") (call (Some 0) (Some Ptr) 0 (arg Ptr (the_global 0) ∷ []) ∷ call (Some 1) (Some Ptr) 0 (arg Ptr (the_global 1) ∷ []) ∷ line (op.Ret None) ∷ []) ∷ [])
    ∷ define (codes "mode") (param (codes "v") i64 ∷ []) [] None
    (block (codes "0") (line (op.Store i64 (reg 0) (the_global 3)) ∷ line (op.Ret None) ∷ []) ∷ [])
    ∷ define (codes "probe_a") (param (codes "d") Ptr ∷ []) (codes "p" ∷ []) (Some i32)
    (block (codes "0") (line (op.Load 1 Ptr (the_global 2)) ∷ line (op.Store i64 (n64 9) (reg 1)) ∷ line (op.Ret (Some (arg i32 (n32 0)))) ∷ []) ∷ [])
    ∷ define (codes "probe_b") (param (codes "d") Ptr ∷ []) (codes "p" ∷ codes "f" ∷ codes "t" ∷ []) (Some i32)
    (block (codes "0") (call (Some 1) (Some Ptr) 1 (arg i64 (n64 8) ∷ []) ∷ line (op.Store Ptr (reg 1) (the_global 2)) ∷ line (op.Load 2 i64 (the_global 3)) ∷ line (op.Compare 3 pred.Ne i64 (reg 2) (n64 0)) ∷ line (op.Branch (reg 3) (codes "y") (codes "n")) ∷ [])
    ∷ block (codes "y") (call None None 2 (arg Ptr (reg 0) ∷ arg Ptr (address 16777248) ∷ []) ∷ line (op.Jump (codes "n")) ∷ [])
    ∷ block (codes "n") (line (op.Ret (Some (arg i32 (n32 0)))) ∷ []) ∷ [])
    ∷ [])

abbrev pub program : Program
program = over built_in the_module (3 ∷ 4 ∷ 5 ∷ 6 ∷ []) (0x10000e0 ∷ 0x10000f0 ∷ 0x1000100 ∷ 0x1000110 ∷ [])

-- what the shared principal owns in each of the runs
abbrev pub owners : List Owned
owners = shared (caps.Write 0x10000e0 40) ∷ shared (caps.Write 0x1000110 8) ∷ calls_at (0x10060 ∷ 0x10090 ∷ 0x10130 ∷ 0x10140 ∷ 0x10150 ∷ 0x10160 ∷ [])

-- so many events, how the calls end, what the instances own, and their names
abbrev pub told : ℕ → List CallOutcome → List Owned → List InstanceName → Account
told n outcomes instances names = record (plain_account (events 0 n) outcomes (image 3 0 4) (owners ++ instances)) { names = names }

-- `@mode` takes the number 1
abbrev pub aliases : ScriptCall
aliases = asked 20 (word W64 1 ∷ [])

-- `@do_probe` of the kernel, of a device
abbrev pub probe : ℕ → ScriptCall
probe device = asked 17 (word W64 device ∷ [])

-- One instance writes to what another owns.
abbrev pub TwoInstances : Type 0
TwoInstances =
    GivesAccount program ((asked 19 [] ∷ probe 1 ∷ probe 0 ∷ []) ∷ [])
    (told 40 (ended 0 19 (Returned None) ∷ ended 0 17 (Returned (Some (word W32 0))) ∷ ended 0 17 (Refused (refusal.Write (Inst 0 1) 0x2000010 8)) ∷ [])
    (of_instance 0 (caps.Write 0x2000010 8) ∷ of_instance 0 (caps.Ref 0 0x1000038) ∷ of_instance 1 (caps.Ref 0 0x1000020) ∷ [])
    (named 0 0x1000038 ∷ named 1 0x1000020 ∷ []))

-- The same under a further name of the one that owns.
abbrev pub Aliased : Type 0
Aliased =
    GivesAccount program ((asked 19 [] ∷ aliases ∷ probe 1 ∷ probe 0 ∷ []) ∷ [])
    (told 49 (ended 0 19 (Returned None) ∷ ended 0 20 (Returned None) ∷ ended 0 17 (Returned (Some (word W32 0))) ∷ ended 0 17 (Returned (Some (word W32 0))) ∷ [])
    (of_instance 0 (caps.Write 0x2000010 8) ∷ of_instance 0 (caps.Ref 0 0x1000020) ∷ of_instance 0 (caps.Ref 0 0x1000038) ∷ []) (named 0 0x1000038 ∷ []))

-- A further name that is taken.
abbrev pub AliasRefused : Type 0
AliasRefused =
    GivesAccount program ((asked 19 [] ∷ aliases ∷ probe 0 ∷ probe 1 ∷ []) ∷ [])
    (told 41 (ended 0 19 (Returned None) ∷ ended 0 20 (Returned None) ∷ ended 0 17 (Refused (refusal.Write (Inst 0 0) 0 8)) ∷ ended 0 17 (Refused (refusal.Alias (Inst 0 1) 0x1000038 0x1000020)) ∷ [])
    (of_instance 0 (caps.Ref 0 0x1000020) ∷ of_instance 1 (caps.Write 0x2000010 8) ∷ of_instance 1 (caps.Ref 0 0x1000038) ∷ [])
    (named 0 0x1000020 ∷ named 1 0x1000038 ∷ []))
