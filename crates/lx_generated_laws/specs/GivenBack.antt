-- A reference that is given back by a negative result.
use Rattle.lx_caps.specs.declared.Cap.TheVariants as caps
use Rattle.lx_caps.specs.declared.Principal.TheVariants.{Shared}
use Rattle.lx_generated_laws.specs.Accounts.{GivesAccount, asked, events, ended, shared, calls_at, named, image, plain_account}
use Rattle.lx_generated_laws.specs.Devices.{device_module, ops, dev_register, init}
use Rattle.lx_generated_laws.specs.Programs.{built_in, over}
use Rattle.lx_generated_laws.specs.RowTexts.{i32, reg, n32, null, to_function, to_nothing, line, arg, call, param, block, define, declare}
use Rattle.lx_ir.specs.declared.instr.Op.TheVariants as op
use Rattle.lx_ir.specs.declared.module.Module.{Module}
use Rattle.lx_ir.specs.declared.types.Scalar.TheVariants.{Ptr}
use Rattle.lx_model.specs.declared.account.Owned.{Owned}
use Rattle.lx_model.specs.declared.program.Program.{Program}
use Rattle.lx_model.specs.declared.request.Outcome.TheVariants.{Returned, Refused}
use Rattle.lx_model.specs.declared.request.Refusal.TheVariants as refusal
use Rattle.lx_words.specs.Word.{word}
use Rattle.lx_words.specs.declared.word.Width.TheVariants.{W32, W64}
use Rattle.std.specs.Prelude.{Some, None, List, [], ◌∷◌, codes}

abbrev pub the_module : Module
the_module =
    device_module
    (ops (codes "ops") (to_function 3) to_nothing ∷ [])
    (dev_register
    ∷ declare (codes "dev_set_priv") (param [] Ptr ∷ param [] Ptr ∷ []) None
    ∷ init
    ∷ define (codes "probe") (param (codes "d") Ptr ∷ []) [] (Some i32)
    (block (codes "0") (call None None 1 (arg Ptr (reg 0) ∷ arg Ptr null ∷ []) ∷ line (op.Ret (Some (arg i32 (n32 4294967291)))) ∷ []) ∷ [])
    ∷ define (codes "late") (param (codes "d") Ptr ∷ []) [] None
    (block (codes "0") (call None None 1 (arg Ptr (reg 0) ∷ arg Ptr null ∷ []) ∷ line (op.Ret None) ∷ []) ∷ [])
    ∷ [])

abbrev pub program : Program
program = over built_in the_module (2 ∷ 3 ∷ 4 ∷ []) (0x10000e0 ∷ [])

abbrev pub owners : List Owned
owners = shared (caps.Write 0x10000e0 16) ∷ calls_at (0x10090 ∷ 0x100a0 ∷ 0x10130 ∷ 0x10140 ∷ 0x10150 ∷ [])

abbrev pub GivenBack : Type 0
GivenBack =
    GivesAccount program ((asked 19 [] ∷ asked 17 (word W64 0 ∷ []) ∷ asked 21 (word W64 16777248 ∷ []) ∷ []) ∷ [])
    (record (plain_account (events 0 26)
    (ended 0 19 (Returned None) ∷ ended 0 17 (Returned (Some (word W32 4294967291))) ∷ ended 0 21 (Refused (refusal.Ref (Shared 0) 0 0x1000020)) ∷ [])
    (image 0 0 3) owners) { names = named 0 0x1000020 ∷ [] })
