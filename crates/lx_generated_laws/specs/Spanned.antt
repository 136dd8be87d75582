-- A store over bytes of the shared principal and of an instance.
use Rattle.lx_caps.specs.declared.Cap.TheVariants as caps
use Rattle.lx_generated_laws.specs.Accounts.{GivesAccount, asked, events, ended, shared, of_instance, calls_at, named, image, plain_account}
use Rattle.lx_generated_laws.specs.Devices.{device_module, ops, dev_register, init}
use Rattle.lx_generated_laws.specs.Programs.{built_in, over}
use Rattle.lx_generated_laws.specs.RowTexts.{i32, i64, reg, n32, n64, the_global, to_function, to_nothing, line, arg, call, param, block, define, declare, global}
use Rattle.lx_ir.specs.Init.{Empty}
use Rattle.lx_ir.specs.IrType.{One, Array}
use Rattle.lx_ir.specs.declared.instr.Op.TheVariants as op
use Rattle.lx_ir.specs.declared.module.Blank.TheVariants.{Zero}
use Rattle.lx_ir.specs.declared.module.Module.{Module}
use Rattle.lx_ir.specs.declared.types.Scalar.TheVariants.{Int, Ptr}
use Rattle.lx_model.specs.declared.account.Owned.{Owned}
use Rattle.lx_model.specs.declared.program.Program.{Program}
use Rattle.lx_model.specs.declared.request.Outcome.TheVariants.{Returned}
use Rattle.lx_words.specs.Word.{word}
use Rattle.lx_words.specs.declared.word.Width.TheVariants.{W8, W32, W64}
use Rattle.std.specs.Prelude.{Some, None, List, [], ◌∷◌, ◌++◌, codes}

abbrev pub the_module : Module
the_module =
    device_module
    (ops (codes "ops") (to_function 3) to_nothing ∷ global (codes "buf") (Array 16 (One (Int W8))) (Empty Zero) ∷ [])
    (dev_register
    ∷ declare (codes "dev_wipe") (param [] Ptr ∷ param [] i64 ∷ []) None
    ∷ init
    ∷ define (codes "probe") (param (codes "d") Ptr ∷ []) (codes "h" ∷ codes "q" ∷ []) (Some i32)
    (block (codes "0") (line (op.GetElementPtr 1 (One (Int W8)) (the_global 1) (arg i64 (n64 8) ∷ [])) ∷ call None None 1 (arg Ptr (reg 1) ∷ arg i64 (n64 8) ∷ []) ∷ line (op.GetElementPtr 2 (One (Int W8)) (the_global 1) (arg i64 (n64 4) ∷ [])) ∷ line (op.Store i64 (n64 18446744073709551615) (reg 2)) ∷ line (op.Ret (Some (arg i32 (n32 0)))) ∷ []) ∷ [])
    ∷ [])

abbrev pub program : Program
program = over built_in the_module (2 ∷ 3 ∷ []) (0x10000e0 ∷ 0x10000f0 ∷ [])

abbrev pub owners : List Owned
owners = shared (caps.Write 0x10000e0 24) ∷ calls_at (0x10090 ∷ 0x100c0 ∷ 0x10130 ∷ 0x10140 ∷ []) ++ of_instance 0 (caps.Write 0x10000f8 8) ∷ of_instance 0 (caps.Ref 0 0x1000020) ∷ []

abbrev pub Spanned : Type 0
Spanned =
    GivesAccount program ((asked 19 [] ∷ asked 17 (word W64 0 ∷ []) ∷ []) ∷ [])
    (record (plain_account (events 0 25) (ended 0 19 (Returned None) ∷ ended 0 17 (Returned (Some (word W32 0))) ∷ []) (image 1 0 3) owners) { names = named 0 0x1000020 ∷ [] })
