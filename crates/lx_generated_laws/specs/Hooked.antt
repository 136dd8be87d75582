-- Indirect calls of a function that was handed out, and of one that was not.
use Rattle.lx_caps.specs.declared.Principal.TheVariants.{Shared}
use Rattle.lx_generated_laws.specs.Accounts.{GivesAccount, asked, events, ended, calls_at, image, plain_account}
use Rattle.lx_generated_laws.specs.Programs.{built_in, over}
use Rattle.lx_generated_laws.specs.RowTexts.{i64, reg, n64, line, arg, call, block, define, declare, of_functions}
use Rattle.lx_ir.specs.declared.instr.Callee.TheVariants as callee
use Rattle.lx_ir.specs.declared.instr.Conversion.TheVariants as convert
use Rattle.lx_ir.specs.declared.instr.Op.TheVariants as op
use Rattle.lx_ir.specs.declared.module.Module.{Module}
use Rattle.lx_ir.specs.declared.types.Scalar.TheVariants.{Ptr}
use Rattle.lx_model.specs.declared.program.Program.{Program}
use Rattle.lx_model.specs.declared.request.Outcome.TheVariants.{Returned, Refused}
use Rattle.lx_model.specs.declared.request.Refusal.TheVariants as refusal
use Rattle.lx_words.specs.Word.{word}
use Rattle.lx_words.specs.declared.word.Width.TheVariants.{W64}
use Rattle.std.specs.Prelude.{Some, [], ◌∷◌, codes}

abbrev pub the_module : Module
the_module =
    of_functions
    (declare (codes "hook_get") [] (Some Ptr)
    ∷ define (codes "main") [] (codes "f" ∷ codes "r" ∷ []) (Some i64)
    (block (codes "0") (call (Some 0) (Some Ptr) 0 [] ∷ line (op.Call (Some 1) (Some i64) (callee.Register 0) (arg i64 (n64 41) ∷ [])) ∷ line (op.Ret (Some (arg i64 (reg 1)))) ∷ []) ∷ [])
    ∷ define (codes "wild") [] (codes "f" ∷ codes "r" ∷ []) (Some i64)
    (block (codes "0") (line (op.Convert 0 convert.IntToPtr i64 (n64 65792) Ptr) ∷ line (op.Call (Some 1) (Some i64) (callee.Register 0) (arg i64 (n64 1) ∷ [])) ∷ line (op.Ret (Some (arg i64 (reg 1)))) ∷ []) ∷ [])
    ∷ [])

abbrev pub program : Program
program = over built_in the_module (1 ∷ 2 ∷ []) []

abbrev pub Hooked : Type 0
Hooked =
    GivesAccount program ((asked 20 [] ∷ asked 19 [] ∷ []) ∷ [])
    (plain_account (events 0 10) (ended 0 20 (Refused (refusal.Call (Shared 0) 0x10100)) ∷ ended 0 19 (Returned (Some (word W64 42))) ∷ [])
    (image 0 2 1) (calls_at (0x100f0 ∷ 0x10100 ∷ 0x10130 ∷ 0x10140 ∷ [])))
