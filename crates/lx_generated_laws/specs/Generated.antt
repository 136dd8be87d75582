-- Twenty generated calls on four threads.
use Rattle.lx_caps.specs.declared.Principal.TheVariants.{Shared}
use Rattle.lx_generated_laws.specs.Accounts.{GivesAccount, asked, events, ended, calls_at, image, plain_account}
use Rattle.lx_generated_laws.specs.Programs.{built_in, over}
use Rattle.lx_generated_laws.specs.RowTexts.{i64, reg, n64, line, arg, call, param, block, define, declare, of_functions}
use Rattle.lx_ir.specs.declared.instr.Conversion.TheVariants as convert
use Rattle.lx_ir.specs.declared.instr.Op.TheVariants as op
use Rattle.lx_ir.specs.declared.module.Module.{Module}
use Rattle.lx_ir.specs.declared.types.Scalar.TheVariants.{Ptr}
use Rattle.lx_model.specs.declared.account.CallOutcome.{CallOutcome}
use Rattle.lx_model.specs.declared.program.ScriptCall.{ScriptCall}
use Rattle.lx_model.specs.declared.request.Outcome.TheVariants.{Returned, Refused}
use Rattle.lx_model.specs.declared.request.Refusal.TheVariants as refusal
use Rattle.lx_words.specs.Word.{word}
use Rattle.lx_words.specs.declared.word.Width.TheVariants.{W64}
use Rattle.std.specs.Prelude.{ℕ, Some, None, List, [], ◌∷◌, ◌++◌, codes}

abbrev pub the_module : Module
the_module =
    of_functions
    (declare (codes "kmalloc") (param [] i64 ∷ []) (Some Ptr)
    ∷ declare (codes "kfree") (param [] Ptr ∷ []) None
    ∷ define (codes "work") (param (codes "n") i64 ∷ []) (codes "p" ∷ codes "v" ∷ []) (Some i64)
    (block (codes "0") (call (Some 1) (Some Ptr) 0 (arg i64 (n64 16) ∷ []) ∷ line (op.Store i64 (reg 0) (reg 1)) ∷ line (op.Load 2 i64 (reg 1)) ∷ call None None 1 (arg Ptr (reg 1) ∷ []) ∷ line (op.Ret (Some (arg i64 (reg 2)))) ∷ []) ∷ [])
    ∷ define (codes "stray") (param (codes "n") i64 ∷ []) (codes "p" ∷ []) (Some i64)
    (block (codes "0") (line (op.Convert 1 convert.IntToPtr i64 (n64 16777216) Ptr) ∷ line (op.Store i64 (reg 0) (reg 1)) ∷ line (op.Ret (Some (arg i64 (reg 0)))) ∷ []) ∷ [])
    ∷ [])

-- calls of `@work` and of `@stray` with this number, and how they end
abbrev pub works : ℕ → ScriptCall
works n = asked 19 (word W64 n ∷ [])

abbrev pub strays : ℕ → ScriptCall
strays n = asked 20 (word W64 n ∷ [])

abbrev pub worked : ℕ → ℕ → CallOutcome
worked t n = ended t 19 (Returned (Some (word W64 n)))

abbrev pub strayed : ℕ → CallOutcome
strayed t = ended t 20 (Refused (refusal.Write (Shared 0) 0x1000000 8))

abbrev pub script : List (List ScriptCall)
script =
    (works 20 ∷ works 32 ∷ works 44 ∷ works 56 ∷ works 68 ∷ [])
    ∷ (works 23 ∷ works 35 ∷ strays 47 ∷ works 59 ∷ works 71 ∷ [])
    ∷ (works 26 ∷ works 38 ∷ works 50 ∷ works 62 ∷ works 74 ∷ [])
    ∷ (works 29 ∷ works 41 ∷ works 53 ∷ works 65 ∷ strays 77 ∷ []) ∷ []

abbrev pub outcomes : List CallOutcome
outcomes =
    worked 0 20 ∷ worked 0 32 ∷ worked 0 44 ∷ worked 0 56 ∷ worked 0 68
    ∷ worked 1 23 ∷ worked 1 35 ∷ strayed 1 ∷ worked 1 59 ∷ worked 1 71
    ∷ worked 2 26 ∷ worked 2 38 ∷ worked 2 50 ∷ worked 2 62 ∷ worked 2 74
    ∷ worked 3 29 ∷ worked 3 41 ∷ worked 3 53 ∷ worked 3 65 ∷ strayed 3 ∷ []

abbrev pub Generated : Type 0
Generated =
    GivesAccount (over built_in the_module (2 ∷ 3 ∷ []) []) script
    (plain_account (events 0 70 ++ events 1 58 ++ events 2 70 ++ events 3 58) outcomes (image 2 0 2) (calls_at (0x10060 ∷ 0x10080 ∷ 0x10130 ∷ 0x10140 ∷ [])))
