-- Worked rows: a store that is allowed, with enough fuel and with too little, and one that is refused.
use Rattle.lx_caps.specs.declared.Cap.TheVariants as caps
use Rattle.lx_caps.specs.declared.Principal.TheVariants.{Shared}
use Rattle.lx_generated_laws.specs.Accounts.{GivesAccount, fuelled, ended, shared, calls_at, image, plain_account}
use Rattle.lx_generated_laws.specs.Programs.{nothing, over}
use Rattle.lx_generated_laws.specs.RowTexts.{i32, i64, reg, n32, n64, the_global, line, arg, block, define, global}
use Rattle.lx_ir.specs.Init.{Plain, Empty}
use Rattle.lx_ir.specs.IrType.{One, Array}
use Rattle.lx_ir.specs.declared.instr.Op.TheVariants as op
use Rattle.lx_ir.specs.declared.module.Blank.TheVariants.{Zero}
use Rattle.lx_ir.specs.declared.module.Constant.TheVariants as constant
use Rattle.lx_ir.specs.declared.module.Module.{Module}
use Rattle.lx_ir.specs.declared.types.Scalar.TheVariants.{Int}
use Rattle.lx_model.specs.Account.{outcomes_of}
use Rattle.lx_model.specs.Plain.{plain_run}
use Rattle.lx_model.specs.World.{opening}
use Rattle.lx_model.specs.declared.account.Account.{Account}
use Rattle.lx_model.specs.declared.program.Program.{Program}
use Rattle.lx_model.specs.declared.program.ScriptCall.{ScriptCall}
use Rattle.lx_model.specs.declared.request.Outcome.TheVariants.{Returned, Refused, Budget}
use Rattle.lx_model.specs.declared.request.Outcome.{Outcome}
use Rattle.lx_model.specs.declared.request.Refusal.TheVariants as refusal
use Rattle.lx_words.specs.Word.{word}
use Rattle.lx_words.specs.declared.word.Width.TheVariants.{W8, W32}
use Rattle.std.specs.Prelude.{◌≡◌, ℕ, Some, None, List, [], ◌∷◌, codes}

abbrev pub one_module : Module
one_module =
    record {
      types = [];
      globals = global (codes "g") (One i32) (Plain (constant.Number (word W32 0))) ∷ [];
      functions =
          define (codes "main") [] (codes "v" ∷ []) (Some i32)
          (block (codes "0") (
          line (op.Store i32 (n32 7) (the_global 0))
          ∷ line (op.Load 0 i32 (the_global 0))
          ∷ line (op.Ret (Some (arg i32 (reg 0)))) ∷ []) ∷ [])
          ∷ [];
    }

abbrev pub past_module : Module
past_module =
    record {
      types = [];
      globals = global (codes "g") (Array 7 (One (Int W8))) (Empty Zero) ∷ [];
      functions = define (codes "main") [] [] None (block (codes "0") (line (op.Store i64 (n64 7) (the_global 0)) ∷ line (op.Ret None) ∷ []) ∷ []) ∷ [];
    }

-- the program of such a module
abbrev pub alone : Module → Program
alone m = over nothing m (0 ∷ []) (0x1000000 ∷ [])

abbrev pub main_call : ℕ → List (List ScriptCall)
main_call fuel = (fuelled 6 [] fuel ∷ []) ∷ []

-- its account, where the global has so many bytes
abbrev pub alone_account : List ℕ → Outcome → ℕ → Account
alone_account schedule outcome size =
    plain_account schedule (ended 0 6 outcome ∷ []) (image 1 0 0) (shared (caps.Write 0x1000000 size) ∷ calls_at (0x10060 ∷ []))

abbrev pub five : List ℕ
five = 0 ∷ 0 ∷ 0 ∷ 0 ∷ 0 ∷ []

abbrev pub four : List ℕ
four = 0 ∷ 0 ∷ 0 ∷ 0 ∷ []

abbrev pub two : List ℕ
two = 0 ∷ 0 ∷ []

pub record WorkedRows : Type 0 where
  pub stored : GivesAccount (alone one_module) (main_call 4) (alone_account five (Returned (Some (word W32 7))) 4)
  pub budget : GivesAccount (alone one_module) (main_call 3) (alone_account four Budget 4)
  pub past : GivesAccount (alone past_module) (main_call 100) (alone_account two (Refused (refusal.Write (Shared 0) 0x1000000 8)) 7)
  -- without capabilities the same store is made
  pub plain_past : outcomes_of (plain_run (alone past_module) four (opening (alone past_module) (main_call 100))) ≡ ended 0 6 (Returned None) ∷ []
