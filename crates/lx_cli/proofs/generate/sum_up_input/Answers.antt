use Rattle.std.proofs.Common.{◌≡◌, ◌∙◌, refl, ap, ℕ, List}
use Rattle.lx_model.specs.declared.program.Program.{Program}
use Rattle.lx_model.specs.declared.program.ScriptCall.{ScriptCall}
use Rattle.lx_model.specs.declared.account.Account.{Account}
use Rattle.lx_runs.specs.Reports.{IsAccountOfRun}
use Rattle.lx_cli.specs.Answer.{IsSummary, summary_text}
use Rattle.lx_cli.proofs.generate.sum_up_input.Goals as goal

summed : (n : ℕ) (p : Program) (script : List (List ScriptCall)) (a : Account) (text : List ℕ) → IsAccountOfRun p script a → text ≡ summary_text n a → IsSummary n p script text
summed n p script a text (schedule, whole, same) is =
    record { schedule = schedule; whole = whole; summed = is ∙ ap (λ (b : Account). summary_text n b) same }

pub returns : goal.returns
returns g c = (
  c.in_ok-text.text,
  refl,
  summed c.args.count c.args.input.program c.args.input.script c.in_ok-account.account c.in_ok-text.text c.in_ok-account.ensures c.in_ok-text.ensures,
)
