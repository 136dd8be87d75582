-- The space is looked at as each memory that it shows.
use Rattle.std.proofs.Common.{ℕ, Option, ◌∙◌, ap, sym}
use Rattle.std.specs.Result.{result_ok}
use Rattle.lx_annot.specs.Items.{action_caps}
use Rattle.lx_actions.proofs.Looking.{alike}
use Rattle.lx_why.proofs.action_needs.named_caps.Goals as goal

pub returns-in-Ok : goal.returns-in-Ok
returns-in-Ok c = λ m shown.
    sym (ap (λ (look : ℕ → Option ℕ). result_ok (action_caps c.args.i.now look c.args.env.now c.args.a.now)) (alike c.args.space.now m shown) ∙ ap result_ok c.in-Ok.ensures)

pub returns-in-Err : goal.returns-in-Err
returns-in-Err c = λ m shown.
    sym (ap (λ (look : ℕ → Option ℕ). result_ok (action_caps c.args.i.now look c.args.env.now c.args.a.now)) (alike c.args.space.now m shown) ∙ ap result_ok c.in-Err.ensures)
