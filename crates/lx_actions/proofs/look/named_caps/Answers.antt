use Rattle.std.proofs.Common.{ℕ, Option, ◌∙◌, ap}
use Rattle.lx_annot.specs.Items.{action_caps}
use Rattle.lx_actions.proofs.Looking.{alike}
use Rattle.lx_actions.proofs.look.named_caps.Goals as goal

pub returns-in-Ok : goal.returns-in-Ok
returns-in-Ok c = λ m shown.
    ap (λ (look : ℕ → Option ℕ). action_caps c.args.i.now look c.args.env.now c.args.a.now) (alike c.args.space.now m shown) ∙ c.in-Ok.ensures

pub returns-in-Err : goal.returns-in-Err
returns-in-Err c = λ m shown. (
  c.in-Err.fault.at,
  ap (λ (look : ℕ → Option ℕ). action_caps c.args.i.now look c.args.env.now c.args.a.now) (alike c.args.space.now m shown) ∙ c.in-Err.ensures,
  c.first_unmapped.ensures,
)
