use Rattle.std.proofs.Common.{◌∙◌, ap, ap₂}
use Rattle.std.proofs.lemmas.Result.{IfOk-weaker}
use Rattle.clap.specs.Words.{App, with_subcommand}
use Rattle.lx_cli.proofs.tree.tree.Goals as goal

pub returns : goal.returns
returns c =
    let one = c.in_ok-subcommand.ensures.shape c.in_ok-with_one.ensures.local ∙ ap₂ with_subcommand c.top.ensures (ap (λ (a : App). a.top) c.in_ok-with_one.ensures.app) in
    let two = c.in_ok-subcommand-2.ensures.shape c.in_ok-with_two.ensures.local ∙ ap₂ with_subcommand one (ap (λ (a : App). a.top) c.in_ok-with_two.ensures.app) in
    let three = c.in_ok-subcommand-3.ensures.shape c.in_ok-with_two-2.ensures.local ∙ ap₂ with_subcommand two (ap (λ (a : App). a.top) c.in_ok-with_two-2.ensures.app) in
    let four = c.in_ok-subcommand-4.ensures.shape c.in_ok-with_three.ensures.local ∙ ap₂ with_subcommand three (ap (λ (a : App). a.top) c.in_ok-with_three.ensures.app) in
    let five = c.in_ok-subcommand-5.ensures.shape c.in_ok-with_one-2.ensures.local ∙ ap₂ with_subcommand four (ap (λ (a : App). a.top) c.in_ok-with_one-2.ensures.app) in
    let six = c.in_ok-subcommand-6.ensures.shape c.in_ok-with_one-3.ensures.local ∙ ap₂ with_subcommand five (ap (λ (a : App). a.top) c.in_ok-with_one-3.ensures.app) in
    IfOk-weaker c.subcommand-7.result _ _ (λ r adds. adds.shape c.in_ok-with_two-3.ensures.local ∙ ap₂ with_subcommand six (ap (λ (a : App). a.top) c.in_ok-with_two-3.ensures.app)) c.subcommand-7.ensures
