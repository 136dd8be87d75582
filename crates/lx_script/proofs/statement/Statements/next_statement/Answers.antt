use Rattle.std.proofs.Common.{sym, ◌∙◌}
use Rattle.lx_script.proofs.Cutting.{all_said}
use Rattle.lx_script.proofs.statement.Statements.next_statement.Goals as goal

pub returns : goal.returns
returns c =
    let none = all_said c.loop-self.self-inside.row c.loop-self.self-inside.text.now (sym c.is_empty.ensures ∙ c.loop-self-test.false) in
    (sym c.loop-self.invariant.left ∙ none, none)
