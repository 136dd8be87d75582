use Rattle.std.proofs.Common.{ap, sym, ◌∙◌, arith}
use Rattle.std.specs.Prelude.{bytes_eq}
use Rattle.lx_words.proofs.Lists.{joined_then, joined_else}
use Rattle.lx_code.proofs.targets.behind.Goals as goal

pub returns-then-is_same : goal.returns-then-is_same
returns-then-is_same c = λ back.
    sym (joined_then c.args.front.now back c.args.name.now (omega arith) (ap (bytes_eq c.args.front.now) (sym c.split_at.ensures.front) ∙ sym c.is_same.ensures ∙ c.if-is_same.true))
    ∙ ap (bytes_eq back) (sym c.split_at.ensures.back)

pub returns-else-is_same : goal.returns-else-is_same
returns-else-is_same c = λ back.
    sym (joined_else c.args.front.now back c.args.name.now (omega arith) (ap (bytes_eq c.args.front.now) (sym c.split_at.ensures.front) ∙ sym c.is_same.ensures ∙ c.if-is_same.false))
