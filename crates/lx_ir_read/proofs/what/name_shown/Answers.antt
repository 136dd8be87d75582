use Rattle.std.proofs.Common.{sym, ◌∙◌}
use Rattle.lx_ir_read.proofs.Names.{nameless_shown}
use Rattle.lx_ir_read.proofs.what.name_shown.Goals as goal

pub returns-then-is_nameless : goal.returns-then-is_nameless
returns-then-is_nameless c =
    nameless_shown c.args.names.now c.args.before.now c.args.toks.now c.in-Some.token.now c.in-Some.behind.now c.numbered_in.result c.in_ok-name.name.items c.in-Some.ensures.cases.0 (sym c.is_nameless.ensures ∙ c.if-is_nameless.true) c.numbered_in.ensures c.in_ok-name.ensures
