use Rattle.std.proofs.Common.{◌∙◌, ap, Some, None}
use Rattle.lx_code_lines.specs.Lines.{instrs_or_none}
use Rattle.lx_code_lines.proofs.Labels.{named_there}
use Rattle.lx_code_lines.proofs.functions.instrs_named.Goals as goal

pub returns-in-Some : goal.returns-in-Some
returns-in-Some c =
    c.instrs_at.ensures ∙ ap instrs_or_none (named_there c.args.code.now c.requires.accepted c.args.number c.args.label.now c.args.blocks.now c.requires.blocks (Some c.in-Some.place) c.in-Some.ensures)

pub returns-in-None : goal.returns-in-None
returns-in-None c =
    ap instrs_or_none (named_there c.args.code.now c.requires.accepted c.args.number c.args.label.now c.args.blocks.now c.requires.blocks None c.in-None.ensures)
