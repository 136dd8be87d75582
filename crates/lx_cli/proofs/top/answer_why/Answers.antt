use Rattle.lx_cli.proofs.top.answer_why.Goals as goal

pub returns : goal.returns
returns c = (c.in_ok-why.why, c.answer_of_why.ensures, c.in_ok-why.ensures)
