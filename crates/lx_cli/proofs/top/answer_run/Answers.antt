use Rattle.lx_cli.proofs.top.answer_run.Goals as goal

pub returns : goal.returns
returns g c = (c.in_ok-told.told, c.answer_of_run.ensures, c.in_ok-told.ensures)
