use Rattle.lx_report.proofs.FirstLine.{report_laws}
use Rattle.lx_report.proofs.report_laws.Goals as goal

pub returns : goal.returns
returns c = report_laws c.number_texts.ensures
