use Rattle.lx_annot_laws.proofs.LinesOf.{text_is_lines}
use Rattle.lx_annot_laws.proofs.interface_line_laws.Goals as goal

pub returns : goal.returns
returns c = text_is_lines
