use Rattle.std.proofs.Common.{◌∙◌, bytes_eq}
use Rattle.lx_words.proofs.Lists.{found_row}
use Rattle.lx_annot_expressions.proofs.table.found.Goals as goal

pub returns : goal.returns
returns g c = c.first_row.ensures ∙ found_row (λ row. row.0.now) (λ row. row.1) (bytes_eq c.args.text.now) c.args.table.now
