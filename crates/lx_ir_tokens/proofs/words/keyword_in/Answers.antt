use Rattle.std.proofs.Common.{◌∙◌, ap, bytes_eq, unwrap_or, ℕ, List, Bor}
use Rattle.lx_words.proofs.Lists.{found_row}
use Rattle.lx_ir_tokens.specs.declared.keyword.Keyword.{Keyword}
use Rattle.lx_ir_tokens.specs.declared.keyword.Keyword.TheVariants.{Other}
use Rattle.lx_ir_tokens.proofs.words.keyword_in.Goals as goal

abbrev key : Bor (List ℕ) × Keyword → List ℕ
key row = row.0.now

abbrev keyword : Bor (List ℕ) × Keyword → Keyword
keyword row = row.1

pub returns : goal.returns
returns c =
    c.unwrap_or.ensures ∙ ap (λ o. unwrap_or o Other) (c.found.ensures ∙ found_row key keyword (bytes_eq c.args.text.now) c.args.table.now)
