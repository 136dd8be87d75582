use Rattle.lx_annot_laws.proofs.SameText.{text_same}
use Rattle.lx_annot_laws.proofs.RenamedClauses.{callable_kept}
use Rattle.lx_annot_laws.proofs.canonical_laws.Goals as goal

pub returns-clause-lists : goal.returns-clause-lists
returns-clause-lists c i j a p q = text_same i j p q a

pub returns-clause-parameters : goal.returns-clause-parameters
returns-clause-parameters c r known is p q sig a ts h = callable_kept r is known (λ e. e) p q sig a ts h
