-- Clauses, one after the other.
use Rattle.std.proofs.Common.{◌≡◌, ◌<◌, true, List, [], ◌∷◌, length, sym, ap, arith}
use Rattle.lx_annot.specs.declared.action.Annotation.{Annotation}
use Rattle.lx_annot_expressions.specs.Tokens.{Tok}
use Rattle.lx_annot_expressions.specs.Reading.{behind, steps_at}
use Rattle.lx_annot_terms.specs.Lists.{Known}
use Rattle.lx_annot_terms.specs.Signatures.{Signature}
use Rattle.lx_annot_terms.specs.Clauses.{begins_clause, clause_at, written_at, empty_annotation}
use Rattle.lx_annot_terms.proofs.Steps.{Stepping, steps_begin}

pub clauses_begin : (sig : Signature) (known : Known) (a : Annotation) (ts : List Tok) → a ≡ empty_annotation → Stepping begins_clause (clause_at sig known) a ts (written_at sig known ts)
unfolding written_at
clauses_begin sig known a ts e = steps_begin begins_clause (clause_at sig known) a ts _ (ap (λ b. steps_at begins_clause (clause_at sig known) (length ts) b ts) (sym e))

pub clause_shorter : (ts : List Tok) → begins_clause ts ≡ true → length (behind ts) < length ts
clause_shorter [] h = cc
clause_shorter (t ∷ ts) h = omega arith
