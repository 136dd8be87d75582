use Rattle.lx_annot_read.specs.Head.{may_lend}
use Rattle.lx_annot_laws.proofs.PrintedExpressions.{expr_says, own_names}
use Rattle.lx_annot_laws.proofs.Actions.{action_says, items_say}
use Rattle.lx_annot_laws.proofs.Annotations.{annotation_says}
use Rattle.lx_annot_laws.proofs.Signatures.{params_say}
use Rattle.lx_annot_laws.proofs.printed_part_laws.Goals as goal

pub returns-clause-exprs : goal.returns-clause-exprs
returns-clause-exprs c scope e ts l is = expr_says c.number_texts.ensures scope scope (own_names scope) e ts l is

pub returns-clause-actions : goal.returns-clause-actions
returns-clause-actions c v i scope a ts l is = action_says c.number_texts.ensures i (may_lend v) scope scope (own_names scope) a ts l is

pub returns-clause-items : goal.returns-clause-items
returns-clause-items c v i q xs ts l is = items_say c.number_texts.ensures i (may_lend v) q xs ts l is

pub returns-clause-annotations : goal.returns-clause-annotations
returns-clause-annotations c v i sig free a ts l is = annotation_says c.number_texts.ensures i (may_lend v) sig free a ts l is

pub returns-clause-params : goal.returns-clause-params
returns-clause-params c = params_say
