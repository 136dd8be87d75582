-- One act more, and its number.
use Rattle.std.proofs.Common.{◌∙◌, arith}
use Rattle.lx_act_index.specs.Index.{Keeps, Notes}
use Rattle.lx_act_index.proofs.IndexLemmas.{on_err}
use Rattle.lx_act_index.proofs.index.ActIndex.note.Goals as goal

pub returns-in_err-note_act-clause-err : goal.returns-in_err-note_act-clause-err
unfolding Keeps
returns-in_err-note_act-clause-err c =
    on_err c.from_residual-in_err-note_act.result _ (λ h stands. record { count = stands.count; shows = c.in_err-note_act.ensures.err h stands.shows })

pub returns-clause-ok : goal.returns-clause-ok
unfolding Notes
returns-clause-ok c = λ h stands. record {
  count = let e = stands.count in omega (arith, e);
  shows = c.in_ok-note_act.ensures.ok h (c.in_ok-number.ensures ∙ stands.count) stands.shows;
}
