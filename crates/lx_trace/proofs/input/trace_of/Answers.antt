use Rattle.std.proofs.Common.{◌∙◌, refl, sym, ap}
use Rattle.lx_model.specs.Account.{account}
use Rattle.lx_model.specs.World.{opening}
use Rattle.lx_runs.proofs.Wholes.{unbroken_whole}
use Rattle.lx_trace_text.specs.Text.{trace_text}
use Rattle.lx_trace.specs.Trace.{behind}
use Rattle.lx_trace.proofs.input.trace_of.Goals as goal

-- the run stands for that of the whole schedule
pub text_of-requires : goal.text_of-requires
text_of-requires g c =
    let given = c.requires in
    (given.0, given.1, c.args.schedule.now, (c.in_ok-entry.ensures.whole given.0 given.1 given.2 c.in-None.is).0, given.3)

pub returns-in_ok-text-in-None : goal.returns-in_ok-text-in-None
returns-in_ok-text-in-None g c = λ p script st.
    let s = c.args.schedule.now in
    let none = c.in-None.is in
    let both = c.in_ok-entry.ensures.whole p script st none in (
      s,
      refl,
      record {
        whole = unbroken_whole p s (opening p script) (sym (c.in_ok-entry.ensures.broken p script st) ∙ none);
        written = c.in_ok-text-in-None.ensures.text p script s both.0 ∙ ap (trace_text p (account p (behind p script s)).names) (c.as_slice.ensures.value ∙ both.1);
        status = sym (c.in_ok-text-in-None.ensures.status p script s both.0);
      },
    )
