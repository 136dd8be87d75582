use Rattle.std.proofs.Common.{◌≡◌, ◌∙◌, refl, sym, ap, None}
use Rattle.lx_model.specs.World.{opening}
use Rattle.lx_why.specs.Why.{behind, certified_text}
use Rattle.lx_runs.proofs.Wholes.{unbroken_whole}
use Rattle.lx_runs.proofs.why.why_of.Goals as goal

-- the run stands for that of the whole schedule
pub text_of-requires : goal.text_of-requires
text_of-requires g c = (c.requires.0, c.requires.1, c.args.schedule.now, (c.in_ok-entry.ensures.whole c.requires.0 c.requires.1 c.requires.2 (let e = c.in-None.is in cc)).0)

pub returns : goal.returns
returns g c = λ p script st.
    let s = c.args.schedule.now in
    let none : c.in_ok-entry.field-0 ≡ None = let e = c.in-None.is in cc in
    let both = c.in_ok-entry.ensures.whole p script st none in (
      s,
      refl,
      record {
        whole = unbroken_whole p s (opening p script) (sym (c.in_ok-entry.ensures.broken p script st) ∙ none);
        certs = c.certify.new.out.items;
        certified = both.1;
        written = c.in_ok-text-in-None.ensures p script s both.0 ∙ ap (certified_text p (behind p script s)) c.as_slice.ensures.value;
      },
    )
