use Rattle.std.proofs.Common.{[], arith}
use Rattle.lx_why.specs.Run.{acts_of}
use Rattle.lx_why.specs.Why.{behind}
use Rattle.lx_why.proofs.Behind.{none_noted}
use Rattle.lx_why.proofs.run.WhyRun.over.Goals as goal

pub returns : goal.returns
returns g c = λ p script o.
    let none = c.in_ok-noted.ensures.1 in
    record {
      images = o.images;
      accepted = o.accepted;
      guarded = o.guarded;
      world = o.stands_for;
      noted = none_noted (acts_of (behind p script [])) c.in_ok-noted.noted none c.in_ok-noted.ensures.0;
      within = omega (arith, none);
    }
