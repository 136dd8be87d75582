-- The laws are lemmas.
use Rattle.std.proofs.Common.{◌∙◌, sym}
use Rattle.lx_trace.proofs.Ended.{ends_its_call}
use Rattle.lx_trace.proofs.Gained.{counted, gained}
use Rattle.lx_trace.proofs.Placed.{has_place}
use Rattle.lx_trace.proofs.Sited.{has_site}
use Rattle.lx_trace.proofs.trace_laws.Goals as goal

pub returns : goal.returns
returns c = record {
  journal = gained;
  count = counted;
  one = λ p script schedule a b r s x y. (x.written ∙ sym y.written, sym x.status ∙ y.status);
  ended = ends_its_call c.reached_laws.ensures;
  placed = has_place c.place_laws.ensures;
  sited = has_site c.place_laws.ensures;
}
