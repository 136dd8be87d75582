-- The laws are lemmas.
use Rattle.lx_run_laws.proofs.Listing.{listed_there}
use Rattle.lx_run_laws.proofs.Opened.{first_owned}
use Rattle.lx_run_laws.proofs.Principals.{lists_principals, numbers_instances, writers_hold}
use Rattle.lx_run_laws.proofs.ReachedFrames.{run_reached}
use Rattle.lx_run_laws.proofs.Stops.{stops_cleanly}
use Rattle.lx_run_laws.proofs.Texts.{asks_by_text, run_as_texts}
use Rattle.lx_run_laws.proofs.reached_laws.Goals as goal

pub returns : goal.returns
returns c = record {
  stopped = stops_cleanly c.authority_laws.ensures;
  texts = λ p script s. run_as_texts p _ (run_reached p script s);
  asked = λ p script s t. asks_by_text c.run_laws.ensures p t _ (run_reached p script s);
  exact = listed_there;
  listed = λ p script s homes. lists_principals p _ homes (run_reached p script s);
  slot_calls = λ p script s t homes. writers_hold c.run_laws.ensures p t _ homes (run_reached p script s);
  numbered = λ p script s. numbers_instances p _ (run_reached p script s);
  first = first_owned;
}
