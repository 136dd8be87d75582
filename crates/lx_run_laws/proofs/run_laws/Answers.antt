-- The laws are lemmas.
use Rattle.lx_run_laws.proofs.Needs.{run_authorised}
use Rattle.lx_run_laws.proofs.Reached.{is_plain_run, opening_reached, run_reached}
use Rattle.lx_run_laws.proofs.run_laws.Goals as goal

pub returns : goal.returns
returns c = record {
  authorised = run_authorised c.authority_laws.ensures;
  placed = λ p script s few placed. (run_reached c.request_laws.ensures p s _ (opening_reached p script few placed)).placed;
  plain = λ p script s few placed. is_plain_run c.plain_laws.ensures c.owner_laws.ensures c.request_laws.ensures p script s few placed;
}
