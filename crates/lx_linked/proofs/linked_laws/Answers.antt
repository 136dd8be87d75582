-- The laws are lemmas.
use Rattle.lx_link_texts.specs.Placing.{program_of}
use Rattle.lx_linked.proofs.Apart.{apart}
use Rattle.lx_linked.proofs.Homes.{homes}
use Rattle.lx_linked.proofs.Runs.{explained, fitting_run}
use Rattle.lx_linked.proofs.linked_laws.Goals as goal

pub returns : goal.returns
returns c = record {
  homes = homes;
  apart = apart;
  listed = λ s script schedule. c.reached_laws.ensures.listed (program_of s) script schedule (homes s);
  slot_calls = λ s script schedule t. c.reached_laws.ensures.slot_calls (program_of s) script schedule t (homes s);
  bytes = λ s m b. (c.reached_laws.ensures.first (program_of s)).apart (apart s) m b;
  explained = explained (record {
    sites = c.site_laws.ensures;
    refusals = c.refusal_laws.ensures;
    reached = c.reached_laws.ensures;
  });
  fitting = fitting_run c.fitting_laws.ensures c.assigned_laws.ensures;
}
