-- The laws are lemmas.
use Rattle.lx_monitor_laws.proofs.Entering.{stands, annotated, held, into_module, into_kernel}
use Rattle.lx_monitor_laws.proofs.entry_laws.Goals as goal

pub returns : goal.returns
returns c = record {
  stands = stands;
  annotated = annotated;
  held = held c.authority_laws.ensures;
  into_module = into_module;
  into_kernel = into_kernel;
}
