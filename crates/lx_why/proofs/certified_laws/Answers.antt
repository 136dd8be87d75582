-- The laws are lemmas.
use Rattle.lx_why.proofs.Allowing.{all_performed, last_denied}
use Rattle.lx_why.proofs.True.{each_true}
use Rattle.lx_why.proofs.certified_laws.Goals as goal

pub returns : goal.returns
returns c = record {
  holds = each_true;
  refused = last_denied c.need_laws.ensures c.told_laws.ensures c.refusal_laws.ensures;
  performed = all_performed c.need_laws.ensures c.told_laws.ensures c.refusal_laws.ensures;
}
