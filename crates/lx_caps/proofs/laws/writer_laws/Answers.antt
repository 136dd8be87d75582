-- The laws are lemmas.
use Rattle.lx_caps.proofs.WriterLemmas.{last_zero, at_a_moment, of_a_slot}
use Rattle.lx_caps.proofs.laws.writer_laws.Goals as goal

pub returns : goal.returns
returns c = record { last_zero = last_zero; at_a_moment = at_a_moment; of_a_slot = of_a_slot }
