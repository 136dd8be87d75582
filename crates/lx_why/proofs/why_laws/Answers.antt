-- The laws are lemmas.
use Rattle.lx_why.proofs.Certifying.{numbers_stay, one_list, one_text}
use Rattle.lx_why.proofs.Growing.{event_grows}
use Rattle.lx_why.proofs.why_laws.Goals as goal

pub returns : goal.returns
returns c = record { one = one_list c.need_laws.ensures; one_text = one_text c.need_laws.ensures; grows = event_grows; numbers = numbers_stay }
