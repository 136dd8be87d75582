use Rattle.std.proofs.Common.{◌∙◌, sym}
use Rattle.lx_act_index.proofs.RunLemmas.{from_itself}
use Rattle.lx_act_index.proofs.make.giver.Goals as goal

pub returns : goal.returns
returns c = λ h stands. c.number_in.ensures ∙ sym (c.run_of.ensures.alike h stands 0 c.run_of.ensures.some c.args.atom (from_itself c.args.atom))
