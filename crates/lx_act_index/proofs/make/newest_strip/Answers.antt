use Rattle.std.proofs.Common.{◌∙◌}
use Rattle.lx_act_index.proofs.make.newest_strip.Goals as goal

pub returns : goal.returns
returns c = λ h stands. c.number_in.ensures ∙ (c.strip_in.ensures ∙ (stands.shows.lines c.args.atom).strip)
