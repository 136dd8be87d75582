use Rattle.std.proofs.Common.{◌∙◌}
use Rattle.std.proofs.lemmas.Iterator.Adapters.{position_from-zero}
use Rattle.lx_cap_lists.specs.Tables.{same_key}
use Rattle.lx_cap_lists.proofs.keys.place_in.Goals as goal

pub returns-in-Some : goal.returns-in-Some
returns-in-Some c = c.in-Some.ensures.index ∙ position_from-zero (same_key c.args.key) c.args.keys.now.keys

pub returns-in-None : goal.returns-in-None
returns-in-None c = c.in-None.ensures.index ∙ position_from-zero (same_key c.args.key) c.args.keys.now.keys
