use Rattle.lx_cap_nodes.proofs.bits.with.Goals as goal
use Rattle.lx_cap_nodes.proofs.Masks.{set_in_either}

pub returns-clause-bits : goal.returns-clause-bits
returns-clause-bits c = set_in_either c.args.mask c.args.more
