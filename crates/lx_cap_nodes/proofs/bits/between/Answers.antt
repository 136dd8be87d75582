use Rattle.lx_cap_nodes.proofs.Masks.{set_between}
use Rattle.lx_cap_nodes.proofs.bits.between.Goals as goal

pub returns : goal.returns
returns c = λ k below. set_between c.args.from c.args.to k c.requires.some c.requires.within below
