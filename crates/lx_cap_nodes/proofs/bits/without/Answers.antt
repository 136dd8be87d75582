use Rattle.lx_cap_nodes.proofs.Masks.{set_without}
use Rattle.lx_cap_nodes.proofs.bits.without.Goals as goal

pub returns : goal.returns
returns c = λ k below. set_without c.args.mask c.args.place k c.requires below
