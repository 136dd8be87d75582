use Rattle.std.proofs.Common.{reverse}
use Rattle.lx_why.proofs.Placed.{all_placed}
use Rattle.lx_why.proofs.logged.see_placed.Goals as goal

pub returns : goal.returns
returns g c = all_placed c.args.acts.now (g.met.L.CapStore.lies_in_memory c.args.store.now (reverse c.args.acts.now) c.requires)
