-- In the end no need is left.
use Rattle.std.proofs.Common.{arith, drop}
use Rattle.std.proofs.lemmas.List.{drop_all}
use Rattle.lx_certificates.proofs.Needing.{all_so_far}
use Rattle.lx_act_index.proofs.make.certs_by.Goals as goal

pub returns : goal.returns
returns c = λ h stands.
    let i = c.loop-need.need-index in
    all_so_far h c.args.needs.now (drop i c.args.needs.now) c.loop-need.certs (drop_all i c.args.needs.now (omega arith)) (c.loop-need.invariant h stands)
