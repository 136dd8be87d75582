use Rattle.lx_why.proofs.Opening.{fully_opened}
use Rattle.lx_why.proofs.run.WhyRun.open.Goals as goal

pub returns-clause-opens : goal.returns-clause-opens
returns-clause-opens g c =
    let p = c.args.program in
    let script = c.args.script.now in
    let opened = c.in_ok-world.ensures in
    c.in_ok-run.ensures p script
    (fully_opened c.simulation_laws.ensures _ p script c.args.images.items c.in_ok-world.world c.requires.well_formed opened.images c.requires.full opened.opens opened.exact)
