use Rattle.lx_opened_tests.proofs.Worlds.{counted, lawful}
use Rattle.lx_opened_tests.proofs.opened.is_reported.Goals as goal

pub account-requires-clause-stands : goal.account-requires-clause-stands
account-requires-clause-stands g c = (c.requires.code, c.requires.meaning, c.requires.stands_for)

pub account-requires-clause-images : goal.account-requires-clause-images
account-requires-clause-images g c = counted g.C.CapStore.stands c.args.world.now c.args.counts c.requires

pub report-text-requires : goal.report-text-requires
report-text-requires g c = lawful g.C.CapStore.stands c.args.world.now c.args.counts c.program.result.now c.requires c.program.ensures
