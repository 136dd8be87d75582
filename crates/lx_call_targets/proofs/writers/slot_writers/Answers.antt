-- What the two walks found tells what all writers hold.
use Rattle.std.proofs.Common.{subst}
use Rattle.lx_writer_sets.specs.Sets.{IsFirstWriter, IsSomeWriter}
use Rattle.lx_call_targets.specs.Writers.{is_known, lacks}
use Rattle.lx_call_targets.proofs.Told.{all_hold, lacking, nobody}
use Rattle.lx_call_targets.proofs.writers.slot_writers.Goals as goal

pub returns-in-None : goal.returns-in-None
returns-in-None g c = λ s stands.
    let names = c.args.names.now in
    nobody s c.args.slot c.args.at names.names names.modules
    (subst (IsSomeWriter s.history c.args.slot (is_known names.modules names.names)) c.in-None.is (c.some_known.ensures s.history stands))

pub returns-in-Some-first_lacking : goal.returns-in-Some-first_lacking
returns-in-Some-first_lacking g c = λ s stands.
    let names = c.args.names.now in
    lacking s c.args.slot c.args.at names.names names.modules c.in-Some-first_lacking.writer
    (subst (IsFirstWriter s.history c.args.slot (lacks names.modules names.names s.history c.args.at)) c.in-Some-first_lacking.is (c.first_lacking.ensures s.history stands))

pub returns-in-None-first_lacking : goal.returns-in-None-first_lacking
returns-in-None-first_lacking g c = λ s stands.
    let names = c.args.names.now in
    all_hold s c.args.slot c.args.at names.names names.modules c.in-Some.one
    (subst (IsSomeWriter s.history c.args.slot (is_known names.modules names.names)) c.in-Some.is (c.some_known.ensures s.history stands))
    (subst (IsFirstWriter s.history c.args.slot (lacks names.modules names.names s.history c.args.at)) c.in-None-first_lacking.is (c.first_lacking.ensures s.history stands))
