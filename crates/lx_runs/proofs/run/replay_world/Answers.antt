use Rattle.std.proofs.Common.{◌≡◌, Some, None}
use Rattle.lx_words.proofs.Options.{if_ok}
use Rattle.lx_images.specs.ImageWorld.{image_run}
use Rattle.lx_runs.specs.Replays.{image_broken_at}
use Rattle.lx_runs.proofs.Ran.{broken_told, opened, opened_code, replay_told}
use Rattle.lx_runs.proofs.run.replay_world.Goals as goal

-- the world that is reported stands for the run's
pub report_of-requires : goal.report_of-requires
report_of-requires g c =
    let given = c.requires in
    let o = given.2 in
    let stands = g.C.CapStore.stands in
    let code = opened_code stands given.0 given.1 c.args.world.now o in
    let start = opened stands given.0 given.1 c.args.world.now o in (
      code,
      image_run code c.args.schedule.now start,
      c.in_ok-entry.ensures.whole code start o.stands_for (let e = c.in-None.is in cc),
      o.formed,
      given.3,
    )

pub returns-in-Some : goal.returns-in-Some
returns-in-Some g c = λ p script o.
    let stands = g.C.CapStore.stands in
    let s = c.args.schedule.now in
    let code = opened_code stands p script c.args.world.now o in
    let start = opened stands p script c.args.world.now o in
    let is : image_broken_at code s start ≡ Some c.in-Some.entry = let e = c.in_ok-entry.ensures.broken code start o.stands_for in let n = c.in-Some.is in cc in
    broken_told stands p script c.args.world.now o c.simulation_laws.ensures s c.in-Some.entry is

pub returns-in-None : goal.returns-in-None
returns-in-None g c =
    if_ok c.report_of.result (λ t said. λ p script o.
    let stands = g.C.CapStore.stands in
    let s = c.args.schedule.now in
    let code = opened_code stands p script c.args.world.now o in
    let start = opened stands p script c.args.world.now o in
    let none : image_broken_at code s start ≡ None = let e = c.in_ok-entry.ensures.broken code start o.stands_for in let n = c.in-None.is in cc in
    replay_told stands p script c.args.world.now o c.simulation_laws.ensures c.run_laws.ensures c.linked_laws.ensures s _ t none
    (c.in_ok-entry.ensures.whole code start o.stands_for (let n = c.in-None.is in cc)) said) c.report_of.ensures
