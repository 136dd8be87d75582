use Rattle.lx_why.proofs.Opening.{fully_opened}
use Rattle.lx_runs.specs.Opened.{IsFullOver}
use Rattle.lx_runs.proofs.Made.{made_accepted, made_count, made_full, none_differs}
use Rattle.lx_runs.proofs.open.open_images.Goals as goal

pub open_world-requires-clause-count : goal.open_world-requires-clause-count
open_world-requires-clause-count g c =
    let made = c.requires.made in
    made_count made.0 c.args.program.interface c.args.program.modules c.args.images.items made.1

pub open_world-requires-clause-accepted : goal.open_world-requires-clause-accepted
open_world-requires-clause-accepted g c =
    let made = c.requires.made in
    made_accepted made.0 c.args.program.interface c.args.program.modules c.args.images.items made.1

pub returns-in-Ok-clause-opened : goal.returns-in-Ok-clause-opened
returns-in-Ok-clause-opened g c =
    let given = c.requires in record {
      formed = given.formed;
      few = given.few;
      fits = given.fits;
      images = c.args.images.items;
      are_images = c.in-Ok.ensures.images;
      stands_for = c.in-Ok.ensures.opens;
    }

pub returns-in-Ok-clause-full : goal.returns-in-Ok-clause-full
unfolding IsFullOver
returns-in-Ok-clause-full g c = λ made.
    let p = c.args.program in
    let images = c.args.images.items in
    let opened = c.in-Ok.ensures in
    fully_opened c.simulation_laws.ensures g.C.CapStore.stands p c.args.script.now images c.in-Ok.world c.requires.formed opened.images (made_full p images made) opened.opens opened.exact

-- each image is of its module's text
pub unreachable-requires : goal.unreachable-requires
unreachable-requires g c =
    let made = c.requires.made in
    let n = c.in-Err-ImageDiffers.field-0-0 in
    none_differs made.0 c.args.program c.args.images.items n made.1 (c.in-Err-ImageDiffers.ensures.differs n cc)
