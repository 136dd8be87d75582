use Rattle.lx_image_texts.specs.ImageFaults.{first_image_fault}
use Rattle.lx_runs.proofs.Made.{made_is, made_same, never_told}
use Rattle.lx_runs.proofs.images.image_of.Goals as goal

pub returns-in-Ok : goal.returns-in-Ok
returns-in-Ok c =
    let given = c.requires in
    let i = c.args.i.now in
    let m = c.args.«module».now in
    made_same c.args.guarding i m c.in_ok-image.image c.in-Ok.checked
    (made_is c.accepted_laws.ensures c.args.guarding i m c.in_ok-image.image given.verified given.plain given.agrees c.in_ok-image.ensures.verified c.in_ok-image.ensures.image)
    c.in-Ok.ensures.first.0

-- the image is accepted, so no fault is told
pub unreachable-requires : goal.unreachable-requires
unreachable-requires c =
    let given = c.requires in
    let i = c.args.i.now in
    let m = c.args.«module».now in
    never_told (first_image_fault i c.in_ok-image.image) _
    (made_is c.accepted_laws.ensures c.args.guarding i m c.in_ok-image.image given.verified given.plain given.agrees c.in_ok-image.ensures.verified c.in_ok-image.ensures.image).accepted.no_fault
    (rw c.in-Err-Fault.field-0-is at c.in-Err-Fault.ensures.first)
