use Rattle.lx_image_texts.specs.Instrumented.{leaves_none}
use Rattle.lx_instrument.proofs.WithRoom.{room}
use Rattle.lx_instrument.proofs.image.instrument_module_full.Goals as goal

-- An image with room is verified, as its module is.
pub verified_image-requires : goal.verified_image-requires
verified_image-requires c = λ passes.
    c.image_program_laws.ensures.full c.args.i.now c.args.m.now c.in_ok-image.image c.requires.verified c.requires.plain c.requires.agrees
    (room leaves_none c.args.i.now c.args.m.now c.in_ok-image.image c.in_ok-image.ensures passes)
    c.in_ok-image.ensures
