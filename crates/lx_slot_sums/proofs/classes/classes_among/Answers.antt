use Rattle.lx_slot_sums.proofs.Classed.{first_among}
use Rattle.lx_slot_sums.proofs.classes.classes_among.Goals as goal

pub returns : goal.returns
returns c = first_among c.args.texts.now c.in_ok-places.places.entries c.in_ok-classes.classes c.in_ok-places.ensures c.in_ok-classes.ensures
