-- The laws are lemmas.
use Rattle.lx_image_texts.proofs.Programs.{programs, erased}
use Rattle.lx_image_texts.proofs.FunctionsOfImages.{functions}
use Rattle.lx_image_texts.proofs.WholeImages.{faultless, images, full, spared}
use Rattle.lx_image_texts.proofs.Room.{room}
use Rattle.lx_image_texts.proofs.Watching.{watched, one_image}
use Rattle.lx_image_texts.proofs.First.{is_first}
use Rattle.lx_image_texts.proofs.image_program_laws.Goals as goal

pub returns : goal.returns
returns c = record { watched = watched; first = is_first; one = one_image; programs = programs; erased = erased; functions = functions; faultless = faultless; images = images; room = room; full = full; spared = spared }
