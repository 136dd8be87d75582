-- The laws are lemmas.
use Rattle.lx_simulation.proofs.Images.{accepted_images, made, made_full}
use Rattle.lx_simulation.proofs.accepted_laws.Goals as goal

pub returns : goal.returns
returns c = record { images = accepted_images; made = made; made_full = made_full; types = λ m x s. s.types }
