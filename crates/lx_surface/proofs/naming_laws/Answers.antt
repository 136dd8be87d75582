-- The laws are lemmas.
use Rattle.std.proofs.Common.{refl}
use Rattle.lx_surface.proofs.Namings.{behind, defined, iterator, numbered, origin, range, reference}
use Rattle.lx_surface.proofs.naming_laws.Goals as goal

pub returns : goal.returns
returns c = record {
  range = range;
  check = λ p list x. refl;
  ended = λ p k x. refl;
  reference = reference;
  numbered = numbered;
  iterator = iterator;
  behind = behind;
  defined = defined;
  origin = origin;
}
