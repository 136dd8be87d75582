-- The laws are lemmas.
use Rattle.std.proofs.Common.{refl}
use Rattle.lx_caps.proofs.NameLemmas.{named_by, unnamed, first, no_first, counted, one_more}
use Rattle.lx_caps.proofs.laws.name_laws.Goals as goal

pub returns : goal.returns
returns c = record {
  by_newest = named_by;
  unnamed = unnamed;
  by_oldest = first;
  no_first = no_first;
  counted = counted;
  numbered = λ acts m v. refl;
  one_more = one_more;
}
