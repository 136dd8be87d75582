-- What an index has seen of a list of acts.
use Rattle.std.specs.Prelude.{List, reverse, take}
use Rattle.lx_caps.specs.declared.Act.{Act}
use Rattle.lx_act_index.specs.Standing.{StandsForActs}
use Rattle.lx_certificates.specs.Told.{told}
use Rattle.lx_why.specs.declared.noted.Noted.{Noted}

-- the index stands for the acts of the list that were seen, as far as they are told
abbrev pub HasNoted : Noted → List Act → Type 0
HasNoted n acts = StandsForActs n.index (told (reverse (take n.seen acts)))
