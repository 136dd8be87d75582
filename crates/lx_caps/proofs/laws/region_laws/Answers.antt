-- The laws are lemmas.
use Rattle.lx_caps.proofs.RegionLemmas.{in_one, byte_by_byte, first_outside}
use Rattle.lx_caps.proofs.laws.region_laws.Goals as goal

pub returns : goal.returns
returns c = record { in_one = in_one; byte_by_byte = byte_by_byte; first_outside = first_outside }
