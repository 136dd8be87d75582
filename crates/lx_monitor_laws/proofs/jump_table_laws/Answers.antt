-- The laws are evaluated.
use Rattle.std.proofs.Common.{refl}
use Rattle.lx_code.specs.Fits.{at_place}
use Rattle.lx_monitor_laws.proofs.Tabled.{there}
use Rattle.lx_monitor_laws.proofs.jump_table_laws.Goals as goal

pub returns : goal.returns
returns c = record {
  eight_cases = λ ty v otherwise. refl;
  nine_cases = λ ty v otherwise. refl;
  a_register = λ ty v otherwise. refl;
  eight_edges = λ to ty. refl;
  nine_edges = λ to ty. refl;
  at_each = λ blocks table b k o each here wants. there (at_place table b k) (each b k o here wants);
}
