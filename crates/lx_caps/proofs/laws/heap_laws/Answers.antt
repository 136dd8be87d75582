-- The laws are lemmas.
use Rattle.lx_caps.proofs.HeapLemmas.{free, none, some}
use Rattle.lx_caps.proofs.laws.heap_laws.Goals as goal

pub returns : goal.returns
returns c = record { free = free; none = none; some = some }
