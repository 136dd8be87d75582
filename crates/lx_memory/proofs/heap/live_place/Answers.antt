use Rattle.lx_memory.proofs.heap.live_place.Goals as goal

pub returns-in-None : goal.returns-in-None
returns-in-None c = λ p low its. absurd (c.in-None.ensures p low its)
