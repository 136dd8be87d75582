-- A runner that is lent.
use Rattle.std.specs.Prelude.{ℕ, ◌≤◌}
use Rattle.std.proofs.Common.{sym, subst}
use Rattle.std.proofs.lemmas.List.{length-set}
use Rattle.std.specs.Borrow.{Lends, MutBor, Fml}
use Rattle.std.specs.Vec.{with_item}
use Rattle.lx_interp.specs.declared.runner.Runner.{Runner}
use Rattle.lx_interp.specs.contracts.runner.Runner.{the_row as runner_row}
use Rattle.lx_world.specs.declared.runners.Runners.{Runners}
use Rattle.lx_world.specs.contracts.runners.Runners.{the_row}
use Rattle.lx_world.specs.Parts.{list_of}

-- the runners with another one for this thread; they are as many
abbrev pub with_runner : Runners → ℕ → Runner → Runners
with_runner rs t r = record rs { list = with_item rs.list t r; few = subst (λ n. n ≤ 16) (sym (length-set (list_of rs) t r)) rs.few }

-- behind the loan the thread has the runner that was left there, and each other thread has its own
abbrev pub LendsRunner : MutBor Runners → ℕ → MutBor Runner → Fml
LendsRunner rs t r = Lends the_row runner_row rs r (with_runner rs.now t)
