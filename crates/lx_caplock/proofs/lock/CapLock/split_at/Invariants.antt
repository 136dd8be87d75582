use Rattle.std.proofs.Common.{◌≡◌, ℕ, ◌≤◌}
use Rattle.lx_caplock.specs.Views.{with_numbers_out}
use Rattle.lx_caplock.proofs.lock.CapLock.split_at.Given as goal

abbrev pub invariant-loop : goal.invariant-loop
invariant-loop g l = (k : ℕ) × (l.initial.place.me.0.out ≤ k) × (l.place.me ≡ (with_numbers_out l.initial.place.me.0 k, l.initial.place.me.1)) × (l.place.table_id ≡ l.initial.place.table_id) × (l.place.id ≡ l.initial.place.id)
