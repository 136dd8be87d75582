-- Zeros change nothing that is owned.
use Rattle.std.proofs.Common.{ℕ, Bool, subst}
use Rattle.lx_caps.specs.declared.Atom.TheVariants.{Byte}
use Rattle.lx_caps.specs.History.{without_zeros}
use Rattle.lx_caps.specs.Ranges.{IsRanges}
use Rattle.lx_writer_sets.proofs.recorded.RecordedCapStore.byte_ranges.Goals as goal

pub returns : goal.returns
returns g c = λ h is.
    subst (λ (p : ℕ → Bool). IsRanges p 0 c.in_ok-ranges.ranges.items) (λ j b. c.history_laws.ensures.zeros_aside h c.args.who (Byte b) j)
    (c.in_ok-ranges.ensures (without_zeros h) is.owned)
