use Rattle.std.proofs.Common.{ℕ, Bool, ap, ◌∙◌, subst}
use Rattle.lx_caps.specs.Ranges.{IsRanges}
use Rattle.lx_cap_lists.specs.Parts.{is_among}
use Rattle.lx_cap_lists.proofs.walk.ranges_of.Goals as goal

pub returns : goal.returns
returns c = subst (λ (f : ℕ → Bool). IsRanges f 0 c.in_ok-ranges.ranges.items) (λ j b. (ap (is_among b) c.deref.ensures.value ∙ c.sort.ensures.same b) j) c.in_ok-ranges.ensures
