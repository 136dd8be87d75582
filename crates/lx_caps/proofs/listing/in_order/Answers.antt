use Rattle.std.proofs.Common.{None, ap, subst, sym, ◌∙◌}
use Rattle.std.specs.List.Sorted.{IsSortedBy}
use Rattle.lx_caps.specs.Order.{is_before, stands_in, AreAllBehind}
use Rattle.lx_caps.proofs.InOrder.{all_rising, rises}
use Rattle.lx_caps.proofs.listing.in_order.Goals as goal

pub returns : goal.returns
returns c =
    let sorted = subst (IsSortedBy is_before) (sym c.deref.ensures.value) c.sort.ensures.sorted in
    subst (AreAllBehind (λ x. stands_in x c.args.atoms.items) None) (sym c.in_ok-listed.ensures)
    (all_rising (λ x. stands_in x c.args.atoms.items) None c.deref.result.now (rises c.deref.result.now sorted)
    (λ x behind. ap (stands_in x) c.deref.ensures.value ∙ c.sort.ensures.same x))
