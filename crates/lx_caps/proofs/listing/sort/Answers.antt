use Rattle.std.proofs.Common.{sym, rules}
use Rattle.std.proofs.lemmas.List.Sorted.{answers_always, list_any-IsPermutation}
use Rattle.lx_caps.specs.Order.{is_before, same_atom}
use Rattle.lx_caps.proofs.InOrder.{atom_order}
use Rattle.lx_caps.proofs.listing.sort.Goals as goal

pub returns-clause-sorted : goal.returns-clause-sorted
returns-clause-sorted c = c.sort_unstable_by.ensures.sorted is_before atom_order (answers_always _ _ _ (λ f a r g h. search rules))

pub returns-clause-same : goal.returns-clause-same
returns-clause-same c = λ x. sym (list_any-IsPermutation (λ y. same_atom y x) _ _ c.sort_unstable_by.ensures.permutation)
