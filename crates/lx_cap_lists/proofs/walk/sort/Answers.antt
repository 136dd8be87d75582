use Rattle.std.proofs.Common.{rules, sym, ◌+◌, ◌*◌, ◌<◌, ◌^◌}
use Rattle.std.proofs.lemmas.List.Sorted.{IsNonDecreasingBy-from_sort_by_key, list_any-IsPermutation, All-permutation}
use Rattle.lx_cap_lists.specs.declared.PartBytes.{PartBytes}
use Rattle.lx_cap_lists.specs.Parts.{has_byte}
use Rattle.lx_cap_lists.proofs.walk.sort.Goals as goal

pub returns-clause-sorted : goal.returns-clause-sorted
returns-clause-sorted c = IsNonDecreasingBy-from_sort_by_key (λ (x : PartBytes). x.part) _ c.sort_unstable_by_key.ensures.sorted (λ a r q k. search rules)

pub returns-clause-same : goal.returns-clause-same
returns-clause-same c = λ b. sym (list_any-IsPermutation (has_byte b) _ _ c.sort_unstable_by_key.ensures.permutation)

pub returns-clause-fit : goal.returns-clause-fit
returns-clause-fit c = All-permutation (λ (x : PartBytes). x.part * 64 + 64 < 2 ^ 64) _ _ c.sort_unstable_by_key.ensures.permutation
