-- The needs for the items so far.
use Rattle.std.proofs.Common.{◌≡◌, [], ◌++◌, map, take}
use Rattle.lx_run_laws.specs.Errands.{need_of_item}
use Rattle.lx_why.specs.AskedNeeds.{errand_by}
use Rattle.lx_why.specs.ListedNeeds.{of_modules}
use Rattle.lx_why.proofs.action_needs.push_item_needs.Given as goal

abbrev pub invariant-loop-item : goal.invariant-loop-item
invariant-loop-item l = l.needs ≡ l.fn.needs ++ of_modules (map (need_of_item (errand_by l.terms [])) (take l.item-index l.items))
