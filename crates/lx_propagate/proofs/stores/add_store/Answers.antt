use Rattle.std.proofs.Common.{◌++◌}
use Rattle.lx_slot_types.specs.Sites.{address_fields, function_value, register_fields}
use Rattle.lx_propagate.proofs.Adding.{stored}
use Rattle.lx_propagate.proofs.stores.add_store.Goals as goal

pub returns-in_ok-add_sum-in-Some : goal.returns-in_ok-add_sum-in-Some
returns-in_ok-add_sum-in-Some c =
    let m = c.args.sums.now.text in
    stored c.args.sums.now.interface m c.args.registers.now.entries (λ all. address_fields m c.args.at ++ register_fields m all c.args.at) c.in-Some.function (function_value c.args.value) c.stored_sum.result c.args.table.now.entries c.add_sum.new.table.entries c.in-Some.ensures c.stored_sum.ensures c.in_ok-add_sum-in-Some.ensures
