use Rattle.std.proofs.Common.{◌≡◌, ◌≤◌, ◌+◌, ◌*◌, take}
use Rattle.lx_ir.specs.Layout.{laid_fields, layout}
use Rattle.lx_ir.specs.TypeNodes.{types_of_list}
use Rattle.lx_slot_types.specs.Sites.{struct_fields_at}
use Rattle.lx_slot_sums.specs.Known.{AreNamed, named_fields}
use Rattle.lx_slot_sums.specs.Rows.{edges}
use Rattle.lx_slot_sums.specs.Spreads.{IsRow, Keeps}
use Rattle.lx_slot_sums.proofs.making.+making.Given as goal

abbrev pub decreases-spread_of : goal.decreases-spread_of
decreases-spread_of l = 6 * l.depth + 2

abbrev pub decreases-spread_array : goal.decreases-spread_array
decreases-spread_array l = 6 * l.depth + 3

abbrev pub decreases-spread_struct : goal.decreases-spread_struct
decreases-spread_struct l = 6 * l.depth + 3

abbrev pub decreases-spread_entry : goal.decreases-spread_entry
decreases-spread_entry l = 6 * l.depth + 4

abbrev pub decreases-spread_named : goal.decreases-spread_named
decreases-spread_named l = 6 * l.depth + 1

abbrev pub invariant-spread_struct-loop-k : goal.invariant-spread_struct-loop-k
invariant-spread_struct-loop-k l =
    record {
      size : l.taken ≡ (laid_fields l.sums.text.types l.form.packed (types_of_list (take l.k l.fields))).size;
      reach : l.row.last.offset ≤ l.taken;
      kept : Keeps l.fn.spreads.all.items l.spreads.all.items;
      right : AreNamed l.sums l.spreads.all.items l.spreads.named.items;
      row : IsRow l.sums l.spreads.all.items (edges l.row.done.items l.row.last) (struct_fields_at l.sums.text.types (named_fields l.sums.text) l.form.name l.form.packed (types_of_list (take l.k l.fields)) 0 (layout 0 1));
    }
