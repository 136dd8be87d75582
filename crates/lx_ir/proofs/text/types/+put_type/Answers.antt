use Rattle.lx_ir.specs.Text.{type_text}
use Rattle.lx_ir.proofs.TypeLists.{depth_of_item, next_item, spaced_end, array_written, struct_written, packed_written}
use Rattle.std.proofs.Common.{arith, sym}
use Rattle.std.proofs.lemmas.Result.{IfOk-equal}
use Rattle.lx_ir.proofs.text.types.+put_type.Goals as goal

pub put_fields-put_type-requires : goal.put_fields-put_type-requires
put_fields-put_type-requires t c = (omega (arith, c.decreases, depth_of_item c.args.fields.now c.loop-i.i c.index-fields-i.result c.loop-i-test.true c.index-fields-i.is), tt)

pub put_fields-loop-i-preserved : goal.put_fields-loop-i-preserved
put_fields-loop-i-preserved t c =
    next_item (type_text c.args.m.now.types) c.args.fields.now c.loop-i.i c.index-fields-i.result _ _ _ _ c.loop-i-test.true c.index-fields-i.is c.loop-i.invariant c.in_ok-put_separator.ensures c.in_ok-put_type.ensures

pub put_fields-returns : goal.put_fields-returns
put_fields-returns t c =
    IfOk-equal c.put-2.result _ _ _ c.put-2.ensures
    (spaced_end (type_text c.args.m.now.types) c.args.fields.now c.loop-i.i _ _ _ (sym c.if-is_empty.ensures) c.loop-i-test.false c.in_ok-put.ensures c.loop-i.invariant)

pub put_type-returns-in_ok-put_type-in-Array : goal.put_type-returns-in_ok-put_type-in-Array
put_type-returns-in_ok-put_type-in-Array t c =
    IfOk-equal c.put.result _ _ _ c.put.ensures
    (array_written c.args.m.now.types c.ty.inside.node c.args.ty.now c.in-Array.count c.in-Array.element c.deref.result.now _ _ _ c.ty.view_is c.in-Array.is c.deref.ensures c.in_ok-put_count-in-Array.ensures c.in_ok-put_type-in-Array.ensures)

pub put_type-returns-in_ok-put_fields-in-Struct : goal.put_type-returns-in_ok-put_fields-in-Struct
put_type-returns-in_ok-put_fields-in-Struct t c =
    IfOk-equal c.put-in-Struct-2.result _ _ _ c.put-in-Struct-2.ensures
    (struct_written c.args.m.now.types c.ty.inside.node c.args.ty.now c.in-Struct.fields c.deref-in-Struct.result.now _ _ _ c.ty.view_is c.in-Struct.is c.deref-in-Struct.ensures.value c.in_ok-put-in-Struct.ensures c.in_ok-put_fields-in-Struct.ensures)

pub put_type-returns-in_ok-put_fields-in-Packed : goal.put_type-returns-in_ok-put_fields-in-Packed
put_type-returns-in_ok-put_fields-in-Packed t c =
    IfOk-equal c.put-in-Packed-2.result _ _ _ c.put-in-Packed-2.ensures
    (packed_written c.args.m.now.types c.ty.inside.node c.args.ty.now c.in-Packed.fields c.deref-in-Packed.result.now _ _ _ c.ty.view_is c.in-Packed.is c.deref-in-Packed.ensures.value c.in_ok-put-in-Packed.ensures c.in_ok-put_fields-in-Packed.ensures)
