use Rattle.std.proofs.Common.{◌≡◌, ◌++◌, List, length, take, min, codes, ◌∙◌, ap, arith}
use Rattle.std.proofs.lemmas.Result.{IfOk-equal}
use Rattle.lx_ir.specs.InitNodes.{inits_of_list}
use Rattle.lx_ir.specs.Text.{Text, item_texts, comma_list}
use Rattle.lx_ir.proofs.InitLists.{depth_of_init, items_all, no_items, next_init, bytes_written, group_written}
use Rattle.lx_ir.proofs.text.constants.+put_init.Goals as goal

pub put_items-put_init-requires : goal.put_items-put_init-requires
put_items-put_init-requires t c =
    (omega (arith, c.decreases, depth_of_init c.args.items.now c.loop-i.i c.index-items-i.result (omega arith) c.index-items-i.is), tt)

pub put_items-returns : goal.put_items-returns
put_items-returns t c =
    let count = min (length c.args.types.now) (length c.args.items.now) in
    let all = item_texts c.args.m.now c.args.types.now (inits_of_list c.args.items.now) in
    let i : c.loop-i.i ≡ count = omega arith in
    let e : c.loop-i.out.items ≡ (c.args.out.now.items ++ codes " ") ++ comma_list (take count all) =
    c.loop-i.invariant ∙ (λ j. c.in_ok-put.ensures j ++ comma_list (take (i j) all)) in
    IfOk-equal c.put-2.result _ _ _ c.put-2.ensures
    (ap (λ xs. xs ++ codes " ") e ∙ items_all c.args.m.now c.args.types.now c.args.items.now c.args.out.now.items (omega arith))

pub put_items-loop-i-preserved : goal.put_items-loop-i-preserved
put_items-loop-i-preserved t c =
    next_init c.args.m.now c.args.types.now c.args.items.now c.loop-i.i c.index-types-i.result c.index-items-i.result _ _ _ _ _ _ (omega arith) c.index-types-i.is c.index-items-i.is
    c.loop-i.invariant c.in_ok-put_separator.ensures c.in_ok-put_type.ensures c.in_ok-put-2.ensures c.in_ok-put_init.ensures

pub put_init-returns-in_ok-put_bytes-in-Bytes : goal.put_init-returns-in_ok-put_bytes-in-Bytes
put_init-returns-in_ok-put_bytes-in-Bytes t c =
    IfOk-equal c.put-in-Bytes.result _ _ _ c.put-in-Bytes.ensures
    (bytes_written c.args.m.now c.init.inside.node c.args.init.now c.in-Bytes.bytes c.as_slice.result.now _ _ _ c.init.view_is c.in-Bytes.is c.as_slice.ensures c.in_ok-put-in-Bytes.ensures c.in_ok-put_bytes-in-Bytes.ensures)

pub put_init-returns-in_ok-put_items-in-Group : goal.put_init-returns-in_ok-put_items-in-Group
put_init-returns-in_ok-put_items-in-Group t c =
    IfOk-equal c.put-in-Group-2.result _ _ _ c.put-in-Group-2.ensures
    (group_written c.args.m.now c.init.inside.node c.args.init.now c.in-Group.brackets c.in-Group.types c.as_slice-in-Group.result.now c.in-Group.items c.deref.result.now c.opening.result.now c.closing.result.now _ _ _
    c.init.view_is c.in-Group.is c.as_slice-in-Group.ensures c.deref.ensures.value c.opening.ensures c.closing.ensures c.in_ok-put-in-Group.ensures c.in_ok-put_items-in-Group.ensures)

pub put_items-returns-then-count-eq0 : goal.put_items-returns-then-count-eq0
put_items-returns-then-count-eq0 t c = no_items c.args.m.now c.args.types.now c.args.items.now c.args.out.now.items (omega arith)
