use Rattle.std.proofs.Common.{◌∙◌, ◌+◌, sym, subst, arith}
use Rattle.lx_actions.specs.Shown.{IsShownBy}
use Rattle.lx_ir.proofs.InitLists.{depth_of_init}
use Rattle.lx_model.specs.Opening.{with_init}
use Rattle.lx_opening.proofs.Items.{items_step, item_fits, items_end}
use Rattle.lx_opening.proofs.inits.+init.Goals as goal

pub put_items-extent_of-extent-requires : goal.put_items-extent_of-extent-requires
put_items-extent_of-extent-requires t c =
    item_fits c.args.code.now c.args.home c.args.at c.args.packed c.loop-i.taken c.args.types.now c.args.items.now c.loop-i.i c.index-types-i.result c.index-items-i.result c.text-text.result.now
    (omega arith) (omega arith) c.index-types-i.is c.index-items-i.is c.text-text.ensures c.loop-i.invariant.placed

pub put_items-put_init-requires : goal.put_items-put_init-requires
put_items-put_init-requires t c =
    let step = items_step c.args.code.now c.args.home c.args.at c.args.packed c.loop-i.taken c.args.types.now c.args.items.now c.loop-i.i c.index-types-i.result c.index-items-i.result c.text-text.result.now c.extent_of-extent.result.start c.extent_of-extent.result.end
    (omega arith) (omega arith) c.index-types-i.is c.index-items-i.is c.text-text.ensures c.extent_of-extent.ensures.start c.extent_of-extent.ensures.end c.loop-i.invariant.placed in
    (omega (arith, c.decreases, depth_of_init c.args.items.now c.loop-i.i c.index-items-i.result (omega arith) c.index-items-i.is), step.init)

pub put_items-loop-i-preserved : goal.put_items-loop-i-preserved
put_items-loop-i-preserved t c =
    let step = items_step c.args.code.now c.args.home c.args.at c.args.packed c.loop-i.taken c.args.types.now c.args.items.now c.loop-i.i c.index-types-i.result c.index-items-i.result c.text-text.result.now c.extent_of-extent.result.start c.extent_of-extent.result.end
    (omega arith) (omega arith) c.index-types-i.is c.index-items-i.is c.text-text.ensures c.extent_of-extent.ensures.start c.extent_of-extent.ensures.end c.loop-i.invariant.placed in
    record {
      placed = step.rest;
      shown = λ m s.
          let before = c.loop-i.invariant.shown m s in
          (with_init c.args.code.now c.args.home (c.args.at + c.extent_of-extent.result.start) c.index-items-i.result before.0, c.put_init.ensures before.0 before.1, sym (step.more before.0) ∙ before.2);
    }

pub put_items-returns : goal.put_items-returns
put_items-returns t c = λ m s.
    let last = c.loop-i.invariant.shown m s in
    subst (IsShownBy c.loop-i.space)
    (sym (items_end c.args.code.now c.args.home c.args.at c.args.packed c.loop-i.taken c.args.types.now c.args.items.now c.loop-i.i last.0 (omega arith)) ∙ last.2) last.1
