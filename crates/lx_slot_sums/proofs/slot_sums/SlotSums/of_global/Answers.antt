use Rattle.std.proofs.Common.{subst}
use Rattle.lx_slot_types.specs.Sites.{global_fields_at}
use Rattle.lx_slot_sums.specs.Known.{AreGlobals}
use Rattle.lx_slot_sums.specs.Sums.{Typing}
use Rattle.lx_slot_sums.proofs.Answering.{global_spread, has_answer}
use Rattle.lx_slot_sums.proofs.Laying.{sum_is}
use Rattle.lx_slot_sums.proofs.slot_sums.SlotSums.of_global.Goals as goal

pub sum_at-requires : goal.sum_at-requires
sum_at-requires c =
    let t = c.args.self.now in
    let h = subst (λ (t : Typing). AreGlobals t c.self.inside.spreads.all.items c.self.inside.globals.items) c.self.view_is c.self.invariant in
    has_answer t c.deref-2.result.now c.known-spread.result (global_fields_at t.text c.args.number)
    (global_spread t c.self.inside.spreads.all.items c.deref-2.result.now c.self.inside.globals.items c.deref.result.now c.args.number c.known-spread.result h c.deref-2.ensures.value c.deref.ensures.value c.known-spread.ensures)
    c.args.offset

pub returns : goal.returns
returns c =
    let t = c.args.self.now in
    let h = subst (λ (t : Typing). AreGlobals t c.self.inside.spreads.all.items c.self.inside.globals.items) c.self.view_is c.self.invariant in
    sum_is t c.deref-2.result.now c.known-spread.result (global_fields_at t.text c.args.number) c.args.offset c.sum_at.result c.sum_at.ensures
    (global_spread t c.self.inside.spreads.all.items c.deref-2.result.now c.self.inside.globals.items c.deref.result.now c.args.number c.known-spread.result h c.deref-2.ensures.value c.deref.ensures.value c.known-spread.ensures)
