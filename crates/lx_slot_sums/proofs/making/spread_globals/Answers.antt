use Rattle.std.proofs.Common.{◌≡◌, ◌∙◌, ◌+◌, ◌≤◌, List, length, sym, ap, subst, arith}
use Rattle.lx_ir.specs.declared.module.GlobalVar.{GlobalVar}
use Rattle.lx_ir.specs.declared.module.Module.{Module}
use Rattle.lx_slot_sums.specs.Spreads.{IsSpread}
use Rattle.lx_slot_sums.proofs.Answering.{GlobalsTo, globals_all, globals_more, no_globals}
use Rattle.lx_slot_sums.proofs.Lawful.{global_made}
use Rattle.lx_slot_sums.proofs.making.spread_globals.Goals as goal

pub loop-global-init : goal.loop-global-init
loop-global-init c = record { right = c.requires; so_far = no_globals c.args.sums.now c.args.spreads.now.all.items c.new-globals.result.items c.new-globals.ensures.items }

pub loop-global-preserved : goal.loop-global-preserved
loop-global-preserved c =
    let t = c.args.sums.now in
    let ys = c.spread_of.new.spreads.all.items in
    let k = c.loop-global.global-index in
    let w = c.in_ok-spread.spread in
    let items : c.as_slice-global-items.result.now ≡ t.text.globals = c.as_slice-global-items.ensures ∙ ap (λ (m : Module). m.globals) c.module.ensures in
    record {
      right = c.in_ok-spread.ensures.right;
      so_far =
          subst (λ gs. GlobalsTo t ys gs (k + 1)) (sym c.in_ok-push.ensures.items)
          (globals_more t c.loop-global.spreads.all.items ys c.loop-global.globals.items w k c.loop-global.invariant.so_far c.in_ok-spread.ensures.kept
          (subst (IsSpread t ys w) (λ j o. global_made t.text c.as_slice-global-items.result.now k c.global-item.result c.lawful.ensures items c.loop-global-test.true c.global-item.is o j) c.in_ok-spread.ensures.made));
    }

pub returns : goal.returns
returns c =
    let t = c.args.sums.now in
    let items : c.as_slice-global-items.result.now ≡ t.text.globals = c.as_slice-global-items.ensures ∙ ap (λ (m : Module). m.globals) c.module.ensures in
    let n : length c.as_slice-global-items.result.now ≡ length t.text.globals = ap (λ (xs : List GlobalVar). length xs) items in
    let p : length c.as_slice-global-items.result.now ≤ c.loop-global.global-index = c.loop-global-test.false in
    globals_all t c.loop-global.spreads.all.items c.loop-global.globals.items c.loop-global.global-index c.loop-global.invariant.so_far (omega (arith, n, p))
