use Rattle.std.proofs.Common.{◌≡◌, ◌+◌, ◌<◌, List, None, length, ap, refl, ◌∙◌, arith}
use Rattle.lx_ir.specs.declared.module.Function.{Function}
use Rattle.lx_link_texts.specs.Placing.{entries_from, module_entries}
use Rattle.lx_link_texts.proofs.Counts.{module_counted_step}
use Rattle.lx_link_texts.proofs.limits.count_modules.Goals as goal

pub loop-entry-preserved : goal.loop-entry-preserved
loop-entry-preserved c =
    let ms = c.args.modules.now in
    let i = c.loop-entry.entry-index in
    let m = c.entry-item.result in
    let n = c.count_defined-count.result in
    let counted : n ≡ length (entries_from None 0 m.«module».functions) =
    c.count_defined-count.ensures.count ∙ ap (λ (fs : List Function). length (entries_from None 0 fs)) c.as_slice.ensures in
    let few : n < 4294967296 = c.count_defined-count.ensures.few in
    let bound = c.loop-entry.invariant.1 in (
      module_counted_step ms i m n c.loop-entry.count (c.loop-entry.count + n) (c.args.before + length (module_entries 0 ms)) c.loop-entry-test.true c.entry-item.is counted c.loop-entry.invariant.0 refl,
      omega (arith, few, bound),
    )
