use Rattle.std.proofs.Common.{◌≡◌, ◌∙◌, ap, sym, subst, ℕ, Some, [], ◌∷◌, ◌++◌, length, arith}
use Rattle.std.proofs.lemmas.List.{length-append}
use Rattle.lx_model.specs.declared.program.Program.{Program}
use Rattle.lx_code.specs.Targets.{HasTable}
use Rattle.lx_code.proofs.Filled.{Each, each_more, text_at, has_tables}
use Rattle.lx_code.proofs.tables.module_tables.Goals as goal

pub module_table-requires : goal.module_table-requires
module_table-requires c =
    text_at c.args.lookup.now c.as_slice-entry-items.result.now c.len.result c.loop-entry.entry-index c.entry-item.result
    (c.as_slice-entry-items.ensures ∙ ap (λ (p : Program). p.modules) c.program.ensures)
    (c.len.ensures ∙ c.loop-entry.invariant.count) c.loop-entry-test.true c.entry-item.is

pub loop-entry-preserved : goal.loop-entry-preserved
loop-entry-preserved c =
    let p = c.args.lookup.now in
    let tables = c.loop-entry.tables in
    let table = c.in_ok-table.table in
    let more : c.push.new.self ≡ tables ++ table ∷ [] = c.in_ok-push.ensures.items in record {
      count = (let longer = ap length more ∙ length-append tables (table ∷ []) in omega (arith, longer, c.loop-entry.invariant.count));
      each = subst (Each (λ m t. HasTable p (Some m) t)) (sym more)
          (each_more (λ m t. HasTable p (Some m) t) tables table c.loop-entry.invariant.each (subst (λ (n : ℕ). HasTable p (Some n) table) c.len.ensures c.in_ok-table.ensures));
    }

pub returns : goal.returns
returns c =
    let long = ap length (c.as_slice-entry-items.ensures ∙ ap (λ (p : Program). p.modules) c.program.ensures) in
    has_tables c.args.lookup.now c.loop-entry.tables (omega (arith, long, c.loop-entry.invariant.count, c.loop-entry-test.false, c.loop-entry.auto.entry-index-end)) c.loop-entry.invariant.each
