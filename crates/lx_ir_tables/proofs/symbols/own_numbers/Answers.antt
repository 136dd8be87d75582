use Rattle.std.proofs.Common.{◌++◌, ◌∷◌, [], Some, sym, ap, ◌∙◌}
use Rattle.lx_ir_tables.proofs.Noting.{own_next}
use Rattle.lx_ir_tables.proofs.symbols.own_numbers.Goals as goal

pub loop-name-preserved : goal.loop-name-preserved
loop-name-preserved c = c.in_ok-push.ensures.items ∙ ap (λ t. t ++ Some c.loop-name.name ∷ []) c.loop-name.invariant ∙ sym (own_next c.loop-name.name)
