use Rattle.std.proofs.Common.{ap, sym, ◌∙◌}
use Rattle.std.specs.List.{list_any}
use Rattle.lx_ir.specs.declared.module.Block.{Block}
use Rattle.lx_ir.specs.declared.instr.Instr.{Instr}
use Rattle.lx_ir.specs.Lookup.{blocks_of, is_indirect_call}
use Rattle.lx_link_texts.proofs.Passes.{any_flat}
use Rattle.lx_link_texts.proofs.lookup.calls_indirectly.Goals as goal

pub returns : goal.returns
returns c =
    c.have_indirect_calls.ensures
    ∙ ap (list_any (λ (b : Block). list_any (λ (i : Instr). is_indirect_call i.op) b.instrs)) c.blocks_of-blocks.ensures
    ∙ sym (any_flat (λ (i : Instr). is_indirect_call i.op) (λ (b : Block). b.instrs) (blocks_of c.args.function.now))
