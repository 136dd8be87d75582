use Rattle.std.proofs.Common.{ap, sym, ◌∙◌}
use Rattle.lx_ir_terms.specs.Context.{Context}
use Rattle.lx_ir_read.specs.Again.{kept}
use Rattle.lx_ir_read.proofs.Drafts.{function_kept}
use Rattle.lx_ir_read.proofs.draft.Draft.keep.Goals as goal

pub returns-in_ok-add_function-in-Function : goal.returns-in_ok-add_function-in-Function
returns-in_ok-add_function-in-Function c =
    function_kept c.args.context.now c.args.registers.now c.args.line c.args.self.now c.in-Function.name c.in-Function.ret c.in-Function.params c.in-Function.blocks c.bytes-in-Function.result.now c.in_ok-name-in-Function.name c.context.inside.names.now c.len.result c.in_ok-locals-in-Function.locals c.add_function.new.self
    (ap (λ (k : Context). k.names) c.context.view_is) c.len.ensures c.bytes-in-Function.ensures c.in_ok-name-in-Function.ensures c.in_ok-locals-in-Function.ensures c.in_ok-add_function-in-Function.ensures
    ∙ ap (kept c.args.context.now c.args.registers.now c.args.line c.args.self.now) (sym c.in-Function.is)
