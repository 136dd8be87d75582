use Rattle.lx_ir_statements.proofs.Filled.{instr_shorter}
use Rattle.lx_ir_statements.proofs.body.line_of_text.Goals as goal

pub returns-clause-shrinks : goal.returns-clause-shrinks
returns-clause-shrinks c = instr_shorter c.args.context.now c.args.form (c.instruction_laws.ensures.found c.args.context.now c.args.form) c.args.reader.now c.instruction.new.reader c.in_ok-op.op c.in_ok-op.ensures.reads
