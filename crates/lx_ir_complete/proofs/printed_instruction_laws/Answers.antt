use Rattle.lx_ir_complete.proofs.Joining.{reads_as}
use Rattle.lx_ir_complete.proofs.Sayings.{saying, registers}
use Rattle.lx_ir_complete.proofs.PrintedOps.{Lined, op_prints}
use Rattle.lx_ir_complete.proofs.printed_instruction_laws.Goals as goal

pub returns : goal.returns
returns c form plain m f context lawful knows own named known program o h k gives stands =
    reads_as {p = Lined context f form o} (λ ts e. e.0) (op_prints (saying plain m context c.number_texts.ensures lawful knows own) (registers f context named known) form program o h k gives stands)
