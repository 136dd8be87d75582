use Rattle.lx_ir_terms.specs.Types.{depth_limit}
use Rattle.lx_ir_complete.proofs.Sayings.{saying, registers}
use Rattle.lx_ir_complete.proofs.PrintedConstants.{constant_prints}
use Rattle.lx_ir_complete.proofs.PrintedInits.{a_type, init_prints}
use Rattle.lx_ir_complete.proofs.PrintedOperands.{value_prints}
use Rattle.lx_ir_complete.proofs.printed_term_laws.Goals as goal

pub returns-clause-types : goal.returns-clause-types
returns-clause-types c plain m context lawful knows own = a_type (saying plain m context c.number_texts.ensures lawful knows own)

pub returns-clause-constants : goal.returns-clause-constants
returns-clause-constants c plain m context lawful knows own = constant_prints (saying plain m context c.number_texts.ensures lawful knows own) depth_limit

pub returns-clause-inits : goal.returns-clause-inits
returns-clause-inits c plain m context lawful knows own = init_prints (saying plain m context c.number_texts.ensures lawful knows own) depth_limit

pub returns-clause-values : goal.returns-clause-values
returns-clause-values c plain m f context lawful knows own named known = value_prints (saying plain m context c.number_texts.ensures lawful knows own) (registers f context named known)
