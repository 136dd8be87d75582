use Rattle.lx_ir_complete.proofs.RefusedTexts.{text_stops, stands_nowhere}
use Rattle.lx_ir_complete.proofs.refused_text_laws.Goals as goal

pub returns-clause-read : goal.returns-clause-read
returns-clause-read c form names places toks fault other e = text_stops c.statement_laws.ensures.found form places names toks fault other e

pub returns-clause-nowhere : goal.returns-clause-nowhere
returns-clause-nowhere c form names places toks fault other e front rest whole left t more us next alike statements are =
    stands_nowhere c.statement_laws.ensures.found form places names c.statement_laws.ensures.read toks fault other e front rest whole left t more us next alike statements are
