use Rattle.lx_ir_complete.proofs.Tokens.{text_has_tokens}
use Rattle.lx_ir_complete.proofs.Modules.{text_is_answered}
use Rattle.lx_ir_complete.proofs.every_text_laws.Goals as goal

pub returns-clause-tokens : goal.returns-clause-tokens
returns-clause-tokens c = text_has_tokens

pub returns-clause-answered : goal.returns-clause-answered
returns-clause-answered c = text_is_answered text_has_tokens
