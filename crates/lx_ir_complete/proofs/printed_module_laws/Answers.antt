use Rattle.lx_words.specs.declared.token.TokenRule.TheVariants.{Ir}
use Rattle.lx_ir.specs.Text.{module_text}
use Rattle.lx_ir_complete.proofs.PrintedModules.{module_prints, module_read, module_calm}
use Rattle.lx_ir_complete.proofs.Stated.{module_states}
use Rattle.lx_ir_complete.proofs.printed_module_laws.Goals as goal

pub returns-clause-printed : goal.returns-clause-printed
returns-clause-printed c form plain m context own given = module_prints plain form c.number_texts.ensures m context own given

pub returns-clause-read : goal.returns-clause-read
returns-clause-read c form plain m context own given ir reads same = module_read plain form c.number_texts.ensures m context own given ir (c.one_way.ensures Ir (module_text m)) reads same

pub returns-clause-stated : goal.returns-clause-stated
returns-clause-stated c form plain m context own given ir reads same places =
    let read = module_read plain form c.number_texts.ensures m context own given ir (c.one_way.ensures Ir (module_text m)) reads same in
    (module_states plain form m context own given places ir.toks read.0, read.1)

pub returns-clause-calm : goal.returns-clause-calm
returns-clause-calm c form plain m context own given ir reads same = module_calm plain form c.number_texts.ensures m context own given ir (c.one_way.ensures Ir (module_text m)) reads same
