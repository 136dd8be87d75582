use Rattle.lx_ir_calls.specs.declared.intrinsics.TextForm.TheVariants.{Program}
use Rattle.lx_ir_lawful.proofs.Whole.{lawful}
use Rattle.lx_ir_lawful.proofs.whole_laws.Goals as goal

pub returns-clause-lawful : goal.returns-clause-lawful
returns-clause-lawful c =
    lawful c.module_laws.ensures.found c.once_laws.ensures.types c.once_laws.ensures.symbols c.once_laws.ensures.imports c.symbol_laws.ensures.tell c.symbol_laws.ensures.names
    c.symbol_laws.ensures.globals c.symbol_laws.ensures.few c.function_laws.ensures.lawful

pub returns-clause-plain : goal.returns-clause-plain
returns-clause-plain c = λ text m says.
    let is = c.module_laws.ensures.found Program text m says in
    record { lines = c.function_laws.ensures.lines text m is; names = c.symbol_laws.ensures.own text m is }
