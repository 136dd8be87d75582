use Rattle.std.proofs.Common.{refl}
use Rattle.lx_ir_calls.specs.declared.intrinsics.TextForm.TheVariants as forms
use Rattle.lx_ir_lawful.proofs.NamedModules.{tell, name, globals, own_names, few}
use Rattle.lx_ir_lawful.proofs.symbol_laws.Goals as goal

pub returns-clause-tell : goal.returns-clause-tell
returns-clause-tell c = tell

pub returns-clause-names : goal.returns-clause-names
returns-clause-names c = name

pub returns-clause-globals : goal.returns-clause-globals
returns-clause-globals c = globals

pub returns-clause-own : goal.returns-clause-own
returns-clause-own c = λ text m is. own_names forms.Program text m is refl

pub returns-clause-few : goal.returns-clause-few
returns-clause-few c = λ form text m short is. few form text m is short
