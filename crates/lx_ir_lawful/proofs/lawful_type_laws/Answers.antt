use Rattle.lx_ir_lawful.proofs.SizedTypes.{modules_have_lawful_types}
use Rattle.lx_ir_lawful.proofs.lawful_type_laws.Goals as goal

pub returns : goal.returns
returns c = modules_have_lawful_types
