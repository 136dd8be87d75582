use Rattle.std.proofs.Common.{◌≡◌, true}
use Rattle.lx_ir_lawful.proofs.LawfulLimits.{lawful}
use Rattle.lx_ir_lawful.proofs.Constants.{written_lawful}
use Rattle.lx_ir_lawful.proofs.Forms.{form_said}
use Rattle.lx_ir_lawful.proofs.NamedForms.{form_named}
use Rattle.lx_ir_lawful.proofs.form_laws.Goals as goal

pub returns-clause-said : goal.returns-clause-said
returns-clause-said c = λ m context form tells names. form_said m context form tells names (written_lawful m context tells lawful)

pub returns-clause-named : goal.returns-clause-named
returns-clause-named c = λ such. form_named (λ n. such n ≡ true)
