use Rattle.lx_ir_constants.proofs.ConstantLaws.{constant_again, constant_found}
use Rattle.lx_ir_constants.proofs.ValueLaws.{value_again, value_found}
use Rattle.lx_ir_constants.proofs.InitLaws.{init_again}
use Rattle.lx_ir_constants.proofs.InitsFound.{init_found}
use Rattle.lx_ir_constants.proofs.ConstantStops.{constant_stops, value_stops}
use Rattle.lx_ir_constants.proofs.InitStops.{init_stops}
use Rattle.lx_ir_constants.proofs.constant_laws.Goals as goal

pub returns-clause-constants_read : goal.returns-clause-constants_read
returns-clause-constants_read c = constant_again

pub returns-clause-constants_found : goal.returns-clause-constants_found
returns-clause-constants_found c = constant_found

pub returns-clause-values_read : goal.returns-clause-values_read
returns-clause-values_read c = value_again

pub returns-clause-values_found : goal.returns-clause-values_found
returns-clause-values_found c = value_found

pub returns-clause-inits_read : goal.returns-clause-inits_read
returns-clause-inits_read c = init_again

pub returns-clause-inits_found : goal.returns-clause-inits_found
returns-clause-inits_found c = init_found

pub returns-clause-constants_refused : goal.returns-clause-constants_refused
returns-clause-constants_refused c = constant_stops

pub returns-clause-values_refused : goal.returns-clause-values_refused
returns-clause-values_refused c = value_stops

pub returns-clause-inits_refused : goal.returns-clause-inits_refused
returns-clause-inits_refused c = init_stops
