use Rattle.lx_ir_terms.proofs.TypeLaws.{type_again}
use Rattle.lx_ir_terms.proofs.TypesFound.{type_found}
use Rattle.lx_ir_terms.proofs.TypeStops.{type_stops}
use Rattle.lx_ir_terms.proofs.Written.{written_again, written_found, written_stops}
use Rattle.lx_ir_terms.proofs.type_laws.Goals as goal

pub returns-clause-read : goal.returns-clause-read
returns-clause-read c = type_again

pub returns-clause-found : goal.returns-clause-found
returns-clause-found c = type_found

pub returns-clause-refused : goal.returns-clause-refused
returns-clause-refused c = type_stops

pub returns-clause-written_read : goal.returns-clause-written_read
returns-clause-written_read c = written_again

pub returns-clause-written_found : goal.returns-clause-written_found
returns-clause-written_found c = written_found

pub returns-clause-written_refused : goal.returns-clause-written_refused
returns-clause-written_refused c = written_stops
