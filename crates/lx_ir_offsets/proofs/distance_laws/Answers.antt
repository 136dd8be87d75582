use Rattle.lx_ir.specs.Fitting.{fitting_layouts}
use Rattle.lx_ir_offsets.proofs.Kept.{kept}
use Rattle.lx_ir_offsets.proofs.Steps.{offset_is, distance_is}
use Rattle.lx_ir.proofs.Fits.{lawful_fits}
use Rattle.lx_ir_offsets.proofs.Fits.{distance_found}
use Rattle.lx_ir_offsets.proofs.distance_laws.Goals as goal

pub returns-clause-kept : goal.returns-clause-kept
returns-clause-kept c = λ types. kept c.layout_laws.ensures types

pub returns-clause-fields : goal.returns-clause-fields
returns-clause-fields c = λ types. offset_is c.layout_laws.ensures types (fitting_layouts types) (kept c.layout_laws.ensures types)

pub returns-clause-distances : goal.returns-clause-distances
returns-clause-distances c = λ types. distance_is c.layout_laws.ensures types (fitting_layouts types) (kept c.layout_laws.ensures types)

pub returns-clause-fit : goal.returns-clause-fit
returns-clause-fit c = lawful_fits

pub returns-clause-found : goal.returns-clause-found
returns-clause-found c = distance_found
