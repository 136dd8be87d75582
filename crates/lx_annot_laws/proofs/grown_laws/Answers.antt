use Rattle.lx_annot_laws.proofs.Grown.{items_grow, annotation_grows}
use Rattle.lx_annot_laws.proofs.grown_laws.Goals as goal

pub returns-clause-items : goal.returns-clause-items
returns-clause-items c = items_grow

pub returns-clause-annotations : goal.returns-clause-annotations
returns-clause-annotations c = annotation_grows
