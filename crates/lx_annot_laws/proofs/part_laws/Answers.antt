use Rattle.lx_annot_laws.proofs.SignatureLaws.{signature_read, signature_found}
use Rattle.lx_annot_laws.proofs.ItemLaws.{items_before, items_found}
use Rattle.lx_annot_laws.proofs.ClauseLaws.{annotation_read, annotation_found}
use Rattle.lx_annot_laws.proofs.part_laws.Goals as goal

pub returns-clause-signatures_read : goal.returns-clause-signatures_read
returns-clause-signatures_read c = signature_read

pub returns-clause-signatures : goal.returns-clause-signatures
returns-clause-signatures c = signature_found

pub returns-clause-items_read : goal.returns-clause-items_read
returns-clause-items_read c = items_before

pub returns-clause-items : goal.returns-clause-items
returns-clause-items c = items_found

pub returns-clause-annotations_read : goal.returns-clause-annotations_read
returns-clause-annotations_read c = annotation_read

pub returns-clause-annotations : goal.returns-clause-annotations
returns-clause-annotations c = annotation_found
