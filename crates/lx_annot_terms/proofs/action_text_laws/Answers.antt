use Rattle.lx_annot_terms.proofs.ActionParts.{action_found, item_found}
use Rattle.lx_annot_terms.proofs.ActionParts.{action_read}
use Rattle.lx_annot_terms.proofs.ListFinds.{list_found}
use Rattle.lx_annot_terms.proofs.ListReads.{list_read, item_list_read}
use Rattle.lx_annot_terms.proofs.action_text_laws.Goals as goal

pub returns-clause-lists : goal.returns-clause-lists
returns-clause-lists c = list_found

pub returns-clause-actions : goal.returns-clause-actions
returns-clause-actions c = action_found

pub returns-clause-items : goal.returns-clause-items
returns-clause-items c = item_found

pub returns-clause-lists_read : goal.returns-clause-lists_read
returns-clause-lists_read c = list_read

pub returns-clause-item_lists_read : goal.returns-clause-item_lists_read
returns-clause-item_lists_read c = item_list_read

pub returns-clause-actions_read : goal.returns-clause-actions_read
returns-clause-actions_read c = action_read
