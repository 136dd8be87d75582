use Rattle.std.proofs.Common.{refl}
use Rattle.lx_cproto_print.specs.Printed.{head_text, enclosed_text, name_text}
use Rattle.lx_annot_laws.proofs.worked_interface.Goals as goal

pub returns : goal.returns
unfolding head_text enclosed_text name_text
returns c = record { text = refl; lines = refl }
