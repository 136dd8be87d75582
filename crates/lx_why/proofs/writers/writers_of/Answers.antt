-- A clean slot has no writers.
use Rattle.std.proofs.Common.{◌∙◌, sym}
use Rattle.std.specs.Prelude.{flat_map}
use Rattle.lx_caps.specs.Writers.{is_slot_writer}
use Rattle.lx_model.specs.State.{module_principals}
use Rattle.lx_slot_types.specs.Gets.{below}
use Rattle.lx_why.proofs.Writing.{none_left}
use Rattle.lx_why.proofs.writers.writers_of.Goals as goal

pub returns-then-is_clean : goal.returns-then-is_clean
returns-then-is_clean g c = λ h stands.
    c.new.ensures ∙ sym (none_left (is_slot_writer h c.args.slot) (flat_map (module_principals c.args.names.now.names) (below c.args.names.now.modules))
    ((c.is_clean.ensures h stands).0 c.if-is_clean.true))
