-- What one more event adds to a text and to a map of the known blocks.
use Rattle.std.specs.Prelude.{◌≡◌, ℕ, List, ◌++◌}
use Rattle.std.specs.BTreeMap.{BTreeMap}
use Rattle.lx_annot.specs.Canonical.{Text}
use Rattle.lx_model.specs.declared.program.Program.{Program}
use Rattle.lx_model.specs.declared.account.InstanceName.{InstanceName}
use Rattle.lx_trace_text.specs.declared.blocks.Block.{Block}
use Rattle.lx_trace_text.specs.declared.Traced.{Traced}
use Rattle.lx_trace_text.specs.Blocks.{Holds, known_after}
use Rattle.lx_trace_text.specs.Text.{event_line}

-- the text has the event's line more, by what was known before, and the map what is known behind the event
pub record Tells (p : Program) (names : List InstanceName) (bs : List Block) (n : ℕ) (e : Traced) (old new : Text) (m : BTreeMap ℕ Block) : Type 0 where
  pub text : new ≡ old ++ event_line p names bs n e
  pub known : Holds (known_after bs n e) m
