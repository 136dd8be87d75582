use Rattle.std.proofs.Common.{◌≡◌, take}
use Rattle.std.specs.List.{flat_map}
use Rattle.lx_trace_text.specs.Text.{end_of}
use Rattle.lx_trace_text.proofs.events.ends_of.Given as goal

abbrev pub invariant-loop-event : goal.invariant-loop-event
invariant-loop-event l = l.ends.items ≡ flat_map end_of (take l.event-index l.events)
