use Rattle.std.proofs.Common.{◌≡◌, length, map, take}
use Rattle.std.specs.List.{sum_by}
use Rattle.lx_images.specs.ImageWorld.{fresh_image_thread}
use Rattle.lx_interp.specs.Runner.{calls_left, events_left}
use Rattle.lx_world.specs.Exact.{AreAt}
use Rattle.lx_world.specs.Worlds.{AllStand, script_calls, script_events}
use Rattle.lx_world.proofs.runners.Runners.open.Given as goal

abbrev pub invariant-loop-calls : goal.invariant-loop-calls
invariant-loop-calls l = record {
  as_many : length l.list.items ≡ l.calls-index;
  stand : AllStand l.code 0 l.list.items (map fresh_image_thread (take l.calls-index l.script));
  exact : AreAt l.code l.list.items (map fresh_image_thread (take l.calls-index l.script));
  events : sum_by events_left l.list.items ≡ script_events (take l.calls-index l.script);
  calls : sum_by (λ r. length (calls_left r)) l.list.items ≡ script_calls (take l.calls-index l.script);
}
