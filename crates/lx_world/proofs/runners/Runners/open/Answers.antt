use Rattle.std.proofs.Common.{arith, ◌≡◌, ◌+◌, ◌∷◌, ◌++◌, [], List, ap, length, map, subst, sym, take, ◌∙◌}
use Rattle.std.specs.List.{sum_by}
use Rattle.std.proofs.lemmas.List.{length-append, take_more}
use Rattle.std.proofs.lemmas.Grind.{common_steps}
use Rattle.lx_images.specs.ImageWorld.{fresh_image_thread}
use Rattle.lx_model.specs.declared.program.ScriptCall.{ScriptCall}
use Rattle.lx_interp.specs.Runner.{calls_left, events_left}
use Rattle.lx_world.specs.Exact.{AreAt}
use Rattle.lx_world.specs.Worlds.{AllStand, script_calls, script_events}
use Rattle.lx_world.proofs.Counted.{calls_more, events_more}
use Rattle.lx_world.proofs.Exact.{exact_more}
use Rattle.lx_world.proofs.Threads.{open_more}
use Rattle.lx_world.proofs.runners.Runners.open.Goals as goal

pub loop-calls-preserved : goal.loop-calls-preserved
loop-calls-preserved c =
    let i = c.loop-calls.calls-index in
    let script = c.args.script.now in
    let calls = c.calls-item.result in
    let old = c.loop-calls.list.items in
    let new = c.push.new.self.items in
    let r = c.in_ok-runner.runner in
    let pushed = c.in_ok-push.ensures.items in
    let more : take (i + 1) script ≡ take i script ++ calls ∷ [] =
    take_more script i calls c.loop-calls-test.true ∙ ap (λ (x : List ScriptCall). take i script ++ x ∷ []) (sym c.calls-item.is) in
    let longer = ap length pushed ∙ length-append old (r ∷ []) in record {
      as_many = omega (arith, longer, c.loop-calls.invariant.as_many);
      stand = subst (λ (ys : List (List ScriptCall)). AllStand c.args.code.now 0 new (map fresh_image_thread ys)) (sym more)
          (open_more c.args.code.now old new (take i script) r calls c.len-thread.result (grind (arith, common_steps)) pushed c.loop-calls.invariant.stand (c.in_ok-runner.ensures.fresh c.args.code.now));
      exact = subst (λ (ys : List (List ScriptCall)). AreAt c.args.code.now new (map fresh_image_thread ys)) (sym more)
          (exact_more c.args.code.now old new (take i script) r calls c.len-thread.result (grind (arith, common_steps)) pushed c.loop-calls.invariant.stand c.loop-calls.invariant.exact (c.in_ok-runner.ensures.at c.args.code.now));
      events = subst (λ (ys : List (List ScriptCall)). sum_by events_left new ≡ script_events ys) (sym more)
          (events_more old new (take i script) r calls pushed c.in_ok-runner.ensures.events c.loop-calls.invariant.events);
      calls = subst (λ (ys : List (List ScriptCall)). sum_by (λ q. length (calls_left q)) new ≡ script_calls ys) (sym more)
          (calls_more old new (take i script) r calls pushed (c.in_ok-runner.ensures.fresh c.args.code.now).calls c.loop-calls.invariant.calls);
    }

pub invariant_of-result : goal.invariant_of-result
invariant_of-result c = record { few = omega (arith, c.loop-calls.invariant.as_many, c.loop-calls.auto.calls-index-end, c.requires) }
