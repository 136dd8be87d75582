use Rattle.std.proofs.Common.{◌∙◌, sym, ap, subst}
use Rattle.lx_images.specs.Image.{Code}
use Rattle.lx_serve.specs.Stands.{program_of}
use Rattle.lx_threads.specs.Working.{AllStand}
use Rattle.lx_world.specs.Parts.{AreParts}
use Rattle.lx_world.specs.Worlds.{StandsFor}
use Rattle.lx_threads.specs.declared.runner.ThreadCode.{ThreadCode}
use Rattle.lx_threads.specs.Imaged.{images_behind}
use denote.Exit.{no}
use denote.Param.Send.{sendable, param_send, arg_send}
use Rattle.std.proofs.Crossing.{crosses}
use Rattle.lx_serve.proofs.Crossing.{part_send}
use Rattle.lx_threads.proofs.Crossing.{text_sync}
use Rattle.lx_threads.proofs.Worlds.{parts_of, has_run}
use Rattle.lx_threads.proofs.run.run_threads.Goals as goal

pub run_workers-requires-clause-may : goal.run_workers-requires-clause-may
run_workers-requires-clause-may g c κs within =
    let st = c.requires.stands in
    let parts = parts_of g.C.CapStore.stands st.0 c.args.world st.1 c.into_parts-shared.result.0 c.into_parts-shared.result.1 c.into_parts-shared.result.2 c.into_list.result.items st.2 c.into_parts-shared.ensures c.into_list.ensures.list in
    record {
      same = parts.state.program ∙ sym (ap (λ (d : Code). d.program) parts.code);
      state = (st.1.state, parts.own);
      threads = (st.1.threads, parts.threads);
      served = λ p t r fits. fits;
    }

pub returns-in_ok-done-in-Ok : goal.returns-in_ok-done-in-Ok
returns-in_ok-done-in-Ok g c =
    let h = c.in-Ok.ensures in
    let text : ThreadCode = record { code = c.into_parts-shared.result.2 } in
    record {
      runs = record {
        history = h.history;
        runs = λ d before st.
            let parts = parts_of g.C.CapStore.stands d c.args.world before c.into_parts-shared.result.0 c.into_parts-shared.result.1 c.into_parts-shared.result.2 c.into_list.result.items st c.into_parts-shared.ensures c.into_list.ensures.list in
            let came = h.comes before.state before.threads parts.own parts.threads in (
              images_behind d before h.history came.0,
              has_run g.C.CapStore.stands c.image_monitor_laws.ensures c.simulation_laws.ensures.showing d (program_of c.into_parts-shared.result.0) c.in-Ok.part c.of_list.result text c.in_ok-done-in-Ok.done before came.0 h.history parts.code parts.state.program
                  (h.same ∙ parts.state.program) came.1.events came.1.state
                  (subst (λ l. AllStand (λ (k : ThreadCode) t r v. StandsFor k.code t r v) text 0 l came.0) (sym c.of_list.ensures) came.1.threads)
                  (subst (λ w. AreParts w c.in-Ok.part c.of_list.result text.code) (sym c.in_ok-done-in-Ok.ensures.same) c.from_parts.ensures)
                  (λ e w s. sym (c.in_ok-done-in-Ok.ensures.done e w s)),
            );
      };
    }

pub run_workers-requires-sync-K : goal.run_workers-requires-sync-K
run_workers-requires-sync-K g c κs within = search (text_sync, crosses, sendable) depth 60 fits 20000

pub run_workers-requires-send-T : goal.run_workers-requires-send-T
run_workers-requires-send-T g c κs within = param_send 0 _ (arg_send _ no _ (part_send _ c.type_bounds.send-C))
