-- An event that is not refused is the plain programs' event.
use Rattle.std.proofs.Common.{◌≡◌, ℕ, Bool, true, false, map, Some, option_map, slice_get, slice_set, refl, sym, ap, ◌∙◌}
use Rattle.std.proofs.lemmas.List.{map-set}
use Rattle.std.proofs.lemmas.Option.{slice_get-map}
use Rattle.lx_model.specs.declared.program.Program.{Program}
use Rattle.lx_model.specs.Thread.{Thread, has_work}
use Rattle.lx_model.specs.Next.{Asking, next}
use Rattle.lx_model.specs.Serve.{serve}
use Rattle.lx_model.specs.World.{World, event, event_of, event_if, after_request}
use Rattle.lx_model.specs.Plain.{forget_thread, forget_state, forget_world, plain_event, plain_event_of, plain_event_if, plain_after_request, plain_after_reply}
use Rattle.lx_model.specs.PlainLaws.{is_refusal, HoldsInMemory, NamesKernel}
use Rattle.lx_model.proofs.Forgetting.{forget_asking, next_alike}
use Rattle.lx_model.proofs.ForgettingReplies.{absorb_alike}
use Rattle.lx_model.proofs.PlainServing.{serve_alike}

after_alike : (p : Program) (t : ℕ) (w : World) (asking : Asking) → HoldsInMemory w.state.history → NamesKernel p asking.request.what → is_refusal (serve p w.state t asking.request).reply ≡ false →
    plain_after_request p t (forget_world w) (forget_asking asking) ≡ forget_world (after_request p t w asking)
after_alike p t w asking h f e =
    ap (plain_after_reply p t (forget_world w) (forget_asking asking)) (serve_alike p w.state t asking.request h f e)
    ∙ (ap (λ thread. record { state = forget_state (serve p w.state t asking.request).state; threads = slice_set (map forget_thread w.threads) t thread }) (absorb_alike p t asking.thread asking.request (serve p w.state t asking.request).reply)
    ∙ ap (λ threads. record { state = forget_state (serve p w.state t asking.request).state; threads = threads }) (sym (map-set forget_thread w.threads t _)))

if_alike : (works : Bool) (p : Program) (t : ℕ) (w : World) (thread : Thread) → HoldsInMemory w.state.history → NamesKernel p (next p t thread).request.what → is_refusal (serve p w.state t (next p t thread).request).reply ≡ false →
    plain_event_if works p t (forget_world w) (forget_thread thread) ≡ forget_world (event_if works p t w thread)
if_alike true p t w thread h f e = ap (plain_after_request p t (forget_world w)) (next_alike p t thread) ∙ after_alike p t w (next p t thread) h f e
if_alike false p t w thread h f e = refl

pub plain : (p : Program) (t : ℕ) (w : World) (thread : Thread) → slice_get w.threads t ≡ Some thread → HoldsInMemory w.state.history → NamesKernel p (next p t thread).request.what → is_refusal (serve p w.state t (next p t thread).request).reply ≡ false → plain_event p t (forget_world w) ≡ forget_world (event p t w)
plain p t w thread at h f e =
    ap (λ found. plain_event_of found p t (forget_world w)) (slice_get-map forget_thread w.threads t ∙ ap (option_map forget_thread) at)
    ∙ (if_alike (has_work thread) p t w thread h f e ∙ ap (λ found. forget_world (event_of found p t w)) (sym at))
