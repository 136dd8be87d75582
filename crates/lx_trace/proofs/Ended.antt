-- An event that is replied an outcome ends the call that it belongs to.
use Rattle.std.proofs.Common.{◌≡◌, ◌∙◌, ap, sym, refl, ℕ, true, List, [], ◌∷◌, ◌++◌, length, Some, slice_get}
use Rattle.lx_model.specs.declared.program.Program.{Program}
use Rattle.lx_model.specs.declared.request.Outcome.{Outcome}
use Rattle.lx_model.specs.declared.request.Reply.TheVariants.{Ended}
use Rattle.lx_model.specs.Thread.{Ending, Thread, has_work}
use Rattle.lx_model.specs.World.{World, event}
use Rattle.lx_run_laws.specs.ReachedLaws.{ReachedLaws}
use Rattle.lx_trace.specs.TraceLaws.{ending_by}
use Rattle.lx_trace.specs.Trace.{first_function, traced}

-- what is put behind others stands at their number
last_at : (over : List Ending) (e : Ending) → slice_get (over ++ e ∷ []) (length over) ≡ Some e
last_at [] e = refl
last_at (x ∷ xs) e = last_at xs e

pub ends_its_call : ReachedLaws → (p : Program) (t : ℕ) (w : World) (thread : Thread) (o : Outcome) → slice_get w.threads t ≡ Some thread → has_work thread ≡ true → (traced p t w thread).reply ≡ Ended o
    → (after : Thread) × (slice_get (event p t w).threads t ≡ Some after) × (slice_get after.ended (traced p t w thread).call ≡ Some (ending_by (traced p t w thread) o))
ends_its_call laws p t w thread o at work is =
    let stopped = (laws.stopped p t w thread o at work is).thread in
    let told = stopped.2 in
    let function : told.call.function ≡ first_function thread.calls = ap first_function (sym told.was_first) in (
      stopped.0,
      stopped.1,
      ap (λ (over : List Ending). slice_get over (length thread.ended)) told.told
          ∙ last_at thread.ended (record { function = told.call.function; outcome = o })
          ∙ ap (λ (n : ℕ). Some (record { function = n; outcome = o })) function,
    )
