-- What a trace tells is what the journal gains.
use Rattle.std.proofs.Common.{◌≡◌, ◌∙◌, sym, ap, refl, ℕ, Bool, true, false, List, [], ◌∷◌, ◌++◌, append_assoc, arith, length, map, Option, Some, None, slice_get}
use Rattle.std.specs.Option.{option_to_list}
use Rattle.std.specs.Prelude.{option_map}
use Rattle.std.proofs.lemmas.Bool.{and_parts}
use Rattle.std.proofs.lemmas.List.{length-append, map-append}
use mathlib.Core.List.{append-nil}
use Rattle.lx_model.specs.declared.program.Program.{Program}
use Rattle.lx_model.specs.declared.request.Entry.{Entry}
use Rattle.lx_model.specs.Thread.{Thread, has_work}
use Rattle.lx_model.specs.Next.{next}
use Rattle.lx_model.specs.World.{World, event, event_of, event_if, works, can_act, run, is_whole}
use Rattle.lx_run_laws.proofs.Journal.{noted}
use Rattle.lx_trace.specs.TraceLaws.{entry_of}
use Rattle.lx_trace.specs.Trace.{trace, traced, traced_at}

gained_by : (p : Program) (t : ℕ) (w : World) (thread : Thread) (b : Bool) → b ≡ true → (event_if b p t w thread).state.journal ≡ w.state.journal ++ entry_of (traced p t w thread) ∷ []
gained_by p t w thread true is = noted p w.state t (next p t thread).request
gained_by p t w thread false is = absurd cc

gained_of : (p : Program) (t : ℕ) (w : World) (o : Option Thread) → works o ≡ true → (event_of o p t w).state.journal ≡ w.state.journal ++ map entry_of (option_to_list (option_map (traced p t w) o))
gained_of p t w None is = absurd cc
gained_of p t w (Some thread) is = gained_by p t w thread (has_work thread) is

pub gained : (p : Program) (s : List ℕ) (w : World) → is_whole p s w ≡ true → (run p s w).state.journal ≡ w.state.journal ++ map entry_of (trace p s w)
gained p [] w whole = sym (append-nil w.state.journal)
gained p (t ∷ ts) w whole =
    let both = and_parts (can_act w t) (is_whole p ts (event p t w)) whole in
    let first = option_to_list (traced_at p t w) in
    let rest = trace p ts (event p t w) in
    gained p ts (event p t w) both.1
    ∙ ap (λ (l : List Entry). l ++ map entry_of rest) (gained_of p t w (slice_get w.threads t) both.0)
    ∙ append_assoc w.state.journal (map entry_of first) (map entry_of rest)
    ∙ ap (λ (l : List Entry). w.state.journal ++ l) (sym (map-append entry_of first rest))

-- one event for each entry

one_of : (p : Program) (t : ℕ) (w : World) (o : Option Thread) → works o ≡ true → length (option_to_list (option_map (traced p t w) o)) ≡ 1
one_of p t w None is = absurd cc
one_of p t w (Some thread) is = refl

pub counted : (p : Program) (s : List ℕ) (w : World) → is_whole p s w ≡ true → length (trace p s w) ≡ length s
counted p [] w whole = refl
counted p (t ∷ ts) w whole =
    let both = and_parts (can_act w t) (is_whole p ts (event p t w)) whole in
    let long = length-append (option_to_list (traced_at p t w)) (trace p ts (event p t w)) in
    let one = one_of p t w (slice_get w.threads t) both.0 in
    let more = counted p ts (event p t w) both.1 in
    omega (arith, long, one, more)
