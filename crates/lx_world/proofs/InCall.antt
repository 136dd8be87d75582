-- Which calls the threads of a world are in, as runners keep it.
use Rattle.std.proofs.Common.{◌≡◌, ℕ, zero, suc, List, [], ◌∷◌, length, refl}
use Rattle.std.specs.Prelude.{option_and_then, option_map, slice_get}
use Rattle.lx_images.specs.Image.{Code, ImageThread}
use Rattle.lx_interp.specs.declared.runner.Runner.{Runner}
use Rattle.lx_world.specs.InCall.{call_of, kept_call}
use Rattle.lx_world.specs.Worlds.{AllStand, StandsFor}

kept_is : (c : Code) (t : ℕ) (r : Runner) (x : ImageThread) → StandsFor c t r x → kept_call r ≡ call_of x
kept_is c t r x st = λ j. option_map (λ call. (length (st.runs.ended j), call.function)) (slice_get (st.runs.calls j) 0)

pub kept_calls : (c : Code) (i k : ℕ) (rs : List Runner) (xs : List ImageThread) → AllStand c i rs xs → option_and_then kept_call (slice_get rs k) ≡ option_and_then call_of (slice_get xs k)
kept_calls c i k [] [] all = refl
kept_calls c i k [] (x ∷ xs) all = absurd all
kept_calls c i k (y ∷ ys) [] all = absurd all
kept_calls c i zero (y ∷ ys) (x ∷ xs) all = kept_is c i y x all.0
kept_calls c i (suc k) (y ∷ ys) (x ∷ xs) all = kept_calls c (suc i) k ys xs all.1
