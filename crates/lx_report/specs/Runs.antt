-- A schedule as its maximal runs of one thread.
use Rattle.std.specs.Prelude.{ℕ, suc, List, [], ◌∷◌, nat_eq, if◌then◌else◌}

-- a thread, and how many events in a row are its own
pub record Run : Type 0 where
  pub thread : ℕ
  pub count : ℕ

abbrev pub run : ℕ → ℕ → Run
run t n = record { thread = t; count = n }

-- an event before some runs: it joins the first one, where that is its thread's, and is a run of its own otherwise
abbrev pub joined : ℕ → List Run → List Run
joined t [] = run t 1 ∷ []
joined t (r ∷ rs) = if nat_eq t r.thread then run t (suc r.count) ∷ rs else run t 1 ∷ r ∷ rs

abbrev pub runs : List ℕ → List Run
runs [] = []
runs (t ∷ ts) = joined t (runs ts)
