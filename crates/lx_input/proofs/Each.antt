-- Modules that are checked one after the other.
use Rattle.std.proofs.Common.{◌≡◌, ◌∙◌, sym, ap, subst, refl, ℕ, zero, suc, ◌+◌, ◌<◌, ◌≤◌, List, [], ◌∷◌, ◌++◌, length, map, get_or, drop, take, Some, Result, Ok, Err, arith}
use Rattle.std.specs.Prelude.{slice_get}
use Rattle.std.proofs.lemmas.List.{drop_more, drop_all, length-map, length-take}
use Rattle.lx_ir.specs.declared.module.Module.{Module}
use Rattle.lx_script.specs.declared.case.CaseModule.{CaseModule}
use Rattle.lx_link.specs.Answers.{module_file}
use Rattle.lx_files.specs.declared.stop.InputStop.{InputStop}
use Rattle.lx_files.specs.Turns.{Goes}
use Rattle.lx_input.specs.Checks.{Passed, EachModule}

abbrev pub Turn : Type 1
Turn = List ℕ → Module → Result Passed InputStop → Type 0

-- So many modules have passed a check: what the rest comes to, all come to.
pub record HasPassed (turn : Turn) (ns : List CaseModule) (ms : List Module) (k : ℕ) : Type 0 where
  pub goes : (answer : Result Passed InputStop) → EachModule turn (drop k ns) (drop k ms) answer → EachModule turn ns ms answer

pub starts : (turn : Turn) (ns : List CaseModule) (ms : List Module) → HasPassed turn ns ms 0
starts turn ns ms = record { goes = λ answer h. h }

-- the element at a place, and what is left from there on
element : {A : Type 0} (xs : List A) (k : ℕ) → k < length xs → (x : A) × (slice_get xs k ≡ Some x) × (drop k xs ≡ x ∷ drop (suc k) xs)
element [] k below = absurd (omega (arith, below))
element (x ∷ xs) zero below = (x, refl, refl)
element (x ∷ xs) (suc k) below = element xs k (omega (arith, below))

one_more : (k : ℕ) → suc k ≡ k + 1
one_more k = omega arith

module _ (turn : Turn) (ns : List CaseModule) (ms : List Module) (k : ℕ) (file : List ℕ) (m : Module)
    (called : file ≡ module_file (slice_get ns k)) (below_names : k < length ns) (below : k < length ms) (is : m ≡ get_or ms k m) (so_far : HasPassed turn ns ms k) where
  entry : (n : CaseModule) × (slice_get ns k ≡ Some n) × (drop k ns ≡ n ∷ drop (suc k) ns)
  entry = element ns k below_names

  names_left : drop k ns ≡ entry.0 ∷ drop (k + 1) ns
  names_left = entry.2 ∙ ap (λ (j : ℕ). entry.0 ∷ drop j ns) (one_more k)

  modules_left : drop k ms ≡ m ∷ drop (k + 1) ms
  modules_left = drop_more ms k m below ∙ ap (λ (x : Module). x ∷ drop (k + 1) ms) (sym is)

  named : file ≡ entry.0.file
  named = called ∙ ap module_file entry.1

  here : (came answer : Result Passed InputStop) → turn file m came → Goes (λ (x : Passed). EachModule turn (drop (k + 1) ns) (drop (k + 1) ms)) came answer → EachModule turn ns ms answer
  here came answer t goes =
      so_far.goes answer
      (subst (λ (xs : List CaseModule). EachModule turn xs (drop k ms) answer) (sym names_left)
      (subst (λ (ys : List Module). EachModule turn (entry.0 ∷ drop (k + 1) ns) ys answer) (sym modules_left)
      (came, subst (λ (f : List ℕ). turn f m came) named t, goes)))

  -- one more has passed
  pub goes_on : turn file m (Ok tt) → HasPassed turn ns ms (k + 1)
  goes_on t = record { goes = λ answer h. here (Ok tt) answer t h }

  -- one does not pass, which ends the check
  pub ends_early : (e : InputStop) → turn file m (Err e) → EachModule turn ns ms (Err e)
  ends_early e t = here (Err e) (Err e) t refl

-- all have passed
pub ends : (turn : Turn) (ns : List CaseModule) (ms : List Module) (k : ℕ) → length ms ≡ length ns → length ms ≤ k → HasPassed turn ns ms k → EachModule turn ns ms (Ok tt)
ends turn ns ms k as_many past so_far =
    let names_past : length ns ≤ k = omega (arith, as_many, past) in
    so_far.goes (Ok tt)
    (subst (λ (xs : List CaseModule). EachModule turn xs (drop k ms) (Ok tt)) (sym (drop_all k ns names_past)) refl)

-- a list with one element more

pub grown : {A : Type 0} (xs : List A) (x : A) → length (xs ++ x ∷ []) ≡ length xs + 1
grown [] x = omega arith
grown (y ∷ ys) x = let less = grown ys x in omega (arith, less)

-- as many have been marked as have passed
pub marked_so_far : {A B : Type 0} (f : A → B) (xs : List A) (k : ℕ) (list : List B) → k < length xs → list ≡ map f (take k xs) → length list ≡ k
marked_so_far f xs k list below is =
    let mapped : length list ≡ length (take k xs) = ap length is ∙ length-map (take k xs) f in
    let taken : length (take k xs) ≡ k = grind (arith, length-take) in
    mapped ∙ taken
