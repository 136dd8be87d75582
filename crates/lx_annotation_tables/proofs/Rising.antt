-- Annotated functions stand in the order of their numbers, and are found by halving.
use Rattle.std.proofs.Common.{◌≡◌, ℕ, zero, suc, ◌+◌, ◌<◌, ◌≤◌, Bool, true, false, cond, Option, Some, None, Result, Ok, Err, List, [], ◌∷◌, ◌++◌, length, nat_eq, if◌then◌else◌, refl, ap, sym, subst, ◌∙◌, arith, find, get_or, map, eq-eqb}
use Rattle.std.specs.Prelude.{MatchResult, slice_get, option_map, option_to_list, is_some}
use Rattle.std.specs.List.{list_any}
use Rattle.std.specs.List.Sorted.{IsBinarySearchResult, IsNonDecreasingBy, IsSearchInRange}
use Rattle.std.specs.Ordering.{nat_cmp, ordering_index}
use Rattle.std.proofs.lemmas.Bool.Decides.{nat_tests}
use Rattle.std.proofs.lemmas.Cmp.{ranked}
use Rattle.std.proofs.lemmas.List.Sorted.{IsNonDecreasingBy-from_default}
use Rattle.std.proofs.lemmas.Option.{slice_get-map}
use Rattle.lx_ir.specs.declared.module.Function.{Function}
use Rattle.lx_ir.specs.declared.module.Module.{Module}
use Rattle.lx_ir.specs.Lookup.{is_defined}
use Rattle.lx_annot.specs.declared.interface.Interface.{Interface}
use Rattle.lx_slot_types.specs.declared.Marked.{Marked}
use Rattle.lx_slot_types.specs.Gets.{slot_of}
use Rattle.lx_model.specs.declared.program.Program.{Program}
use Rattle.lx_model.specs.declared.program.ProgramModule.{ProgramModule}
use Rattle.lx_propagate.specs.Slots.{annotated_of, annotated_from, marked}
use Rattle.lx_annotation_tables.specs.Entries.{IsRising, RisesFrom, all_annotated}
use Rattle.lx_annotation_tables.proofs.Told.{is_of}
use Rattle.lx_annotation_tables.proofs.ImageTables.{any_found}
use Rattle.lx_words.proofs.Tests.{below_fails}

-- the annotated functions of a module are in order

lower : (n m : ℕ) (xs : List Marked) → n ≤ m → RisesFrom m xs → RisesFrom n xs
lower n m [] h r = tt
lower n m (x ∷ xs) h r = (omega (arith, h, r.0), r.1)

one_more : (n : ℕ) (o : Option ℕ) (rest : List Marked) → RisesFrom (suc n) rest → RisesFrom n (option_to_list (option_map (marked n) o) ++ rest)
one_more n None rest r = lower n (suc n) rest (omega arith) r
one_more n (Some s) rest r = (omega arith, r)

mark_more : (n : ℕ) (b : Bool) (o : Option ℕ) (rest : List Marked) → RisesFrom (suc n) rest → RisesFrom n (option_to_list (if b then option_map (marked n) o else None) ++ rest)
mark_more n true o rest r = one_more n o rest r
mark_more n false o rest r = lower n (suc n) rest (omega arith) r

rises_from : (i : Interface) (m : Module) (n : ℕ) (fs : List Function) → RisesFrom n (annotated_from i m n fs)
rises_from i m n [] = tt
rises_from i m n (f ∷ fs) = mark_more n (is_defined f) (slot_of i m n) (annotated_from i m (suc n) fs) (rises_from i m (suc n) fs)

pub annotated_rise : (i : Interface) (m : Module) (list : List Marked) → list ≡ annotated_of i m → IsRising list
unfolding IsRising
annotated_rise i m list e = subst (RisesFrom 0) (sym e) (rises_from i m 0 m.functions)

abbrev home_annotated : Interface → Option ProgramModule → Option (List Marked)
home_annotated i m = option_map (λ (x : ProgramModule). annotated_of i x.«module») m

rise_by : (i : Interface) (m : Option ProgramModule) (list : List Marked) → Some list ≡ home_annotated i m → IsRising list
rise_by i None list e = absurd (cc)
rise_by i (Some m) list e = annotated_rise i m.«module» list cc

-- those of a module by its number
pub rise_at : (p : Program) (annotated : List (List Marked)) (h : ℕ) (list : List Marked) → annotated ≡ all_annotated p → Some list ≡ slice_get annotated h → IsRising list
rise_at p annotated h list all there =
    rise_by p.interface (slice_get p.modules h) list
    (there ∙ (ap (λ xs. slice_get xs h) all ∙ slice_get-map (λ (x : ProgramModule). annotated_of p.interface x.«module») p.modules h))

-- what is found among them

module _ (d : Marked) where
  abbrev number : List Marked → ℕ → ℕ
  number xs k = (get_or xs k d).function

  least : (n : ℕ) (xs : List Marked) (k : ℕ) → RisesFrom n xs → k < length xs → n ≤ number xs k
  least n [] k r h = absurd (omega (arith, h))
  least n (x ∷ xs) zero r h = r.0
  least n (x ∷ xs) (suc k) r h = let more = least (suc x.function) xs k r.1 (omega (arith, h)) in omega (arith, more, r.0)

  rises : (n : ℕ) (xs : List Marked) (i j : ℕ) → RisesFrom n xs → i < j → j < length xs → number xs i < number xs j
  rises n [] i j r less h = absurd (omega (arith, h))
  rises n (x ∷ xs) i zero r less h = absurd (omega (arith, less))
  rises n (x ∷ xs) zero (suc j) r less h = let more = least (suc x.function) xs j r.1 (omega (arith, h)) in omega (arith, more)
  rises n (x ∷ xs) (suc i) (suc j) r less h = rises (suc x.function) xs i j r.1 (omega (arith, less)) (omega (arith, h))

found : (d : Marked) (f n : ℕ) (xs : List Marked) (k : ℕ) → RisesFrom n xs → k < length xs → number d xs k ≡ f → slice_get xs k ≡ find (is_of f) xs
found d f n [] k r h e = absurd (omega (arith, h))
found d f n (x ∷ xs) zero r h e = sym (ap (λ b. cond b (Some x) (find (is_of f) xs)) (eq-eqb x.function f e))
found d f n (x ∷ xs) (suc k) r h e =
    let more = least d (suc x.function) xs k r.1 (omega (arith, h)) in
    found d f (suc x.function) xs k r.1 (omega (arith, h)) e
    ∙ sym (ap (λ b. cond b (Some x) (find (is_of f) xs)) (below_fails x.function f (omega (arith, more, e))))

none_found : (d : Marked) (f : ℕ) (xs : List Marked) → ((k : ℕ) → k < length xs → nat_eq (number d xs k) f ≡ false) → None ≡ find (is_of f) xs
none_found d f [] h = refl
none_found d f (x ∷ xs) h =
    none_found d f xs (λ k less. h (suc k) (omega (arith, less)))
    ∙ sym (ap (λ b. cond b (Some x) (find (is_of f) xs)) (h 0 (omega arith)))

abbrev some_one : Marked
some_one = marked 0 0

comparisons_rise : (f : ℕ) (xs : List Marked) → RisesFrom 0 xs → IsNonDecreasingBy (λ (x : Marked). ordering_index (nat_cmp x.function f)) xs
comparisons_rise f xs r =
    IsNonDecreasingBy-from_default (λ (x : Marked). ordering_index (nat_cmp x.function f)) xs some_one (λ i j up less.
    let keys : number some_one xs i ≤ number some_one xs j = grind (arith, rises some_one 0 xs i j r, λ (e : i ≡ j). ap (number some_one xs) e) in
    grind (arith, nat_tests))

missed : (n f j k : ℕ) → (j < k → n < f) → (k ≤ j → f < n) → nat_eq n f ≡ false
missed n f j k before behind = grind (arith, nat_tests, before, behind)

-- halving finds the one with the number
pub searched : (f : ℕ) (xs : List Marked) (r : Result ℕ ℕ) → IsRising xs → IsSearchInRange r (length xs) → IsBinarySearchResult (λ (x : Marked). nat_cmp x.function f) xs r
    → MatchResult r (λ k. slice_get xs k ≡ find (is_of f) xs) (λ _. None ≡ find (is_of f) xs)
unfolding IsRising
searched f xs (Ok k) rising within equal = found some_one f 0 xs k rising within (ranked _ f _ (sym (equal some_one)))
searched f xs (Err k) rising within parted =
    let p = parted (comparisons_rise f xs rising) in
    none_found some_one f xs (λ j less.
    missed (number some_one xs j) f j k
    (λ before. ranked _ f _ (sym (p.0 j some_one (omega arith) before)))
    (λ behind. ranked _ f _ (sym (p.1 j some_one behind less))))

pub is_there : (f : ℕ) (xs : List Marked) (x : Marked) → Some x ≡ find (is_of f) xs → true ≡ list_any (is_of f) xs
is_there f xs x e = sym (any_found (is_of f) xs ∙ ap is_some (sym e))

pub is_not_there : (f : ℕ) (xs : List Marked) → None ≡ find (is_of f) xs → false ≡ list_any (is_of f) xs
is_not_there f xs e = sym (any_found (is_of f) xs ∙ ap is_some (sym e))
