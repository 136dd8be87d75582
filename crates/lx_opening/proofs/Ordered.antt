-- The globals of a program stand in the order of their texts, so that a module's stand beside each other.
use Rattle.std.proofs.Common.{◌≡◌, ℕ, zero, suc, ◌+◌, ◌<◌, ◌≤◌, true, false, Some, None, List, [], ◌∷◌, ◌++◌, length, get_or, drop, nat_lt, refl, ap, sym, subst, ◌∙◌, arith, ltb-true, ltb-false}
use Rattle.std.specs.Prelude.{if◌then◌else◌}
use Rattle.std.specs.List.Sorted.{IsPartitionPoint, IsPartitionedBy}
use Rattle.std.proofs.lemmas.Bool.Decides.{nat_tests}
use Rattle.std.proofs.lemmas.List.{drop_more}
use Rattle.lx_caps.specs.History.{History}
use Rattle.lx_caps.specs.Regions.{globals_start}
use Rattle.lx_ir.specs.declared.types.NamedType.{NamedType}
use Rattle.lx_ir.specs.declared.module.GlobalVar.{GlobalVar}
use Rattle.lx_link_texts.specs.Placing.{globals_of, places_from, module_places, kernel_end, end_behind, end_of}
use Rattle.lx_link_texts.specs.WellFormed.{IsWellFormed, texts_of}
use Rattle.lx_model.specs.declared.program.Program.{Program}
use Rattle.lx_model.specs.declared.program.ProgramGlobal.{ProgramGlobal}
use Rattle.lx_model.specs.declared.program.ProgramModule.{ProgramModule}
use Rattle.lx_model.specs.Program.{Home, same_home}
use Rattle.lx_model.specs.Opening.{is_global_of, global_of, global_granted, globals_granted}
use Rattle.lx_opening.specs.Ordered.{AreOrdered, IsSplit, RiseFrom, rank, rank_at}

lower : (n m : ℕ) (xs : List ProgramGlobal) → n ≤ m → RiseFrom m xs → RiseFrom n xs
lower n m [] h r = tt
lower n m (x ∷ xs) h r = (omega (arith, h, r.0), r.1)

-- the globals of one text, and those behind them
text_rises : (types : List NamedType) (home : Home) (k end : ℕ) (gs : List GlobalVar) (rest : List ProgramGlobal) → RiseFrom (rank home) rest → RiseFrom (rank home) (places_from types home k end gs ++ rest)
text_rises types home k end [] rest r = r
text_rises types home k end (g ∷ gs) rest r = (omega arith, text_rises types home (k + 1) (end_of types end g) gs rest r)

modules_rise : (k end : ℕ) (ms : List ProgramModule) → RiseFrom (k + 1) (module_places k end ms)
modules_rise k end [] = tt
modules_rise k end (m ∷ ms) =
    let next : ℕ = end_behind m.«module».types end m.«module».globals in
    text_rises m.«module».types (Some k) 0 end m.«module».globals (module_places (k + 1) next ms)
    (lower (k + 1) (k + 1 + 1) (module_places (k + 1) next ms) (omega arith) (modules_rise (k + 1) next ms))

all_rise : (p : Program) → AreOrdered (globals_of (texts_of p))
unfolding globals_of AreOrdered
all_rise p =
    text_rises p.kernel.types None 0 globals_start p.kernel.globals (module_places 0 (kernel_end (texts_of p)) p.modules)
    (lower 0 1 (module_places 0 (kernel_end (texts_of p)) p.modules) (omega arith) (modules_rise 0 (kernel_end (texts_of p)) p.modules))

pub are_ordered : (p : Program) (xs : List ProgramGlobal) → IsWellFormed p → xs ≡ p.globals → AreOrdered xs
are_ordered p xs well is = subst AreOrdered (sym (is ∙ well.globals)) (all_rise p)

-- ranks by places

least : (n : ℕ) (xs : List ProgramGlobal) (k : ℕ) (d : ProgramGlobal) → RiseFrom n xs → k < length xs → n ≤ rank_at xs k d
least n [] k d r h = absurd (omega (arith, h))
least n (x ∷ xs) zero d r h = r.0
least n (x ∷ xs) (suc k) d r h = let more = least (rank x.«module») xs k d r.1 (omega (arith, h)) in omega (arith, more, r.0)

rises : (n : ℕ) (xs : List ProgramGlobal) (i j : ℕ) (d : ProgramGlobal) → RiseFrom n xs → i ≤ j → j < length xs → rank_at xs i d ≤ rank_at xs j d
rises n [] i j d r up h = absurd (omega (arith, h))
rises n (x ∷ xs) zero zero d r up h = omega arith
rises n (x ∷ xs) (suc i) zero d r up h = absurd (omega (arith, up))
rises n (x ∷ xs) zero (suc j) d r up h = least (rank x.«module») xs j d r.1 (omega (arith, h))
rises n (x ∷ xs) (suc i) (suc j) d r up h = rises (rank x.«module») xs i j d r.1 (omega (arith, up)) (omega (arith, h))

below_too : (a b n : ℕ) → a ≤ b → nat_lt b n ≡ true → nat_lt a n ≡ true
below_too a b n h e = grind (arith, nat_tests, h, e)

-- those of the texts before one stand first
pub parted : (xs : List ProgramGlobal) (n : ℕ) → AreOrdered xs → IsPartitionedBy (λ (x : ProgramGlobal). nat_lt (rank x.«module») n) xs
unfolding AreOrdered
parted xs n r i j d up h e = below_too (rank_at xs i d) (rank_at xs j d) n (rises 0 xs i j d r up h) e

pub is_split : (xs : List ProgramGlobal) (n count : ℕ) → IsPartitionPoint (λ (x : ProgramGlobal). nat_lt (rank x.«module») n ≡ true) (λ (x : ProgramGlobal). nat_lt (rank x.«module») n ≡ false) xs count → IsSplit n xs count
is_split xs n count p = record {
  before = λ k d less. ltb-true (rank_at xs k d) n (p.0 k d (omega arith) less);
  behind = λ k d from less. ltb-false (rank_at xs k d) n (p.1 k d from less);
}

-- what no global of a list is granted

own_below : (home : Home) (m : ℕ) → rank home < m + 1 → same_home home (Some m) ≡ false
own_below None m h = refl
own_below (Some k) m h = grind (arith, nat_tests, h)

own_above : (home : Home) (m : ℕ) → m + 1 < rank home → same_home home (Some m) ≡ false
own_above None m h = refl
own_above (Some k) m h = grind (arith, nat_tests, h)

passed : (p : Program) (m : ℕ) (x : ProgramGlobal) (xs : List ProgramGlobal) (h : History) → is_global_of m x ≡ false → globals_granted p m (x ∷ xs) h ≡ globals_granted p m xs h
passed p m x xs h e = ap (λ b. globals_granted p m xs (if b then global_granted p m x (global_of p x) h else h)) e

skipped : (p : Program) (m : ℕ) (xs : List ProgramGlobal) (k : ℕ) (h : History) → ((j : ℕ) (d : ProgramGlobal) → j < k → j < length xs → is_global_of m (get_or xs j d) ≡ false) → globals_granted p m (drop k xs) h ≡ globals_granted p m xs h
skipped p m [] zero h none = refl
skipped p m [] (suc k) h none = refl
skipped p m (x ∷ xs) zero h none = refl
skipped p m (x ∷ xs) (suc k) h none =
    skipped p m xs k h (λ j d less inside. none (suc j) d (omega (arith, less)) (omega (arith, inside))) ∙ sym (passed p m x xs h (none 0 x (omega arith) (omega arith)))

ended : (p : Program) (m : ℕ) (xs : List ProgramGlobal) (k : ℕ) (h : History) → ((j : ℕ) (d : ProgramGlobal) → k ≤ j → j < length xs → is_global_of m (get_or xs j d) ≡ false) → globals_granted p m (drop k xs) h ≡ h
ended p m [] zero h none = refl
ended p m [] (suc k) h none = refl
ended p m (x ∷ xs) zero h none =
    passed p m x xs h (none 0 x (omega arith) (omega arith)) ∙ ended p m xs zero h (λ j d from inside. none (suc j) d (omega arith) (omega (arith, inside)))
ended p m (x ∷ xs) (suc k) h none = ended p m xs k h (λ j d from inside. none (suc j) d (omega (arith, from)) (omega (arith, inside)))

-- a module's globals begin behind those of the texts before it
pub own_begin : (p : Program) (m : ℕ) (xs : List ProgramGlobal) (k : ℕ) (h : History) → IsSplit (m + 1) xs k → globals_granted p m (drop k xs) h ≡ globals_granted p m xs h
own_begin p m xs k h split = skipped p m xs k h (λ j d less inside. own_below (get_or xs j d).«module» m (split.before j d less))

-- and end before those of the texts behind it
pub own_end : (p : Program) (m : ℕ) (xs : List ProgramGlobal) (end k : ℕ) (h : History) → IsSplit (m + 2) xs end → end ≤ k → globals_granted p m (drop k xs) h ≡ h
own_end p m xs end k h split past =
    ended p m xs k h (λ j d from inside.
    let far = split.behind j d (omega (arith, past, from)) inside in own_above (get_or xs j d).«module» m (omega (arith, far)))

-- one global more
pub granted_step : (p : Program) (m : ℕ) (xs : List ProgramGlobal) (k : ℕ) (x : ProgramGlobal) (mid goal : History) → k < length xs → x ≡ get_or xs k x → globals_granted p m (drop k xs) mid ≡ goal
    → globals_granted p m (drop (k + 1) xs) (if is_global_of m x then global_granted p m x (global_of p x) mid else mid) ≡ goal
granted_step p m xs k x mid goal less is so_far =
    sym (ap (λ l. globals_granted p m l mid) (drop_more xs k x less ∙ ap (λ y. y ∷ drop (k + 1) xs) (sym is))) ∙ so_far
