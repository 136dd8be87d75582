-- A module without a fault, by tests, and by the registers that each walk to a block has assigned.
use Rattle.std.proofs.Common.{◌≡◌, ◌∙◌, inl, inr, ℕ, zero, suc, ◌+◌, Bool, true, false, ◌&&◌, ◌||◌, List, [], ◌∷◌, length, take, Option, Some, None, refl, sym, ap, subst, arith}
use Rattle.std.specs.Prelude.{nat_eq, nat_lt, slice_index_or, is_none}
use Rattle.std.specs.List.{list_all, list_any}
use Rattle.std.proofs.lemmas.Bool.{and_parts, eqb-true, ltb-true, or_cases, or_left, or_right, both_ways}
use Rattle.lx_ir.specs.declared.module.Function.{Function}
use Rattle.lx_ir.specs.declared.module.Module.{Module}
use Rattle.lx_ir.specs.Faults.{Fault, FirstFault, FirstBehind, FirstOfFunctions, FirstOrUnassigned, FirstUnassigned, IsUnassigned, Read, Walk, assigns, earlier_fault, first_some, global_fault, instrs_at, reads_of, successors, walk_assigns}

-- registers that are assigned on each walk to a block, for each block of a function
abbrev pub Table : Type 0
Table = List (List ℕ)

abbrev has : Table → ℕ → ℕ → Bool
has table k r = list_any (nat_eq r) (slice_index_or table k [])

-- what the table has of a block is so behind an edge to it
abbrev edge_keeps : Function → Table → ℕ → ℕ → Bool
edge_keeps f table p k = list_all (λ r. has table p r || assigns (instrs_at f p) r) (slice_index_or table k [])

-- the edges of blocks from one with this number on
abbrev edges_keep : Function → Table → ℕ → List (List ℕ) → Bool
edges_keep f table p [] = true
edges_keep f table p (ks ∷ others) = list_all (edge_keeps f table p) ks && edges_keep f table (suc p) others

abbrev is_assigned : Function → Table → Read → Bool
is_assigned f table x = nat_lt x.register (length f.params) || has table x.block x.register || assigns (take x.place (instrs_at f x.block)) x.register

abbrev is_empty : List ℕ → Bool
is_empty [] = true
is_empty (r ∷ rs) = false

-- The table is right, and tells that each read is assigned.
abbrev pub are_assigned : Function → Table → Bool
are_assigned f table = is_empty (slice_index_or table 0 []) && edges_keep f table 0 (successors f) && list_all (is_assigned f table) (reads_of f)

any_passes : (p : ℕ → Bool) (r : ℕ) (xs : List ℕ) → list_all p xs ≡ true → list_any (nat_eq r) xs ≡ true → p r ≡ true
any_passes p r [] h a = absurd (cc a)
any_passes p r (x ∷ xs) h a =
    let both = and_parts (p x) (list_all p xs) h in
    elim (or_cases (nat_eq r x) (list_any (nat_eq r) xs) a) [ inl e ↦ ap p (eqb-true r x e) ∙ both.0 | inr o ↦ any_passes p r xs both.1 o ]

passes_any : (p : ℕ → Bool) (r : ℕ) (xs : List ℕ) → list_all p xs ≡ true → list_any (λ x. nat_eq x r) xs ≡ true → p r ≡ true
passes_any p r [] h a = absurd (cc a)
passes_any p r (x ∷ xs) h a =
    let both = and_parts (p x) (list_all p xs) h in
    elim (or_cases (nat_eq x r) (list_any (λ y. nat_eq y r) xs) a) [ inl e ↦ ap p (sym (eqb-true x r e)) ∙ both.0 | inr o ↦ passes_any p r xs both.1 o ]

nothing_in : (r : ℕ) (xs : List ℕ) → is_empty xs ≡ true → list_any (nat_eq r) xs ≡ true → ⊥
nothing_in r [] e a = cc a
nothing_in r (x ∷ xs) e a = cc e

module _ (f : Function) (table : Table) where
  edge_kept : (n : ℕ) (all : List (List ℕ)) (i p k : ℕ) → p ≡ n + i → edges_keep f table n all ≡ true → list_any (λ j. nat_eq j k) (slice_index_or all i []) ≡ true → edge_keeps f table p k ≡ true
  edge_kept n [] i p k e h a = absurd (cc a)
  edge_kept n (ks ∷ all) zero p k e h a =
      let both = and_parts (list_all (edge_keeps f table n) ks) (edges_keep f table (suc n) all) h in
      let same : p ≡ n = omega (arith, e) in
      ap (λ q. edge_keeps f table q k) same ∙ passes_any (edge_keeps f table n) k ks both.0 a
  edge_kept n (ks ∷ all) (suc i) p k e h a =
      edge_kept (suc n) all i p k (omega (arith, e)) (and_parts (list_all (edge_keeps f table n) ks) (edges_keep f table (suc n) all) h).1 a

  walk_has : is_empty (slice_index_or table 0 []) ≡ true → edges_keep f table 0 (successors f) ≡ true → (ps : List ℕ) (k r : ℕ) → Walk f ps k → has table k r ≡ true → walk_assigns f ps r ≡ true
  walk_has first edges [] k r w h = absurd (nothing_in r (slice_index_or table 0 []) first (ap (λ n. has table n r) (sym w) ∙ h))
  walk_has first edges (p ∷ ps) k r w h =
      let kept = edge_kept 0 (successors f) p p k (omega arith) edges w.0 in
      elim (or_cases (has table p r) (assigns (instrs_at f p) r) (any_passes (λ s. has table p s || assigns (instrs_at f p) s) r (slice_index_or table k []) kept h)) [
        | inl o ↦ or_right (assigns (instrs_at f p) r) (walk_assigns f ps r) (walk_has first edges ps p r w.1 o)
        | inr a ↦ or_left (assigns (instrs_at f p) r) (walk_assigns f ps r) a
      ]

  not_unassigned : is_empty (slice_index_or table 0 []) ≡ true → edges_keep f table 0 (successors f) ≡ true → (x : Read) → is_assigned f table x ≡ true → IsUnassigned f x → ⊥
  not_unassigned first edges x h u =
      elim (or_cases (nat_lt x.register (length f.params) || has table x.block x.register) (assigns (take x.place (instrs_at f x.block)) x.register) h) [
        | inl o ↦ elim (or_cases (nat_lt x.register (length f.params)) (has table x.block x.register) o) [
          | inl l ↦ omega (arith, ltb-true x.register (length f.params) l, u.no_parameter)
          | inr t ↦ both_ways _ u.not_before (walk_has first edges u.walk x.block x.register u.comes t)
        ]
        | inr a ↦ both_ways _ u.not_here a
      ]

  none_unassigned : is_empty (slice_index_or table 0 []) ≡ true → edges_keep f table 0 (successors f) ≡ true → (xs : List Read) → list_all (is_assigned f table) xs ≡ true → FirstUnassigned f xs None
  none_unassigned first edges [] h = refl
  none_unassigned first edges (x ∷ xs) h =
      let both = and_parts (is_assigned f table x) (list_all (is_assigned f table) xs) h in
      inr (not_unassigned first edges x both.0, none_unassigned first edges xs both.1)

  reads_assigned : are_assigned f table ≡ true → FirstUnassigned f (reads_of f) None
  reads_assigned h =
      let front = and_parts (is_empty (slice_index_or table 0 []) && edges_keep f table 0 (successors f)) (list_all (is_assigned f table) (reads_of f)) h in
      let both = and_parts (is_empty (slice_index_or table 0 [])) (edges_keep f table 0 (successors f)) front.0 in
      none_unassigned both.0 both.1 (reads_of f) front.1

-- Modules.

abbrev first_table : List Table → Table
first_table [] = []
first_table (t ∷ ts) = t

abbrev other_tables : List Table → List Table
other_tables [] = []
other_tables (t ∷ ts) = ts

-- no function has a fault, by a table for each
abbrev pub are_sound : Module → List Function → List Table → Bool
are_sound m [] tables = true
are_sound m (f ∷ fs) tables = is_none (earlier_fault m f) && are_assigned f (first_table tables) && are_sound m fs (other_tables tables)

none_is : (o : Option Fault) → is_none o ≡ true → o ≡ None
none_is None e = refl
none_is (Some x) e = cc e

functions_sound : (m : Module) (fs : List Function) (tables : List Table) → are_sound m fs tables ≡ true → FirstOfFunctions m fs None
functions_sound m [] tables h = refl
functions_sound m (f ∷ fs) tables h =
    let front = and_parts (is_none (earlier_fault m f) && are_assigned f (first_table tables)) (are_sound m fs (other_tables tables)) h in
    let both = and_parts (is_none (earlier_fault m f)) (are_assigned f (first_table tables)) front.0 in
    let early : earlier_fault m f ≡ None = none_is (earlier_fault m f) both.0 in
    inr (subst (λ o. FirstOrUnassigned o f None) (sym early) (reads_assigned f (first_table tables) both.1), functions_sound m fs (other_tables tables) front.1)

pub no_fault : (m : Module) (tables : List Table) → first_some (global_fault m) m.globals ≡ None → are_sound m m.functions tables ≡ true → FirstFault m None
no_fault m tables globals h = subst (λ o. FirstBehind o m None) (sym globals) (functions_sound m m.functions tables h)
