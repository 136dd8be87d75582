-- What holds of every node still does, as nodes are written, linked and unlinked.
use Rattle.std.proofs.Common.{◌≡◌, ℕ, ◌<◌, Bool, true, false, nat_eq, cond, List, [], ◌∷◌, ◌++◌, length, map, set, Some, refl, sym, ap, ◌∙◌, arith, eqb-true}
use Rattle.std.proofs.lemmas.Bool.Decides.{nat_tests}
use Rattle.std.proofs.lemmas.List.{get_or-set_same, get_or-set_other}
use Rattle.std.proofs.Math.ListN as listn
use Rattle.std.proofs.lemmas.Bool.{and_parts, and_from}
use Rattle.lx_cap_nodes.specs.declared.pool.Family.TheVariants as family
use Rattle.lx_cap_nodes.specs.declared.pool.ListName.{ListName}
use Rattle.lx_cap_nodes.specs.declared.pool.ListName.TheVariants as name
use Rattle.lx_cap_nodes.specs.Pool.{Pool}
use Rattle.lx_cap_nodes.specs.Words.{nodes_at, value_in, without, with_value, pool_with, PoolLaws}
use Rattle.lx_cap_lists.specs.declared.entry.Entry.{Entry}
use Rattle.lx_cap_lists.specs.Entries.{with_mask}
use Rattle.lx_cap_lists.specs.Kept.{all_nodes, AreAll, Respects, Fits, FitsParts, FitsSpots}
use Rattle.lx_cap_lists.specs.Tables.{Key}
use Rattle.lx_cap_lists.specs.declared.entry.Spot.TheVariants.{Part}
use Rattle.lx_cap_lists.specs.declared.holder.Holder.{Holder}
use Rattle.lx_cap_lists.proofs.TakenLemmas.{same_some}

all_without : (p : Entry → Bool) (es : List (ℕ × Entry)) (n : ℕ) → all_nodes p es ≡ true → all_nodes p (without n es) ≡ true
all_without p [] n h = refl
all_without p (e ∷ es) n h =
    let both = and_parts (p e.1) (all_nodes p es) h in
    let rest = all_without p es n both.1 in
    elim (nat_eq n e.0) as (λ t. all_nodes p (cond t (without n es) (e ∷ without n es)) ≡ true) [ true ↦ rest | false ↦ and_from (p e.1) (all_nodes p (without n es)) both.0 rest ]

all_with : (p : Entry → Bool) (es : List (ℕ × Entry)) (n : ℕ) (v w : Entry) → p w ≡ p v → ((xs : List (ℕ × Entry)) (u : Entry) (ys : List (ℕ × Entry)) → es ≡ xs ++ (n, u) ∷ ys → u ≡ v)
    → all_nodes p es ≡ true → all_nodes p (with_value n w es) ≡ true
all_with p [] n v w same is h = refl
all_with p (e ∷ es) n v w same is h =
    let both = and_parts (p e.1) (all_nodes p es) h in
    let rest = all_with p es n v w same (λ xs u ys at. is (e ∷ xs) u ys (ap (λ r. e ∷ r) at)) both.1 in
    (elim (nat_eq n e.0) as (λ t. nat_eq n e.0 ≡ t → all_nodes p (cond t ((n, w) ∷ with_value n w es) (e ∷ with_value n w es)) ≡ true) [
      | true ↦ λ at.
          let own : e.1 ≡ v = is [] e.1 es (ap (λ k. (k, e.1) ∷ es) (sym (eqb-true n e.0 at))) in
          and_from (p w) (all_nodes p (with_value n w es)) (same ∙ (ap p (sym own) ∙ both.0)) rest
      | false ↦ λ at. and_from (p e.1) (all_nodes p (with_value n w es)) both.0 rest
    ]) refl

pub kept_with : (pool : Pool Entry) (n : ℕ) (v : Entry) (m : ℕ) → PoolLaws pool → value_in n pool.places ≡ Some v
    → (p : ListName → Entry → Bool) → Respects p → AreAll p pool → AreAll p (pool_with pool n (with_mask v m))
unfolding AreAll Respects
kept_with pool n v m laws at p r all (name.Place l) =
    ap (all_nodes (p (name.Place l))) (listn.get_or-map (with_value n (with_mask v m)) pool.places l [])
    ∙ all_with (p (name.Place l)) (nodes_at pool.places l) n v (with_mask v m) (r (name.Place l) v m) (λ xs u ys is. same_some u v (value_in n pool.places) (laws.at_node family.Place l xs n u ys is).value at) (all (name.Place l))
kept_with pool n v m laws at p r all (name.Owner l) =
    ap (all_nodes (p (name.Owner l))) (listn.get_or-map (with_value n (with_mask v m)) pool.owners l [])
    ∙ all_with (p (name.Owner l)) (nodes_at pool.owners l) n v (with_mask v m) (r (name.Owner l) v m) (λ xs u ys is. same_some u v (value_in n pool.places) (laws.at_node family.Owner l xs n u ys is).value at) (all (name.Owner l))

pub kept_without : (old new : Pool Entry) (n : ℕ) → new.places ≡ map (without n) old.places → new.owners ≡ map (without n) old.owners → (p : ListName → Entry → Bool) → AreAll p old → AreAll p new
unfolding AreAll
kept_without old new n places owners p all (name.Place l) =
    ap (λ ls. all_nodes (p (name.Place l)) (nodes_at ls l)) places ∙ (ap (all_nodes (p (name.Place l))) (listn.get_or-map (without n) old.places l []) ∙ all_without (p (name.Place l)) (nodes_at old.places l) n (all (name.Place l)))
kept_without old new n places owners p all (name.Owner l) =
    ap (λ ls. all_nodes (p (name.Owner l)) (nodes_at ls l)) owners ∙ (ap (all_nodes (p (name.Owner l))) (listn.get_or-map (without n) old.owners l []) ∙ all_without (p (name.Owner l)) (nodes_at old.owners l) n (all (name.Owner l)))

all_set : (p : Entry → Bool) (lists : List (List (ℕ × Entry))) (place l n : ℕ) (e : Entry) → place < length lists → (l ≡ place → p e ≡ true) → all_nodes p (nodes_at lists l) ≡ true
    → all_nodes p (nodes_at (set lists place ((n, e) ∷ nodes_at lists place)) l) ≡ true
all_set p lists place l n e h own all =
    (elim (nat_eq l place) as (λ t. nat_eq l place ≡ t → all_nodes p (nodes_at (set lists place ((n, e) ∷ nodes_at lists place)) l) ≡ true) [
      | true ↦ λ f.
          let same = eqb-true l place f in
          ap (λ k. all_nodes p (nodes_at (set lists place ((n, e) ∷ nodes_at lists place)) k)) same
          ∙ (ap (all_nodes p) (get_or-set_same lists place ((n, e) ∷ nodes_at lists place) [] h)
          ∙ and_from (p e) (all_nodes p (nodes_at lists place)) (own same) (ap (λ k. all_nodes p (nodes_at lists k)) (sym same) ∙ all))
      | false ↦ λ f. ap (all_nodes p) (get_or-set_other lists place l ((n, e) ∷ nodes_at lists place) [] (λ same. grind (arith, nat_tests, f, same))) ∙ all
    ]) refl

pub kept_linked : (old new : Pool Entry) (place owner n : ℕ) (e : Entry) → place < length old.places → owner < length old.owners
    → new.places ≡ set old.places place ((n, e) ∷ nodes_at old.places place) → new.owners ≡ set old.owners owner ((n, e) ∷ nodes_at old.owners owner)
    → (p : ListName → Entry → Bool) → Fits p place owner e → AreAll p old → AreAll p new
unfolding AreAll
kept_linked old new place owner n e h k places owners p fits all (name.Place l) =
    ap (λ ls. all_nodes (p (name.Place l)) (nodes_at ls l)) places ∙ all_set (p (name.Place l)) old.places place l n e h (λ same. ap (λ j. p (name.Place j) e) same ∙ fits.0) (all (name.Place l))
kept_linked old new place owner n e h k places owners p fits all (name.Owner l) =
    ap (λ ls. all_nodes (p (name.Owner l)) (nodes_at ls l)) owners ∙ all_set (p (name.Owner l)) old.owners owner l n e k (λ same. ap (λ j. p (name.Owner j) e) same ∙ fits.1) (all (name.Owner l))

pub parts_from_spots : (p : ListName → Entry → Bool) (atoms : List Key) (to : Holder) (owner : ℕ) → FitsSpots p atoms to owner → FitsParts p to owner
unfolding FitsSpots FitsParts
parts_from_spots p atoms to owner fits = λ part l m is. fits (Part part) l m is
