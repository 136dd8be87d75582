-- Nodes that are taken out: what is left, and what others have stays.
use Rattle.std.proofs.Common.{◌≡◌, ◌≢◌, ℕ, Bool, true, false, ◌&&◌, ◌||◌, nat_eq, cond, List, [], ◌∷◌, ◌++◌, map, Option, Some, None, refl, sym, ap, ◌∙◌, eqb-true}
use Rattle.std.proofs.Math.ListN as listn
use Rattle.std.proofs.lemmas.Bool.{and_parts}
use Rattle.lx_cap_nodes.specs.declared.pool.Family.TheVariants as family
use Rattle.lx_cap_nodes.specs.Names.{first_of}
use Rattle.lx_cap_nodes.specs.Pool.{Pool}
use Rattle.lx_cap_nodes.specs.Words.{names, nodes_at, value_in, without, PoolLaws}
use Rattle.lx_cap_lists.specs.declared.entry.Entry.{Entry}
use Rattle.lx_cap_lists.specs.declared.holder.Holder.{Holder}
use Rattle.lx_cap_nodes.specs.Bits.{is_set}
use Rattle.lx_cap_lists.specs.Entries.{gives_bit, bit_among}
use Rattle.lx_cap_lists.specs.Kept.{all_nodes}

-- a list by its first node
pub first_split : (es : List (ℕ × Entry)) (n : ℕ) → first_of (names es) ≡ Some n → (v : Entry) × (ys : List (ℕ × Entry)) × (es ≡ (n, v) ∷ ys)
first_split [] n e = absurd (cc)
first_split (x ∷ ys) n e = let same : x.0 ≡ n = cc in (x.1, ys, ap (λ k. (k, x.1) ∷ ys) same)

pub none_left : (es : List (ℕ × Entry)) → first_of (names es) ≡ None → es ≡ []
none_left [] e = refl
none_left (x ∷ ys) e = absurd (cc)

-- no node is left
pub none_of : (o : Option ℕ) → ((n : ℕ) → o ≢ Some n) → o ≡ None
none_of None h = refl
none_of (Some n) h = absurd (h n refl)

no_bit : (among : Holder → Bool) (k : ℕ) (e : Entry) → among e.holder ≡ false → gives_bit among k e ≡ false
no_bit among k e out = ap (λ b. b && is_set e.mask k) out

-- what others have stays where a node goes
bit_without : (among : Holder → Bool) (n k : ℕ) (es : List (ℕ × Entry)) → ((xs : List (ℕ × Entry)) (u : Entry) (ys : List (ℕ × Entry)) → es ≡ xs ++ (n, u) ∷ ys → among u.holder ≡ false)
    → bit_among among (without n es) k ≡ bit_among among es k
bit_without among n k [] out = refl
bit_without among n k (e ∷ es) out =
    let rest = bit_without among n k es (λ xs u ys is. out (e ∷ xs) u ys (ap (λ r. e ∷ r) is)) in
    (elim (nat_eq n e.0) as (λ t. nat_eq n e.0 ≡ t → bit_among among (cond t (without n es) (e ∷ without n es)) k ≡ (gives_bit among k e.1 || bit_among among es k)) [
      | true ↦ λ at.
          let gone : gives_bit among k e.1 ≡ false = no_bit among k e.1 (out [] e.1 es (ap (λ j. (j, e.1) ∷ es) (sym (eqb-true n e.0 at)))) in
          rest ∙ sym (ap (λ b. b || bit_among among es k) gone)
      | false ↦ λ at. ap (λ b. gives_bit among k e.1 || b) rest
    ]) refl

pub same_some : (a b : Entry) (o : Option Entry) → o ≡ Some a → o ≡ Some b → a ≡ b
same_some a b o e f = cc

pub bits_stay : (pool : Pool Entry) (new : List (List (ℕ × Entry))) (n : ℕ) (v : Entry) → PoolLaws pool → value_in n pool.places ≡ Some v → new ≡ map (without n) pool.places
    → (among : Holder → Bool) → among v.holder ≡ false → (l k : ℕ) → bit_among among (nodes_at new l) k ≡ bit_among among (nodes_at pool.places l) k
bits_stay pool new n v laws value is among out l k =
    ap (λ ls. bit_among among (nodes_at ls l) k) is
    ∙ (ap (λ es. bit_among among es k) (listn.get_or-map (without n) pool.places l [])
    ∙ bit_without among n k (nodes_at pool.places l) (λ xs u ys split. ap (λ (e : Entry). among e.holder) (same_some u v (value_in n pool.places) (laws.at_node family.Place l xs n u ys split).value value) ∙ out))

pub still_empty : (old new : List (List (ℕ × Entry))) (n : ℕ) → new ≡ map (without n) old → (l : ℕ) → nodes_at old l ≡ [] → nodes_at new l ≡ []
still_empty old new n is l none = ap (λ ls. nodes_at ls l) is ∙ (listn.get_or-map (without n) old l [] ∙ ap (without n) none)

pub all_rest : (p : Entry → Bool) (e : ℕ × Entry) (es : List (ℕ × Entry)) → all_nodes p (e ∷ es) ≡ true → (p e.1 ≡ true) × (all_nodes p es ≡ true)
all_rest p e es h = and_parts (p e.1) (all_nodes p es) h
