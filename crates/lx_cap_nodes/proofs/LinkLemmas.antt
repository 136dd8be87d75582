-- How the links change as a node comes and goes.
use Rattle.std.proofs.Common.{◌≡◌, ◌≢◌, ℕ, zero, suc, ◌+◌, ◌<◌, ◌≤◌, true, false, ◌||◌, cond, eqb, List, [], ◌∷◌, ◌++◌, length, map, get_or, set, Option, Some, None, refl, sym, ap, ◌∙◌, subst, arith, length-set, eqb-true}
use Rattle.std.specs.Prelude.{nat_eq}
use Rattle.std.proofs.lemmas.Bool.Decides.{nat_tests}
use Rattle.std.proofs.lemmas.List.{get_or-set_same, get_or-set_other, get_or_past, get_or-map, length-map, ext_get_or, get_or_append_left, length_push}
use Rattle.std.proofs.lemmas.Bool.{or_right as or_true}
use Rattle.lx_words.proofs.Tests.{eq_self, none_left, none_right, or_other}
use Rattle.lx_cap_nodes.specs.declared.links.Link.{Link}
use Rattle.lx_cap_nodes.specs.Links.{at_list, no_link, link_at, head_at, with_previous, with_next, IsWithin, Below, Fits, IsList, IsFamily, walk, lists_of}
use Rattle.lx_cap_nodes.specs.Names.{has, is_listed, first_of, next_of, next_in, drop_name, Apart}

pub ne_from_eq : (m n : ℕ) → nat_eq m n ≡ false → m ≢ n
ne_from_eq m n e = λ same. grind (arith, nat_tests, e, same)

-- a written link is read back, and the others stay
pub link-same : (links : List Link) (n : ℕ) (x : Link) → n < length links → link_at (set links n x) n ≡ x
link-same links n x h = get_or-set_same links n x no_link h

pub link-other : (links : List Link) (k n : ℕ) (x : Link) → n ≢ k → link_at (set links k x) n ≡ link_at links n
link-other links k n x ne = get_or-set_other links k n x no_link ne

-- what is among some numbers differs from what is not
pub has_apart : (ns : List ℕ) (m n : ℕ) → has m ns ≡ false → has n ns ≡ true → n ≢ m
has_apart ns m n out «in» = λ same. absurd (let e : has m ns ≡ true = subst (λ k. has k ns ≡ true) same «in» in cc)

-- a write to a node that is not among these
pub fits-other : (links : List Link) (l : ℕ) (before : Option ℕ) (ns : List ℕ) (k : ℕ) (x : Link) → has k ns ≡ false → Fits links l before ns → Fits (set links k x) l before ns
fits-other links l before [] k x out fits = tt
fits-other links l before (n ∷ ns) k x out fits =
    let ne = ne_from_eq k n (none_left (nat_eq k n) (has k ns) out) in
    (link-other links k n x (λ e. ne (sym e)) ∙ fits.0, fits-other links l (Some n) ns k x (none_right (nat_eq k n) (has k ns) out) fits.1)

-- the option's number, if there is one, is not among these
abbrev pub IsOut : Option ℕ → List ℕ → Type 0
IsOut None ns = Unit {0}
IsOut (Some k) ns = has k ns ≡ false

pub fits-with_next : (links : List Link) (l : ℕ) (before : Option ℕ) (ns : List ℕ) (at e : Option ℕ) → IsOut at ns → Fits links l before ns → Fits (with_next links at e) l before ns
fits-with_next links l before ns None e out fits = fits
fits-with_next links l before ns (Some k) e out fits = fits-other links l before ns k _ out fits

pub fits-with_previous : (links : List Link) (l : ℕ) (before : Option ℕ) (ns : List ℕ) (at e : Option ℕ) → IsOut at ns → Fits links l before ns → Fits (with_previous links at e) l before ns
fits-with_previous links l before ns None e out fits = fits
fits-with_previous links l before ns (Some k) e out fits = fits-other links l before ns k _ out fits

pub length-with_next : (links : List Link) (at e : Option ℕ) → length (with_next links at e) ≡ length links
length-with_next links None e = refl
length-with_next links (Some k) e = length-set links k _

pub length-with_previous : (links : List Link) (at e : Option ℕ) → length (with_previous links at e) ≡ length links
length-with_previous links None e = refl
length-with_previous links (Some k) e = length-set links k _

-- the first of these gets another one before it
pub fits-before : (links : List Link) (l : ℕ) (before now : Option ℕ) (ns : List ℕ) → Apart ns → Below (length links) ns → Fits links l before ns → Fits (with_previous links (first_of ns) now) l now ns
fits-before links l before now [] apart below fits = tt
fits-before links l before now (n ∷ ns) apart below fits = (
  link-same links n _ below.0 ∙ ap (λ (x : Link). record { previous = now; next = x.next; list = x.list }) fits.0,
  fits-other links l (Some n) ns n _ apart.0 fits.1,
)

-- the list of each node's link
pub list_is : (links : List Link) (l : ℕ) (before : Option ℕ) (ns : List ℕ) (n : ℕ) → Fits links l before ns → has n ns ≡ true → (link_at links n).list ≡ l
list_is links l before [] n fits «in» = absurd (cc)
list_is links l before (m ∷ ns) n fits «in» =
    (elim (nat_eq n m) as (λ b. nat_eq n m ≡ b → (link_at links n).list ≡ l) [
      | true ↦ λ e. ap (λ k. (link_at links k).list) (eqb-true n m e) ∙ ap (λ (x : Link). x.list) fits.0
      | false ↦ λ e. list_is links l (Some m) ns n fits.1 (or_other (nat_eq n m) (has n ns) «in» e)
    ]) refl

pub below_has : (bound : ℕ) (ns : List ℕ) (n : ℕ) → Below bound ns → has n ns ≡ true → n < bound
below_has bound [] n below «in» = absurd (cc)
below_has bound (m ∷ ns) n below «in» =
    (elim (nat_eq n m) as (λ b. nat_eq n m ≡ b → n < bound) [
      | true ↦ λ e. subst (λ k. k < bound) (sym (eqb-true n m e)) below.0
      | false ↦ λ e. below_has bound ns n below.1 (or_other (nat_eq n m) (has n ns) «in» e)
    ]) refl

pub first_has : (ns : List ℕ) (k : ℕ) → first_of ns ≡ Some k → has k ns ≡ true
first_has [] k e = absurd (cc)
first_has (n ∷ ns) k e = let same : n ≡ k = cc in subst (λ (j : ℕ). has j (n ∷ ns) ≡ true) same (ap (λ b. b || has n ns) (eq_self n))

-- what stands before a node that is not the first is among these
pub previous_has : (links : List Link) (l b n : ℕ) (ns : List ℕ) → Fits links l (Some b) ns → has n ns ≡ true → (q : ℕ) × ((link_at links n).previous ≡ Some q) × (has q (b ∷ ns) ≡ true)
previous_has links l b n [] fits «in» = absurd (cc)
previous_has links l b n (m ∷ ns) fits «in» =
    (elim (nat_eq n m) as (λ t. nat_eq n m ≡ t → (q : ℕ) × ((link_at links n).previous ≡ Some q) × (has q (b ∷ m ∷ ns) ≡ true)) [
      | true ↦ λ e. (b, ap (λ k. (link_at links k).previous) (eqb-true n m e) ∙ ap (λ (x : Link). x.previous) fits.0, ap (λ t. t || has b (m ∷ ns)) (eq_self b))
      | false ↦ λ e. let found = previous_has links l m n ns fits.1 (or_other (nat_eq n m) (has n ns) «in» e) in
          (found.0, found.1, or_true (nat_eq found.0 b) (has found.0 (m ∷ ns)) found.2)
    ]) refl

pub next_is : (links : List Link) (l n : ℕ) (before : Option ℕ) (ns : List ℕ) → Fits links l before ns → has n ns ≡ true → (link_at links n).next ≡ next_of n ns
next_is links l n before [] fits «in» = absurd (cc)
next_is links l n before (m ∷ ns) fits «in» =
    (elim (nat_eq n m) as (λ t. nat_eq n m ≡ t → (link_at links n).next ≡ cond t (first_of ns) (next_of n ns)) [
      | true ↦ λ e. ap (λ k. (link_at links k).next) (eqb-true n m e) ∙ ap (λ (x : Link). x.next) fits.0
      | false ↦ λ e. next_is links l n (Some m) ns fits.1 (or_other (nat_eq n m) (has n ns) «in» e)
    ]) refl

pub next_has : (n : ℕ) (ns : List ℕ) (k : ℕ) → next_of n ns ≡ Some k → has k ns ≡ true
next_has n [] k is = absurd (cc)
next_has n (m ∷ ns) k is =
    (elim (nat_eq n m) as (λ t. cond t (first_of ns) (next_of n ns) ≡ Some k → has k (m ∷ ns) ≡ true) [
      | true ↦ λ e. or_true (nat_eq k m) (has k ns) (first_has ns k e)
      | false ↦ λ e. or_true (nat_eq k m) (has k ns) (next_has n ns k e)
    ]) is

-- what stays once a number is dropped
pub drop_out : (n : ℕ) (ns : List ℕ) → has n ns ≡ false → drop_name n ns ≡ ns
drop_out n [] out = refl
drop_out n (m ∷ ns) out = rw (none_left (nat_eq n m) (has n ns) out) (ap (λ ms. m ∷ ms) (drop_out n ns (none_right (nat_eq n m) (has n ns) out)))

pub has_drop : (m n : ℕ) (ns : List ℕ) → has m ns ≡ false → has m (drop_name n ns) ≡ false
has_drop m n [] out = refl
has_drop m n (k ∷ ns) out =
    let rest = has_drop m n ns (none_right (nat_eq m k) (has m ns) out) in
    elim (nat_eq n k) as (λ t. has m (cond t (drop_name n ns) (k ∷ drop_name n ns)) ≡ false) [
      | true ↦ rest
      | false ↦ rw (none_left (nat_eq m k) (has m ns) out) rest
    ]

pub has_drop_self : (n : ℕ) (ns : List ℕ) → has n (drop_name n ns) ≡ false
has_drop_self n [] = refl
has_drop_self n (k ∷ ns) =
    (elim (nat_eq n k) as (λ t. nat_eq n k ≡ t → has n (cond t (drop_name n ns) (k ∷ drop_name n ns)) ≡ false) [
      | true ↦ λ e. has_drop_self n ns
      | false ↦ λ e. rw e (has_drop_self n ns)
    ]) refl

pub apart_drop : (n : ℕ) (ns : List ℕ) → Apart ns → Apart (drop_name n ns)
apart_drop n [] apart = tt
apart_drop n (k ∷ ns) apart =
    elim (nat_eq n k) as (λ t. Apart (cond t (drop_name n ns) (k ∷ drop_name n ns))) [
      | true ↦ apart_drop n ns apart.1
      | false ↦ (has_drop k n ns apart.0, apart_drop n ns apart.1)
    ]

pub below_drop : (bound n : ℕ) (ns : List ℕ) → Below bound ns → Below bound (drop_name n ns)
below_drop bound n [] below = tt
below_drop bound n (k ∷ ns) below =
    elim (nat_eq n k) as (λ t. Below bound (cond t (drop_name n ns) (k ∷ drop_name n ns))) [
      | true ↦ below_drop bound n ns below.1
      | false ↦ (below.0, below_drop bound n ns below.1)
    ]

pub below_less : (k : ℕ) (ns : List ℕ) → Below (suc k) ns → Below k (drop_name k ns)
below_less k [] below = tt
below_less k (m ∷ ns) below =
    (elim (nat_eq k m) as (λ t. nat_eq k m ≡ t → Below k (cond t (drop_name k ns) (m ∷ drop_name k ns))) [
      | true ↦ λ e. below_less k ns below.1
      | false ↦ λ e. (let ne = ne_from_eq k m e in let le = below.0 in omega (arith, ne, le), below_less k ns below.1)
    ]) refl

pub length_drop : (n : ℕ) (ns : List ℕ) → Apart ns → length ns ≤ length (drop_name n ns) + 1
length_drop n [] apart = omega arith
length_drop n (m ∷ ns) apart =
    (elim (nat_eq n m) as (λ t. nat_eq n m ≡ t → suc (length ns) ≤ length (cond t (drop_name n ns) (m ∷ drop_name n ns)) + 1) [
      | true ↦ λ e. let same = drop_out n ns (subst (λ k. has k ns ≡ false) (sym (eqb-true n m e)) apart.0) in rw same (omega arith)
      | false ↦ λ e. omega (arith, length_drop n ns apart.1)
    ]) refl

-- different numbers below a bound are at most that many
pub pigeons : (k : ℕ) (ns : List ℕ) → Apart ns → Below k ns → length ns ≤ k
pigeons zero [] apart below = omega arith
pigeons zero (n ∷ ns) apart below = absurd (let h = below.0 in omega (arith, h))
pigeons (suc k) ns apart below = omega (arith, length_drop k ns apart, pigeons k (drop_name k ns) (apart_drop k ns apart) (below_less k ns below))

pub below_more : (a b : ℕ) (ns : List ℕ) → a ≤ b → Below a ns → Below b ns
below_more a b [] le below = tt
below_more a b (n ∷ ns) le below = (let h = below.0 in omega (arith, h, le), below_more a b ns le below.1)

-- the walk finds the nodes
pub walk_is : (links : List Link) (fuel l : ℕ) (before : Option ℕ) (ns : List ℕ) → Fits links l before ns → length ns ≤ fuel → walk links fuel (first_of ns) ≡ ns
unfolding walk
walk_is links zero l before [] fits le = refl
walk_is links (suc fuel) l before [] fits le = refl
walk_is links zero l before (n ∷ ns) fits le = absurd (omega (arith, le))
walk_is links (suc fuel) l before (n ∷ ns) fits le =
    ap (λ ms. n ∷ ms) (ap (λ (x : Link). walk links fuel x.next) fits.0 ∙ walk_is links fuel l (Some n) ns fits.1 (omega (arith, le)))

pub lists_of_is : (links : List Link) (heads : List (Option ℕ)) (lists : List (List ℕ)) → IsFamily links heads lists → lists_of links heads ≡ lists
unfolding lists_of
lists_of_is links heads lists family =
    ext_get_or [] (map (walk links (length links)) heads) lists (length-map heads (walk links (length links)) ∙ sym family.count)
    (λ k h.
    let within : k < length heads = subst (λ n. k < n) (length-map heads (walk links (length links))) h in
    let one = family.each k in
    get_or-map (walk links (length links)) heads k None [] within
    ∙ (ap (walk links (length links)) one.first
    ∙ walk_is links (length links) k None (at_list lists k) one.fits (pigeons (length links) (at_list lists k) one.apart one.below)))

-- more links change no list
pub link-pushed : (links : List Link) (x : Link) (n : ℕ) → n < length links → link_at (links ++ x ∷ []) n ≡ link_at links n
link-pushed links x n h = get_or_append_left links (x ∷ []) no_link n h

fits-pushed : (links : List Link) (x : Link) (l : ℕ) (before : Option ℕ) (ns : List ℕ) → Below (length links) ns → Fits links l before ns → Fits (links ++ x ∷ []) l before ns
fits-pushed links x l before [] below fits = tt
fits-pushed links x l before (n ∷ ns) below fits = (link-pushed links x n below.0 ∙ fits.0, fits-pushed links x l (Some n) ns below.1 fits.1)

pub family-pushed : (links : List Link) (x : Link) (heads : List (Option ℕ)) (lists : List (List ℕ)) → IsFamily links heads lists → IsFamily (links ++ x ∷ []) heads lists
family-pushed links x heads lists family = record {
  count = family.count;
  each = λ l. let one = family.each l in record {
    first = one.first;
    fits = fits-pushed links x l None (at_list lists l) one.below one.fits;
    apart = one.apart;
    below = below_more (length links) (length (links ++ x ∷ [])) (at_list lists l) (let h = length_push links x in omega (arith, h)) one.below;
  };
}
