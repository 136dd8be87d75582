-- The tree over the places: each node has the greater of its halves.
use Rattle.std.proofs.Common.{◌≡◌, inl, inr, sym, subst, ◌∙◌, ap, ℕ, ◌+◌, ◌*◌, ◌/◌, ◌-◌, ◌<◌, ◌≤◌, max, List, length, drop, length-drop, get_or, set, get_or-set_other, zero, suc, arith}
use Rattle.std.proofs.lemmas.List.{get_or-drop, drop-set-add, get_or_past, set_past}
use Rattle.std.proofs.lemmas.Bool.{cases_lt}
use Rattle.std.proofs.lemmas.Grind.{get_or_default_zero}
use Rattle.lx_memory.specs.Runs.{places, AreGreater}

pub leaf : (nodes : List ℕ) (p : ℕ) → get_or (drop places nodes) p 0 ≡ get_or nodes (places + p) 0
leaf nodes p = get_or-drop places nodes p 0

-- a node is no greater than the one above it
pub below-parent : (nodes : List ℕ) (x n : ℕ) → AreGreater nodes 1 → 1 < x → x < 2 * places → get_or nodes (x / 2) 0 < n → get_or nodes x 0 < n
below-parent nodes x n all low high less =
    let h = x / 2 in
    let is = all h (omega (arith, low)) (omega (arith, high)) (omega (arith, low)) in
    elim (cases_lt (2 * h) x) [
      | inl right ↦ (let at : x ≡ 2 * h + 1 = omega (arith, right) in subst (λ (y : ℕ). get_or nodes y 0 < n) (sym at) (omega (arith, is, less)))
      | inr left ↦ (let at : x ≡ 2 * h = omega (arith, left) in subst (λ (y : ℕ). get_or nodes y 0 < n) (sym at) (omega (arith, is, less)))
    ]

-- where one number is set, the nodes stay right but for the one above it
pub set-leaf : (nodes : List ℕ) (x y : ℕ) → places ≤ x → AreGreater nodes 1 → AreGreater (set nodes x y) x
set-leaf nodes x y low all k some inner other =
    let a = get_or-set_other nodes x k y 0 (omega (arith, low, inner)) in
    let b = get_or-set_other nodes x (2 * k) y 0 (omega (arith, other)) in
    let c = get_or-set_other nodes x (2 * k + 1) y 0 (omega (arith, other)) in
    let is = all k some inner (omega (arith, some)) in
    rw (a, b, c) is

-- the leaves, where one of them is set
pub one-leaf : (nodes : List ℕ) (x p y : ℕ) → x ≡ places + p → drop places (set nodes x y) ≡ set (drop places nodes) p y
one-leaf nodes x p y at = ap (λ (j : ℕ). drop places (set nodes j y)) at ∙ drop-set-add places nodes p y

-- the leaves are as many as there are places
pub leaf_count : (nodes : List ℕ) → length nodes ≡ 2 * places → length (drop places nodes) ≡ places
leaf_count nodes len = let left = length-drop places nodes in omega (arith, left, len)

pub past-leaves : (nodes : List ℕ) (p : ℕ) → length nodes ≡ 2 * places → places ≤ p → get_or (drop places nodes) p 0 ≡ 0
past-leaves nodes p len past = get_or_past (drop places nodes) p 0 (let left = leaf_count nodes len in omega (arith, left, past))

pub set-past-leaves : (nodes : List ℕ) (p y : ℕ) → length nodes ≡ 2 * places → places ≤ p → set (drop places nodes) p y ≡ drop places nodes
set-past-leaves nodes p y len past = set_past (drop places nodes) p y (let left = leaf_count nodes len in omega (arith, left, past))

-- what is read at a leaf
pub read-leaf : (nodes : List ℕ) (x p r : ℕ) → r ≡ get_or nodes x r → x ≡ places + p → x < length nodes → r ≡ get_or (drop places nodes) p 0
read-leaf nodes x p r is at inside = is ∙ get_or_default_zero nodes x r inside ∙ ap (λ (y : ℕ). get_or nodes y 0) at ∙ sym (leaf nodes p)

-- where the root is less than a number, all nodes are
all-below : (nodes : List ℕ) (n : ℕ) → AreGreater nodes 1 → get_or nodes 1 0 < n → (most x : ℕ) → x ≤ most → 0 < x → x < 2 * places → get_or nodes x 0 < n
all-below nodes n all root zero x small some inside = absurd (omega (arith, small, some))
all-below nodes n all root (suc most) x small some inside =
    elim (cases_lt 1 x) [
      | inl more ↦ below-parent nodes x n all more inside (all-below nodes n all root most (x / 2) (omega (arith, small, more)) (omega (arith, more)) (omega (arith, inside)))
      | inr one ↦ (let at : x ≡ 1 = omega (arith, some, one) in subst (λ (y : ℕ). get_or nodes y 0 < n) (sym at) root)
    ]

pub leaves-below : (nodes : List ℕ) (n : ℕ) → AreGreater nodes 1 → get_or nodes 1 0 < n → (p : ℕ) → p < places → get_or (drop places nodes) p 0 < n
leaves-below nodes n all root p inside =
    subst (λ (y : ℕ). y < n) (sym (leaf nodes p)) (all-below nodes n all root (places + p) (places + p) (omega arith) (omega (arith, inside)) (omega (arith, inside)))

-- a level's number of nodes, doubled so many times
abbrev pub doubled : ℕ → ℕ → ℕ
doubled zero level = level
doubled (suc left) level = doubled left (level * 2)

-- so often it is to be doubled until it is the level of the places
abbrev pub IsLevel : ℕ → Type 0
IsLevel level = (left : ℕ) × (doubled left level ≡ 0x10000)

no-less : (left level : ℕ) → level ≤ doubled left level
no-less zero level = omega arith
no-less (suc left) level = let more = no-less left (level * 2) in omega (arith, more)

pub at-most : (level : ℕ) → IsLevel level → level ≤ 0x10000
at-most level it = let least = no-less it.0 level in let is = it.1 in omega (arith, least, is)

next-of : (level left : ℕ) → doubled left level ≡ 0x10000 → level < 0x10000 → IsLevel (level * 2)
next-of level zero is below = absurd (omega (arith, is, below))
next-of level (suc left) is below = (left, is)

pub next-level : (level : ℕ) → IsLevel level → level < 0x10000 → IsLevel (level * 2)
next-level level it below = next-of level it.0 it.1 below

-- what stands below nodes that are less than a number
pub left-short : (nodes : List ℕ) (n level node : ℕ) → AreGreater nodes 1 → 0 < level → node ≤ places → ((x : ℕ) → level ≤ x → x < node → get_or nodes x 0 < n) → (x : ℕ) → level * 2 ≤ x → x < node * 2 → get_or nodes x 0 < n
left-short nodes n level node all some inside short x low high =
    below-parent nodes x n all (omega (arith, some, low)) (omega (arith, inside, high)) (short (x / 2) (omega (arith, low)) (omega (arith, high)))

pub with-left : (nodes : List ℕ) (n level node : ℕ) → ((x : ℕ) → level * 2 ≤ x → x < node * 2 → get_or nodes x 0 < n) → get_or nodes (node * 2) 0 < n → (x : ℕ) → level * 2 ≤ x → x < node * 2 + 1 → get_or nodes x 0 < n
with-left nodes n level node short left x low high =
    elim (cases_lt x (node * 2)) [
      | inl before ↦ short x low before
      | inr after ↦ (let at : x ≡ node * 2 = omega (arith, high, after) in subst (λ (y : ℕ). get_or nodes y 0 < n) (sym at) left)
    ]

-- a node that is long enough has a half that is
pub right-long : (nodes : List ℕ) (n node : ℕ) → AreGreater nodes 1 → 0 < node → node < places → n ≤ get_or nodes node 0 → get_or nodes (node * 2) 0 < n → n ≤ get_or nodes (node * 2 + 1) 0
right-long nodes n node all some inside long left =
    let is = all node some inside (omega (arith, some)) in
    let twice : 2 * node ≡ node * 2 = omega arith in
    let same = is ∙ ap (λ (m : ℕ). max (get_or nodes m 0) (get_or nodes (m + 1) 0)) twice in
    omega (arith, same, long, left)

-- the leaf that is come to
pub first-leaf : (nodes : List ℕ) (n level node : ℕ) → level ≡ places → level ≤ node → n ≤ get_or nodes node 0 → ((x : ℕ) → level ≤ x → x < node → get_or nodes x 0 < n) → (p : ℕ) → p ≡ node - places → (n ≤ get_or (drop places nodes) p 0) × ((q : ℕ) → q < p → get_or (drop places nodes) q 0 < n)
first-leaf nodes n level node top low long short p at =
    let same : places + p ≡ node = omega (arith, at, low, top) in (
      subst (λ (y : ℕ). n ≤ y) (sym (leaf nodes p ∙ ap (λ (y : ℕ). get_or nodes y 0) same)) long,
      (λ q less. subst (λ (y : ℕ). y < n) (sym (leaf nodes q)) (short (places + q) (omega (arith, top)) (omega (arith, less, same)))),
    )
