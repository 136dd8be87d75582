-- Lists of blocks by their elements.
use Rattle.std.proofs.Common.{◌≡◌, inl, inr, refl, sym, subst, ◌∙◌, ℕ, zero, suc, ◌+◌, ◌<◌, ◌≤◌, Bool, true, false, not, nat_eq, ◌&&◌, ◌||◌, List, [], ◌∷◌, length, get_or, arith}
use Rattle.std.specs.List.{remove, insert}
use Rattle.std.proofs.lemmas.Bool.{true≢false, false≢true, or_cases, cases_Bool, eqb-true, false_from_ne_true, or_left, or_right}
use Rattle.std.proofs.lemmas.Bool.Decides.{nat_tests}
use Rattle.lx_words.proofs.Tests.{or_swap}
use Rattle.lx_caps.specs.declared.Block.{Block}
use Rattle.lx_caps.specs.Heap.{Blocks, is_live, without_block}
use Rattle.lx_caps.specs.HeapLaws.{IsApart}
use Rattle.lx_memory.specs.Heaps.{IsAscending, same_block, has_block, KeepsBlocks}

-- the block shares no byte with the range
abbrev pub IsApartFrom : Block → ℕ → ℕ → Type 0
IsApartFrom b at size = (x : ℕ) → at ≤ x → x < at + size → ¬ ((b.at ≤ x) × (x < b.at + b.size))

itself : (b : Block) → same_block b b ≡ true
itself b = grind (arith, nat_tests)

pub apart-each : (bs : Blocks) (at size : ℕ) → IsApart bs at size → (b : Block) → has_block bs b ≡ true → IsApartFrom b at size
apart-each [] at size apart b is = absurd (false≢true is)
apart-each (c ∷ cs) at size apart b is =
    elim (or_cases (same_block b c) (has_block cs b) is) [
      | inl same ↦ (λ x low high its. apart.0 x low high (grind (arith, nat_tests, same, its.0), grind (arith, nat_tests, same, its.1)))
      | inr more ↦ apart-each cs at size apart.1 b more
    ]

pub each-apart : (bs : Blocks) (at size : ℕ) → ((b : Block) → has_block bs b ≡ true → IsApartFrom b at size) → IsApart bs at size
each-apart [] at size each = tt
each-apart (c ∷ cs) at size each =
    (each c (or_left (same_block c c) (has_block cs c) (itself c)), each-apart cs at size (λ b is. each b (or_right (same_block b c) (has_block cs b) is)))

-- a heap is apart from a range where the live blocks are
pub kept-apart : (kept : List Block) (bs : Blocks) (at size : ℕ) → KeepsBlocks kept bs → IsApart bs at size → IsApart kept at size
kept-apart kept bs at size keeps apart = each-apart kept at size (λ b is. apart-each bs at size apart b (sym (keeps b) ∙ is))

pub live-apart : (kept : List Block) (bs : Blocks) (at size : ℕ) → KeepsBlocks kept bs → IsApart kept at size → IsApart bs at size
live-apart kept bs at size keeps apart = each-apart bs at size (λ b is. apart-each kept at size apart b (keeps b ∙ is))

-- which blocks begin at an address

live-has : (bs : Blocks) (at : ℕ) → is_live bs at ≡ true → (b : Block) × (b.at ≡ at) × (has_block bs b ≡ true)
live-has [] at is = absurd (false≢true is)
live-has (c ∷ cs) at is =
    elim (or_cases (nat_eq c.at at) (is_live cs at) is) [
      | inl here ↦ (c, eqb-true c.at at here, or_left (same_block c c) (has_block cs c) (itself c))
      | inr more ↦ let (b, at, has) = live-has cs at more in (b, at, or_right (same_block b c) (has_block cs b) has)
    ]

pub has-live : (bs : Blocks) (b : Block) → has_block bs b ≡ true → is_live bs b.at ≡ true
has-live [] b is = absurd (false≢true is)
has-live (c ∷ cs) b is =
    elim (or_cases (same_block b c) (has_block cs b) is) [
      | inl same ↦ or_left (nat_eq c.at b.at) (is_live cs b.at) (grind (arith, nat_tests, same))
      | inr more ↦ or_right (nat_eq c.at b.at) (is_live cs b.at) (has-live cs b more)
    ]

pub live-same : (kept : List Block) (bs : Blocks) (at : ℕ) → KeepsBlocks kept bs → is_live kept at ≡ true → is_live bs at ≡ true
live-same kept bs at keeps is =
    let (b, its, has) = live-has kept at is in
    subst (λ (a : ℕ). is_live bs a ≡ true) its (has-live bs b (sym (keeps b) ∙ has))

pub live-kept : (kept : List Block) (bs : Blocks) (at : ℕ) → KeepsBlocks kept bs → is_live bs at ≡ true → is_live kept at ≡ true
live-kept kept bs at keeps is =
    let (b, its, has) = live-has bs at is in
    subst (λ (a : ℕ). is_live kept a ≡ true) its (has-live kept b (keeps b ∙ has))

live-at : (bs : Blocks) (at i : ℕ) (d : Block) → i < length bs → nat_eq (get_or bs i d).at at ≡ true → is_live bs at ≡ true
live-at [] at i d within is = absurd (omega (arith, within))
live-at (c ∷ cs) at zero d within is = or_left (nat_eq c.at at) (is_live cs at) is
live-at (c ∷ cs) at (suc i) d within is = or_right (nat_eq c.at at) (is_live cs at) (live-at cs at i d (omega (arith, within)) is)

pub live-found : (kept : List Block) (bs : Blocks) (at i : ℕ) (d : Block) → KeepsBlocks kept bs → i < length kept → nat_eq (get_or kept i d).at at ≡ true → is_live bs at ≡ true
live-found kept bs at i d keeps within is = live-same kept bs at keeps (live-at kept at i d within is)

pub not-live : (kept : List Block) (bs : Blocks) (at : ℕ) → KeepsBlocks kept bs → is_live kept at ≡ false → is_live bs at ≡ false
not-live kept bs at keeps none = false_from_ne_true (is_live bs at) (λ is. true≢false (sym (live-kept kept bs at keeps is) ∙ none))

-- one more block, and one less

pub has-inserted : (bs : List Block) (i : ℕ) (x b : Block) → has_block (insert bs i x) b ≡ (same_block b x || has_block bs b)
has-inserted bs zero x b = refl
has-inserted [] (suc i) x b = refl
has-inserted (c ∷ cs) (suc i) x b =
    let more = has-inserted cs i x b in
    rw more (or_swap (same_block b c) (same_block b x) (has_block cs b))

without-here : (s h e : Bool) → (s ≡ true → e ≡ true) → (h && not e) ≡ ((s || h) && not e)
without-here true true true f = refl
without-here true false true f = refl
without-here true h false f = absurd (false≢true (f refl))
without-here false h e f = refl

without-other : (s h e : Bool) → (s ≡ true → e ≡ false) → (s || (h && not e)) ≡ ((s || h) && not e)
without-other true h true f = absurd (true≢false (f refl))
without-other true h false f = refl
without-other false h e f = refl

pub has-without : (bs : Blocks) (at : ℕ) (b : Block) → has_block (without_block bs at) b ≡ (has_block bs b && not (nat_eq b.at at))
has-without [] at b = refl
has-without (c ∷ cs) at b =
    let more = has-without cs at b in
    elim (cases_Bool (nat_eq c.at at)) [
      | inl here ↦ rw (here, more) (without-here (same_block b c) (has_block cs b) (nat_eq b.at at) (λ same. grind (arith, nat_tests, same, here)))
      | inr other ↦ rw (other, more) (without-other (same_block b c) (has_block cs b) (nat_eq b.at at) (λ same. grind (arith, nat_tests, same, other)))
    ]

pub raised : (from to : ℕ) (bs : List Block) → from ≤ to → IsAscending to bs → IsAscending from bs
raised from to [] less ascending = omega (arith, less, ascending)
raised from to (c ∷ cs) less ascending = (let first = ascending.0 in omega (arith, less, first), ascending.1, ascending.2, ascending.3)

-- blocks that stand behind an address begin there or later
pub begin-behind : (from : ℕ) (bs : List Block) → IsAscending from bs → (b : Block) → has_block bs b ≡ true → from ≤ b.at
begin-behind from [] ascending b is = absurd (false≢true is)
begin-behind from (c ∷ cs) ascending b is =
    elim (or_cases (same_block b c) (has_block cs b) is) [
      | inl same ↦ (let first = ascending.0 in grind (arith, nat_tests, same, first))
      | inr more ↦ (let first = ascending.0 in let rest = begin-behind (c.at + c.size) cs ascending.3 b more in omega (arith, first, rest))
    ]

-- a block of a later place begins elsewhere
other-place : (c : Block) (cs : List Block) → 0 < c.size → IsAscending (c.at + c.size) cs → (b : Block) → has_block cs b ≡ true → nat_eq b.at c.at ≡ false
other-place c cs some ascending b is =
    let behind = begin-behind (c.at + c.size) cs ascending b is in
    grind (arith, nat_tests, behind, some)

removed-first : (s h e : Bool) → (s ≡ true → e ≡ true) → (h ≡ true → e ≡ false) → h ≡ ((s || h) && not e)
removed-first true true true f g = absurd (true≢false (g refl))
removed-first true true false f g = refl
removed-first true false true f g = refl
removed-first true false false f g = absurd (false≢true (f refl))
removed-first false true true f g = absurd (true≢false (g refl))
removed-first false true false f g = refl
removed-first false false e f g = refl

got-has : (bs : List Block) (i : ℕ) (d : Block) → i < length bs → has_block bs (get_or bs i d) ≡ true
got-has [] i d within = absurd (omega (arith, within))
got-has (c ∷ cs) zero d within = or_left (same_block c c) (has_block cs c) (itself c)
got-has (c ∷ cs) (suc i) d within = or_right (same_block (get_or cs i d) c) (has_block cs (get_or cs i d)) (got-has cs i d (omega (arith, within)))

pub has-removed : (from : ℕ) (bs : List Block) (i : ℕ) (d : Block) → IsAscending from bs → i < length bs → (b : Block) → has_block (remove bs i) b ≡ (has_block bs b && not (nat_eq b.at (get_or bs i d).at))
has-removed from [] i d ascending within b = absurd (omega (arith, within))
has-removed from (c ∷ cs) zero d ascending within b =
    removed-first (same_block b c) (has_block cs b) (nat_eq b.at c.at) (λ same. grind (arith, nat_tests, same))
    (λ has. other-place c cs ascending.2 ascending.3 b has)
has-removed from (c ∷ cs) (suc i) d ascending within b =
    let behind : i < length cs = omega (arith, within) in
    let more = has-removed (c.at + c.size) cs i d ascending.3 behind b in
    let other = other-place c cs ascending.2 ascending.3 (get_or cs i d) (got-has cs i d behind) in
    rw more (without-other (same_block b c) (has_block cs b) (nat_eq b.at (get_or cs i d).at) (λ same. grind (arith, nat_tests, same, other)))
