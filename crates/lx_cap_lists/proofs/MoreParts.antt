-- One more part.
use Rattle.std.proofs.Common.{◌≡◌, ◌≢◌, ℕ, suc, ◌+◌, ◌-◌, ◌*◌, ◌/◌, ◌%◌, ◌<◌, ◌≤◌, Bool, true, false, ◌&&◌, ◌||◌, nat_eq, bit_or, List, [], ◌∷◌, ◌++◌, length, get_or, drop, Some, None, refl, sym, ap, ◌∙◌, subst, arith}
use Rattle.std.specs.Int.{bit_at}
use Rattle.std.specs.List.Sorted.{IsNonDecreasingBy}
use Rattle.std.proofs.lemmas.Bool.Decides.{nat_tests}
use Rattle.std.proofs.lemmas.List.{drop_more, drop_all}
use Rattle.std.proofs.lemmas.List.Sorted.{IsNonDecreasingBy-drop}
use Rattle.std.proofs.lemmas.Nat.Bits.{bit_at-zero}
use Rattle.lx_words.proofs.Tests.{or_nothing}
use Rattle.lx_caps.specs.declared.Cap.{Cap}
use Rattle.lx_caps.specs.Ranges.{IsRanges}
use Rattle.lx_cap_lists.specs.declared.PartBytes.{PartBytes}
use Rattle.lx_cap_lists.specs.declared.runs.Span.{Span}
use Rattle.lx_cap_lists.specs.declared.walk.Walk.{Walk}
use Rattle.lx_cap_lists.specs.Mask.{IsNextSet}
use Rattle.lx_cap_nodes.specs.Bits.{is_set}
use Rattle.lx_cap_lists.specs.Parts.{has_byte, is_among, IsPartOf, Rises}
use Rattle.lx_cap_lists.specs.Runs.{AreRangesUpTo, IsFull, write_of}
use Rattle.lx_cap_lists.specs.Walk.{HasWalked}
use Rattle.lx_cap_lists.proofs.MoreRuns.{goes_past, none_before, whole}
use Rattle.lx_cap_nodes.proofs.Masks.{set_in_either}

-- bytes of a part that the mask tells alike
pub alike : (p : ℕ → Bool) (x : PartBytes) (v : Bool) (from to : ℕ) → IsPartOf p x → to ≤ 64 → ((k : ℕ) → from ≤ k → k < to → is_set x.mask k ≡ v) → (b : ℕ) → x.part * 64 + from ≤ b → b < x.part * 64 + to → p b ≡ v
alike p x v from to part fits bits b le lt =
    let e : x.part * 64 + (b - x.part * 64) ≡ b = omega (arith, le) in
    let low : b - x.part * 64 < to = omega (arith, lt, le) in
    ap p (sym e) ∙ (part (b - x.part * 64) (omega (arith, low, fits)) ∙ bits (b - x.part * 64) (omega (arith, le)) low)

other_part : (b : ℕ) (x : PartBytes) → x.part ≢ b / 64 → has_byte b x ≡ false
other_part b x other = let e : nat_eq x.part (b / 64) ≡ false = grind (arith, nat_tests, other) in ap (λ t. t && is_set x.mask (b % 64)) e

-- parts behind a byte do not have it
behind : (b low : ℕ) (xs : List PartBytes) → Rises low xs → b / 64 < low → is_among b xs ≡ false
behind b low [] r lt = refl
behind b low (x ∷ xs) r lt =
    ap (λ t. t || is_among b xs) (other_part b x (λ e. absurd (omega (arith, e, lt, r.0)))) ∙ behind b x.part xs r.1 (omega (arith, lt, r.0))

own_byte : (x : PartBytes) (k : ℕ) → k < 64 → has_byte (x.part * 64 + k) x ≡ is_set x.mask k
own_byte x k lt =
    let part : (x.part * 64 + k) / 64 ≡ x.part = omega (arith, lt) in
    let place : (x.part * 64 + k) % 64 ≡ k = omega (arith, lt) in
    let same : nat_eq x.part ((x.part * 64 + k) / 64) ≡ true = grind (arith, nat_tests, part) in
    ap (λ t. t && is_set x.mask ((x.part * 64 + k) % 64)) same ∙ ap (is_set x.mask) place

-- the bytes at hand are all of their part, where the parts that are left are behind it
pub hand_whole : (p : ℕ → Bool) (done : List Cap) (walk : Walk) (left : List PartBytes) → Rises (suc walk.at_hand.part) left → HasWalked p done walk left → IsPartOf p walk.at_hand
hand_whole p done walk left r w = λ k lt.
    w.others (walk.at_hand.part * 64 + k) (omega arith)
    ∙ (or_nothing (has_byte (walk.at_hand.part * 64 + k) walk.at_hand) (is_among (walk.at_hand.part * 64 + k) left) (behind (walk.at_hand.part * 64 + k) (suc walk.at_hand.part) left r (omega (arith, lt)))
    ∙ own_byte walk.at_hand k lt)

-- what stands behind the part at hand
past_hand : (p : ℕ → Bool) (done : List Cap) (walk : Walk) (left : List PartBytes) → HasWalked p done walk left → (b : ℕ) → walk.at_hand.part * 64 + 64 ≤ b → p b ≡ is_among b left
past_hand p done walk left w b le =
    w.others b (omega (arith, le)) ∙ ap (λ t. t || is_among b left) (other_part b walk.at_hand (λ e. absurd (omega (arith, e, le))))

pub walks_on : (p : ℕ → Bool) (done new : List Cap) (walk now : Walk) (next : PartBytes) (left : List PartBytes) → next.part ≢ walk.at_hand.part → now.at_hand ≡ next
    → (IsPartOf p walk.at_hand → AreRangesUpTo p done walk.last (walk.at_hand.part * 64) → AreRangesUpTo p new now.last (walk.at_hand.part * 64 + 64))
    → HasWalked p done walk (next ∷ left) → HasWalked p new now left
walks_on p done new walk now next left other e step w =
    let above : suc walk.at_hand.part ≤ next.part = omega (arith, other, w.rises.0) in
    let on : AreRangesUpTo p new now.last (next.part * 64) =
    goes_past p new now.last (walk.at_hand.part * 64 + 64) (next.part * 64) (omega (arith, above))
    (λ b le lt. past_hand p done walk (next ∷ left) w b le ∙ behind b next.part (next ∷ left) (omega arith, w.rises.1) (omega (arith, lt)))
    (step (hand_whole p done walk (next ∷ left) (above, w.rises.1) w) w.ranges) in
    record {
      ranges = subst (λ (x : PartBytes). AreRangesUpTo p new now.last (x.part * 64)) (sym e) on;
      others = subst (λ (x : PartBytes). (b : ℕ) → x.part * 64 ≤ b → p b ≡ is_among b (x ∷ left)) (sym e) (λ b le. past_hand p done walk (next ∷ left) w b (omega (arith, above, le)));
      rises = subst (λ (x : PartBytes). Rises x.part left) (sym e) w.rises.1;
    }

shared : (q x y r : Bool) → ((q && x) || ((q && y) || r)) ≡ ((q && (x || y)) || r)
shared false x y r = refl
shared true true y r = refl
shared true false y r = refl

-- the bytes of one part in two pieces
joined : (b : ℕ) (x y z : PartBytes) (left : List PartBytes) → y.part ≡ x.part → z.part ≡ x.part → z.mask ≡ bit_or x.mask y.mask → is_among b (x ∷ y ∷ left) ≡ is_among b (z ∷ left)
joined b x y z left same part mask =
    ap (λ n. (nat_eq x.part (b / 64) && is_set x.mask (b % 64)) || ((nat_eq n (b / 64) && is_set y.mask (b % 64)) || is_among b left)) same
    ∙ (shared (nat_eq x.part (b / 64)) (is_set x.mask (b % 64)) (is_set y.mask (b % 64)) (is_among b left)
    ∙ (ap (λ t. (nat_eq x.part (b / 64) && t) || is_among b left) (sym (set_in_either x.mask y.mask (b % 64)))
    ∙ (λ j. (nat_eq (sym part j) (b / 64) && is_set (sym mask j) (b % 64)) || is_among b left)))

pub stays : (p : ℕ → Bool) (done : List Cap) (walk now : Walk) (next : PartBytes) (left : List PartBytes) → next.part ≡ walk.at_hand.part → now.last ≡ walk.last → now.at_hand.part ≡ walk.at_hand.part
    → now.at_hand.mask ≡ bit_or walk.at_hand.mask next.mask → HasWalked p done walk (next ∷ left) → HasWalked p done now left
stays p done walk now next left same last part mask w =
    record {
      ranges = subst (λ n. AreRangesUpTo p done now.last (n * 64)) (sym part) (subst (λ s. AreRangesUpTo p done s (walk.at_hand.part * 64)) (sym last) w.ranges);
      others = λ b le. w.others b (omega (arith, part, le)) ∙ joined b walk.at_hand next now.at_hand left same part mask;
      rises = subst (λ n. Rises n left) (same ∙ sym part) w.rises.1;
    }

pub from_place : (p : ℕ → Bool) (x : PartBytes) (done new : List Cap) (last now run : Span) (place from to : ℕ) → run.from ≡ x.part * 64 + from → run.end ≡ x.part * 64 + to
    → IsNextSet x.mask place (Some from) → from < to → to ≤ 64 → ((k : ℕ) → from ≤ k → k < to → is_set x.mask k ≡ true) → IsPartOf p x
    → (run.from < run.end → IsFull p run → AreRangesUpTo p done last run.from → AreRangesUpTo p new now run.end) → AreRangesUpTo p done last (x.part * 64 + place) → AreRangesUpTo p new now (x.part * 64 + to)
from_place p x done new last now run place from to e f next some within bits part step r =
    subst (AreRangesUpTo p new now) f
    (step (omega (arith, e, f, some)) (λ b le lt. alike p x true from to part within bits b (omega (arith, e, le)) (omega (arith, f, lt)))
    (subst (AreRangesUpTo p done last) (sym e) (goes_past p done last (x.part * 64 + place) (x.part * 64 + from) (omega (arith, next.0)) (alike p x false place from part (omega (arith, next.1)) next.2) r)))

pub from_last : (p : ℕ → Bool) (x : PartBytes) (done : List Cap) (last : Span) (place : ℕ) → place ≤ 64 → IsNextSet x.mask place None → IsPartOf p x → AreRangesUpTo p done last (x.part * 64 + place)
    → AreRangesUpTo p done last (x.part * 64 + 64)
from_last p x done last place le next part r =
    goes_past p done last (x.part * 64 + place) (x.part * 64 + 64) (omega (arith, le)) (alike p x false place 64 part (omega arith) next) r

-- a turn of a loop over parts
pub one_more : (p : ℕ → Bool) (done new : List Cap) (walk now : Walk) (xs : List PartBytes) (i : ℕ) (d : PartBytes) → i < length xs
    → ((left : List PartBytes) → HasWalked p done walk (get_or xs i d ∷ left) → HasWalked p new now left) → HasWalked p done walk (drop i xs) → HasWalked p new now (drop (i + 1) xs)
one_more p done new walk now xs i d lt step w = step (drop (i + 1) xs) (subst (HasWalked p done walk) (drop_more xs i d lt) w)

pub none_more : (p : ℕ → Bool) (done : List Cap) (walk : Walk) (xs : List PartBytes) (i : ℕ) → length xs ≤ i → HasWalked p done walk (drop i xs) → HasWalked p done walk []
none_more p done walk xs i le w = subst (HasWalked p done walk) (drop_all i xs le) w

rise : (x : PartBytes) (xs : List PartBytes) → IsNonDecreasingBy (λ (y : PartBytes). y.part) (x ∷ xs) → Rises x.part xs
rise x [] sorted = tt
rise x (y ∷ ys) sorted = (sorted 0 1 x (omega arith) (omega arith), rise y ys (IsNonDecreasingBy-drop (λ (y : PartBytes). y.part) 1 (x ∷ y ∷ ys) sorted))

rise_all : (xs : List PartBytes) → IsNonDecreasingBy (λ (y : PartBytes). y.part) xs → Rises 0 xs
rise_all [] sorted = tt
rise_all (x ∷ xs) sorted = (omega arith, rise x xs sorted)

nothing : (b : ℕ) (x : PartBytes) → x.mask ≡ 0 → has_byte b x ≡ false
nothing b x none = by (nat_eq x.part (b / 64)) refl
  where
    by : (t : Bool) → nat_eq x.part (b / 64) ≡ t → (t && is_set x.mask (b % 64)) ≡ false
    by false e = refl
    by true e = ap (λ n. is_set n (b % 64)) none ∙ ap (λ n. nat_eq n 1) (bit_at-zero (b % 64))

pub begins : (done : List Cap) (walk : Walk) (sorted : List PartBytes) → done ≡ [] → walk.last.from ≡ 0 → walk.last.end ≡ 0 → walk.at_hand.part ≡ 0 → walk.at_hand.mask ≡ 0
    → IsNonDecreasingBy (λ (y : PartBytes). y.part) sorted → HasWalked (λ b. is_among b sorted) done walk sorted
begins done walk sorted none from to part mask up =
    record {
      ranges = subst (λ n. AreRangesUpTo (λ b. is_among b sorted) done walk.last (n * 64)) (sym part) (none_before (λ b. is_among b sorted) done walk.last none from to);
      others = λ b le. sym (ap (λ t. t || is_among b sorted) (nothing b walk.at_hand mask));
      rises = subst (λ n. Rises n sorted) (sym part) (rise_all sorted up);
    }

pub finishes : (p : ℕ → Bool) (done mid new : List Cap) (walk : Walk) (last : Span) → HasWalked p done walk []
    → (IsPartOf p walk.at_hand → AreRangesUpTo p done walk.last (walk.at_hand.part * 64) → AreRangesUpTo p mid last (walk.at_hand.part * 64 + 64))
    → new ≡ mid ++ write_of last → IsRanges p 0 new
finishes p done mid new walk last w step e =
    whole p mid new last (walk.at_hand.part * 64 + 64) e (past_hand p done walk [] w) (step (hand_whole p done walk [] tt w) w.ranges)
