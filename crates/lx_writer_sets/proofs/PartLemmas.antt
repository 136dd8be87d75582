-- The parts of memory and their lists.
use Rattle.std.proofs.Common.{◌≡◌, ◌≢◌, ℕ, ◌+◌, ◌-◌, ◌*◌, ◌/◌, ◌%◌, ◌<◌, ◌≤◌, Bool, true, false, not, ◌&&◌, ◌||◌, nat_eq, nat_lt, nat_le, cond, List, [], Option, Some, None, refl, sym, ap, ◌∙◌, arith, eqb-true}
use Rattle.std.proofs.lemmas.Bool.Decides.{nat_tests}
use Rattle.lx_words.proofs.Tests.{either_second, and_true}
use Rattle.lx_caps.specs.declared.Principal.{Principal}
use Rattle.lx_caps.specs.History.{same_principal}
use Rattle.lx_caps.specs.Regions.{covers, mapped}
use Rattle.lx_cap_nodes.specs.Words.{nodes_at}
use Rattle.lx_cap_nodes.specs.declared.piece.Piece.{Piece}
use Rattle.lx_writer_sets.specs.declared.entry.Entry.{Entry}
use Rattle.lx_cap_nodes.specs.Bits.{is_set}
use Rattle.lx_writer_sets.specs.Sets.{is_given, is_given_at, is_recorded}
use Rattle.lx_cap_nodes.specs.Pieces.{lies_in, part_list}
use Rattle.lx_caps.proofs.Tests.{not_given}
use Rattle.lx_cap_nodes.proofs.PartLists.{one_part, piece_bit}

in_region : (p at size start low : ℕ) → (nat_le start at && nat_le (at + size) (start + 0x100000)) ≡ true → start ≡ low * 64 → 0 < size → at / 64 ≤ p → p * 64 < at + size → (nat_le low p && nat_lt p (low + 0x4000)) ≡ true
in_region p at size start low is same some below high =
    let a : start ≤ at = grind (arith, nat_tests, is) in
    let b : at + size ≤ start + 0x100000 = grind (arith, nat_tests, is) in
    let c : low ≤ p = omega (arith, a, same, below) in
    let d : p < low + 0x4000 = omega (arith, b, same, high) in
    grind (arith, nat_tests, c, d)

none_by : (a b c : Bool) (x y z : ℕ) → (a || (b || c)) ≡ true → cond a (Some x) (cond b (Some y) (cond c (Some z) None)) ≡ None → ⊥
none_by true b c x y z some is = cc
none_by false true c x y z some is = cc
none_by false false true x y z some is = cc
none_by false false false x y z some is = cc

or_one : (a b c d e f : Bool) → (a ≡ true → d ≡ true) → (b ≡ true → e ≡ true) → (c ≡ true → f ≡ true) → (a || (b || c)) ≡ true → (d || (e || f)) ≡ true
or_one true b c d e f g h i is = ap (λ (t : Bool). t || (e || f)) (g refl)
or_one false true c true e f g h i is = refl
or_one false true c false e f g h i is = ap (λ (t : Bool). t || f) (h refl)
or_one false false true true e f g h i is = refl
or_one false false true false true f g h i is = refl
or_one false false true false false f g h i is = i refl
or_one false false false d e f g h i is = absurd (cc)

-- a part of a range of memory has a list
pub has_list : (p at size : ℕ) → mapped at size ≡ true → 0 < size → at / 64 ≤ p → p * 64 < at + size → part_list p ≡ None → ⊥
has_list p at size is some below high none =
    let regions = either_second (nat_eq size 0) ((nat_le 0x1000000 at && nat_le (at + size) (0x1000000 + 0x100000)) || ((nat_le 0x2000000 at && nat_le (at + size) (0x2000000 + 0x100000)) || (nat_le 0x3000000 at && nat_le (at + size) (0x3000000 + 0x100000)))) (grind (arith, nat_tests, some)) is in
    let tests =
    or_one (nat_le 0x1000000 at && nat_le (at + size) (0x1000000 + 0x100000)) (nat_le 0x2000000 at && nat_le (at + size) (0x2000000 + 0x100000)) (nat_le 0x3000000 at && nat_le (at + size) (0x3000000 + 0x100000))
    (nat_le 0x40000 p && nat_lt p 0x44000) (nat_le 0x80000 p && nat_lt p 0x84000) (nat_le 0xc0000 p && nat_lt p 0xc4000)
    (λ e. in_region p at size 0x1000000 0x40000 e refl some below high) (λ e. in_region p at size 0x2000000 0x80000 e refl some below high) (λ e. in_region p at size 0x3000000 0xc0000 e refl some below high) regions in
    none_by (nat_le 0x40000 p && nat_lt p 0x44000) (nat_le 0x80000 p && nat_lt p 0x84000) (nat_le 0xc0000 p && nat_lt p 0xc4000) (p - 0x40000) (p - 0x80000 + 0x4000) (p - 0xc0000 + 0x8000) tests none

not_lost : (r c e o : Bool) → e ≡ false → r ≡ (r && (not (c && e) || o))
not_lost r true e o is = and_true r ∙ ap (λ (t : Bool). r && (not t || o)) (sym is)
not_lost r false e o is = and_true r

same_by : (old new : List (List (ℕ × Entry))) (o : Option ℕ) (k : ℕ) (q : Principal) → ((l : ℕ) → o ≡ Some l → nodes_at new l ≡ nodes_at old l) → is_given_at new o k q ≡ is_given_at old o k q
same_by old new None k q h = refl
same_by old new (Some l) k q h = ap (λ es. is_given es k q) (h l refl)

pub recorded_same : (old new : List (List (ℕ × Entry))) (b : ℕ) (q : Principal) → ((l : ℕ) → nodes_at new l ≡ nodes_at old l) → is_recorded new b q ≡ is_recorded old b q
unfolding is_recorded
recorded_same old new b q same = same_by old new (part_list (b / 64)) (b % 64) q (λ l is. same l)

pub none_recorded : (lists : List (List (ℕ × Entry))) (b : ℕ) (q : Principal) → ((l : ℕ) → nodes_at lists l ≡ []) → is_recorded lists b q ≡ false
unfolding is_recorded
none_recorded lists b q none = by (part_list (b / 64))
  where
    by : (o : Option ℕ) → is_given_at lists o (b % 64) q ≡ false
    by None = refl
    by (Some l) = ap (λ es. is_given es (b % 64) q) (none l)

recorded_here : (lists : List (List (ℕ × Entry))) (part list b : ℕ) (q : Principal) → part_list part ≡ Some list → part ≡ b / 64 → is_recorded lists b q ≡ is_given (nodes_at lists list) (b % 64) q
unfolding is_recorded
recorded_here lists part list b q at same = ap (λ o. is_given_at lists o (b % 64) q) (ap part_list (sym same) ∙ at)

recorded_there : (old new : List (List (ℕ × Entry))) (part list b : ℕ) (q : Principal) → part_list part ≡ Some list → nat_eq part (b / 64) ≡ false → ((l : ℕ) → l ≢ list → nodes_at new l ≡ nodes_at old l) → is_recorded new b q ≡ is_recorded old b q
unfolding is_recorded
recorded_there old new part list b q at other others =
    same_by old new (part_list (b / 64)) (b % 64) q
    (λ l is. others l (λ same. let e : part ≡ b / 64 = one_part part (b / 64) l (at ∙ ap Some (sym same)) is in grind (arith, nat_tests, e, other)))

-- the bytes of a piece are noted
pub noted_part : (old new : List (List (ℕ × Entry))) (part list at size mask : ℕ) (piece : Piece) (who : Principal) → part_list part ≡ Some list → piece.part ≡ part
    → ((b : ℕ) → lies_in piece b ≡ (covers at size b && nat_eq part (b / 64))) → ((k : ℕ) → k < 64 → is_set mask k ≡ (nat_le piece.from k && nat_lt k piece.to))
    → ((k : ℕ) (q : Principal) → is_given (nodes_at new list) k q ≡ ((same_principal q who && is_set mask k) || is_given (nodes_at old list) k q)) → ((l : ℕ) → l ≢ list → nodes_at new l ≡ nodes_at old l)
    → (b : ℕ) (q : Principal) → is_recorded new b q ≡ ((same_principal q who && (covers at size b && nat_eq part (b / 64))) || is_recorded old b q)
noted_part old new part list at size mask piece who place same lies bits given others b q =
    (elim (nat_eq part (b / 64)) as (λ t. nat_eq part (b / 64) ≡ t → is_recorded new b q ≡ ((same_principal q who && (covers at size b && nat_eq part (b / 64))) || is_recorded old b q)) [
      | true ↦ λ e.
          let here : part ≡ b / 64 = eqb-true part (b / 64) e in
          let below : b % 64 < 64 = omega arith in
          recorded_here new part list b q place here
          ∙ (given (b % 64) q
          ∙ (ap (λ (t : Bool). (same_principal q who && t) || is_given (nodes_at old list) (b % 64) q) (piece_bit piece part at size b (is_set mask (b % 64)) same (lies b) e (bits (b % 64) below))
          ∙ ap (λ (t : Bool). (same_principal q who && (covers at size b && nat_eq part (b / 64))) || t) (sym (recorded_here old part list b q place here))))
      | false ↦ λ e. recorded_there old new part list b q place e others ∙ not_given (same_principal q who) (covers at size b) (nat_eq part (b / 64)) (is_recorded old b q) e
    ]) refl

-- the bytes of a piece are forgotten, but for those that their writers own
pub zeroed_part : (old new : List (List (ℕ × Entry))) (part list at size : ℕ) (piece : Piece) (o : ℕ → Principal → Bool) → part_list part ≡ Some list → piece.part ≡ part
    → ((b : ℕ) → lies_in piece b ≡ (covers at size b && nat_eq part (b / 64)))
    → ((k : ℕ) → k < 64 → (q : Principal) → is_given (nodes_at new list) k q ≡ (is_given (nodes_at old list) k q && (not (nat_le piece.from k && nat_lt k piece.to) || o (piece.part * 64 + k) q))) → ((l : ℕ) → l ≢ list → nodes_at new l ≡ nodes_at old l)
    → (b : ℕ) (q : Principal) → is_recorded new b q ≡ (is_recorded old b q && (not (covers at size b && nat_eq part (b / 64)) || o b q))
zeroed_part old new part list at size piece o place same lies given others b q =
    (elim (nat_eq part (b / 64)) as (λ t. nat_eq part (b / 64) ≡ t → is_recorded new b q ≡ (is_recorded old b q && (not (covers at size b && nat_eq part (b / 64)) || o b q))) [
      | true ↦ λ e.
          let here : part ≡ b / 64 = eqb-true part (b / 64) e in
          let below : b % 64 < 64 = omega arith in
          let whole : piece.part * 64 + b % 64 ≡ b = omega (arith, same, here) in
          recorded_here new part list b q place here
          ∙ (given (b % 64) below q
          ∙ (ap (λ n. is_given (nodes_at old list) (b % 64) q && (not (nat_le piece.from (b % 64) && nat_lt (b % 64) piece.to) || o n q)) whole
          ∙ (ap (λ (t : Bool). is_given (nodes_at old list) (b % 64) q && (not t || o b q)) (piece_bit piece part at size b (nat_le piece.from (b % 64) && nat_lt (b % 64) piece.to) same (lies b) e refl)
          ∙ ap (λ (t : Bool). t && (not (covers at size b && nat_eq part (b / 64)) || o b q)) (sym (recorded_here old part list b q place here)))))
      | false ↦ λ e. recorded_there old new part list b q place e others ∙ not_lost (is_recorded old b q) (covers at size b) (nat_eq part (b / 64)) (o b q) e
    ]) refl

-- a part without nodes has nothing to forget
pub zeroed_none : (lists : List (List (ℕ × Entry))) (part at size : ℕ) (o : ℕ → Principal → Bool) → ((k : ℕ) (q : Principal) → is_given_at lists (part_list part) k q ≡ false)
    → (b : ℕ) (q : Principal) → is_recorded lists b q ≡ (is_recorded lists b q && (not (covers at size b && nat_eq part (b / 64)) || o b q))
unfolding is_recorded
zeroed_none lists part at size o none b q =
    (elim (nat_eq part (b / 64)) as (λ t. nat_eq part (b / 64) ≡ t → is_given_at lists (part_list (b / 64)) (b % 64) q ≡ (is_given_at lists (part_list (b / 64)) (b % 64) q && (not (covers at size b && nat_eq part (b / 64)) || o b q))) [
      | true ↦ λ e.
          let here : part ≡ b / 64 = eqb-true part (b / 64) e in
          let out : is_given_at lists (part_list (b / 64)) (b % 64) q ≡ false = ap (λ p. is_given_at lists (part_list p) (b % 64) q) (sym here) ∙ none (b % 64) q in
          out ∙ ap (λ (t : Bool). t && (not (covers at size b && nat_eq part (b / 64)) || o b q)) (sym out)
      | false ↦ λ e. not_lost (is_given_at lists (part_list (b / 64)) (b % 64) q) (covers at size b) (nat_eq part (b / 64)) (o b q) e
    ]) refl
