-- The bytes of entries and of pieces, and what is left of them where bytes are zeroed.
use Rattle.std.proofs.Common.{◌≡◌, ◌∙◌, inl, inr, refl, sym, ap, subst, ℕ, ◌+◌, ◌-◌, ◌*◌, ◌/◌, ◌%◌, ◌<◌, ◌≤◌, Bool, true, false, not, ◌&&◌, ◌||◌, nat_eq, nat_le, nat_lt, min, arith}
use Rattle.std.proofs.lemmas.Bool.{cases_Bool}
use Rattle.std.proofs.lemmas.Bool.Decides.{nat_tests}
use Rattle.lx_caps.specs.Regions.{covers}
use Rattle.lx_cap_nodes.specs.Bits.{is_set}
use Rattle.lx_cap_nodes.proofs.Ranges.{both_zeroed}

-- a byte that its writer lost
lost_at : (s o e : Bool) → (e ≡ true → o ≡ false) → (s && not e) ≡ (s && (not e || o))
lost_at false o e is = refl
lost_at true o false is = refl
lost_at true true true is = sym (is refl)
lost_at true false true is = refl

pub lost : (s : Bool) (o : ℕ → Bool) (k place : ℕ) → o place ≡ false → (s && not (nat_eq k place)) ≡ (s && (not (nat_eq k place) || o k))
lost s o k place is =
    lost_at s (o k) (nat_eq k place) (λ same. let e : k ≡ place = grind (arith, nat_tests, same) in subst (λ (i : ℕ). o i ≡ false) (sym e) is)

-- a byte that stays: it was not set, or its writer owns it
stays_at : (s o e : Bool) → (e ≡ true → s ≡ false) → s ≡ (s && (not e || o))
stays_at false o e is = refl
stays_at true o false is = refl
stays_at true o true is = absurd (let f = is refl in cc)

owned_at : (s o e : Bool) → (e ≡ true → o ≡ true) → s ≡ (s && (not e || o))
owned_at false o e is = refl
owned_at true o false is = refl
owned_at true o true is = sym (is refl)

pub not_set : (s o : ℕ → Bool) (k place : ℕ) → s place ≡ false → s k ≡ (s k && (not (nat_eq k place) || o k))
not_set s o k place is =
    stays_at (s k) (o k) (nat_eq k place) (λ same. let e : k ≡ place = grind (arith, nat_tests, same) in subst (λ (i : ℕ). s i ≡ false) (sym e) is)

pub still_owned : (s o : ℕ → Bool) (k place : ℕ) → o place ≡ true → s k ≡ (s k && (not (nat_eq k place) || o k))
still_owned s o k place is =
    owned_at (s k) (o k) (nat_eq k place) (λ same. let e : k ≡ place = grind (arith, nat_tests, same) in subst (λ (i : ℕ). o i ≡ true) (sym e) is)

-- one place more of a piece
one_more : (from k place : ℕ) → from ≤ place → (nat_le from k && nat_lt k (place + 1)) ≡ ((nat_le from k && nat_lt k place) || nat_eq k place)
one_more from k place low = grind (arith, nat_tests)

pub place_step : (s o now new : Bool) (from k place : ℕ) → from ≤ place → now ≡ (s && (not (nat_le from k && nat_lt k place) || o)) → new ≡ (now && (not (nat_eq k place) || o))
    → new ≡ (s && (not (nat_le from k && nat_lt k (place + 1)) || o))
place_step s o now new from k place low was is =
    is ∙ ap (λ (b : Bool). b && (not (nat_eq k place) || o)) was
    ∙ both_zeroed s (nat_le from k && nat_lt k place) (nat_eq k place) o
    ∙ ap (λ (b : Bool). s && (not b || o)) (sym (one_more from k place low))

pub no_place : (s o : Bool) (from k : ℕ) → s ≡ (s && (not (nat_le from k && nat_lt k from) || o))
no_place false o from k = refl
no_place true o from k = grind (arith, nat_tests)

-- an entry of the piece's part
kept_if : (e : Bool) (part b : ℕ) (now was i : Bool) (o : ℕ → Bool) → nat_eq part (b / 64) ≡ e
    → now ≡ (was && (not i || o (part * 64 + b % 64))) → (e && now) ≡ ((e && was) && (not (e && i) || o b))
kept_if false part b now was i o same is = refl
kept_if true part b now was i o same is =
    let whole : part * 64 + b % 64 ≡ b = grind (arith, nat_tests, same) in
    subst (λ (n : ℕ). now ≡ (was && (not i || o n))) whole is

pub kept_here : (part mask kept from to b : ℕ) (o : ℕ → Bool)
    → ((k : ℕ) → k < 64 → is_set kept k ≡ (is_set mask k && (not (nat_le from k && nat_lt k to) || o (part * 64 + k))))
    → (nat_eq part (b / 64) && is_set kept (b % 64))
    ≡ ((nat_eq part (b / 64) && is_set mask (b % 64)) && (not (nat_eq part (b / 64) && (nat_le from (b % 64) && nat_lt (b % 64) to)) || o b))
kept_here part mask kept from to b o is =
    kept_if (nat_eq part (b / 64)) part b (is_set kept (b % 64)) (is_set mask (b % 64)) (nat_le from (b % 64) && nat_lt (b % 64) to) o refl (is (b % 64) (omega arith))

there_if : (e f s i o : Bool) → (e ≡ true → f ≡ false) → (e && s) ≡ ((e && s) && (not (f && i) || o))
there_if false f s i o apart = refl
there_if true true s i o apart = absurd (let g = apart refl in cc)
there_if true false true i o apart = refl
there_if true false false i o apart = refl

-- an entry of another part
pub kept_there : (part other mask from to b : ℕ) (o : Bool) → (part ≡ other → ⊥)
    → (nat_eq part (b / 64) && is_set mask (b % 64))
    ≡ ((nat_eq part (b / 64) && is_set mask (b % 64)) && (not (nat_eq other (b / 64) && (nat_le from (b % 64) && nat_lt (b % 64) to)) || o))
kept_there part other mask from to b o apart =
    there_if (nat_eq part (b / 64)) (nat_eq other (b / 64)) (is_set mask (b % 64)) (nat_le from (b % 64) && nat_lt (b % 64) to) o
    (λ same. grind (arith, nat_tests, same, apart))

piece_low : (at start place from : ℕ) → from ≡ at - start → nat_le from place ≡ nat_le at (start + place)
piece_low at start place from is = grind (arith, nat_tests)

piece_high : (end start place to : ℕ) → place < 64 → start < end → to ≡ min (end - start) 64 → nat_lt place to ≡ nat_lt (start + place) end
piece_high end start place to below some is =
    elim (cases_Bool (nat_lt place to)) [
      | inl low ↦
          (let l : place < to = grind (arith, nat_tests, low) in
          let m : start + place < end = omega (arith, l, is, some, below) in
          let r : nat_lt (start + place) end ≡ true = grind (arith, nat_tests, m) in
          low ∙ sym r)
      | inr high ↦
          (let l : to ≤ place = grind (arith, nat_tests, high) in
          let m : end ≤ start + place = omega (arith, l, is, some, below) in
          let r : nat_lt (start + place) end ≡ false = grind (arith, nat_tests, m) in
          high ∙ sym r)
    ]

and_swap : (e x y : Bool) → (e ≡ true → x ≡ y) → (e && x) ≡ (y && e)
and_swap false x true is = refl
and_swap false x false is = refl
and_swap true x true is = is refl
and_swap true x false is = is refl

-- the bytes of a range in one of its parts
pub in_piece : (at size part from to b : ℕ) → part * 64 < at + size → from ≡ at - part * 64 → to ≡ min (at + size - part * 64) 64
    → (nat_eq part (b / 64) && (nat_le from (b % 64) && nat_lt (b % 64) to)) ≡ (covers at size b && nat_eq part (b / 64))
in_piece at size part from to b some low high =
    and_swap (nat_eq part (b / 64)) (nat_le from (b % 64) && nat_lt (b % 64) to) (covers at size b)
    (λ same.
    let whole : part * 64 + b % 64 ≡ b = grind (arith, nat_tests, same) in
    ap (λ (t : Bool). t && nat_lt (b % 64) to) (piece_low at (part * 64) (b % 64) from low)
    ∙ ap (λ (t : Bool). nat_le at (part * 64 + b % 64) && t) (piece_high (at + size) (part * 64) (b % 64) to (omega arith) some high)
    ∙ ap (λ (n : ℕ). nat_le at n && nat_lt n (at + size)) whole)
