-- The bytes of a range, part by part.
use Rattle.std.proofs.Common.{◌≡◌, ◌∙◌, refl, sym, ap, ℕ, ◌+◌, ◌/◌, ◌<◌, Bool, true, false, not, ◌&&◌, ◌||◌, nat_eq, nat_lt, arith}
use Rattle.std.proofs.lemmas.Bool.Decides.{nat_tests}
use Rattle.lx_words.proofs.Tests.{and_or, and_true}
use Rattle.lx_cap_nodes.specs.Pieces.{in_range}

or_note : (s c e r : Bool) → ((s && e) || ((s && c) || r)) ≡ ((s && (c || e)) || r)
or_note false c e r = refl
or_note true true true r = refl
or_note true true false r = refl
or_note true false true r = refl
or_note true false false r = refl

pub both_zeroed : (s a e o : Bool) → ((s && (not a || o)) && (not e || o)) ≡ (s && (not (a || e) || o))
both_zeroed false a e o = refl
both_zeroed true true true true = refl
both_zeroed true true true false = refl
both_zeroed true true false true = refl
both_zeroed true true false false = refl
both_zeroed true false true true = refl
both_zeroed true false true false = refl
both_zeroed true false false o = refl

part_more : (part n : ℕ) → nat_lt n (part + 1) ≡ (nat_lt n part || nat_eq part n)
part_more part n = grind (arith, nat_tests)

-- the byte lies in the range, in a part before this one
abbrev pub covered : ℕ → ℕ → ℕ → ℕ → Bool
covered at size part b = in_range at size b && nat_lt (b / 64) part

pub covered_more : (at size part b : ℕ) → covered at size (part + 1) b ≡ (covered at size part b || (in_range at size b && nat_eq part (b / 64)))
covered_more at size part b =
    ap (λ (t : Bool). in_range at size b && t) (part_more part (b / 64)) ∙ and_or (in_range at size b) (nat_lt (b / 64) part) (nat_eq part (b / 64))

pub none_before : (at size b : ℕ) → covered at size (at / 64) b ≡ false
none_before at size b = grind (arith, nat_tests)

pub all_before : (at size b end : ℕ) → 0 < size → end ≡ (at + size + 63) / 64 → covered at size end b ≡ in_range at size b
all_before at size b end some is = grind (arith, nat_tests)

pub noted_none : (s r : Bool) (at size b : ℕ) → r ≡ ((s && covered at size (at / 64) b) || r)
noted_none true r at size b = ap (λ (t : Bool). t || r) (sym (none_before at size b))
noted_none false r at size b = refl

pub noted_more : (s r now new : Bool) (at size part b : ℕ) → now ≡ ((s && covered at size part b) || r)
    → new ≡ ((s && (in_range at size b && nat_eq part (b / 64))) || now) → new ≡ ((s && covered at size (part + 1) b) || r)
noted_more s r now new at size part b was is =
    is ∙ ap (λ (t : Bool). (s && (in_range at size b && nat_eq part (b / 64))) || t) was
    ∙ or_note s (covered at size part b) (in_range at size b && nat_eq part (b / 64)) r
    ∙ ap (λ (t : Bool). (s && t) || r) (sym (covered_more at size part b))

pub noted_all : (s r now : Bool) (at size end b : ℕ) → 0 < size → end ≡ (at + size + 63) / 64 → now ≡ ((s && covered at size end b) || r) → now ≡ ((s && in_range at size b) || r)
noted_all s r now at size end b some is was = was ∙ ap (λ (t : Bool). (s && t) || r) (all_before at size b end some is)

pub zeroed_none : (r o : Bool) (at size b : ℕ) → r ≡ (r && (not (covered at size (at / 64) b) || o))
zeroed_none r o at size b = and_true r ∙ ap (λ (t : Bool). r && (not t || o)) (sym (none_before at size b))

pub zeroed_more : (r o now new : Bool) (at size part b : ℕ) → now ≡ (r && (not (covered at size part b) || o))
    → new ≡ (now && (not (in_range at size b && nat_eq part (b / 64)) || o)) → new ≡ (r && (not (covered at size (part + 1) b) || o))
zeroed_more r o now new at size part b was is =
    is ∙ ap (λ (t : Bool). t && (not (in_range at size b && nat_eq part (b / 64)) || o)) was
    ∙ both_zeroed r (covered at size part b) (in_range at size b && nat_eq part (b / 64)) o
    ∙ ap (λ (t : Bool). r && (not t || o)) (sym (covered_more at size part b))

pub zeroed_all : (r o now : Bool) (at size end b : ℕ) → 0 < size → end ≡ (at + size + 63) / 64 → now ≡ (r && (not (covered at size end b) || o)) → now ≡ (r && (not (in_range at size b) || o))
zeroed_all r o now at size end b some is was = was ∙ ap (λ (t : Bool). r && (not t || o)) (all_before at size b end some is)
