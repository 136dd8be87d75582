-- The parts of memory, the numbers of their lists, and the bits of pieces of them.
use Rattle.std.proofs.Common.{◌≡◌, ◌≢◌, ℕ, ◌+◌, ◌-◌, ◌/◌, ◌%◌, ◌<◌, Bool, true, false, ◌&&◌, nat_eq, nat_lt, nat_le, cond, Some, None, refl, sym, ap, ◌∙◌, arith}
use Rattle.std.proofs.lemmas.Bool.Decides.{nat_tests}
use Rattle.lx_cap_nodes.specs.declared.piece.Piece.{Piece}
use Rattle.lx_cap_nodes.specs.Pieces.{in_range, lies_in, part_list}

-- the part of a list
abbrev part_of : ℕ → ℕ
part_of l = cond (nat_lt l 0x4000) (l + 0x40000) (cond (nat_lt l 0x8000) (l - 0x4000 + 0x80000) (l - 0x8000 + 0xc0000))

inverse_by : (p l : ℕ) (a b c : Bool) → a ≡ (nat_le 0x40000 p && nat_lt p 0x44000) → b ≡ (nat_le 0x80000 p && nat_lt p 0x84000) → c ≡ (nat_le 0xc0000 p && nat_lt p 0xc4000)
    → cond a (Some (p - 0x40000)) (cond b (Some (p - 0x80000 + 0x4000)) (cond c (Some (p - 0xc0000 + 0x8000)) None)) ≡ Some l → (part_of l ≡ p) × (l < 0xc000)
inverse_by p l true b c ea eb ec is = let at : p - 0x40000 ≡ l = cc in (grind (arith, nat_tests, ea, at), grind (arith, nat_tests, ea, at))
inverse_by p l false true c ea eb ec is = let at : p - 0x80000 + 0x4000 ≡ l = cc in (grind (arith, nat_tests, eb, at), grind (arith, nat_tests, eb, at))
inverse_by p l false false true ea eb ec is = let at : p - 0xc0000 + 0x8000 ≡ l = cc in (grind (arith, nat_tests, ec, at), grind (arith, nat_tests, ec, at))
inverse_by p l false false false ea eb ec is = absurd (cc)

inverse : (p l : ℕ) → part_list p ≡ Some l → (part_of l ≡ p) × (l < 0xc000)
inverse p l is = inverse_by p l (nat_le 0x40000 p && nat_lt p 0x44000) (nat_le 0x80000 p && nat_lt p 0x84000) (nat_le 0xc0000 p && nat_lt p 0xc4000) refl refl refl is

pub one_part : (p q l : ℕ) → part_list p ≡ Some l → part_list q ≡ Some l → p ≡ q
one_part p q l e f = sym (inverse p l e).0 ∙ (inverse q l f).0

pub list_below : (p l : ℕ) → part_list p ≡ Some l → l < 0xc000
list_below p l e = (inverse p l e).1

pub not_there : (p q l : ℕ) → p ≢ q → part_list q ≡ Some l → part_list p ≢ Some l
not_there p q l ne is = λ e. ne (one_part p q l e is)

-- the bits of a piece
pub piece_bit : (piece : Piece) (part at size b : ℕ) (t : Bool) → piece.part ≡ part → lies_in piece b ≡ (in_range at size b && nat_eq part (b / 64)) → nat_eq part (b / 64) ≡ true
    → t ≡ (nat_le piece.from (b % 64) && nat_lt (b % 64) piece.to) → t ≡ (in_range at size b && nat_eq part (b / 64))
piece_bit piece part at size b t same lies is bit =
    let here : nat_eq piece.part (b / 64) ≡ true = ap (λ p. nat_eq p (b / 64)) same ∙ is in
    bit ∙ (sym (ap (λ c. c && (nat_le piece.from (b % 64) && nat_lt (b % 64) piece.to)) here) ∙ lies)

pub part_small : (p l : ℕ) → part_list p ≡ Some l → nat_lt p 0x100000 ≡ true
part_small p l e = let h = inverse p l e in grind (arith, nat_tests, h)
