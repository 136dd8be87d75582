-- The first atom of an entry.
use Rattle.std.proofs.Common.{◌≡◌, ◌≢◌, ℕ, ◌+◌, ◌*◌, ◌/◌, ◌%◌, ◌<◌, ◌^◌, Bool, true, false, ◌&&◌, nat_eq, nat_lt, nat_le, bit_and, Some, refl, ap, ◌∙◌, w64, arith, eqb-true}
use Rattle.std.specs.Int.{bit_at, trailing_zeros}
use Rattle.std.proofs.lemmas.Bool.Decides.{nat_tests}
use Rattle.std.proofs.lemmas.Nat.Bits.{bit_at-trailing_zeros}
use Rattle.lx_words.proofs.Tests.{eq_self}
use Rattle.lx_caps.specs.declared.Atom.{Atom}
use Rattle.lx_caps.specs.declared.Atom.TheVariants as atom
use Rattle.lx_caps.specs.Order.{is_before, IsFirst}
use Rattle.lx_cap_nodes.specs.Bits.{is_set}
use Rattle.lx_cap_lists.specs.Atoms.{part_atom}
use Rattle.lx_cap_nodes.proofs.Masks.{set_in_both}
use Rattle.lx_caps.proofs.Tests.{byte_of}

and_true : (a b : Bool) → b ≡ true → (a && b) ≡ a
and_true true b e = e
and_true false b e = refl

pub bits_behind : (mask above from k : ℕ) → k < 64 → is_set above k ≡ (nat_le from k && nat_lt k 64) → is_set (bit_and mask above) k ≡ (is_set mask k && nat_le from k)
bits_behind mask above from k below is =
    let low : nat_lt k 64 ≡ true = grind (arith, nat_tests, below) in
    set_in_both mask above k ∙ ap (λ b. is_set mask k && b) (is ∙ and_true (nat_le from k) (nat_lt k 64) low)

not_before : (part bits z : ℕ) → ((i : ℕ) → i < z → bit_at bits i ≡ 0) → (y : Atom) → is_before y (atom.Byte (part * 64 + z)) ≡ true → part_atom part bits y ≡ false
not_before part bits z none (atom.Byte b) h =
    (elim (nat_eq part (b / 64)) as (λ t. nat_eq part (b / 64) ≡ t → (t && is_set bits (b % 64)) ≡ false) [
      | true ↦ λ e.
          let at : part ≡ b / 64 = eqb-true part (b / 64) e in
          let lt : b < part * 64 + z = grind (arith, nat_tests, h) in
          let low : b % 64 < z = omega (arith, at, lt) in
          ap (λ n. nat_eq n 1) (none (b % 64) low)
      | false ↦ λ e. refl
    ]) refl
not_before part bits z none (atom.Call a) h = refl
not_before part bits z none (atom.Ref t a) h = refl

pub first_of_part : (part bits : ℕ) → bits ≢ 0 → bits < 2 ^ 64 → IsFirst (part_atom part bits) (Some (atom.Byte (part * 64 + trailing_zeros w64 bits)))
first_of_part part bits some fits =
    let found = bit_at-trailing_zeros w64 bits (omega (arith, some)) fits in
    let z = trailing_zeros w64 bits in
    let of = byte_of part z found.0 in (
      ap (λ p. nat_eq part p && is_set bits ((part * 64 + z) % 64)) of.0 ∙ (ap (λ t. t && is_set bits ((part * 64 + z) % 64)) (eq_self part) ∙ (ap (is_set bits) of.1 ∙ ap (λ n. nat_eq n 1) found.1)),
      not_before part bits z found.2,
    )
