-- Sums and products of integers, modulo 2^64.
use Rattle.std.proofs.Common.{◌≡◌, ℕ, ◌+◌, ◌*◌, ◌%◌, ◌^◌, ◌<◌, ℤ, pos, negsuc, refl, sym, ap, ◌∙◌, arith, w64}
use Rattle.std.specs.Prelude.{◌+ℤ◌, ◌*ℤ◌, unsigned_abs}
use Rattle.std.specs.Int.{cast_signed, cast_unsigned, int_rem_euclid, int_wrap}
use Rattle.std.proofs.lemmas.Int.{of_z-to_z, wrapping_add-bits, wrapping_mul-bits, int_wrap-add_left, int_wrap-add_right, int_wrap-mul_left, int_wrap-mul_right}
use Rattle.lx_words.specs.Word.{modulo}

abbrev most : ℕ
most = 2 ^ 64

modulo_is : (z : ℤ) → unsigned_abs (int_rem_euclid z (pos most)) ≡ modulo z most
modulo_is (pos n) = refl
modulo_is (negsuc n) = omega arith

wraps : (z : ℤ) → cast_signed w64 (modulo z most) ≡ int_wrap w64 z
unfolding int_wrap
wraps z = ap (cast_signed w64) (sym (modulo_is z))

pub modulo_below : (z : ℤ) → modulo z most < most
modulo_below (pos n) = omega arith
modulo_below (negsuc n) = omega arith

same_wrapped : (n : ℕ) (z : ℤ) → n < most → cast_signed w64 n ≡ int_wrap w64 z → n ≡ modulo z most
same_wrapped n z h e =
    sym (of_z-to_z w64 n h) ∙ ap (cast_unsigned w64) (e ∙ sym (wraps z)) ∙ of_z-to_z w64 (modulo z most) (modulo_below z)

pub modulo_sum : (a b : ℤ) → (modulo a most + modulo b most) % most ≡ modulo (a +ℤ b) most
modulo_sum a b =
    same_wrapped ((modulo a most + modulo b most) % most) (a +ℤ b) (omega arith)
    (wrapping_add-bits w64 (modulo a most) (modulo b most) (modulo_below a) (modulo_below b)
    ∙ ap (λ z. int_wrap w64 (z +ℤ cast_signed w64 (modulo b most))) (wraps a)
    ∙ ap (λ z. int_wrap w64 (int_wrap w64 a +ℤ z)) (wraps b)
    ∙ int_wrap-add_left w64 a (int_wrap w64 b)
    ∙ int_wrap-add_right w64 a b)

pub modulo_product : (a b : ℤ) → (modulo a most * modulo b most) % most ≡ modulo (a *ℤ b) most
modulo_product a b =
    same_wrapped ((modulo a most * modulo b most) % most) (a *ℤ b) (omega arith)
    (wrapping_mul-bits w64 (modulo a most) (modulo b most) (modulo_below a) (modulo_below b)
    ∙ ap (λ z. int_wrap w64 (z *ℤ cast_signed w64 (modulo b most))) (wraps a)
    ∙ ap (λ z. int_wrap w64 (int_wrap w64 a *ℤ z)) (wraps b)
    ∙ int_wrap-mul_left w64 a (int_wrap w64 b)
    ∙ int_wrap-mul_right w64 a b)
