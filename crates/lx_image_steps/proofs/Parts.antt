-- The parts of types within the limits, modulo 2^64.
use Rattle.std.proofs.Common.{◌≡◌, ℕ, ◌+◌, ◌*◌, ◌%◌, ◌^◌, ◌<◌, Some, None, List, [], ◌∷◌, IsTrue, ℤ, pos, refl, sym, ap, ◌∙◌, subst, arith}
use Rattle.std.specs.Prelude.{nat_abs, negsuc, ◌+ℤ◌, ◌*ℤ◌}
use Rattle.lx_words.specs.declared.word.Width.{Width}
use Rattle.lx_words.specs.declared.word.Width.TheVariants.{W1, W8, W16, W32, W64}
use Rattle.lx_words.specs.Width.{bit_count}
use Rattle.lx_words.specs.Word.{modulo}
use Rattle.lx_ir.specs.declared.types.NamedType.{NamedType}
use Rattle.lx_ir.specs.IrType.{IrType}
use Rattle.lx_ir.specs.Layout.{size_of, unnamed, is_lawful_type, field_of, part_or, part_of, part_at}
use Rattle.lx_code.specs.Parts.{IsPart, element_in}
use Rattle.lx_code.proofs.TypeParts.{field_part, element_part as part_of_array}
use Rattle.lx_image_steps.specs.Parts.{IsPartModulo, IsOnTheWay}
use Rattle.lx_image_steps.proofs.Moduli.{modulo_sum, modulo_product}
use Rattle.lx_code.proofs.Ways.{same_inside}

-- the part that an index names

modulo_small : (z : ℤ) (n : ℕ) → pos n ≡ z → n < 2 ^ 64 → n ≡ modulo z (2 ^ 64)
modulo_small (pos m) n e h =
    let s : n ≡ m = cc in
    omega (arith, s, h)
modulo_small (negsuc m) n e h = absurd (cc)

pub other_part : (types : List NamedType) (t u : IrType) (i : ℤ) (n : ℕ) → None ≡ element_in (unnamed types t) → n < 2 ^ 64 →
    IsPart types n u (part_or (field_of types (unnamed types t) (nat_abs i)) (unnamed types t)) → IsPartModulo types n u (part_of types (unnamed types t) i)
other_part types t u i n h small is =
    let whole = unnamed types t in
    subst (IsPartModulo types n u) (sym (field_part types whole i h))
    (record { offset = modulo_small (part_or (field_of types whole (nat_abs i)) whole).offset n is.offset small; ty = is.ty })

pub product : (i : ℤ) (a s size : ℕ) → a ≡ modulo i (2 ^ 64) → s ≡ size → s < 2 ^ 64 → (a * s) % 2 ^ 64 ≡ modulo (i *ℤ pos size) (2 ^ 64)
product i a s size e f h =
    let g : s ≡ s % 2 ^ 64 = omega (arith, h) in
    ap (λ x. (x * s) % 2 ^ 64) e ∙ ap (λ x. (modulo i (2 ^ 64) * x) % 2 ^ 64) g ∙ modulo_product i (pos s) ∙ ap (λ x. modulo (i *ℤ pos x) (2 ^ 64)) f

pub element_part : (types : List NamedType) (t u : IrType) (i : ℤ) (a s : ℕ) → Some u ≡ element_in (unnamed types t) → a ≡ modulo i (2 ^ 64) → s ≡ size_of types u → s < 2 ^ 64 →
    IsPartModulo types ((a * s) % 2 ^ 64) u (part_of types (unnamed types t) i)
element_part types t u i a s e f g h =
    subst (IsPartModulo types ((a * s) % 2 ^ 64) u) (sym (part_of_array types (unnamed types t) u i e)) (record { offset = product i a s (size_of types u) f g h; ty = refl })

-- one index further

modulo_again : (z : ℤ) → (0 + modulo z (2 ^ 64)) % 2 ^ 64 ≡ modulo z (2 ^ 64)
modulo_again (pos n) = omega arith
modulo_again (negsuc n) = omega arith

sum_on : (a b c : ℕ) → (a + (b + c) % 2 ^ 64) % 2 ^ 64 ≡ ((a + b) % 2 ^ 64 + c) % 2 ^ 64
sum_on a b c = omega arith

pub part_further : (types : List NamedType) (t u : IrType) (i : ℤ) (is : List ℤ) (before n : ℕ) → IsPartModulo types n u (part_of types (unnamed types t) i) →
    (before + modulo (part_at types t (i ∷ is)).offset (2 ^ 64)) % 2 ^ 64 ≡ ((before + n) % 2 ^ 64 + modulo (part_at types u is).offset (2 ^ 64)) % 2 ^ 64
part_further types t u i is before n h =
    let part = part_of types (unnamed types t) i in
    ap (λ x. (before + x) % 2 ^ 64) (sym (modulo_sum part.offset (part_at types part.ty is).offset))
    ∙ sum_on before (modulo part.offset (2 ^ 64)) (modulo (part_at types part.ty is).offset (2 ^ 64))
    ∙ ap (λ x. ((before + x) % 2 ^ 64 + modulo (part_at types part.ty is).offset (2 ^ 64)) % 2 ^ 64) (sym h.offset)
    ∙ ap (λ x. ((before + n) % 2 ^ 64 + modulo x (2 ^ 64)) % 2 ^ 64) (sym (same_inside types u part.ty is h.ty))

pub on_further : (types : List NamedType) (start inner u : IrType) (all is : List ℤ) (i : ℤ) (before n : ℕ) → IsOnTheWay types start all before inner (i ∷ is) →
    IsPartModulo types n u (part_of types (unnamed types inner) i) → IsTrue (is_lawful_type types u) → IsOnTheWay types start all ((before + n) % 2 ^ 64) u is
on_further types start inner u all is i before n way part sized =
    record { sized = sized; offset_is = sym (part_further types inner u i is before n part) ∙ way.offset_is }

pub begins : (types : List NamedType) (start : IrType) (all : List ℤ) → IsTrue (is_lawful_type types start) → IsOnTheWay types start all 0 start all
begins types start all sized = record { sized = sized; offset_is = modulo_again (part_at types start all).offset }

pub ends : (types : List NamedType) (start inner : IrType) (all : List ℤ) (n : ℕ) → n < 2 ^ 64 → IsOnTheWay types start all n inner [] → n ≡ modulo (part_at types start all).offset (2 ^ 64)
ends types start inner all n h way =
    let g : n ≡ (n + 0) % 2 ^ 64 = omega (arith, h) in
    g ∙ way.offset_is

-- the address of a part: the base, whole values and the part
pub address : (types : List NamedType) (t : IrType) (size i inner : ℕ) (z : ℤ) (is : List ℤ) → i ≡ modulo z (2 ^ 64) → size ≡ size_of types t → size < 2 ^ 64 →
    inner ≡ modulo (part_at types t is).offset (2 ^ 64) → ((i * size) % 2 ^ 64 + inner) % 2 ^ 64 ≡ modulo ((z *ℤ pos (size_of types t)) +ℤ (part_at types t is).offset) (2 ^ 64)
address types t size i inner z is e f h g =
    ap (λ x. (x + inner) % 2 ^ 64) (product z i size (size_of types t) e f h)
    ∙ ap (λ x. (modulo (z *ℤ pos (size_of types t)) (2 ^ 64) + x) % 2 ^ 64) g
    ∙ modulo_sum (z *ℤ pos (size_of types t)) (part_at types t is).offset

-- a word is below the modulus of the widest
pub word_below : (w : Width) (n : ℕ) → n < 2 ^ bit_count w → n < 2 ^ 64
word_below W1 n h = omega (arith, h)
word_below W8 n h = omega (arith, h)
word_below W16 n h = omega (arith, h)
word_below W32 n h = omega (arith, h)
word_below W64 n h = h

-- the base and what lies behind it
pub based : (base off : ℕ) (z : ℤ) → base < 2 ^ 64 → off ≡ modulo z (2 ^ 64) → (base + off) % 2 ^ 64 ≡ modulo (pos base +ℤ z) (2 ^ 64)
based base off z h e =
    let g : base ≡ base % 2 ^ 64 = omega (arith, h) in
    ap (λ x. (base + x) % 2 ^ 64) e ∙ ap (λ x. (x + modulo z (2 ^ 64)) % 2 ^ 64) g ∙ modulo_sum (pos base) z
