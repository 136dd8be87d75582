-- Types that end within a depth.
use Rattle.std.proofs.Common.{◌≡◌, refl, Bool, true, List, [], ◌∷◌, ℕ, zero, suc, ◌&&◌, nat_le}
use Rattle.std.specs.List.{list_all}
use Rattle.std.proofs.lemmas.Bool.{and_parts, and_from}
use Rattle.lx_ir.specs.IrType.{IrType, One, Array, Struct, Packed, Named}
use Rattle.lx_words.specs.declared.word.Width.TheVariants.{W1, W8, W16, W32, W64}
use Rattle.lx_ir.specs.declared.types.Scalar.{Scalar}
use Rattle.lx_ir.specs.declared.types.Scalar.TheVariants.{Int, Ptr}
use Rattle.lx_ir.specs.declared.types.NamedType.{NamedType}
use Rattle.lx_ir.specs.Layout.{is_type_within, size_of, parts_of, names_struct}

pub all_more : (f g : IrType → Bool) → ((t : IrType) → f t ≡ true → g t ≡ true) → (ts : List IrType) → list_all f ts ≡ true → list_all g ts ≡ true
all_more f g h [] k = refl
all_more f g h (t ∷ ts) k =
    let a = and_parts (f t) (list_all f ts) k in
    and_from (g t) (list_all g ts) (h t a.0) (all_more f g h ts a.1)

pub scalar_within : (types : List NamedType) (s : Scalar) → is_type_within types 1 (One s) ≡ true
scalar_within types (Int W1) = refl
scalar_within types (Int W8) = refl
scalar_within types (Int W16) = refl
scalar_within types (Int W32) = refl
scalar_within types (Int W64) = refl
scalar_within types Ptr = refl

pub within_more : (types : List NamedType) (n : ℕ) (t : IrType) → is_type_within types n t ≡ true → is_type_within types (suc n) t ≡ true
within_more types zero (One s) h = scalar_within types s
within_more types zero (Array n t) h = absurd (cc)
within_more types zero (Struct ts) h = absurd (cc)
within_more types zero (Packed ts) h = absurd (cc)
within_more types zero (Named k) h = absurd (cc)
within_more types (suc n) t h =
    let a = and_parts (names_struct types t && nat_le (size_of types t) 4294967296) (list_all (is_type_within types n) (parts_of types t)) h in
    and_from (names_struct types t && nat_le (size_of types t) 4294967296) (list_all (is_type_within types (suc n)) (parts_of types t)) a.0
    (all_more (is_type_within types n) (is_type_within types (suc n)) (λ u k. within_more types n u k) (parts_of types t) a.1)
