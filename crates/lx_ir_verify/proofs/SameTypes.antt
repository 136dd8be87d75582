-- Lemmas on types and initialisers in lists.
use Rattle.std.proofs.Common.{◌≡◌, ◌≢◌, ℕ, ◌+◌, ◌<◌, ◌≤◌, min, true, false, ◌&&◌, List, [], ◌∷◌, length, get_or, drop, refl, ap, ◌∙◌, suc, nat_eq, arith}
use Rattle.std.proofs.lemmas.List.{drop_all, length-drop}
use Rattle.lx_words.specs.declared.word.Width.TheVariants.{W1, W8, W16, W32, W64}
use Rattle.lx_words.proofs.Tests.{and_false}
use Rattle.lx_words.proofs.Lists.{rest_at}
use Rattle.lx_ir.specs.declared.types.Scalar.TheVariants.{Int, Ptr}
use Rattle.lx_ir.specs.declared.types.NamedType.{NamedType}
use Rattle.lx_ir.specs.IrType.{IrType, One, Array, Struct, Packed, Named}
use Rattle.lx_ir.specs.Init.{Init}
use Rattle.lx_ir.specs.TypeNodes.{types_of_list}
use Rattle.lx_ir.specs.InitNodes.{inits_of_list}
use Rattle.lx_ir.specs.Faults.{same_type, same_types, are_types, holds_bytes, init_fits, inits_fit}

pub same_step : (xs ys : List IrType) (i : ℕ) (x y : IrType) → i < length xs → i < length ys → x ≡ get_or xs i x → y ≡ get_or ys i y → same_types (types_of_list (drop i xs)) (types_of_list (drop i ys)) ≡ (same_type x y && same_types (types_of_list (drop (i + 1) xs)) (types_of_list (drop (i + 1) ys)))
same_step xs ys i x y h g p q =
    let a = rest_at xs i x h p in
    let b = rest_at ys i y g q in
    λ k. same_types (types_of_list (a k)) (types_of_list (b k))

pub same_end : (xs ys : List IrType) (i : ℕ) → length xs ≤ i → length ys ≤ i → same_types (types_of_list (drop i xs)) (types_of_list (drop i ys)) ≡ true
same_end xs ys i h g =
    let a = drop_all i xs h in
    let b = drop_all i ys g in
    λ k. same_types (types_of_list (a k)) (types_of_list (b k))

pub other_length : (xs ys : List IrType) → length xs ≢ length ys → same_types (types_of_list xs) (types_of_list ys) ≡ false
other_length [] [] h = absurd (h refl)
other_length [] (y ∷ ys) h = refl
other_length (x ∷ xs) [] h = refl
other_length (x ∷ xs) (y ∷ ys) h = ap (λ b. same_type x y && b) (other_length xs ys (λ e. h (ap suc e))) ∙ and_false (same_type x y)

pub are_types_same : (xs ys : List IrType) → are_types xs (types_of_list ys) ≡ same_types (types_of_list xs) (types_of_list ys)
are_types_same [] [] = refl
are_types_same [] (y ∷ ys) = refl
are_types_same (x ∷ xs) [] = refl
are_types_same (x ∷ xs) (y ∷ ys) = ap (λ b. same_type x y && b) (are_types_same xs ys)

pub bytes_held : (n k : ℕ) (t : IrType) → holds_bytes (Array n t) k ≡ (same_type t (One (Int W8)) && nat_eq n k)
bytes_held n k (One (Int W1)) = refl
bytes_held n k (One (Int W8)) = refl
bytes_held n k (One (Int W16)) = refl
bytes_held n k (One (Int W32)) = refl
bytes_held n k (One (Int W64)) = refl
bytes_held n k (One Ptr) = refl
bytes_held n k (Array m t) = refl
bytes_held n k (Struct ts) = refl
bytes_held n k (Packed ts) = refl
bytes_held n k (Named j) = refl

pub fits_step : (types : List NamedType) (ts : List IrType) (is : List Init) (k : ℕ) (t : IrType) (i : Init) → k < length ts → k < length is → t ≡ get_or ts k t → i ≡ get_or is k i → inits_fit types (drop k ts) (inits_of_list (drop k is)) ≡ (init_fits types t i && inits_fit types (drop (k + 1) ts) (inits_of_list (drop (k + 1) is)))
fits_step types ts is k t i h g p q =
    let a = rest_at ts k t h p in
    let b = rest_at is k i g q in
    λ z. inits_fit types (a z) (inits_of_list (b z))

fits_done : (types : List NamedType) (ts : List IrType) (is : List Init) → min (length ts) (length is) ≡ 0 → inits_fit types ts (inits_of_list is) ≡ true
fits_done types [] [] h = refl
fits_done types [] (i ∷ is) h = refl
fits_done types (t ∷ ts) [] h = refl
fits_done types (t ∷ ts) (i ∷ is) h = absurd (omega arith)

pub fits_end : (types : List NamedType) (ts : List IrType) (is : List Init) (k : ℕ) → min (length ts) (length is) ≤ k → inits_fit types (drop k ts) (inits_of_list (drop k is)) ≡ true
fits_end types ts is k h = fits_done types (drop k ts) (drop k is) (omega (arith, length-drop k ts, length-drop k is))
