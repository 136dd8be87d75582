-- The types of parts, and the field that the last index selects.
use Rattle.std.proofs.Common.{◌≡◌, ℕ, zero, suc, ◌+◌, ◌<◌, ◌≤◌, Bool, true, false, Some, None, List, [], ◌∷◌, length, map, drop, get_or, ℤ, refl, sym, ap, ◌∙◌, arith, add-one}
use Rattle.std.specs.Prelude.{slice_get, nat_abs}
use Rattle.lx_words.proofs.Lists.{drop_next, some_left}
use Rattle.lx_ir.specs.declared.types.NamedType.{NamedType}
use Rattle.lx_ir.specs.declared.instr.Argument.{Argument}
use Rattle.lx_ir.specs.IrType.{IrType, One, Array, Struct, Packed, Named, IrTypes, none, also}
use Rattle.lx_ir.specs.Layout.{Layout, layout, beside, layout_of, unnamed, fields_of, list_of_types, field_after, part_or, part_of, part_at}
use Rattle.lx_slot_types.specs.Sites.{behind_first, field_if_named, index_number, last_field}
use Rattle.lx_propagate.specs.Parts.{element_in, field_or}

after_type : (types : List NamedType) (packed : Bool) (laid : Layout) (ts : IrTypes) (k : ℕ) (t : IrType) → (part_or (field_after types packed laid ts k) t).ty ≡ field_or t (slice_get (list_of_types ts) k)
after_type types true laid none k t = refl
after_type types false laid none k t = refl
after_type types true laid (also u us) zero t = refl
after_type types false laid (also u us) zero t = refl
after_type types true laid (also u us) (suc k) t = after_type types true (beside true laid (layout_of types u)) us k t
after_type types false laid (also u us) (suc k) t = after_type types false (beside false laid (layout_of types u)) us k t

-- the type of a part, by whether it is an array's
part_is : (types : List NamedType) (t : IrType) (i : ℤ) → None ≡ element_in t → (part_of types t i).ty ≡ field_or t (slice_get (fields_of t) (nat_abs i))
part_is types (One s) i h = refl
part_is types (Array n t) i h = absurd (cc)
part_is types (Struct ts) i h = after_type types false (layout 0 1) ts (nat_abs i) (Struct ts)
part_is types (Packed ts) i h = after_type types true (layout 0 1) ts (nat_abs i) (Packed ts)
part_is types (Named k) i h = refl

element_is : (types : List NamedType) (t u : IrType) (i : ℤ) → Some u ≡ element_in t → (part_of types t i).ty ≡ u
element_is types (One s) u i h = absurd (cc)
element_is types (Array n t) u i h = cc
element_is types (Struct ts) u i h = absurd (cc)
element_is types (Packed ts) u i h = absurd (cc)
element_is types (Named k) u i h = absurd (cc)

pub element_part : (types : List NamedType) (t u v : IrType) (i : ℤ) → u ≡ unnamed types t → Some v ≡ element_in u → v ≡ (part_at types t (i ∷ [])).ty
element_part types t u v i e h = sym (element_is types u v i h) ∙ ap (λ x. (part_of types x i).ty) e

pub field_part : (types : List NamedType) (t u v : IrType) (i : ℤ) (k : ℕ) → u ≡ unnamed types t → None ≡ element_in u → k ≡ nat_abs i → v ≡ field_or u (slice_get (fields_of u) k) → v ≡ (part_at types t (i ∷ [])).ty
field_part types t u v i k e h n f =
    f ∙ (ap (λ j. field_or u (slice_get (fields_of u) j)) n ∙ (sym (part_is types u i h) ∙ ap (λ x. (part_of types x i).ty) e))

-- index by index

pub last_step : (types : List NamedType) (t u : IrType) (xs : List Argument) (k : ℕ) (x : Argument) → k + 1 < length xs → x ≡ get_or xs k x → u ≡ (part_at types t (index_number x ∷ [])).ty → last_field types u (map index_number (drop (k + 1) xs)) ≡ last_field types t (map index_number (drop k xs))
last_step types t u xs k x h e f =
    let a : drop k xs ≡ x ∷ drop (suc k) xs = drop_next xs k x (omega arith) e in
    let b = some_left xs (suc k) (omega arith) in
    let n : k + 1 ≡ suc k = add-one k in
    ap (λ j. last_field types u (map index_number (drop j xs))) n
    ∙ (ap (λ v. last_field types v (map index_number (drop (suc k) xs))) f
    ∙ (ap (λ zs. last_field types (part_at types t (index_number x ∷ [])).ty (map index_number zs)) b.1
    ∙ (ap (λ zs. last_field types t (index_number x ∷ map index_number zs)) (sym b.1) ∙ ap (λ zs. last_field types t (map index_number zs)) (sym a))))

none_left : {A : Type 0} (xs : List A) (k : ℕ) → length xs ≤ k → drop k xs ≡ []
none_left [] zero h = refl
none_left [] (suc k) h = refl
none_left (y ∷ ys) zero h = absurd (omega arith)
none_left (y ∷ ys) (suc k) h = none_left ys k (omega arith)

pub last_end : (types : List NamedType) (t : IrType) (xs : List Argument) (k : ℕ) (x : Argument) → k + 1 ≡ length xs → x ≡ get_or xs k x → last_field types t (map index_number (drop k xs)) ≡ field_if_named t (nat_abs (index_number x))
last_end types t xs k x h e =
    let a : drop k xs ≡ x ∷ drop (suc k) xs = drop_next xs k x (omega arith) e in
    let b : drop (suc k) xs ≡ [] = none_left xs (suc k) (omega arith) in
    ap (λ zs. last_field types t (map index_number zs)) a ∙ ap (λ zs. last_field types t (index_number x ∷ map index_number zs)) b

pub first_left : (types : List NamedType) (t : IrType) (xs : List Argument) → last_field types t (behind_first (map index_number xs)) ≡ last_field types t (map index_number (drop 1 xs))
first_left types t [] = refl
first_left types t (x ∷ xs) = refl

pub too_few : (types : List NamedType) (t : IrType) (xs : List Argument) → length xs < 2 → last_field types t (behind_first (map index_number xs)) ≡ []
too_few types t [] h = refl
too_few types t (x ∷ []) h = refl
too_few types t (x ∷ y ∷ xs) h = absurd (omega arith)
