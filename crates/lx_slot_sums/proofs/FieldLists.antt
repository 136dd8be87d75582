-- The fields that begin at an offset, field by field.
use Rattle.std.proofs.Common.{◌≡◌, ℕ, zero, suc, ◌+◌, ◌-◌, ◌/◌, ◌%◌, ◌<◌, ◌≤◌, Bool, true, false, ◌&&◌, Option, List, [], ◌∷◌, ◌++◌, length, get_or, take, if◌then◌else◌, nat_eq, nat_lt, nat_le, refl, sym, ap, ◌∙◌, arith, append_assoc, append-nil}
use Rattle.std.proofs.lemmas.List.{take_more, length-take-le}
use Rattle.std.proofs.lemmas.Bool.Decides.{nat_tests}
use Rattle.lx_ir.specs.declared.types.NamedType.{NamedType}
use Rattle.lx_ir.specs.IrType.{IrType}
use Rattle.lx_ir.specs.Layout.{Layout, layout, beside, layout_of, named_layouts, fields_in, laid_fields, field_start, align_of, size_of}
use Rattle.std.specs.Int.{next_multiple_of}
use Rattle.lx_words.proofs.Tests.{next_above}
use Rattle.lx_ir.specs.TypeNodes.{types_of_list}
use Rattle.lx_ir.proofs.Layouts.{fields_more, front_le, start_within}
use Rattle.lx_slot_types.specs.Sites.{FieldName, names_of, start_of, field_here, fields_at, struct_fields_at, array_fields_at}

-- an array, by whether its elements have bytes

pub array_without : (inside : ℕ → List FieldName) (n s o : ℕ) → s ≡ 0 → array_fields_at inside n s o ≡ (if nat_lt 0 n && nat_eq o 0 then inside 0 else [])
array_without inside n zero o h = refl
array_without inside n (suc s) o h = absurd (omega arith)

pub array_with : (inside : ℕ → List FieldName) (n s o : ℕ) → 0 < s → array_fields_at inside n s o ≡ (if nat_lt (o / s) n then inside (o % s) else []) ++ (if nat_lt 0 o && (nat_eq (o % s) 0 && nat_le (o / s) n) then inside s else [])
array_with inside n zero o h = absurd (omega arith)
array_with inside n (suc s) o h = refl

-- a field that begins at the offset, and what begins there in it

split_by : (names at more : List FieldName) (a b : Bool) → (a ≡ true → b ≡ true → names ≡ []) → (if a then [] else (if b then names ++ at else more)) ≡ (if b then names else []) ++ (if a then [] else (if b then [] ++ at else more))
split_by names at more true true h = sym (ap (λ xs. xs ++ []) (h refl refl))
split_by names at more true false h = refl
split_by names at more false true h = refl
split_by names at more false false h = refl

pub here_split : (names : List FieldName) (inside : ℕ → List FieldName) (start size o : ℕ) → field_here names inside start size o ≡ (if nat_eq o start then names else []) ++ field_here [] inside start size o
here_split names inside start size o =
    split_by names (inside 0) (if nat_le o (start + size) then inside (o - start) else []) (nat_lt o start) (nat_eq o start) (λ a b. absurd (grind (arith, nat_tests, a, b)))

pub here_before : (inside : ℕ → List FieldName) (start size o : ℕ) → o < start → field_here [] inside start size o ≡ []
here_before inside start size o h = grind (arith, nat_tests)

pub here_behind : (inside : ℕ → List FieldName) (start size o : ℕ) → start ≤ o → size < o - start → field_here [] inside start size o ≡ []
here_behind inside start size o g h = grind (arith, nat_tests)

pub here_within : (inside : ℕ → List FieldName) (start size o : ℕ) → start ≤ o → o - start ≤ size → field_here [] inside start size o ≡ inside (o - start)
here_within inside start size o g h = grind (arith, nat_tests)

-- one field more of a struct

pub start_alike : (types : List NamedType) (packed : Bool) (t : IrType) (laid : Layout) (n : ℕ) → n ≡ laid.size → start_of types packed t (layout n 1) ≡ start_of types packed t laid
start_alike types true t laid n h = h
start_alike types false t laid n h = ap (λ k. start_of types false t (layout k 1)) h

pub start_is : (types : List NamedType) (packed : Bool) (t : IrType) (laid : Layout) → start_of types packed t laid ≡ field_start packed laid (layout_of types t)
start_is types true t laid = refl
start_is types false t laid = refl

pub end_is : (types : List NamedType) (packed : Bool) (t : IrType) (laid : Layout) → start_of types packed t laid + size_of types t ≡ (beside packed laid (layout_of types t)).size
end_is types true t laid = refl
end_is types false t laid = refl

behind : (types : List NamedType) (named : ℕ → ℕ → List FieldName) (name : Option ℕ) (packed : Bool) (xs : List IrType) (x : IrType) (k : ℕ) (laid : Layout) (o : ℕ) → struct_fields_at types named name packed (types_of_list (xs ++ x ∷ [])) k laid o ≡ struct_fields_at types named name packed (types_of_list xs) k laid o ++ field_here (names_of name (k + length xs)) (fields_at types named x) (start_of types packed x (fields_in (named_layouts types 64) packed (types_of_list xs) laid)) (size_of types x) o
behind types named name packed [] x k laid o =
    let e : k ≡ k + 0 = omega arith in
    append-nil (field_here (names_of name k) (fields_at types named x) (start_of types packed x laid) (size_of types x) o)
    ∙ ap (λ j. field_here (names_of name j) (fields_at types named x) (start_of types packed x laid) (size_of types x) o) e
behind types named name packed (y ∷ ys) x k laid o =
    let first = field_here (names_of name k) (fields_at types named y) (start_of types packed y laid) (size_of types y) o in
    let next = beside packed laid (layout_of types y) in
    let rest = struct_fields_at types named name packed (types_of_list ys) (suc k) next o in
    let last : ℕ → List FieldName = λ j. field_here (names_of name j) (fields_at types named x) (start_of types packed x (fields_in (named_layouts types 64) packed (types_of_list ys) next)) (size_of types x) o in
    let e : suc k + length ys ≡ k + length (y ∷ ys) = omega arith in
    ap (λ r. first ++ r) (behind types named name packed ys x (suc k) next o)
    ∙ (sym (append_assoc first rest (last (suc k + length ys))) ∙ ap (λ j. (first ++ rest) ++ last j) e)

field_more : (types : List NamedType) (named : ℕ → ℕ → List FieldName) (name : Option ℕ) (packed : Bool) (xs : List IrType) (i : ℕ) (x : IrType) (o : ℕ) → i < length xs → x ≡ get_or xs i x → struct_fields_at types named name packed (types_of_list (take (i + 1) xs)) 0 (layout 0 1) o ≡ struct_fields_at types named name packed (types_of_list (take i xs)) 0 (layout 0 1) o ++ field_here (names_of name i) (fields_at types named x) (start_of types packed x (laid_fields types packed (types_of_list (take i xs)))) (size_of types x) o
field_more types named name packed xs i x o h e =
    let t : take (i + 1) xs ≡ take i xs ++ x ∷ [] = take_more xs i x h ∙ ap (λ y. take i xs ++ y ∷ []) (sym e) in
    let l : 0 + length (take i xs) ≡ i = omega (arith, length-take-le i xs (omega arith)) in
    ap (λ zs. struct_fields_at types named name packed (types_of_list zs) 0 (layout 0 1) o) t
    ∙ (behind types named name packed (take i xs) x 0 (layout 0 1) o
    ∙ ap (λ j. struct_fields_at types named name packed (types_of_list (take i xs)) 0 (layout 0 1) o ++ field_here (names_of name j) (fields_at types named x) (start_of types packed x (laid_fields types packed (types_of_list (take i xs)))) (size_of types x) o) l)

-- a further field, as the loop goes over it
pub next_fields : (types : List NamedType) (named : ℕ → ℕ → List FieldName) (name : Option ℕ) (packed : Bool) (xs : List IrType) (i : ℕ) (x : IrType) (o taken start : ℕ) → i < length xs → x ≡ get_or xs i x → taken ≡ (laid_fields types packed (types_of_list (take i xs))).size → start ≡ start_of types packed x (layout taken 1)
    → (struct_fields_at types named name packed (types_of_list (take i xs)) 0 (layout 0 1) o ++ (if nat_eq o start then names_of name i else [])) ++ field_here [] (fields_at types named x) start (size_of types x) o ≡ struct_fields_at types named name packed (types_of_list (take (i + 1) xs)) 0 (layout 0 1) o
next_fields types named name packed xs i x o taken start h e s b =
    let laid = laid_fields types packed (types_of_list (take i xs)) in
    let so_far = struct_fields_at types named name packed (types_of_list (take i xs)) 0 (layout 0 1) o in
    let z : start ≡ start_of types packed x laid = b ∙ start_alike types packed x laid taken s in
    let g : field_here (names_of name i) (fields_at types named x) (start_of types packed x laid) (size_of types x) o ≡ (if nat_eq o start then names_of name i else []) ++ field_here [] (fields_at types named x) start (size_of types x) o =
    ap (λ n. field_here (names_of name i) (fields_at types named x) n (size_of types x) o) (sym z) ∙ here_split (names_of name i) (fields_at types named x) start (size_of types x) o in
    append_assoc so_far (if nat_eq o start then names_of name i else []) (field_here [] (fields_at types named x) start (size_of types x) o)
    ∙ ap (λ l. so_far ++ l) (sym g)
    ∙ sym (field_more types named name packed xs i x o h e)

-- how far the fields reach
pub taken_step : (types : List NamedType) (packed : Bool) (xs : List IrType) (i : ℕ) (x : IrType) (taken start size : ℕ) → i < length xs → x ≡ get_or xs i x → taken ≡ (laid_fields types packed (types_of_list (take i xs))).size → start ≡ start_of types packed x (layout taken 1) → size ≡ size_of types x → start + size ≡ (laid_fields types packed (types_of_list (take (i + 1) xs))).size
taken_step types packed xs i x taken start size h e s b z =
    let laid = laid_fields types packed (types_of_list (take i xs)) in
    (λ j. (b ∙ start_alike types packed x laid taken s) j + z j)
    ∙ (end_is types packed x laid ∙ ap (λ (l : Layout). l.size) (sym (fields_more types packed xs i x h e)))

pub start_fits : (types : List NamedType) (packed : Bool) (xs : List IrType) (i : ℕ) (x : IrType) (taken : ℕ) → i < length xs → x ≡ get_or xs i x → taken ≡ (laid_fields types packed (types_of_list (take i xs))).size → (laid_fields types packed (types_of_list xs)).size ≤ 4294967296 → start_of types packed x (layout taken 1) ≤ 4294967296
start_fits types packed xs i x taken h e s w =
    let laid = laid_fields types packed (types_of_list (take i xs)) in
    let z : start_of types packed x (layout taken 1) ≡ field_start packed laid (layout_of types x) = start_alike types packed x laid taken s ∙ start_is types packed x laid in
    let b : field_start packed laid (layout_of types x) ≤ 4294967296 = start_within types packed xs i x h e w in
    omega arith

pub end_fits : (types : List NamedType) (packed : Bool) (xs : List IrType) (i : ℕ) (n : ℕ) → n ≡ (laid_fields types packed (types_of_list (take (i + 1) xs))).size → (laid_fields types packed (types_of_list xs)).size ≤ 4294967296 → n ≤ 4294967296
end_fits types packed xs i n e w =
    let b : (laid_fields types packed (types_of_list (take (i + 1) xs))).size ≤ (laid_fields types packed (types_of_list xs)).size = front_le types packed xs (i + 1) in
    let c : (laid_fields types packed (types_of_list xs)).size ≤ 4294967296 = w in
    omega arith

-- a field begins at the end of the fields before it or behind it
pub start_behind : (types : List NamedType) (packed : Bool) (t : IrType) (n start : ℕ) → start ≡ start_of types packed t (layout n 1) → n ≤ start
start_behind types true t n start e = omega (arith, e)
start_behind types false t n start e = let l : n ≤ next_multiple_of n (align_of types t) = next_above n (align_of types t) in omega (arith, e, l)
