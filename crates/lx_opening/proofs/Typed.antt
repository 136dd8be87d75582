-- An initialiser of a type writes no further than the type reaches.
use Rattle.std.proofs.Common.{◌≡◌, ℕ, suc, ◌+◌, ◌*◌, ◌≤◌, Bool, true, false, List, [], ◌∷◌, length, nat_eq, nat_le, refl, ap, sym, ◌∙◌, arith, eqb-true, le-leb}
use Rattle.std.specs.List.{list_all}
use Rattle.std.proofs.lemmas.Bool.{and_parts, and_from}
use Rattle.std.proofs.lemmas.Bool.Decides.{nat_tests}
use Rattle.lx_words.specs.declared.word.Width.TheVariants.{W1, W8, W16, W32, W64}
use Rattle.lx_words.specs.Width.{byte_count}
use Rattle.lx_words.proofs.Tests.{next_above}
use Rattle.lx_caps.specs.Regions.{mapped, globals_start}
use Rattle.lx_ir.specs.declared.types.Scalar.{Scalar}
use Rattle.lx_ir.specs.declared.types.Scalar.TheVariants.{Int, Ptr}
use Rattle.lx_ir.specs.declared.types.NamedType.{NamedType}
use Rattle.lx_ir.specs.declared.module.Brackets.{Brackets}
use Rattle.lx_ir.specs.declared.module.Brackets.TheVariants as brackets
use Rattle.lx_ir.specs.declared.module.Constant.{Constant}
use Rattle.lx_ir.specs.declared.module.Constant.TheVariants as constant
use Rattle.lx_ir.specs.IrType.{IrType, One, Array, Struct, Packed, Named, IrTypes, none, also}
use Rattle.lx_ir.specs.Init.{Init, Plain, Empty, Bytes, Group, Inits, no_more, more}
use Rattle.lx_ir.specs.Layout.{Layout, layout, beside, layout_in, fields_in, named_layouts, layout_of, size_of, scalar_size, unnamed, is_lawful_type}
use Rattle.lx_ir.specs.Lawful.{is_lawful_init, are_lawful_inits}
use Rattle.lx_ir.specs.Faults.{same_type, are_types, type_of_constant, has_items, holds_bytes, init_fits, inits_fit}
use Rattle.lx_ir.proofs.Layouts.{name_layout}
use Rattle.lx_same_texts.proofs.Parts.{type_is}
use Rattle.lx_model.specs.declared.program.Program.{Program}
use Rattle.lx_model.specs.Program.{Home, module_of, constant_word}
use Rattle.lx_model.specs.Opening.{is_packed, item_start}
use Rattle.lx_link_texts.specs.Placing.{last_end}
use Rattle.lx_opening.specs.Placed.{start_behind, end_behind, fits_item, is_init_placed, are_items_placed}

-- a range within the region of globals is mapped
pub in_globals : (at size : ℕ) → globals_start ≤ at → at + size ≤ last_end → mapped at size ≡ true
in_globals at size low high = grind (arith, nat_tests)

-- types that are the same lie alike
alike : (named : ℕ → Layout) (s t : IrType) → same_type s t ≡ true → layout_in named s ≡ layout_in named t
alike named s t h = ap (layout_in named) (type_is s t h)

-- how far items reach, behind items that take so many bytes
abbrev pub reach : List NamedType → Bool → ℕ → List IrType → ℕ
reach types packed taken [] = taken
reach types packed taken (t ∷ ts) = reach types packed (end_behind types packed taken t) ts

pub behind : (types : List NamedType) (packed : Bool) (laid : Layout) (t : IrType) → (beside packed laid (layout_of types t)).size ≡ end_behind types packed laid.size t
unfolding start_behind end_behind
behind types true laid t = refl
behind types false laid t = refl

farther_by : (packed : Bool) (taken : ℕ) (item : Layout) → taken ≤ item_start packed (layout taken 1) item + item.size
farther_by true taken item = omega arith
farther_by false taken item = omega (arith, next_above taken item.align)

farther : (types : List NamedType) (packed : Bool) (taken : ℕ) (t : IrType) → taken ≤ end_behind types packed taken t
unfolding start_behind end_behind
farther types packed taken t = farther_by packed taken (layout_of types t)

reaches : (types : List NamedType) (packed : Bool) (taken : ℕ) (ts : List IrType) → taken ≤ reach types packed taken ts
reaches types packed taken [] = omega arith
reaches types packed taken (t ∷ ts) =
    let a : taken ≤ end_behind types packed taken t = farther types packed taken t in
    let b : end_behind types packed taken t ≤ reach types packed (end_behind types packed taken t) ts = reaches types packed (end_behind types packed taken t) ts in
    omega (arith, a, b)

-- the items of a struct reach as far as its fields
fields_reach : (types : List NamedType) (packed : Bool) (us : List IrType) (ts : IrTypes) (laid : Layout) → are_types us ts ≡ true → reach types packed laid.size us ≡ (fields_in (named_layouts types 64) packed ts laid).size
fields_reach types packed [] none laid h = refl
fields_reach types packed [] (also t ts) laid h = absurd (cc)
fields_reach types packed (u ∷ us) none laid h = absurd (cc)
fields_reach types packed (u ∷ us) (also t ts) laid h =
    let a = and_parts (same_type u t) (are_types us ts) h in
    let next : Layout = beside packed laid (layout_of types t) in
    let l : layout_of types u ≡ layout_of types t = alike (named_layouts types 64) u t a.0 in
    let e : end_behind types packed laid.size u ≡ next.size = sym (behind types packed laid u) ∙ ap (λ x. (beside packed laid x).size) l in
    ap (λ n. reach types packed n us) e ∙ fields_reach types packed us ts next a.1

more_elements : (taken size size' n : ℕ) → size ≡ size' → taken + size + n * size' ≡ taken + suc n * size'
more_elements taken size size' n e = omega (arith, e)

-- the elements of an array take as many bytes as they are, one behind another
elements_reach : (types : List NamedType) (taken : ℕ) (us : List IrType) (t : IrType) → list_all (λ u. same_type u t) us ≡ true → reach types true taken us ≡ taken + length us * size_of types t
unfolding start_behind end_behind
elements_reach types taken [] t h = omega arith
elements_reach types taken (u ∷ us) t h =
    let a = and_parts (same_type u t) (list_all (λ u. same_type u t) us) h in
    let l : size_of types u ≡ size_of types t = ap (λ (x : Layout). x.size) (alike (named_layouts types 64) u t a.0) in
    elements_reach types (taken + size_of types u) us t a.1 ∙ more_elements taken (size_of types u) (size_of types t) (length us) l

array_reach : (n m size : ℕ) (r : ℕ) → nat_eq n m ≡ true → r ≡ 0 + m * size → r ≤ n * size
array_reach n m size r h e = let k : n ≡ m = eqb-true n m h in let f : n * size ≡ m * size = ap (λ x. x * size) k in omega (arith, e, f)

-- the items of a group reach no further than its type
items_reach : (types : List NamedType) (t : IrType) (k : Brackets) (us : List IrType) → has_items t k us ≡ true → reach types (is_packed k) 0 us ≤ size_of types t
items_reach types (One s) k us h = absurd (cc)
items_reach types (Named n) k us h = absurd (cc)
items_reach types (Array n t) brackets.Array us h =
    let a = and_parts (nat_eq n (length us)) (list_all (λ u. same_type u t) us) h in
    array_reach n (length us) (size_of types t) (reach types true 0 us) a.0 (elements_reach types 0 us t a.1)
items_reach types (Array n t) brackets.Struct us h = absurd (cc)
items_reach types (Array n t) brackets.Packed us h = absurd (cc)
items_reach types (Struct ts) brackets.Struct us h =
    let e = fields_reach types false us ts (layout 0 1) h in
    let l : Layout = fields_in (named_layouts types 64) false ts (layout 0 1) in
    omega (arith, e, next_above l.size l.align)
items_reach types (Struct ts) brackets.Packed us h = absurd (cc)
items_reach types (Struct ts) brackets.Array us h = absurd (cc)
items_reach types (Packed ts) brackets.Packed us h =
    let e = fields_reach types true us ts (layout 0 1) h in omega (arith, e)
items_reach types (Packed ts) brackets.Struct us h = absurd (cc)
items_reach types (Packed ts) brackets.Array us h = absurd (cc)

-- a constant of a type takes its bytes

one_size : (types : List NamedType) (t : IrType) (s : Scalar) → same_type t (One s) ≡ true → size_of types t ≡ scalar_size s
one_size types t s h = ap (λ (x : Layout). x.size) (alike (named_layouts types 64) t (One s) h)

constant_size : (p : Program) (home : Home) (c : Constant) → byte_count (constant_word p home c).width ≡ scalar_size (type_of_constant c)
constant_size p home (constant.Number w) = refl
constant_size p home (constant.Truth true) = refl
constant_size p home (constant.Truth false) = refl
constant_size p home (constant.Blank b w) = refl
constant_size p home (constant.Pointer c) = refl
constant_size p home (constant.Cast c w) = refl

byte_scalar : (s : Scalar) → holds_bytes (Array 0 (One s)) 0 ≡ true → scalar_size s ≡ 1
byte_scalar (Int W1) h = refl
byte_scalar (Int W8) h = refl
byte_scalar (Int W16) h = absurd (cc)
byte_scalar (Int W32) h = absurd (cc)
byte_scalar (Int W64) h = absurd (cc)
byte_scalar Ptr h = absurd (cc)

bytes_size : (types : List NamedType) (t : IrType) (k : ℕ) → holds_bytes t k ≡ true → size_of types t ≡ k
bytes_size types (One s) k h = absurd (cc)
bytes_size types (Struct ts) k h = absurd (cc)
bytes_size types (Packed ts) k h = absurd (cc)
bytes_size types (Named n) k h = absurd (cc)
bytes_size types (Array n (One (Int W8))) k h = let e : n ≡ k = eqb-true n k h in omega (arith, e)
bytes_size types (Array n (One (Int W1))) k h = absurd (cc)
bytes_size types (Array n (One (Int W16))) k h = absurd (cc)
bytes_size types (Array n (One (Int W32))) k h = absurd (cc)
bytes_size types (Array n (One (Int W64))) k h = absurd (cc)
bytes_size types (Array n (One Ptr)) k h = absurd (cc)
bytes_size types (Array n (Array m t)) k h = absurd (cc)
bytes_size types (Array n (Struct ts)) k h = absurd (cc)
bytes_size types (Array n (Packed ts)) k h = absurd (cc)
bytes_size types (Array n (Named m)) k h = absurd (cc)

reaches_end : (at n m : ℕ) → n ≡ m → at + m ≤ last_end → at + n ≤ last_end
reaches_end at n m e h = omega (arith, e, h)

mutual
  unfolding start_behind end_behind fits_item

  -- what an initialiser of a type writes lies in memory where the type's bytes lie in the region of globals
  pub init_placed : (p : Program) (home : Home) (at : ℕ) (t : IrType) (i : Init) → is_lawful_type (module_of p home).types t ≡ true → is_lawful_init (module_of p home) t i ≡ true → init_fits (module_of p home).types t i ≡ true
      → globals_start ≤ at → at + size_of (module_of p home).types t ≤ last_end → is_init_placed p home at i ≡ true
  init_placed p home at t (Plain c) within lawful fits low high =
      let types = (module_of p home).types in
      let e : byte_count (constant_word p home c).width ≡ size_of types t = constant_size p home c ∙ sym (one_size types t (type_of_constant c) fits) in
      in_globals at (byte_count (constant_word p home c).width) low (reaches_end at (byte_count (constant_word p home c).width) (size_of types t) e high)
  init_placed p home at t (Empty b) within lawful fits low high = refl
  init_placed p home at t (Bytes bs) within lawful fits low high =
      let types = (module_of p home).types in
      in_globals at (length bs) low (reaches_end at (length bs) (size_of types t) (sym (bytes_size types t (length bs) fits)) high)
  init_placed p home at t (Group k us is) within lawful fits low high =
      let types = (module_of p home).types in
      let a = and_parts (list_all (is_lawful_type types) us) (are_lawful_inits (module_of p home) us is) lawful in
      let b = and_parts (has_items (unnamed types t) k us) (inits_fit types us is) fits in
      let e : size_of types (unnamed types t) ≡ size_of types t = ap (λ (x : Layout). x.size) (name_layout types 63 t within (omega arith)) in
      let r : reach types (is_packed k) 0 us ≤ size_of types (unnamed types t) = items_reach types (unnamed types t) k us b.0 in
      items_placed p home at (is_packed k) 0 us is a.0 a.1 b.1 low (omega (arith, e, r, high))

  items_placed : (p : Program) (home : Home) (at : ℕ) (packed : Bool) (taken : ℕ) (ts : List IrType) (is : Inits) → list_all (is_lawful_type (module_of p home).types) ts ≡ true → are_lawful_inits (module_of p home) ts is ≡ true
      → inits_fit (module_of p home).types ts is ≡ true → globals_start ≤ at → at + reach (module_of p home).types packed taken ts ≤ last_end → are_items_placed p home at packed taken ts is ≡ true
  items_placed p home at packed taken ts no_more within lawful fits low high = refl
  items_placed p home at packed taken [] (more i is) within lawful fits low high = refl
  items_placed p home at packed taken (t ∷ ts) (more i is) within lawful fits low high =
      let types = (module_of p home).types in
      let a = and_parts (is_lawful_type types t) (list_all (is_lawful_type types) ts) within in
      let b = and_parts (is_lawful_init (module_of p home) t i) (are_lawful_inits (module_of p home) ts is) lawful in
      let c = and_parts (init_fits types t i) (inits_fit types ts is) fits in
      let start : ℕ = start_behind types packed taken t in
      let end : ℕ = end_behind types packed taken t in
      let r : end ≤ reach types packed end ts = reaches types packed end ts in
      let h : at + end ≤ last_end = omega (arith, r, high) in
      let s : (at + start) + size_of types t ≤ last_end = omega (arith, h) in
      and_from (fits_item types at packed taken t) _
      (and_from (is_lawful_type types t) (nat_le (at + end) last_end) a.0 (le-leb (at + end) last_end h))
      (and_from (is_init_placed p home (at + start) i) _
      (init_placed p home (at + start) t i a.0 b.0 c.0 (omega (arith, low)) s)
      (items_placed p home at packed end ts is a.1 b.1 c.1 low high))
