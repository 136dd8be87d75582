-- A type within the limits has the layout that is kept of it, and its fields begin where the kept starts say.
use Rattle.std.proofs.Common.{◌≡◌, ℕ, zero, suc, ◌*◌, ◌≤◌, Bool, true, false, Option, Some, None, List, [], map, pos, refl, sym, ap, ◌∙◌, arith, slice_get, option_map}
use Rattle.std.specs.Prelude.{if◌then◌else◌, option_and_then}
use Rattle.std.specs.List.{list_all}
use Rattle.std.specs.Option.{option_flatten}
use Rattle.std.proofs.lemmas.Bool.{le-leb, and_parts}
use Rattle.std.proofs.lemmas.Option.{slice_get-map}
use Rattle.lx_words.proofs.Tests.{next_above}
use Rattle.lx_ir.specs.declared.types.NamedType.{NamedType}
use Rattle.lx_ir.specs.IrType.{IrType, One, Array, Struct, Packed, Named, IrTypes, none, also}
use Rattle.lx_ir.specs.TypeNodes.{types_of_list}
use Rattle.lx_ir.specs.Layout.{Layout, Part, layout, beside, padded, layout_in, fields_in, layout_of, layout_of_entry, named_layouts, unnamed, is_struct, fields_of, parts_of, list_of_types, entry_or, is_type_within, field_after, field_of, offset_of}
use Rattle.lx_ir.specs.Fitting.{◌>>?◌, Layouts, limited, laid_beside, fit_type, fit_fields, layouts_through, fitting_layouts, starts_in, starts_behind, rest_behind, starts_of, named_starts}
use Rattle.lx_ir.proofs.Layouts.{fields_grow, within, same_layout, name_layout}

-- a layout within the limit
pub limited_is : (l : Layout) → l.size ≤ 4294967296 → limited l ≡ Some l
limited_is l h = ap (λ b. if b then Some l else None) (le-leb l.size 4294967296 h)

-- the size of a type within the limits, through any number of names that is enough
pub size_fits : (types : List NamedType) (n : ℕ) (t : IrType) (j : ℕ) → is_type_within types (suc n) t ≡ true → suc n ≤ j → suc n ≤ 64 → (layout_in (named_layouts types j) t).size ≤ 4294967296
size_fits types n t j h a b =
    let fits : (layout_in (named_layouts types 64) t).size ≤ 4294967296 = (within types n t h).size in
    let e : (layout_in (named_layouts types 64) t).size ≡ (layout_in (named_layouts types j) t).size = ap (λ l. l.size) (same_layout types (suc n) t 64 j h b a) in
    omega (arith, fits, e)

module _ (types : List NamedType) (n j : ℕ)
    (fits : (t : IrType) → is_type_within types n t ≡ true → fit_type (layouts_through types j) t ≡ Some (layout_in (named_layouts types j) t)) where
  fields_fit : (packed : Bool) (ts : IrTypes) (laid : Layout) → list_all (is_type_within types n) (list_of_types ts) ≡ true → (fields_in (named_layouts types j) packed ts laid).size ≤ 4294967296
      → fit_fields (layouts_through types j) packed ts laid ≡ Some (fields_in (named_layouts types j) packed ts laid)
  fields_fit packed none laid h le = refl
  fields_fit packed (also t ts) laid h le =
      let both = and_parts (is_type_within types n t) (list_all (is_type_within types n) (list_of_types ts)) h in
      let next : Layout = beside packed laid (layout_in (named_layouts types j) t) in
      let grows : next.size ≤ (fields_in (named_layouts types j) packed ts next).size = fields_grow (named_layouts types j) packed ts next in
      ap (λ o. o >>? λ l. laid_beside packed laid l >>? λ more. fit_fields (layouts_through types j) packed ts more) (fits t both.0)
      ∙ ap (λ o. o >>? λ more. fit_fields (layouts_through types j) packed ts more) (limited_is next (omega (arith, grows, le)))
      ∙ fields_fit packed ts next both.1 le

  struct_fits : (t : IrType) → is_struct t ≡ true → list_all (is_type_within types n) (fields_of t) ≡ true → (layout_in (named_layouts types j) t).size ≤ 4294967296 → fit_type (layouts_through types j) t ≡ Some (layout_in (named_layouts types j) t)
  struct_fits (One s) e h le = absurd (cc e)
  struct_fits (Array c t) e h le = absurd (cc e)
  struct_fits (Struct ts) e h le =
      let whole : Layout = fields_in (named_layouts types j) false ts (layout 0 1) in
      let grown : whole.size ≤ (padded whole).size = next_above whole.size whole.align in
      ap (λ o. o >>? λ l. limited (padded l)) (fields_fit false ts (layout 0 1) h (omega (arith, grown, le))) ∙ limited_is (padded whole) le
  struct_fits (Packed ts) e h le = fields_fit true ts (layout 0 1) h le
  struct_fits (Named k) e h le = absurd (cc e)

  entry_fits : (k : ℕ) (o : Option NamedType) → is_struct (entry_or o (Named k)) ≡ true → list_all (is_type_within types n) (fields_of (entry_or o (Named k))) ≡ true → (layout_of_entry (named_layouts types j) o).size ≤ 4294967296
      → option_flatten (option_map (λ e. fit_type (layouts_through types j) e.ty) o) ≡ Some (layout_of_entry (named_layouts types j) o)
  entry_fits k None e h le = absurd (cc e)
  entry_fits k (Some t) e h le = struct_fits t.ty e h le

type_fits : (types : List NamedType) (n : ℕ) (t : IrType) (j : ℕ) → is_type_within types n t ≡ true → n ≤ j → n ≤ 64 → fit_type (layouts_through types j) t ≡ Some (layout_in (named_layouts types j) t)
type_fits types zero (One s) j h a b = refl
type_fits types zero (Array c t) j h a b = absurd (cc h)
type_fits types zero (Struct ts) j h a b = absurd (cc h)
type_fits types zero (Packed ts) j h a b = absurd (cc h)
type_fits types zero (Named k) j h a b = absurd (cc h)
type_fits types (suc n) (One s) j h a b = refl
type_fits types (suc n) (Array c t) j h a b =
    let p = and_parts (is_type_within types n t) true (within types n (Array c t) h).parts in
    let l : Layout = layout_in (named_layouts types j) t in
    ap (λ o. o >>? λ m. limited (layout (c * m.size) m.align)) (type_fits types n t j p.0 (omega arith) (omega arith)) ∙ limited_is (layout (c * l.size) l.align) (size_fits types n (Array c t) j h a b)
type_fits types (suc n) (Struct ts) j h a b =
    struct_fits types n j (λ u g. type_fits types n u j g (omega arith) (omega arith)) (Struct ts) refl (within types n (Struct ts) h).parts (size_fits types n (Struct ts) j h a b)
type_fits types (suc n) (Packed ts) j h a b =
    struct_fits types n j (λ u g. type_fits types n u j g (omega arith) (omega arith)) (Packed ts) refl (within types n (Packed ts) h).parts (size_fits types n (Packed ts) j h a b)
type_fits types (suc n) (Named k) zero h a b = absurd (omega arith)
type_fits types (suc n) (Named k) (suc j) h a b =
    let w = within types n (Named k) h in
    ap option_flatten (slice_get-map (λ e. fit_type (layouts_through types j) e.ty) types k)
    ∙ entry_fits types n j (λ u g. type_fits types n u j g (omega arith) (omega arith)) k (slice_get types k) w.names w.parts (size_fits types n (Named k) (suc j) h a b)

-- a type that nests at most so deep has the layout that is kept
pub within_fits : (types : List NamedType) (n : ℕ) → n ≤ 64 → (t : IrType) → is_type_within types n t ≡ true → fit_type (fitting_layouts types) t ≡ Some (layout_of types t)
unfolding fitting_layouts
within_fits types n few t h = type_fits types n t 64 h few few

pub lawful_fits : (types : List NamedType) (t : IrType) → is_type_within types 64 t ≡ true → fit_type (fitting_layouts types) t ≡ Some (layout_of types t)
lawful_fits types t h = within_fits types 64 (omega arith) t h

-- Where fields begin.

abbrev Starts : List NamedType → Bool → Layout → IrTypes → ℕ → Type 0
Starts types packed laid ts k = option_map pos (slice_get (starts_in (fitting_layouts types) packed ts laid) k) ≡ option_map (λ (p : Part). p.offset) (field_after types packed laid ts k)

module _ (types : List NamedType) (n : ℕ) (few : n ≤ 64) where
  -- the field that is laid next
  next_laid : (packed : Bool) (ts : IrTypes) (laid : Layout) (t : IrType) → (fields_in (named_layouts types 64) packed ts (beside packed laid (layout_of types t))).size ≤ 4294967296 → laid_beside packed laid (layout_of types t) ≡ Some (beside packed laid (layout_of types t))
  next_laid packed ts laid t le =
      let next : Layout = beside packed laid (layout_of types t) in
      let grows : next.size ≤ (fields_in (named_layouts types 64) packed ts next).size = fields_grow (named_layouts types 64) packed ts next in
      limited_is next (omega (arith, grows, le))

  starts_are : (packed : Bool) (ts : IrTypes) (laid : Layout) (k : ℕ) → list_all (is_type_within types n) (list_of_types ts) ≡ true → (fields_in (named_layouts types 64) packed ts laid).size ≤ 4294967296 → Starts types packed laid ts k
  starts_are true none laid zero h le = refl
  starts_are true none laid (suc k) h le = refl
  starts_are false none laid zero h le = refl
  starts_are false none laid (suc k) h le = refl
  starts_are true (also t ts) laid zero h le =
      let p = and_parts (is_type_within types n t) (list_all (is_type_within types n) (list_of_types ts)) h in
      ap (λ o. option_map pos (slice_get (starts_behind true laid o (λ more. starts_in (fitting_layouts types) true ts more)) zero)) (within_fits types n few t p.0)
  starts_are false (also t ts) laid zero h le =
      let p = and_parts (is_type_within types n t) (list_all (is_type_within types n) (list_of_types ts)) h in
      ap (λ o. option_map pos (slice_get (starts_behind false laid o (λ more. starts_in (fitting_layouts types) false ts more)) zero)) (within_fits types n few t p.0)
  starts_are true (also t ts) laid (suc k) h le =
      let p = and_parts (is_type_within types n t) (list_all (is_type_within types n) (list_of_types ts)) h in
      ap (λ o. option_map pos (slice_get (starts_behind true laid o (λ more. starts_in (fitting_layouts types) true ts more)) (suc k))) (within_fits types n few t p.0)
      ∙ ap (λ o. option_map pos (slice_get (rest_behind o (λ more. starts_in (fitting_layouts types) true ts more)) k)) (next_laid true ts laid t le)
      ∙ starts_are true ts (beside true laid (layout_of types t)) k p.1 le
  starts_are false (also t ts) laid (suc k) h le =
      let p = and_parts (is_type_within types n t) (list_all (is_type_within types n) (list_of_types ts)) h in
      ap (λ o. option_map pos (slice_get (starts_behind false laid o (λ more. starts_in (fitting_layouts types) false ts more)) (suc k))) (within_fits types n few t p.0)
      ∙ ap (λ o. option_map pos (slice_get (rest_behind o (λ more. starts_in (fitting_layouts types) false ts more)) k)) (next_laid false ts laid t le)
      ∙ starts_are false ts (beside false laid (layout_of types t)) k p.1 le

-- those of a struct whose name is written out
struct_starts : (types : List NamedType) (t : IrType) (k : ℕ) → is_struct t ≡ true → list_all (is_type_within types 63) (fields_of t) ≡ true → (layout_of types t).size ≤ 4294967296 → option_map pos (slice_get (starts_of (fitting_layouts types) t) k) ≡ option_map (λ (p : Part). p.offset) (field_of types t k)
struct_starts types (One s) k e h le = absurd (cc e)
struct_starts types (Array c t) k e h le = absurd (cc e)
struct_starts types (Struct ts) k e h le =
    let whole : Layout = fields_in (named_layouts types 64) false ts (layout 0 1) in
    let grown : whole.size ≤ (padded whole).size = next_above whole.size whole.align in
    starts_are types 63 (omega arith) false ts (layout 0 1) k h (omega (arith, grown, le))
struct_starts types (Packed ts) k e h le = starts_are types 63 (omega arith) true ts (layout 0 1) k h le
struct_starts types (Named q) k e h le = absurd (cc e)

parts_here : (types : List NamedType) (v : IrType) → is_struct v ≡ true → list_all (is_type_within types 63) (parts_of types v) ≡ true → list_all (is_type_within types 63) (fields_of v) ≡ true
parts_here types (One x) a b = absurd (cc a)
parts_here types (Array c x) a b = absurd (cc a)
parts_here types (Struct ts) a b = b
parts_here types (Packed ts) a b = b
parts_here types (Named q) a b = absurd (cc a)

written_start : (types : List NamedType) (t u : IrType) (k : ℕ) (r : Option ℕ) → r ≡ slice_get (starts_of (fitting_layouts types) u) k → u ≡ t → unnamed types u ≡ u → is_struct u ≡ true → is_type_within types 64 t ≡ true → option_map pos r ≡ offset_of types t k
written_start types t u k r e same plain s h =
    let g : is_type_within types 64 u ≡ true = ap (is_type_within types 64) same ∙ h in
    let w = within types 63 u g in
    let parts : list_all (is_type_within types 63) (fields_of u) ≡ true = parts_here types u s w.parts in
    ap (option_map pos) e ∙ struct_starts types u k s parts w.size
    ∙ ap (λ v. option_map (λ (p : Part). p.offset) (field_of types v k)) (sym plain)
    ∙ ap (λ v. offset_of types v k) same

pub struct_start : (types : List NamedType) (xs : List IrType) (t : IrType) (k : ℕ) (r : Option ℕ) → Struct (types_of_list xs) ≡ t → r ≡ slice_get (starts_in (fitting_layouts types) false (types_of_list xs) (layout 0 1)) k → is_type_within types 64 t ≡ true → option_map pos r ≡ offset_of types t k
struct_start types xs t k r same e h = written_start types t (Struct (types_of_list xs)) k r e same refl refl h

pub packed_start : (types : List NamedType) (xs : List IrType) (t : IrType) (k : ℕ) (r : Option ℕ) → Packed (types_of_list xs) ≡ t → r ≡ slice_get (starts_in (fitting_layouts types) true (types_of_list xs) (layout 0 1)) k → is_type_within types 64 t ≡ true → option_map pos r ≡ offset_of types t k
packed_start types xs t k r same e h = written_start types t (Packed (types_of_list xs)) k r e same refl refl h

entry_start : (types : List NamedType) (q k : ℕ) (o : Option NamedType) → is_struct (entry_or o (Named q)) ≡ true → list_all (is_type_within types 63) (fields_of (entry_or o (Named q))) ≡ true → (layout_of types (entry_or o (Named q))).size ≤ 4294967296
    → option_map pos (option_and_then (λ starts. slice_get starts k) (option_map (λ e. starts_of (fitting_layouts types) e.ty) o)) ≡ option_map (λ (p : Part). p.offset) (field_of types (entry_or o (Named q)) k)
entry_start types q k None e h le = absurd (cc e)
entry_start types q k (Some t) e h le = struct_starts types t.ty k e h le

starts_at : (types : List NamedType) (q : ℕ) → slice_get (named_starts types) q ≡ option_map (λ (e : NamedType). starts_of (fitting_layouts types) e.ty) (slice_get types q)
unfolding named_starts
starts_at types q = slice_get-map (λ e. starts_of (fitting_layouts types) e.ty) types q

-- those of a named type
pub named_start : (types : List NamedType) (q : ℕ) (t : IrType) (k : ℕ) (r : Option ℕ) → Named q ≡ t → r ≡ option_and_then (λ starts. slice_get starts k) (slice_get (named_starts types) q) → is_type_within types 64 t ≡ true → option_map pos r ≡ offset_of types t k
named_start types q t k r same e h =
    let g : is_type_within types 64 (Named q) ≡ true = ap (is_type_within types 64) same ∙ h in
    let w = within types 63 (Named q) g in
    let laid : (layout_of types (unnamed types (Named q))).size ≡ (layout_of types (Named q)).size = ap (λ (l : Layout). l.size) (name_layout types 63 (Named q) g (omega arith)) in
    let size : (layout_of types (Named q)).size ≤ 4294967296 = w.size in
    ap (option_map pos) e
    ∙ ap (λ o. option_map pos (option_and_then (λ starts. slice_get starts k) o)) (starts_at types q)
    ∙ entry_start types q k (slice_get types q) w.names w.parts (omega (arith, laid, size))
    ∙ ap (λ v. offset_of types v k) same

-- where there are no types
pub no_layouts : [] ≡ fitting_layouts []
unfolding fitting_layouts
no_layouts = refl

pub no_starts : [] ≡ named_starts []
unfolding named_starts
no_starts = refl

-- the starts that are kept
pub starts_kept : (types : List NamedType) (layouts : Layouts) (starts : List (List ℕ)) → layouts ≡ fitting_layouts types → starts ≡ map (λ (e : NamedType). starts_of layouts e.ty) types → starts ≡ named_starts types
unfolding named_starts
starts_kept types layouts starts e f = f ∙ ap (λ l. map (λ (t : NamedType). starts_of l t.ty) types) e
