-- Layouts that are kept: of types that may lie outside the limits.
use Rattle.std.specs.Prelude.{ℕ, zero, suc, ◌*◌, Bool, true, false, Option, Some, None, List, [], ◌∷◌, slice_get, map, nat_le, if◌then◌else◌}
use Rattle.std.specs.Option.{option_flatten}
use Rattle.lx_ir.specs.declared.types.NamedType.{NamedType}
use Rattle.lx_ir.specs.IrType.{IrType, One, Array, Struct, Packed, Named, IrTypes, none, also}
use Rattle.lx_ir.specs.Layout.{Layout, layout, scalar_size, beside, padded, field_start}

infixl 10 ◌>>?◌
abbrev pub ◌>>?◌ : {A B : Type 0} → Option A → (A → Option B) → Option B
(Some x) >>? f = f x
None >>? f = None

-- the layout, where it is of at most 2^32 bytes
abbrev pub limited : Layout → Option Layout
limited l = if nat_le l.size 4294967296 then Some l else None

-- the layouts of the named types by their numbers; none for those that are outside the limits
abbrev pub Layouts : Type 0
Layouts = List (Option Layout)

abbrev pub named_layout : Layouts → ℕ → Option Layout
named_layout layouts k = option_flatten (slice_get layouts k)

-- a struct with a further field
abbrev pub laid_beside : Bool → Layout → Layout → Option Layout
laid_beside packed laid field = limited (beside packed laid field)

abbrev mutual
  -- the layout of a type; none where it, or a type in it, is outside the limits
  pub fit_type : Layouts → IrType → Option Layout
  fit_type layouts (One s) = Some (layout (scalar_size s) (scalar_size s))
  fit_type layouts (Array n t) = fit_type layouts t >>? λ l. limited (layout (n * l.size) l.align)
  fit_type layouts (Struct ts) = fit_fields layouts false ts (layout 0 1) >>? λ l. limited (padded l)
  fit_type layouts (Packed ts) = fit_fields layouts true ts (layout 0 1)
  fit_type layouts (Named k) = named_layout layouts k

  -- fields behind those that are laid
  pub fit_fields : Layouts → Bool → IrTypes → Layout → Option Layout
  fit_fields layouts packed none laid = Some laid
  fit_fields layouts packed (also t ts) laid =
      fit_type layouts t >>? λ l. laid_beside packed laid l >>? λ more. fit_fields layouts packed ts more

-- the layouts of the named types through at most so many names
abbrev pub layouts_through : List NamedType → ℕ → Layouts
layouts_through types zero = map (λ e. None) types
layouts_through types (suc n) = map (λ e. fit_type (layouts_through types n) e.ty) types

-- the layouts of the named types. One that is within the limits goes through at most 64 names
unfoldable pub fitting_layouts : List NamedType → Layouts
fitting_layouts types = layouts_through types 64

-- the starts of further fields behind those that are laid, where these are within the limits
abbrev pub rest_behind : Option Layout → (Layout → List ℕ) → List ℕ
rest_behind None rest = []
rest_behind (Some laid) rest = rest laid

abbrev pub starts_behind : Bool → Layout → Option Layout → (Layout → List ℕ) → List ℕ
starts_behind packed laid None rest = []
starts_behind packed laid (Some l) rest = field_start packed laid l ∷ rest_behind (laid_beside packed laid l) rest

-- where the fields begin behind those that are laid, up to the first that is outside the limits
abbrev pub starts_in : Layouts → Bool → IrTypes → Layout → List ℕ
starts_in layouts packed none laid = []
starts_in layouts packed (also t ts) laid = starts_behind packed laid (fit_type layouts t) (λ more. starts_in layouts packed ts more)

-- where the fields of a struct begin; a type that is written otherwise has none
abbrev pub starts_of : Layouts → IrType → List ℕ
starts_of layouts (Struct ts) = starts_in layouts false ts (layout 0 1)
starts_of layouts (Packed ts) = starts_in layouts true ts (layout 0 1)
starts_of layouts (One s) = []
starts_of layouts (Array n t) = []
starts_of layouts (Named k) = []

-- where the fields of each named type begin
unfoldable pub named_starts : List NamedType → List (List ℕ)
named_starts types = map (λ e. starts_of (fitting_layouts types) e.ty) types
