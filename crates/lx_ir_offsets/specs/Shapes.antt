-- The limits on types as they are written: at most 2^32 bytes, and at most 64 nestings, with the names written out.
use Rattle.std.specs.Prelude.{ℕ, zero, suc, ◌*◌, ◌-◌, min, max, Bool, true, false, not, ◌&&◌, ◌||◌, List, map, slice_get, unwrap_or, nat_lt, Result, Ok, Err, if◌then◌else◌}
use Rattle.lx_ir.specs.declared.types.NamedType.{NamedType}
use Rattle.lx_ir.specs.IrType.{IrType, One, Array, Struct, Packed, Named, IrTypes, none, also}
use Rattle.lx_ir.specs.Layout.{Layout, layout, scalar_size, beside, padded}

-- how a type lies in memory, and how deep it nests. What is past a limit counts as just past it
pub record Shape : Type 0 where
  pub size : ℕ
  pub align : ℕ
  pub nesting : ℕ

abbrev pub shape : Layout → ℕ → Shape
shape l nesting = record { size = min l.size 4294967297; align = l.align; nesting = min nesting 65 }

abbrev pub layout_of_shape : Shape → Layout
layout_of_shape s = layout s.size s.align

-- a struct with a further field
abbrev pub with_field : Bool → Shape → Shape → Shape
with_field packed fields field =
    shape (beside packed (layout_of_shape fields) (layout_of_shape field)) (max fields.nesting field.nesting)

-- a type that goes on without end
abbrev pub endless : Shape
endless = record { size = 0; align = 1; nesting = 65 }

-- a struct without fields, before it is closed
abbrev pub empty_shape : Shape
empty_shape = shape (layout 0 1) 0

abbrev mutual
  -- the shape of a type, where those of the named types are known
  pub shape_of : List Shape → IrType → Shape
  shape_of shapes (One s) = shape (layout (scalar_size s) (scalar_size s)) 0
  shape_of shapes (Array n t) =
      let s = shape_of shapes t in
      shape (layout (n * s.size) s.align) (suc s.nesting)
  shape_of shapes (Struct ts) =
      let s = fields_shape shapes false ts empty_shape in
      shape (padded (layout_of_shape s)) (suc s.nesting)
  shape_of shapes (Packed ts) =
      let s = fields_shape shapes true ts empty_shape in
      shape (layout_of_shape s) (suc s.nesting)
  shape_of shapes (Named k) = unwrap_or (slice_get shapes k) endless

  -- fields behind those that are laid
  pub fields_shape : List Shape → Bool → IrTypes → Shape → Shape
  fields_shape shapes packed none laid = laid
  fields_shape shapes packed (also t ts) laid = fields_shape shapes packed ts (with_field packed laid (shape_of shapes t))

-- the shapes of the named types, where a way through more names than so many counts as endless
abbrev pub shapes_through : List NamedType → ℕ → List Shape
shapes_through types zero = map (λ e. endless) types
shapes_through types (suc n) = map (λ e. shape_of (shapes_through types n) e.ty) types

-- the shapes of the named types: one that nests at most 64 deep goes through at most 64 names
abbrev pub named_shapes : List NamedType → List Shape
named_shapes types = shapes_through types 64

-- the type is larger than 2^32 bytes, or nests deeper than 64
abbrev pub is_past_limits : Shape → Bool
is_past_limits s = nat_lt 4294967296 s.size || nat_lt 64 s.nesting

abbrev pub is_outside : List Shape → IrType → Bool
is_outside shapes t = is_past_limits (shape_of shapes t)

abbrev mutual
  -- the type, and each that is written in it, is within the limits
  pub is_inside : List Shape → IrType → Bool
  is_inside shapes (One s) = not (is_outside shapes (One s))
  is_inside shapes (Named k) = not (is_outside shapes (Named k))
  is_inside shapes (Array n t) = not (is_outside shapes (Array n t)) && is_inside shapes t
  is_inside shapes (Struct ts) = not (is_outside shapes (Struct ts)) && are_inside shapes ts
  is_inside shapes (Packed ts) = not (is_outside shapes (Packed ts)) && are_inside shapes ts

  pub are_inside : List Shape → IrTypes → Bool
  are_inside shapes none = true
  are_inside shapes (also t ts) = is_inside shapes t && are_inside shapes ts

-- Where types stand, as how many tokens are left.

infixl 10 ◌>>>◌
abbrev pub ◌>>>◌ : Result ℕ ℕ → (ℕ → Result ℕ ℕ) → Result ℕ ℕ
(Ok left) >>> f = f left
(Err left) >>> f = Err left

-- so many are left at a type that is outside the limits; else it is gone over
abbrev pub unless_outside : Bool → ℕ → Result ℕ ℕ → Result ℕ ℕ
unless_outside outside left r = if outside then Err left else r

abbrev mutual
  -- how many tokens are left behind a type; or with the first token of the first type in it that is outside the limits
  pub left_behind : List Shape → IrType → ℕ → Result ℕ ℕ
  left_behind shapes (One s) left = unless_outside (is_outside shapes (One s)) left (Ok (left - 1))
  left_behind shapes (Named k) left = unless_outside (is_outside shapes (Named k)) left (Ok (left - 1))
  left_behind shapes (Array n t) left =
      unless_outside (is_outside shapes (Array n t)) left (left_behind shapes t (left - 3) >>> λ l. Ok (l - 1))
  left_behind shapes (Struct ts) left = unless_outside (is_outside shapes (Struct ts)) left (left_behind_fields shapes ts (left - 1))
  left_behind shapes (Packed ts) left =
      unless_outside (is_outside shapes (Packed ts)) left (left_behind_fields shapes ts (left - 2) >>> λ l. Ok (l - 1))

  -- fields with commas between them, and the brace that closes them
  pub left_behind_fields : List Shape → IrTypes → ℕ → Result ℕ ℕ
  left_behind_fields shapes none left = Ok (left - 1)
  left_behind_fields shapes (also t ts) left = left_behind shapes t left >>> λ l. left_behind_more shapes ts (l - 1)

  -- further fields, each with a mark behind it
  pub left_behind_more : List Shape → IrTypes → ℕ → Result ℕ ℕ
  left_behind_more shapes none left = Ok left
  left_behind_more shapes (also t ts) left = left_behind shapes t left >>> λ l. left_behind_more shapes ts (l - 1)
