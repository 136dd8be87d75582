-- Reading types.
use Rattle.std.specs.Prelude.{ℕ, zero, suc, min, Bool, false, ◌||◌, Option, Some, None, List, length, Result, Ok, Err, if◌then◌else◌, option_map, pos}
use Rattle.lx_ir_tokens.specs.declared.token.Tok.{Tok}
use Rattle.lx_ir_tokens.specs.declared.token.Kind.{Kind}
use Rattle.lx_ir_tokens.specs.declared.token.Kind.TheVariants as kinds
use Rattle.lx_ir_tokens.specs.declared.token.Mark.TheVariants.{OpenBrace, CloseBrace, OpenBracket, CloseBracket, Less, Greater}
use Rattle.lx_ir_tokens.specs.declared.keyword.ScalarWord.{ScalarWord}
use Rattle.lx_ir_tokens.specs.declared.keyword.ScalarWord.TheVariants as words
use Rattle.lx_ir_tokens.specs.declared.keyword.Keyword.TheVariants as keywords
use Rattle.lx_words.specs.declared.word.Width.{Width}
use Rattle.lx_ir.specs.declared.types.Scalar.{Scalar}
use Rattle.lx_ir.specs.declared.types.Scalar.TheVariants.{Int, Ptr}
use Rattle.lx_ir.specs.IrType.{IrType, One, Array, Struct, Packed, Named}
use Rattle.lx_ir.specs.TypeNodes.{types_of_list}
use Rattle.lx_ir_terms.specs.declared.fault.FaultKind.{FaultKind}
use Rattle.lx_ir_terms.specs.declared.fault.FaultKind.TheVariants.{Statement, OutOfProfile, Unknown}
use Rattle.lx_ir_offsets.specs.Shapes.{Shape, left_behind}
use Rattle.lx_ir_terms.specs.declared.fault.Fault.{Fault}
use Rattle.lx_ir_terms.specs.Context.{Context, type_number}
use Rattle.lx_ir_terms.specs.Reading.{Read, ◌>>=◌, at, refusal, behind, pick_at, is_mark, is_times, has, next_at, mark_at, listed_at}

-- The types of registers and results.

abbrev pub scalar_of : ScalarWord → Scalar
scalar_of (words.Int w) = Int w
scalar_of words.Ptr = Ptr

abbrev pub scalar_in : Kind → Option Scalar
scalar_in (kinds.Word (keywords.Scalar w)) = Some (scalar_of w)
scalar_in _ = None

abbrev pub integer_in : Kind → Option Width
integer_in (kinds.Word (keywords.Scalar (words.Int w))) = Some w
integer_in _ = None

-- a result, which may be `void`
abbrev pub result_in : Kind → Option (Option Scalar)
result_in (kinds.Word (keywords.Scalar w)) = Some (Some (scalar_of w))
result_in (kinds.Word keywords.Void) = Some None
result_in _ = None

-- the mark opens a type
abbrev pub is_opening : Kind → Bool
is_opening k = is_mark OpenBracket k || is_mark OpenBrace k || is_mark Less k

-- how a token is refused where the type of a register has to stand: another type is outside the profile
abbrev pub scalar_refusal : Kind → FaultKind
scalar_refusal kinds.Local = OutOfProfile
scalar_refusal (kinds.Word (keywords.Scalar w)) = OutOfProfile
scalar_refusal (kinds.Word keywords.Void) = OutOfProfile
scalar_refusal k = if is_opening k then OutOfProfile else refusal k

abbrev pub scalar_at : List Tok → Read Scalar
scalar_at ts = pick_at (λ t. scalar_in t.kind) scalar_refusal ts

abbrev pub integer_at : List Tok → Read Width
integer_at ts = pick_at (λ t. integer_in t.kind) scalar_refusal ts

abbrev pub result_at : List Tok → Read (Option Scalar)
result_at ts = pick_at (λ t. result_in t.kind) scalar_refusal ts

-- Numbers that count.

abbrev pub greatest_count : ℕ
greatest_count = 18446744073709551615

-- a number without a sign; one of more than 64 bits is kept as the greatest of them
abbrev pub count_in : Kind → Option ℕ
count_in (kinds.Number (Some (pos n)) false) = Some (min n greatest_count)
count_in (kinds.Number None false) = Some greatest_count
count_in _ = None

abbrev pub always_refused : Kind → FaultKind
always_refused k = Statement

abbrev pub count_at : List Tok → Read ℕ
count_at ts = pick_at (λ t. count_in t.kind) always_refused ts

-- All types.

abbrev pub named_type : Option ℕ → Option IrType
named_type k = option_map Named k

-- a type that is one token
abbrev pub flat_of : Context → Kind → ℕ → Option IrType
flat_of context (kinds.Word (keywords.Scalar w)) name = Some (One (scalar_of w))
flat_of context kinds.Local name = named_type (type_number context name)
flat_of context _ name = None

abbrev pub flat_in : Context → Tok → Option IrType
flat_in context t = flat_of context t.kind t.name

abbrev pub flat_refusal : Kind → FaultKind
flat_refusal kinds.Local = Unknown
flat_refusal k = refusal k

abbrev pub flat_at : Context → List Tok → Read IrType
flat_at context ts = pick_at (flat_in context) flat_refusal ts

-- `N x T ]`, where T is read in this way
abbrev pub array_behind : (List Tok → Read IrType) → List Tok → Read IrType
array_behind item ts = do
  n ← count_at ts
  x ← next_at is_times n.1
  t ← item x.1
  c ← mark_at CloseBracket t.1
  Ok (Array n.0 t.0, c.1)

-- `T, .. }`
abbrev pub struct_behind : (List Tok → Read IrType) → List Tok → Read IrType
struct_behind item ts = do
  fs ← listed_at CloseBrace item ts
  Ok (Struct (types_of_list fs.0), fs.1)

-- `{ T, .. }>`
abbrev pub packed_behind : (List Tok → Read IrType) → List Tok → Read IrType
packed_behind item ts = do
  o ← mark_at OpenBrace ts
  fs ← listed_at CloseBrace item o.1
  c ← mark_at Greater fs.1
  Ok (Packed (types_of_list fs.0), c.1)

-- an array or a struct
abbrev pub nested_at : (List Tok → Read IrType) → List Tok → Read IrType
nested_at item ts =
    if has (is_mark OpenBracket) ts then array_behind item (behind ts)
    else if has (is_mark OpenBrace) ts then struct_behind item (behind ts)
    else packed_behind item (behind ts)

-- a type, with so many nestings left
unfoldable pub type_at : Context → ℕ → List Tok → Read IrType
type_at context zero ts = if has is_opening ts then Err (at OutOfProfile ts) else flat_at context ts
type_at context (suc depth) ts = if has is_opening ts then nested_at (type_at context depth) ts else flat_at context ts

-- how deep types and constants nest at most
abbrev pub depth_limit : ℕ
depth_limit = 64

-- no token, behind a type in which none is outside the limits
abbrev pub unless_outside : Result ℕ ℕ → List Tok → Read (Unit {0})
unless_outside (Ok behind) ts = Ok (tt, ts)
unless_outside (Err left) ts = Err (record { kind = OutOfProfile; left = left })

-- the same behind a type that was written with so many tokens left, where types have to be within the limits
abbrev pub within_at : Option (List Shape) → ℕ → IrType → List Tok → Read (Unit {0})
within_at None left t ts = Ok (tt, ts)
within_at (Some shapes) left t ts = unless_outside (left_behind shapes t left) ts

-- a type as it is written
abbrev pub written_type_at : Context → List Tok → Read IrType
written_type_at context ts = do
  t ← type_at context depth_limit ts
  w ← within_at context.limits (length ts) t.0 t.1
  Ok (t.0, w.1)
