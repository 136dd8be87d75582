-- Reading the signature of a slot or an export.
use Rattle.std.specs.Prelude.{ℕ, Bool, ◌||◌, Option, List, [], ◌∷◌, length, Ok, if◌then◌else◌, codes, bytes_eq}
use Rattle.std.specs.Map.{lookup}
use Rattle.lx_annot.specs.declared.expr.Ty.{Ty}
use Rattle.lx_annot.specs.declared.expr.Ty.TheVariants as ty
use Rattle.lx_annot.specs.declared.interface.Parameter.{Parameter}
use Rattle.lx_annot_expressions.specs.Tokens.{Tok}
use Rattle.lx_annot_expressions.specs.Reading.{Read, ◌>>=◌, refused, behind, has, next_at, pick_at, always_refused, steps_at, adding_at}
use Rattle.lx_annot_expressions.specs.Names.{fresh_at}
use Rattle.lx_annot_expressions.specs.Exprs.{names_of_params}

-- the words of types
abbrev pub types : List (List ℕ × Ty)
types =
    (codes "void", ty.Void)
    ∷ (codes "bool", ty.Bool)
    ∷ (codes "i8", ty.I8)
    ∷ (codes "u8", ty.U8)
    ∷ (codes "i16", ty.I16)
    ∷ (codes "u16", ty.U16)
    ∷ (codes "i32", ty.I32)
    ∷ (codes "u32", ty.U32)
    ∷ (codes "i64", ty.I64)
    ∷ (codes "ptr", ty.Ptr)
    ∷ []

-- the type that a word stands for
unfoldable pub type_of : List ℕ → Option Ty
type_of bytes = lookup (bytes_eq bytes) types

-- a type
abbrev pub type_at : List Tok → Read Ty
type_at ts = pick_at (λ t. type_of t.bytes) always_refused ts

-- the words that name no parameter
abbrev pub is_reserved : List Tok → Bool
is_reserved ts = has (codes "return") ts || has (codes "shared") ts || has (codes "global") ts

-- a name for a parameter beside those of these names
abbrev pub param_name_at : List (List ℕ) → List Tok → Read (List ℕ)
param_name_at names ts = if is_reserved ts then refused ts else fresh_at names ts

-- `T P`, a parameter behind others
abbrev pub param_behind : List Parameter → List Tok → Read Parameter
param_behind before ts = do
  t ← type_at ts
  p ← param_name_at (names_of_params before) t.1
  Ok (record { name = p.0; ty = t.0 }, p.1)

-- one parameter or more, with commas between them
unfoldable pub some_params_at : List Tok → Read (List Parameter)
some_params_at ts = do
  p ← param_behind [] ts
  steps_at (has (codes ",")) (adding_at param_behind) (length p.1) (p.0 ∷ []) p.1

-- parameters up to the bracket that closes them
abbrev pub closed_params_at : List Tok → Read (List Parameter)
closed_params_at ts = do
  ps ← some_params_at ts
  c ← next_at (codes ")") ps.1
  Ok (ps.0, c.1)

-- `)`, or parameters and `)`
abbrev pub params_behind : List Tok → Read (List Parameter)
params_behind ts = if has (codes ")") ts then Ok ([], behind ts) else closed_params_at ts

-- What a slot or an export takes and gives.
pub record Signature : Type 0 where
  pub ret : Ty
  pub params : List Parameter

-- `: T (T P, ..)`
unfoldable pub signature_at : List Tok → Read Signature
signature_at ts = do
  c ← next_at (codes ":") ts
  t ← type_at c.1
  o ← next_at (codes "(") t.1
  ps ← params_behind o.1
  Ok (record { ret = t.0; params = ps.0 }, ps.1)
