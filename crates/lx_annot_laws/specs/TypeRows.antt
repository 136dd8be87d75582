-- Worked rows of types: each base, with its value's type; `const` and `*`; where a type ends; and what is none.
use Rattle.std.specs.Prelude.{◌≡◌, ℕ, List, [], ◌∷◌, ◌++◌, Ok, Err, codes, map}
use Rattle.lx_words.specs.declared.token.TokenKind.TheVariants as kinds
use Rattle.lx_annot.specs.declared.expr.Ty.{Ty}
use Rattle.lx_annot.specs.declared.expr.Ty.TheVariants as ty
use Rattle.lx_annot_expressions.specs.declared.fault.FaultKind.TheVariants.{Statement}
use Rattle.lx_annot_expressions.specs.Tokens.{Tok}
use Rattle.lx_annot_expressions.specs.Reading.{Read}
use Rattle.lx_cproto.specs.Types.{type_at, value_type_at}

abbrev pub word : List ℕ → Tok
word bytes = record { kind = kinds.Word; bytes = bytes }

abbrev pub star : Tok
star = record { kind = kinds.Mark; bytes = codes "*" }

abbrev pub const : Tok
const = word (codes "const")

abbrev pub name : Tok
name = word (codes "x")

-- the tokens are a type before a name
abbrev pub IsType : List Tok → Ty → Type 0
IsType ts t = type_at (ts ++ name ∷ []) ≡ Ok (t, name ∷ [])

-- these words are a type, and with a `*` behind them a pointer
abbrev pub IsBase : List (List ℕ) → Ty → Type 0
IsBase words t = IsType (map word words) t × IsType (map word words ++ star ∷ []) ty.Ptr

-- what is met is the token that so many tokens stand from the end on
abbrev pub Refuses : {A : Type 0} → Read A → ℕ → Type 0
Refuses read left = read ≡ Err (record { kind = Statement; left = left })

pub record WorkedTypes : Type 0 where
  pub void : IsBase (codes "void" ∷ []) ty.Void
  pub bool : IsBase (codes "bool" ∷ []) ty.Bool
  pub c_bool : IsBase (codes "_Bool" ∷ []) ty.Bool
  pub char : IsBase (codes "char" ∷ []) ty.I8
  pub signed_char : IsBase (codes "signed" ∷ codes "char" ∷ []) ty.I8
  pub unsigned_char : IsBase (codes "unsigned" ∷ codes "char" ∷ []) ty.U8
  pub short : IsBase (codes "short" ∷ []) ty.I16
  pub unsigned_short : IsBase (codes "unsigned" ∷ codes "short" ∷ []) ty.U16
  pub int : IsBase (codes "int" ∷ []) ty.I32
  pub unsigned : IsBase (codes "unsigned" ∷ []) ty.U32
  pub unsigned_int : IsBase (codes "unsigned" ∷ codes "int" ∷ []) ty.U32
  pub long : IsBase (codes "long" ∷ []) ty.I64
  pub unsigned_long : IsBase (codes "unsigned" ∷ codes "long" ∷ []) ty.I64
  pub long_long : IsBase (codes "long" ∷ codes "long" ∷ []) ty.I64
  pub unsigned_long_long : IsBase (codes "unsigned" ∷ codes "long" ∷ codes "long" ∷ []) ty.I64
  pub size : IsBase (codes "size_t" ∷ []) ty.I64
  -- a struct is a type behind a `*` alone
  pub struct : IsType (word (codes "struct") ∷ word (codes "file") ∷ star ∷ []) ty.Ptr
  pub no_struct : Refuses (type_at (word (codes "struct") ∷ word (codes "file") ∷ name ∷ [])) 1
  pub nameless_struct : Refuses (type_at (word (codes "struct") ∷ star ∷ name ∷ [])) 2
  -- `const` says nothing, wherever it stands
  pub const_before : IsType (const ∷ word (codes "int") ∷ []) ty.I32
  pub const_inside : IsType (word (codes "unsigned") ∷ const ∷ word (codes "long") ∷ const ∷ word (codes "long") ∷ const ∷ []) ty.I64
  pub const_pointer : IsType (const ∷ word (codes "char") ∷ const ∷ star ∷ const ∷ star ∷ const ∷ []) ty.Ptr
  pub const_struct : IsType (const ∷ word (codes "struct") ∷ const ∷ word (codes "file") ∷ const ∷ star ∷ []) ty.Ptr
  pub const_alone : Refuses (type_at (const ∷ star ∷ [])) 1
  -- a type is as long as it can be, and no longer
  pub long_behind_int : type_at (word (codes "int") ∷ word (codes "long") ∷ []) ≡ Ok (ty.I32, word (codes "long") ∷ [])
  pub third_long : type_at (word (codes "long") ∷ word (codes "long") ∷ word (codes "long") ∷ []) ≡ Ok (ty.I64, word (codes "long") ∷ [])
  pub int_behind_long : type_at (word (codes "long") ∷ word (codes "int") ∷ []) ≡ Ok (ty.I64, word (codes "int") ∷ [])
  pub word_behind_star : type_at (word (codes "long") ∷ star ∷ word (codes "long") ∷ []) ≡ Ok (ty.Ptr, word (codes "long") ∷ [])
  -- what is no type
  pub signed_alone : Refuses (type_at (word (codes "signed") ∷ name ∷ [])) 1
  pub signed_int : Refuses (type_at (word (codes "signed") ∷ word (codes "int") ∷ [])) 1
  pub other_word : Refuses (type_at (word (codes "float") ∷ name ∷ [])) 2
  pub nothing : Refuses (type_at []) 0
  -- no value is `void`, whatever stands before and behind it
  pub void_value : Refuses (value_type_at (const ∷ word (codes "void") ∷ const ∷ name ∷ [])) 1
  pub void_pointer : value_type_at (word (codes "void") ∷ star ∷ name ∷ []) ≡ Ok (ty.Ptr, name ∷ [])
