-- Which tokens types are: the grammar, apart from how it is read.
use Rattle.std.specs.Prelude.{◌≡◌, ℕ, zero, suc, Bool, true, Option, Some, None, List, [], ◌∷◌, ◌++◌}
use Rattle.lx_ir_tokens.specs.declared.token.Tok.{Tok}
use Rattle.lx_ir_tokens.specs.declared.token.Kind.{Kind}
use Rattle.lx_ir_tokens.specs.declared.token.Mark.{Mark}
use Rattle.lx_ir_tokens.specs.declared.token.Mark.TheVariants.{Comma, OpenBrace, CloseBrace, OpenBracket, CloseBracket, Less, Greater}
use Rattle.lx_ir.specs.IrType.{IrType, One, Array, Struct, Packed, Named, IrTypes, none, also}
use Rattle.lx_ir_offsets.specs.Shapes.{Shape, is_inside}
use Rattle.lx_ir_terms.specs.Context.{Context}
use Rattle.lx_ir_terms.specs.Reading.{is_mark, is_times}
use Rattle.lx_ir_terms.specs.Types.{count_in, flat_in, depth_limit}

-- which lists of tokens a part of the grammar is
abbrev pub Part : Type 1
Part = List Tok → Type 0

-- one token, from which this is picked
abbrev pub Picks : {A : Type 0} → (Tok → Option A) → A → Part
Picks what x ts = (t : Tok) × (what t ≡ Some x) × (ts ≡ t ∷ [])

-- one token of this kind
abbrev pub Is : (Kind → Bool) → Part
Is p ts = (t : Tok) × (p t.kind ≡ true) × (ts ≡ t ∷ [])

abbrev pub IsMark : Mark → Part
IsMark m = Is (is_mark m)

-- no token
abbrev pub IsNothing : Part
IsNothing ts = ts ≡ []

-- one part, and another behind it
infixr 5 ◌then◌
abbrev pub ◌then◌ : Part → Part → Part
(p then q) ts = (front : List Tok) × (back : List Tok) × p front × q back × (ts ≡ front ++ back)

abbrev mutual
  -- these tokens are this type, which nests at most so deep as it is written
  pub IsType : Context → IrType → ℕ → Part
  IsType context (One s) depth = Picks (flat_in context) (One s)
  IsType context (Named k) depth = Picks (flat_in context) (Named k)
  IsType context (Array n t) zero = λ ts. ⊥
  IsType context (Array n t) (suc depth) =
      IsMark OpenBracket then Picks (λ t. count_in t.kind) n then Is is_times then IsType context t depth then IsMark CloseBracket
  IsType context (Struct ts) zero = λ ts. ⊥
  IsType context (Struct fields) (suc depth) = IsMark OpenBrace then AreTypes context fields depth then IsMark CloseBrace
  IsType context (Packed ts) zero = λ ts. ⊥
  IsType context (Packed fields) (suc depth) =
      IsMark Less then IsMark OpenBrace then (AreTypes context fields depth then IsMark CloseBrace) then IsMark Greater

  -- types with commas between them
  pub AreTypes : Context → IrTypes → ℕ → Part
  AreTypes context none depth = IsNothing
  AreTypes context (also t ts) depth = IsType context t depth then AreMore context ts depth

  -- further types, each behind a comma
  pub AreMore : Context → IrTypes → ℕ → Part
  AreMore context none depth = IsNothing
  AreMore context (also t ts) depth = IsMark Comma then IsType context t depth then AreMore context ts depth

-- the type, and each that is written in it, is within the limits, where there are any
abbrev pub is_inside_limits : Option (List Shape) → IrType → Bool
is_inside_limits None t = true
is_inside_limits (Some shapes) t = is_inside shapes t

-- these tokens are this type as it is written
abbrev pub IsWritten : Context → IrType → Part
IsWritten context t ts = IsType context t depth_limit ts × (is_inside_limits context.limits t ≡ true)
