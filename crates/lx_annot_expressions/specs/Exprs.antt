-- Reading expressions. At each level stand operands of the next tighter level, joined from the left by the level's operators.
use Rattle.std.specs.Prelude.{ℕ, zero, suc, Bool, true, ◌&&◌, Option, Some, None, List, [], ◌∷◌, length, Ok, if◌then◌else◌, codes, bytes_eq, map, slice_get, option_map}
use Rattle.lx_words.specs.declared.token.TokenKind.{TokenKind}
use Rattle.lx_words.specs.declared.token.TokenKind.TheVariants as kinds
use Rattle.lx_annot.specs.declared.expr.Ty.{Ty}
use Rattle.lx_annot.specs.declared.expr.Mark.{Mark}
use Rattle.lx_annot.specs.declared.interface.Parameter.{Parameter}
use Rattle.lx_annot.specs.Expr.{Expr, Number, Param, Return, Load64, Unary, Binary}
use Rattle.lx_annot_expressions.specs.declared.fault.FaultKind.TheVariants.{Unknown}
use Rattle.lx_annot_expressions.specs.Tokens.{Tok}
use Rattle.lx_annot_expressions.specs.Reading.{Read, ◌>>=◌, refused, behind, pick_at, has, next_at, number_of, unless_word}
use Rattle.lx_annot_expressions.specs.Names.{number_among}
use Rattle.lx_annot_expressions.specs.Operators.{operator_next, prefix_next, levels}

-- What names mean in an expression: the parameters, and the type of `return` where that may stand.
pub record Scope : Type 0 where
  pub params : List Parameter
  pub ret : Option Ty

abbrev pub greatest_number : ℕ
greatest_number = 9223372036854775807

-- the parameter at this place
abbrev pub param_at : List Parameter → Option ℕ → Option Expr
param_at params None = None
param_at params (Some k) = option_map (λ (p : Parameter). Param k p.ty) (slice_get params k)

abbrev pub names_of_params : List Parameter → List (List ℕ)
names_of_params params = map (λ (p : Parameter). p.name) params

-- the place of the parameter of this name
abbrev pub place_of : List Parameter → List ℕ → Option ℕ
place_of params name = number_among (names_of_params params) name

-- what a name means in an expression
abbrev pub named : Scope → List ℕ → Option Expr
named scope name = if bytes_eq name (codes "return") then option_map Return scope.ret else param_at scope.params (place_of scope.params name)

-- an expression that is one token
abbrev pub flat_of : Scope → TokenKind → List ℕ → Option Expr
flat_of scope kinds.Number bytes = option_map Number (number_of greatest_number kinds.Number bytes)
flat_of scope kinds.Word bytes = named scope bytes
flat_of scope _ bytes = None

abbrev pub flat_at : Scope → List Tok → Read Expr
flat_at scope ts = pick_at (λ t. flat_of scope t.kind t.bytes) (unless_word Unknown) ts

-- `(E)`
abbrev pub bracketed_at : (List Tok → Read Expr) → List Tok → Read Expr
bracketed_at expr ts = do
  o ← next_at (codes "(") ts
  e ← expr o.1
  c ← next_at (codes ")") e.1
  Ok (e.0, c.1)

-- nothing stands there, or a bracket does
abbrev pub may_open : List Tok → Bool
may_open [] = true
may_open (t ∷ ts) = has (codes "(") (t ∷ ts)

-- `load64` before `(` is always a load; as the last token it still may be one
abbrev pub begins_load : List Tok → Bool
begins_load ts = has (codes "load64") ts && may_open (behind ts)

abbrev pub load_at : (List Tok → Read Expr) → List Tok → Read Expr
load_at expr ts = bracketed_at expr (behind ts) >>= λ e. Ok (Load64 e.0, e.1)

-- an operand without operator
abbrev pub primary_at : Scope → (List Tok → Read Expr) → List Tok → Read Expr
primary_at scope expr ts =
    if begins_load ts then load_at expr ts
    else if has (codes "(") ts then bracketed_at expr ts
    else flat_at scope ts

abbrev pub chain_by : (List Tok → Read Expr) → (Expr → List Tok → Read Expr) → Option Mark → Expr → List Tok → Read Expr
chain_by operand more None left ts = Ok (left, ts)
chain_by operand more (Some m) left ts = operand (behind ts) >>= λ b. more (Binary m left b.0) b.1

-- operands behind a first one, each behind an operator of this level, joined from the left; the number is at least that of the tokens
unfoldable pub chain_at : (List Tok → Read Expr) → ℕ → ℕ → Expr → List Tok → Read Expr
chain_at operand level zero left ts = Ok (left, ts)
chain_at operand level (suc n) left ts = chain_by operand (chain_at operand level n) (operator_next level ts) left ts

-- one operand or more
abbrev pub joined_at : (List Tok → Read Expr) → ℕ → List Tok → Read Expr
joined_at operand level ts = do
  a ← operand ts
  chain_at operand level (length a.1) a.0 a.1

-- an expression of this many levels of operators, where operands without such are read so
unfoldable pub level_at : (List Tok → Read Expr) → ℕ → List Tok → Read Expr
level_at operand zero ts = operand ts
level_at operand (suc level) ts = joined_at (level_at operand level) level ts

abbrev pub operand_by : (List Tok → Read Expr) → (List Tok → Read Expr) → Option Mark → List Tok → Read Expr
operand_by inner primary None ts = primary ts
operand_by inner primary (Some m) ts = inner (behind ts) >>= λ x. Ok (Unary m x.0, x.1)

-- An operand: operators with one side, and a primary. The number is at least that of the tokens.
unfoldable pub operand_at : Scope → ℕ → List Tok → Read Expr
operand_at scope zero ts = refused ts
operand_at scope (suc n) ts =
    operand_by (operand_at scope n) (primary_at scope (level_at (operand_at scope n) levels)) (prefix_next ts) ts

-- an expression
unfoldable pub expr_at : Scope → List Tok → Read Expr
expr_at scope ts = level_at (operand_at scope (length ts)) levels ts
