-- Reading and the grammar of types agree.
use Rattle.std.specs.Prelude.{◌≡◌, ℕ, None, List, ◌∷◌, ◌++◌, length, Ok, Err}
use Rattle.lx_ir_tokens.specs.declared.token.Tok.{Tok}
use Rattle.lx_ir.specs.IrType.{IrType}
use Rattle.lx_ir_terms.specs.declared.fault.Fault.{Fault}
use Rattle.lx_ir_terms.specs.Context.{Context}
use Rattle.lx_ir_terms.specs.Reading.{Read, at}
use Rattle.lx_ir_terms.specs.Types.{type_at, written_type_at}
use Rattle.lx_ir_terms.specs.Grammar.{Part, IsType, IsWritten}

-- what is in this part of the grammar is read as `x`, whatever follows
abbrev pub Reads : {A : Type 0} → (List Tok → Read A) → A → Part → Type 0
Reads read x part = (ts us : List Tok) → part ts → read (ts ++ us) ≡ Ok (x, us)

-- what is read stands at the front, and is in the grammar
abbrev pub Finds : {A : Type 0} → (List Tok → Read A) → (A → Part) → Type 0
Finds {A} read part = (ts us : List Tok) (x : A) → read ts ≡ Ok (x, us) → (front : List Tok) × part x front × (ts ≡ front ++ us)

-- the tokens of a type are read as it, whatever follows them
abbrev pub TypesAreRead : Type 0
TypesAreRead = (context : Context) (t : IrType) (depth : ℕ) → Reads (type_at context depth) t (IsType context t depth)

-- what is read as a type are its tokens
abbrev pub TypesAreFound : Type 0
TypesAreFound = (context : Context) (depth : ℕ) → Finds (type_at context depth) (λ t. IsType context t depth)

-- Some tokens, and then one at which reading stops with this fault, whatever follows it. None is left where the fault is that the tokens end
pub record Stops {A : Type 0} (read : List Tok → Read A) (ts : List Tok) (fault : Fault) : Type 0 where
  pub front : List Tok
  pub rest : List Tok
  pub whole : ts ≡ front ++ rest
  pub left : fault.left ≡ length rest
  pub again : (t : Tok) (more us : List Tok) → rest ≡ t ∷ more → read (front ++ t ∷ us) ≡ Err (at fault.kind (t ∷ us))

-- a token at which the reading of a type stops cannot stand there
abbrev pub TypesAreRefused : Type 0
TypesAreRefused = (context : Context) (depth : ℕ) (ts : List Tok) (fault : Fault) → type_at context depth ts ≡ Err fault → Stops (type_at context depth) ts fault

-- the same of types as they are written
abbrev pub WrittenAreRead : Type 0
WrittenAreRead = (context : Context) (t : IrType) → Reads (written_type_at context) t (IsWritten context t)

abbrev pub WrittenAreFound : Type 0
WrittenAreFound = (context : Context) → Finds (written_type_at context) (IsWritten context)

-- and, where no limits are asked, of the token at which their reading stops
abbrev pub WrittenAreRefused : Type 0
WrittenAreRefused = (context : Context) → context.limits ≡ None → (ts : List Tok) (fault : Fault) → written_type_at context ts ≡ Err fault → Stops (written_type_at context) ts fault
