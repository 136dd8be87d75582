-- A token at which the reading of a part of a text stops cannot stand there, whatever follows it.
use Rattle.std.specs.Prelude.{◌≡◌, ℕ, Bool, true, false, not, List, ◌∷◌, ◌++◌, length, Err, bytes_eq, codes}
use Rattle.lx_words.specs.declared.token.TokenKind.TheVariants as kinds
use Rattle.lx_annot.specs.declared.interface.Interface.{Interface}
use Rattle.lx_annot_expressions.specs.Tokens.{Tok}
use Rattle.lx_annot_expressions.specs.declared.fault.Fault.{Fault}
use Rattle.lx_annot_expressions.specs.declared.fault.FaultKind.{FaultKind}
use Rattle.lx_annot_expressions.specs.declared.fault.FaultKind.TheVariants.{Statement, Unknown, Twice, NeedsSize}
use Rattle.lx_annot_expressions.specs.Reading.{Read, at}
use Rattle.lx_annot_expressions.specs.Exprs.{Scope}
use Rattle.lx_annot_terms.specs.Lists.{Known}
use Rattle.lx_annot_terms.specs.Signatures.{Signature}
use Rattle.lx_annot_terms.specs.Clauses.{clauses_at}
use Rattle.lx_annot_terms.specs.ItemReading.{items_at}
use Rattle.lx_annot_read.specs.declared.head.Version.{Version}
use Rattle.lx_annot_read.specs.Interfaces.{statement_at}

-- The bytes `load64` and `const` are words, as they are in each text: what stands behind them says what they do there.
abbrev pub IsTidy : Tok → Type 0
IsTidy t = (bytes_eq t.bytes (codes "load64") ≡ true → t.kind ≡ kinds.Word) × (bytes_eq t.bytes (codes "const") ≡ true → t.kind ≡ kinds.Word)

-- the faults at a token which cannot stand there: no rule takes it, or it is a name that is not declared
abbrev pub is_refusal : FaultKind → Bool
is_refusal Statement = true
is_refusal Unknown = true
is_refusal Twice = false
is_refusal NeedsSize = false

-- the token is at fault whatever follows it; the name `load64` is not, since before `(` it is no name
abbrev pub is_bound : FaultKind → List ℕ → Bool
is_bound Unknown bytes = not (bytes_eq bytes (codes "load64"))
is_bound kind bytes = true

-- Some tokens, and then one at which reading stops, whatever follows it. None is left where the fault is that the tokens end.
pub record StopsThere {A : Type 0} (read : List Tok → Read A) (ts : List Tok) (fault : Fault) : Type 0 where
  pub front : List Tok
  pub rest : List Tok
  pub whole : ts ≡ front ++ rest
  pub left : fault.left ≡ length rest
  pub again : (t : Tok) (more us : List Tok) → rest ≡ t ∷ more → IsTidy t → is_bound fault.kind t.bytes ≡ true → read (front ++ t ∷ us) ≡ Err (at fault.kind (t ∷ us))

-- a token that cannot stand there is one whatever follows it
abbrev pub IsSteady : {A : Type 0} → (List Tok → Read A) → Type 0
IsSteady read = (ts : List Tok) (fault : Fault) → is_refusal fault.kind ≡ true → read ts ≡ Err fault → StopsThere read ts fault

-- It is so of clauses, of items and of statements.

abbrev pub ClausesAreRefused : Type 0
ClausesAreRefused = (sig : Signature) (known : Known) → IsSteady (clauses_at sig known)

abbrev pub ItemsAreRefused : Type 0
ItemsAreRefused = (scope : Scope) (known : Known) → IsSteady (items_at scope known)

abbrev pub StatementsAreRefused : Type 0
StatementsAreRefused = (v : Version) (line : ℕ) (i : Interface) → IsSteady (statement_at v line i)
