-- A token that cannot stand where it stands, whatever follows it.
use Rattle.std.specs.Prelude.{◌≡◌, true, List, ◌∷◌, ◌++◌, length, Err}
use Rattle.lx_ir_tokens.specs.declared.token.Tok.{Tok}
use Rattle.lx_ir_tokens.specs.declared.token.Mark.TheVariants.{Colon, Exclamation}
use Rattle.lx_ir_terms.specs.declared.fault.Fault.{Fault}
use Rattle.lx_ir_terms.specs.Reading.{Read, at, is_mark, has}

-- Tokens that make the same of a token before them: both are some or none, and begin with `:`, which makes a label of a word, or
-- with `!`, which makes metadata of a comma, both or neither.
pub record BeginAlike (us vs : List Tok) : Type 0 where
  pub some : has (λ k. true) us ≡ has (λ k. true) vs
  pub colon : has (is_mark Colon) us ≡ has (is_mark Colon) vs
  pub bang : has (is_mark Exclamation) us ≡ has (is_mark Exclamation) vs

-- Some tokens, and then one at which reading stops with this fault, whatever follows it that makes the same of it. None is left where
-- the fault is that the tokens end
pub record StopsThere {A : Type 0} (read : List Tok → Read A) (ts : List Tok) (fault : Fault) : Type 0 where
  pub front : List Tok
  pub rest : List Tok
  pub whole : ts ≡ front ++ rest
  pub left : fault.left ≡ length rest
  pub again : (t : Tok) (more us : List Tok) → rest ≡ t ∷ more → BeginAlike more us → read (front ++ t ∷ us) ≡ Err (at fault.kind (t ∷ us))
