-- Reading the lists of capabilities that actions and items name.
use Rattle.std.specs.Prelude.{ℕ, Bool, ◌||◌, List, Ok, Err, if◌then◌else◌, codes}
use Rattle.lx_annot.specs.declared.action.CapSpec.{CapSpec}
use Rattle.lx_annot.specs.declared.action.CapSpec.TheVariants as spec
use Rattle.lx_annot_expressions.specs.declared.fault.FaultKind.TheVariants.{NeedsSize}
use Rattle.lx_annot_terms.specs.declared.lists.Within.{Within}
use Rattle.lx_annot_terms.specs.declared.lists.Within.TheVariants as within
use Rattle.lx_annot_expressions.specs.Tokens.{Tok}
use Rattle.lx_annot_expressions.specs.Reading.{Read, ◌>>=◌, at, refused, behind, has, next_at}
use Rattle.lx_annot_expressions.specs.Names.{known_at}
use Rattle.lx_annot_expressions.specs.Exprs.{Scope, expr_at, bracketed_at}

-- What an action may use: the names of reference types and iterators, and whether it may lend.
pub record Known : Type 0 where
  pub reftypes : List (List ℕ)
  pub iterators : List (List ℕ)
  pub lends : Bool

-- the mark that ends a list, or an item, stands next
abbrev pub ends : Within → List Tok → Bool
ends within.Action ts = has (codes ")") ts
ends within.Iterator ts = has (codes ";") ts || has (codes "}") ts

-- The comma before a size. Where the list ends in its place, the size is missed at the `write`.
abbrev pub size_mark_at : Within → List Tok → List Tok → Read (Unit {0})
size_mark_at place write ts =
    if has (codes ",") ts then Ok (tt, behind ts)
    else if ends place ts then Err (at NeedsSize write)
    else refused ts

-- `E, E`, an address and a size, for a `write` that stands there
abbrev pub range_at : Within → Scope → List Tok → List Tok → Read CapSpec
range_at place scope write ts = do
  a ← expr_at scope ts
  c ← size_mark_at place write a.1
  n ← expr_at scope c.1
  Ok (spec.Write a.0 n.0, n.1)

-- `E`, an address of a function
abbrev pub target_at : Scope → List Tok → Read CapSpec
target_at scope ts = expr_at scope ts >>= λ e. Ok (spec.Call e.0, e.1)

-- `, E`, an address of a reference type
abbrev pub reference_at : ℕ → Scope → List Tok → Read CapSpec
reference_at ty scope ts = do
  c ← next_at (codes ",") ts
  e ← expr_at scope c.1
  Ok (spec.Ref ty e.0, e.1)

-- Behind the word of an action: a comma stands behind `write` and `call`, and the reference type in brackets.

-- `, E, E`
abbrev pub write_at : Scope → List Tok → Read CapSpec
write_at scope ts = do
  c ← next_at (codes ",") (behind ts)
  range_at within.Action scope ts c.1

-- `, E`
abbrev pub call_at : Scope → List Tok → Read CapSpec
call_at scope ts = do
  c ← next_at (codes ",") (behind ts)
  target_at scope c.1

-- `(NAME), E`
abbrev pub ref_at : Scope → Known → List Tok → Read CapSpec
ref_at scope known ts = do
  o ← next_at (codes "(") (behind ts)
  t ← known_at known.reftypes o.1
  c ← next_at (codes ")") t.1
  reference_at t.0 scope c.1

-- `NAME(E)`
abbrev pub each_at : Scope → Known → List Tok → Read CapSpec
each_at scope known ts = do
  k ← known_at known.iterators ts
  e ← bracketed_at (expr_at scope) k.1
  Ok (spec.Each k.0 e.0, e.1)

-- `write, E, E`, `call, E`, `ref(NAME), E` or `NAME(E)`
unfoldable pub list_at : Scope → Known → List Tok → Read CapSpec
list_at scope known ts =
    if has (codes "write") ts then write_at scope ts
    else if has (codes "call") ts then call_at scope ts
    else if has (codes "ref") ts then ref_at scope known ts
    else each_at scope known ts

-- `NAME, E`
abbrev pub ref_item_at : Scope → Known → List Tok → Read CapSpec
ref_item_at scope known ts = do
  t ← known_at known.reftypes (behind ts)
  reference_at t.0 scope t.1

-- what an item names: `write E, E`, `call E` or `ref NAME, E`
unfoldable pub item_list_at : Scope → Known → List Tok → Read CapSpec
item_list_at scope known ts =
    if has (codes "write") ts then range_at within.Iterator scope ts (behind ts)
    else if has (codes "call") ts then target_at scope (behind ts)
    else if has (codes "ref") ts then ref_item_at scope known ts
    else refused ts
