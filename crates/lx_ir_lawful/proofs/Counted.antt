-- The tables of the first reading number the globals and functions of the module, in order.
use Rattle.std.proofs.Common.{◌≡◌, ℕ, Bool, true, false, List, [], ◌∷◌, ◌++◌, length, map, fold, Some, refl, sym, ap, ◌∙◌, append_assoc}
use Rattle.std.specs.Prelude.{if◌then◌else◌, unwrap_or}
use Rattle.std.specs.List.{AllByRecursion}
use Rattle.std.proofs.lemmas.List.{map-append, append-nil}
use Rattle.lx_ir_tokens.specs.Names.{number_of}
use Rattle.lx_ir_terms.specs.Context.{Context, bytes_of}
use Rattle.lx_ir_statements.specs.declared.form.Statement.{Statement}
use Rattle.lx_ir_statements.specs.declared.form.Statement.TheVariants as statements
use Rattle.lx_ir_statements.specs.Defined.{is_block_write}
use Rattle.lx_ir_tables.specs.Numbering.{Numbering, numbering, with_thing}
use Rattle.lx_ir_read.specs.declared.first.Found.{Found}
use Rattle.lx_ir_read.specs.First.{unknown_context}
use Rattle.lx_ir_read.specs.Tables.{with_global, with_import, with_function, globals_of, functions_of}
use Rattle.lx_ir_lawful.specs.NamedThings.{named_things, AreOnce}
use Rattle.lx_ir_lawful.specs.TokenNames.{IsNamed}
use Rattle.lx_ir_lawful.proofs.Placed.{number_at_place}
use Rattle.lx_ir_lawful.proofs.SymbolThings.{Thing, Other, Global, Import, Function, thing_of, OfThing}
use Rattle.lx_ir_lawful.proofs.Walked.{Parts, parts, with_part, things_of, all_parts}

-- The steps of the tables, by things.

abbrev global_by : Numbering → Thing → Numbering
global_by m Other = m
global_by m (Global n) = with_thing m (Some n)
global_by m (Import n) = m
global_by m (Function n) = m

abbrev import_by : Context → Numbering → Thing → Numbering
import_by c m Other = m
import_by c m (Global n) = m
import_by c m (Import n) = if is_block_write c n then m else with_thing m (Some n)
import_by c m (Function n) = m

abbrev function_by : Numbering → Thing → Numbering
function_by m Other = m
function_by m (Global n) = m
function_by m (Import n) = m
function_by m (Function n) = with_thing m (Some n)

global_is : (m : Numbering) (s : Statement) → with_global m s ≡ global_by m (thing_of s)
global_is m (statements.Type name ty) = refl
global_is m (statements.Global name constant ty init) = refl
global_is m (statements.Import name ret params) = refl
global_is m (statements.Function name ret params blocks) = refl

import_is : (c : Context) (m : Numbering) (s : Statement) → with_import (unknown_context c.names) m s ≡ import_by c m (thing_of s)
import_is c m (statements.Type name ty) = refl
import_is c m (statements.Global name constant ty init) = refl
import_is c m (statements.Import name ret params) = refl
import_is c m (statements.Function name ret params blocks) = refl

function_is : (m : Numbering) (s : Statement) → with_function m s ≡ function_by m (thing_of s)
function_is m (statements.Type name ty) = refl
function_is m (statements.Global name constant ty init) = refl
function_is m (statements.Import name ret params) = refl
function_is m (statements.Function name ret params blocks) = refl

folded : (p : Numbering → Statement → Numbering) (q : Numbering → Thing → Numbering) → ((m : Numbering) (s : Statement) → p m s ≡ q m (thing_of s)) → (fs : List Found) (m : Numbering) → fold (λ t f. p t f.statement) m fs ≡ fold q m (things_of fs)
folded p q step [] m = refl
folded p q step (f ∷ fs) m = ap (λ x. fold (λ t g. p t g.statement) x fs) (step m f.statement) ∙ folded p q step fs (q m (thing_of f.statement))

-- Things with names.

module _ (c : Context) (once : AreOnce c.names) where
  abbrev numbers : List (List ℕ) → Numbering
  numbers said = named_things c.names said

  abbrev HasName : Thing → Type 0
  HasName x = OfThing (IsNamed c.names) x

  one_named : (said : List (List ℕ)) (n : ℕ) → IsNamed c.names n → with_thing (numbers said) (Some n) ≡ numbers (said ++ bytes_of c n ∷ [])
  one_named said n (w, at, is) =
      let it : number_of c.names w ≡ Some n = number_at_place c.names once n w at in
      let here : bytes_of c n ≡ w = ap (λ o. unwrap_or o []) at in
      ap (numbering (length c.names))
      (ap (λ o. map (number_of c.names) said ++ o ∷ []) (sym (ap (number_of c.names) here ∙ it)) ∙ sym (map-append (number_of c.names) said (bytes_of c n ∷ [])))

  either : (b : Bool) (X : Parts → List (List ℕ)) (p q : Parts) → X q ≡ X p → X p ≡ X (if b then p else q)
  either true X p q e = refl
  either false X p q e = sym e

  global_step : (p : Parts) (x : Thing) → HasName x → global_by (numbers p.globals) x ≡ numbers (with_part c p x).globals
  global_step p Other h = refl
  global_step p (Global n) h = one_named p.globals n h
  global_step p (Import n) h = ap numbers (either (is_block_write c n) (λ x. x.globals) p (parts p.globals (p.imports ++ bytes_of c n ∷ []) p.functions) refl)
  global_step p (Function n) h = refl

  import_case : (b : Bool) (p : Parts) (n : ℕ) → IsNamed c.names n → (if b then numbers p.imports else with_thing (numbers p.imports) (Some n)) ≡ numbers (if b then p else parts p.globals (p.imports ++ bytes_of c n ∷ []) p.functions).imports
  import_case true p n h = refl
  import_case false p n h = one_named p.imports n h

  import_step : (p : Parts) (x : Thing) → HasName x → import_by c (numbers p.imports) x ≡ numbers (with_part c p x).imports
  import_step p Other h = refl
  import_step p (Global n) h = refl
  import_step p (Import n) h = import_case (is_block_write c n) p n h
  import_step p (Function n) h = refl

  function_step : (base : List (List ℕ)) (p : Parts) (x : Thing) → HasName x → function_by (numbers (base ++ p.functions)) x ≡ numbers (base ++ (with_part c p x).functions)
  function_step base p Other h = refl
  function_step base p (Global n) h = refl
  function_step base p (Import n) h = ap (λ fs. numbers (base ++ fs)) (either (is_block_write c n) (λ x. x.functions) p (parts p.globals (p.imports ++ bytes_of c n ∷ []) p.functions) refl)
  function_step base p (Function n) h = one_named (base ++ p.functions) n h ∙ ap numbers (append_assoc base p.functions (bytes_of c n ∷ []))

  counted : (q : Numbering → Thing → Numbering) (X : Parts → List (List ℕ)) → ((p : Parts) (x : Thing) → HasName x → q (numbers (X p)) x ≡ numbers (X (with_part c p x))) → (xs : List Thing) (p : Parts) → AllByRecursion (OfThing (IsNamed c.names)) xs
      → fold q (numbers (X p)) xs ≡ numbers (X (fold (with_part c) p xs))
  counted q X step [] p all = refl
  counted q X step (x ∷ xs) p all = ap (λ m. fold q m xs) (step p x all.0) ∙ counted q X step xs (with_part c p x) all.1

  pub globals_counted : (fs : List Found) → AllByRecursion (OfThing (IsNamed c.names)) (things_of fs) → globals_of (length c.names) fs ≡ numbers (all_parts c fs).globals
  globals_counted fs all = folded with_global global_by global_is fs (numbers []) ∙ counted global_by (λ p. p.globals) global_step (things_of fs) (parts [] [] []) all

  pub functions_counted : (fs : List Found) → AllByRecursion (OfThing (IsNamed c.names)) (things_of fs) → functions_of (unknown_context c.names) (length c.names) fs ≡ numbers ((all_parts c fs).imports ++ (all_parts c fs).functions)
  functions_counted fs all =
      let base : List (List ℕ) = (all_parts c fs).imports in
      let first = folded (with_import (unknown_context c.names)) (import_by c) (import_is c) fs (numbers []) ∙ counted (import_by c) (λ p. p.imports) import_step (things_of fs) (parts [] [] []) all in
      ap (λ m. fold (λ t f. with_function t f.statement) m fs) (first ∙ ap numbers (sym (append-nil base)))
      ∙ folded with_function function_by function_is fs (numbers (base ++ [])) ∙ counted function_by (λ p. base ++ p.functions) (function_step base) (things_of fs) (parts [] [] []) all
