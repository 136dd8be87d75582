-- Which tokens parameters, prototypes and members are: the grammar, apart from how it is read.
use Rattle.std.specs.Prelude.{◌≡◌, ℕ, false, None, List, [], ◌∷◌, ◌++◌, Ok, codes}
use Rattle.lx_annot.specs.declared.expr.Ty.{Ty}
use Rattle.lx_annot.specs.declared.action.Annotation.{Annotation}
use Rattle.lx_annot.specs.declared.interface.Parameter.{Parameter}
use Rattle.lx_annot_expressions.specs.Tokens.{Tok}
use Rattle.lx_annot_expressions.specs.Names.{fresh_of, number_among}
use Rattle.lx_annot_expressions.specs.Exprs.{names_of_params}
use Rattle.lx_annot_expressions.specs.Grammar.{Part, Picks, Is, ◌then◌}
use Rattle.lx_annot_terms.specs.Lists.{Known}
use Rattle.lx_annot_terms.specs.Signatures.{Signature}
use Rattle.lx_annot_laws.specs.Parts.{IsFurther, IsParamName, IsAnnotation}
use Rattle.lx_annot_laws.specs.Statements.{IsFresh}
use Rattle.lx_cproto.specs.Types.{type_at, is_void}

-- The tokens begin with this type, and those behind it are this part.
abbrev pub Typed : Ty → Part → Part
Typed t part ts = (rest : List Tok) × (type_at ts ≡ Ok (t, rest)) × part rest

-- the same, where the type is that of a value
abbrev pub Valued : Ty → Part → Part
Valued t part ts = (is_void t ≡ false) × Typed t part ts

-- `TYPE NAME`
abbrev pub IsParam : List Parameter → Parameter → Part
IsParam before p = Valued p.ty (IsParamName (names_of_params before) p.name)

-- `void`, or `TYPE NAME, ..`
abbrev pub IsParams : List Parameter → Part
IsParams [] = Is (codes "void")
IsParams (p ∷ ps) = IsParam [] p then IsFurther (codes ",") IsParam (p ∷ []) ps

-- `( PARAMS )`
abbrev pub AreEnclosed : List Parameter → Part
AreEnclosed ps = Is (codes "(") then IsParams ps then Is (codes ")")

-- `( PARAMS ) CLAUSE .. ;`
abbrev pub IsCallable : Known → Signature → Annotation → Part
IsCallable known sig a = AreEnclosed sig.params then IsAnnotation sig known a then Is (codes ";")

-- a word that is none of these names, nor of those
abbrev pub IsFreshInBoth : List (List ℕ) → List (List ℕ) → List ℕ → Part
IsFreshInBoth names others name ts = (number_among others name ≡ None) × IsFresh names name ts
