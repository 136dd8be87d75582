-- What is said stays so where more is declared.
use Rattle.std.specs.Prelude.{List}
use Rattle.lx_annot.specs.declared.action.Annotation.{Annotation}
use Rattle.lx_annot.specs.declared.interface.Item.{Item}
use Rattle.lx_annot_expressions.specs.Tokens.{Tok}
use Rattle.lx_annot_expressions.specs.Exprs.{Scope}
use Rattle.lx_annot_terms.specs.Lists.{Known}
use Rattle.lx_annot_terms.specs.Signatures.{Signature}
use Rattle.lx_annot_laws.specs.Parts.{IsItems, IsAnnotation}
use Rattle.lx_annot_laws.specs.Grows.{Grows}

-- the tokens of items are these items where more may be used
abbrev pub ItemsGrow : Type 0
ItemsGrow = (a b : Known) (scope : Scope) (xs : List Item) (ts : List Tok) → Grows a b → IsItems scope a xs ts → IsItems scope b xs ts

-- so are those of an annotation
abbrev pub AnnotationsGrow : Type 0
AnnotationsGrow = (a b : Known) (sig : Signature) (x : Annotation) (ts : List Tok) → Grows a b → IsAnnotation sig a x ts → IsAnnotation sig b x ts
