-- The printed text of each part of an interface says that part, where it was read.
use Rattle.std.specs.Prelude.{◌≡◌, ℕ, false, List, [], ◌∷◌, All, bytes_eq, codes}
use Rattle.std.specs.List.{IsDistinct}
use Rattle.lx_words.specs.declared.token.TokenKind.TheVariants as kinds
use Rattle.lx_annot.specs.Expr.{Expr}
use Rattle.lx_annot.specs.Action.{Action}
use Rattle.lx_annot.specs.declared.action.Annotation.{Annotation}
use Rattle.lx_annot.specs.declared.interface.Item.{Item}
use Rattle.lx_annot.specs.declared.interface.Parameter.{Parameter}
use Rattle.lx_annot.specs.declared.interface.Interface.{Interface}
use Rattle.lx_annot_expressions.specs.Tokens.{Tok}
use Rattle.lx_annot_expressions.specs.Exprs.{Scope, names_of_params}
use Rattle.lx_annot_expressions.specs.Grammar.{IsExpr}
use Rattle.lx_annot_terms.specs.Signatures.{Signature, is_reserved}
use Rattle.lx_annot_terms.specs.ItemReading.{scope_of_items}
use Rattle.lx_annot_terms.specs.Grammar.{IsAction}
use Rattle.lx_annot_read.specs.declared.head.Version.{Version}
use Rattle.lx_annot_read.specs.Interfaces.{known_in}
use Rattle.lx_annot_laws.specs.Parts.{IsParams, IsItems, IsAnnotation}
use Rattle.lx_cproto_print.specs.Printed.{expr_text, action_text, items_text, params_text, clauses_text}
use Rattle.lx_annot_laws.specs.Says.{tok, IsWord, AreLexed, Says}

-- no parameter has a name that the language keeps for itself
abbrev pub AreFree : List Parameter → Type 0
AreFree params = All (λ (p : Parameter). is_reserved (tok kinds.Word p.name ∷ []) ≡ false) params

-- an expression, in the scope that it was read in
abbrev pub ExprsArePrinted : Type 0
ExprsArePrinted = (scope : Scope) (e : Expr) (ts : List Tok) → AreLexed ts → IsExpr scope e ts → Says (expr_text scope.params e) (IsExpr scope e)

-- an action, which uses names of the interface
abbrev pub ActionsArePrinted : Type 0
ActionsArePrinted =
    (v : Version) (i : Interface) (scope : Scope) (a : Action) (ts : List Tok) → AreLexed ts → IsAction scope (known_in v i) a ts → Says (action_text i scope.params a) (IsAction scope (known_in v i) a)

-- the items of an iterator, whose parameter is printed as `p`
abbrev pub ItemsArePrinted : Type 0
ItemsArePrinted =
    (v : Version) (i : Interface) (q : List ℕ) (xs : List Item) (ts : List Tok) → AreLexed ts → IsItems (scope_of_items q) (known_in v i) xs ts → Says (items_text i xs) (IsItems (scope_of_items (codes "p")) (known_in v i) xs)

-- the clauses of a slot or an export
abbrev pub AnnotationsArePrinted : Type 0
AnnotationsArePrinted =
    (v : Version) (i : Interface) (sig : Signature) → AreFree sig.params → (a : Annotation) (ts : List Tok) → AreLexed ts → IsAnnotation sig (known_in v i) a ts → Says (clauses_text i sig.params a) (IsAnnotation sig (known_in v i) a)

-- parameters whose names are words that differ
abbrev pub ParamsArePrinted : Type 0
ParamsArePrinted = (ps : List Parameter) → All (λ (p : Parameter). IsWord p.name) ps → AreFree ps → IsDistinct bytes_eq (names_of_params ps) → Says (params_text ps) (IsParams ps)
