-- Reading and the grammar agree.
use Rattle.std.specs.Prelude.{◌≡◌, ℕ, false, List, ◌++◌, Ok, codes}
use Rattle.lx_annot.specs.declared.action.Annotation.{Annotation}
use Rattle.lx_annot.specs.declared.interface.Item.{Item}
use Rattle.lx_annot.specs.declared.interface.Interface.{Interface}
use Rattle.lx_annot_expressions.specs.Tokens.{Tok}
use Rattle.lx_annot_expressions.specs.Reading.{has}
use Rattle.lx_annot_expressions.specs.Exprs.{Scope}
use Rattle.lx_annot_expressions.specs.Laws.{Reads, ReadsBefore, Finds}
use Rattle.lx_annot_terms.specs.Lists.{Known}
use Rattle.lx_annot_terms.specs.Signatures.{Signature, signature_at}
use Rattle.lx_annot_terms.specs.Clauses.{begins_clause, clauses_at}
use Rattle.lx_annot_terms.specs.ItemReading.{items_at}
use Rattle.lx_annot_read.specs.declared.fault.InterfaceFault.{InterfaceFault}
use Rattle.lx_annot_read.specs.declared.head.Version.{Version}
use Rattle.lx_annot_read.specs.Interfaces.{statement_at}
use Rattle.lx_annot_read.specs.Texts.{SaysInterface, FirstInterfaceFault}
use Rattle.lx_annot_laws.specs.Parts.{IsSignature, IsItems, IsAnnotation}
use Rattle.lx_annot_laws.specs.Statements.{Statement, IsStatement, IsInLine, with_statement, IsInterface}

-- The tokens of a signature are read as it, whatever follows; those of items where `}` follows.
abbrev pub SignaturesAreRead : Type 0
SignaturesAreRead = (sig : Signature) → Reads signature_at sig (IsSignature sig)

abbrev pub ItemsAreRead : Type 0
ItemsAreRead = (scope : Scope) (known : Known) (items : List Item) → ReadsBefore (has (codes "}")) (items_at scope known) items (IsItems scope known items)

-- The tokens of an annotation or a statement are read as it, where no further clause follows.
abbrev pub AnnotationsAreRead : Type 0
AnnotationsAreRead =
    (sig : Signature) (known : Known) (a : Annotation) (ts us : List Tok) → begins_clause us ≡ false → IsAnnotation sig known a ts → clauses_at sig known (ts ++ us) ≡ Ok (a, us)

abbrev pub StatementsAreRead : Type 0
StatementsAreRead =
    (v : Version) (line : ℕ) (i : Interface) (s : Statement) (ts us : List Tok) → begins_clause us ≡ false → IsInLine line s → IsStatement v i s ts → statement_at v line i (ts ++ us) ≡ Ok (with_statement i s, us)

-- What is read as a signature, as items or as an annotation are its tokens.
abbrev pub SignaturesAreFound : Type 0
SignaturesAreFound = Finds signature_at IsSignature

abbrev pub ItemsAreFound : Type 0
ItemsAreFound = (scope : Scope) (known : Known) → Finds (items_at scope known) (IsItems scope known)

abbrev pub AnnotationsAreFound : Type 0
AnnotationsAreFound = (sig : Signature) (known : Known) → Finds (clauses_at sig known) (IsAnnotation sig known)

-- What is read as a statement are the tokens of one that stands in this line.
abbrev pub StatementsAreFound : Type 0
StatementsAreFound =
    (v : Version) (line : ℕ) (i j : Interface) (ts us : List Tok) → statement_at v line i ts ≡ Ok (j, us) → (s : Statement) × IsInLine line s × (j ≡ with_statement i s) × (front : List Tok) × IsStatement v i s front × (ts ≡ front ++ us)

-- A text that is an interface is read as it, and what is read of a text is an interface that it is.
abbrev pub InterfacesAreRead : Type 0
InterfacesAreRead = (text : List ℕ) (i : Interface) → IsInterface text i → SaysInterface text i

abbrev pub InterfacesAreFound : Type 0
InterfacesAreFound = (text : List ℕ) (i : Interface) → SaysInterface text i → IsInterface text i

-- a text is at most one interface
abbrev pub OneInterface : Type 0
OneInterface = (text : List ℕ) (i j : Interface) → IsInterface text i → IsInterface text j → i ≡ j

-- a text has at most one first fault
abbrev pub OneFault : Type 0
OneFault = (text : List ℕ) (e f : InterfaceFault) → FirstInterfaceFault text e → FirstInterfaceFault text f → e ≡ f

-- and no text that is an interface has a fault
abbrev pub NotBoth : Type 0
NotBoth = (text : List ℕ) (i : Interface) (f : InterfaceFault) → IsInterface text i → FirstInterfaceFault text f → ⊥
