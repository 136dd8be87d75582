-- Which tokens the statements of an interface are, and which texts are an interface.
use Rattle.std.specs.Prelude.{◌≡◌, ℕ, ◌≤◌, false, None, List, [], ◌∷◌, ◌++◌, length, codes}
use Rattle.lx_words.specs.declared.token.TokenRule.TheVariants as rules
use Rattle.lx_words.specs.declared.token.Token.{Token}
use Rattle.lx_words.specs.Cuts.{Scans}
use Rattle.lx_annot.specs.declared.interface.Item.{Item}
use Rattle.lx_annot.specs.declared.interface.CapIterator.{CapIterator}
use Rattle.lx_annot.specs.declared.interface.Slot.{Slot}
use Rattle.lx_annot.specs.declared.interface.Field.{Field}
use Rattle.lx_annot.specs.declared.interface.Export.{Export}
use Rattle.lx_annot.specs.declared.interface.Interface.{Interface}
use Rattle.lx_annot.specs.declared.action.Annotation.{Annotation}
use Rattle.lx_annot_expressions.specs.Tokens.{toks_of, most_tokens}
use Rattle.lx_annot_expressions.specs.Reading.{number_of}
use Rattle.lx_annot_expressions.specs.Names.{fresh_of}
use Rattle.lx_annot_expressions.specs.Grammar.{Part, Picks, Is, ◌then◌}
use Rattle.lx_annot_terms.specs.Lists.{Known}
use Rattle.lx_annot_terms.specs.Signatures.{Signature}
use Rattle.lx_annot_terms.specs.ItemReading.{scope_of_items}
use Rattle.lx_annot_terms.specs.Grammar.{IsKnown}
use Rattle.lx_annot_read.specs.declared.head.Version.{Version}
use Rattle.lx_annot_read.specs.declared.head.Version.TheVariants as versions
use Rattle.lx_annot_read.specs.Interfaces.{iterator_names, slot_names, export_names, known_in, is_typed, with_reftype, with_iterator, with_slot, with_field, with_export, empty, struct_of_kind, greatest_index}
use Rattle.lx_annot_laws.specs.Parts.{IsParamName, IsItems, IsSignature, IsAnnotation}

-- What a statement declares.
pub data Statement : Type 0 where
  OfReftype : List ℕ → Statement
  OfIterator : CapIterator → Statement
  OfSlot : Slot → Statement
  OfField : Field → Statement
  OfExport : Export → Statement

-- a word that is none of these names
abbrev pub IsFresh : List (List ℕ) → List ℕ → Part
IsFresh names name = Picks (λ t. fresh_of names t.kind t.bytes) name

-- `(P) { ITEM; .. }`
abbrev pub IsIteratorBody : Known → List Item → Part
IsIteratorBody known items ts =
    (p : List ℕ) × (Is (codes "(") then IsParamName [] p then Is (codes ")") then Is (codes "{") then IsItems (scope_of_items p) known items then Is (codes "}")) ts

-- `: T (T P, ..) CLAUSE ..`
abbrev pub IsCallable : Known → Signature → Annotation → Part
IsCallable known sig a = IsSignature sig then IsAnnotation sig known a

-- the name of a struct behind its `%`, and the number of a field
abbrev pub IsStruct : List ℕ → Part
IsStruct name = Picks (λ t. struct_of_kind t.kind t.bytes) name

abbrev pub IsIndex : ℕ → Part
IsIndex n = Picks (λ t. number_of greatest_index t.kind t.bytes) n

-- `%STRUCT N : SLOT`, a field that is not typed before
abbrev pub IsField : Interface → Field → Part
IsField i f ts = (is_typed i f.name f.index ≡ false) × (IsStruct f.name then IsIndex f.index then Is (codes ":") then IsKnown (slot_names i) f.slot) ts

-- a statement of a text of this version, behind those that declare this interface
abbrev pub IsStatement : Version → Interface → Statement → Part
IsStatement v i (OfReftype name) = Is (codes "reftype") then IsFresh i.reftypes name
IsStatement v i (OfIterator x) = Is (codes "iterator") then IsFresh (iterator_names i) x.name then IsIteratorBody (known_in v i) x.items
IsStatement v i (OfSlot x) = Is (codes "slot") then IsFresh (slot_names i) x.name then IsCallable (known_in v i) (record { ret = x.ret; params = x.params }) x.annotation
IsStatement v i (OfField x) = Is (codes "field") then IsField i x
IsStatement v i (OfExport x) = Is (codes "export") then IsFresh (export_names i) x.name then IsCallable (known_in v i) (record { ret = x.ret; params = x.params }) x.annotation

-- what stands in this line
abbrev pub IsInLine : ℕ → Statement → Type 0
IsInLine line (OfReftype name) = Unit {0}
IsInLine line (OfIterator x) = x.line ≡ line
IsInLine line (OfSlot x) = x.line ≡ line
IsInLine line (OfField x) = x.line ≡ line
IsInLine line (OfExport x) = x.line ≡ line

-- the interface with what a statement declares, at the end of its kind
abbrev pub with_statement : Interface → Statement → Interface
with_statement i (OfReftype name) = with_reftype i name
with_statement i (OfIterator x) = with_iterator i x
with_statement i (OfSlot x) = with_slot i x
with_statement i (OfField x) = with_field i x
with_statement i (OfExport x) = with_export i x

-- These tokens of a text are a statement, of 1,024 tokens at most; it stands in the line of the first.
pub record Stands (text : List ℕ) (v : Version) (i : Interface) (s : Statement) (tokens : List Token) : Type 0 where
  pub first : Token
  pub more : List Token
  pub whole : tokens ≡ first ∷ more
  pub short : length tokens ≤ most_tokens
  pub line : IsInLine first.line s
  pub is : IsStatement v i s (toks_of text tokens)

-- The tokens are statements, which make an interface of the one before.
abbrev pub AreStatements : List ℕ → Version → Interface → List Statement → Interface → List Token → Type 0
AreStatements text v i [] j tokens = (i ≡ j) × (tokens ≡ [])
AreStatements text v i (s ∷ ss) j tokens =
    (front : List Token) × (back : List Token) × Stands text v i s front × AreStatements text v (with_statement i s) ss j back × (tokens ≡ front ++ back)

-- the number of a version
abbrev pub number_of_version : Version → List ℕ
number_of_version versions.One = codes "1"
number_of_version versions.Two = codes "2"

-- `interface 1` or `interface 2`
abbrev pub IsHead : Version → Part
IsHead v = Is (codes "interface") then Is (number_of_version v)

-- The text is this interface: its first line, and its statements.
pub record IsInterface (text : List ℕ) (i : Interface) : Type 0 where
  pub version : Version
  pub tokens : List Token
  pub scans : Scans rules.Interface text tokens None
  pub head : List Token
  pub body : List Token
  pub whole : tokens ≡ head ++ body
  pub begins : IsHead version (toks_of text head)
  pub statements : List Statement
  pub are : AreStatements text version empty statements i body
