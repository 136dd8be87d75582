-- Which texts are an interface, written as prototypes, and what they mean.
use Rattle.std.specs.Prelude.{◌≡◌, ℕ, ◌≤◌, false, None, List, [], ◌∷◌, ◌++◌, length, codes}
use Rattle.lx_words.specs.declared.token.TokenRule.TheVariants as rules
use Rattle.lx_words.specs.declared.token.Token.{Token}
use Rattle.lx_words.specs.Cuts.{Scans}
use Rattle.lx_annot.specs.declared.expr.Ty.{Ty}
use Rattle.lx_annot.specs.declared.interface.CapIterator.{CapIterator}
use Rattle.lx_annot.specs.declared.interface.Slot.{Slot}
use Rattle.lx_annot.specs.declared.interface.Field.{Field}
use Rattle.lx_annot.specs.declared.interface.Export.{Export}
use Rattle.lx_annot.specs.declared.interface.Interface.{Interface}
use Rattle.lx_annot_expressions.specs.Tokens.{Tok, toks_of, most_tokens}
use Rattle.lx_annot_expressions.specs.Reading.{has}
use Rattle.lx_annot_expressions.specs.Grammar.{Part, Is, ◌then◌}
use Rattle.lx_annot_read.specs.Interfaces.{iterator_names, slot_names, export_names, with_reftype, with_iterator, with_slot, with_field, with_export, empty}
use Rattle.lx_annot_laws.specs.Statements.{IsFresh, IsIteratorBody}
use Rattle.lx_cproto.specs.Types.{is_void}
use Rattle.lx_cproto.specs.Statements.{may_use, begins_struct, struct_type}
use Rattle.lx_annot_laws.specs.PrototypeParts.{Typed, Valued, IsCallable, IsFreshInBoth}

-- A member of a struct: of a type that no annotation speaks of, or one that holds functions.
pub data Member : Type 0 where
  Plain : List ℕ → Member
  Holds : Slot → Member

-- What is declared outside structs.
pub data Declaration : Type 0 where
  OfReftype : List ℕ → Declaration
  OfIterator : CapIterator → Declaration
  OfPrototype : Export → Declaration
  OfStruct : List ℕ → List Member → Declaration

-- Members.

abbrev pub name_of : Member → List ℕ
name_of (Plain name) = name
name_of (Holds s) = s.name

-- the field of this number of a struct, which holds functions of a slot
abbrev pub field_of : List ℕ → ℕ → ℕ → ℕ → Field
field_of struct index slot line = record { name = struct_type struct; index = index; slot = slot; line = line }

-- What the member at this place of a struct means: a slot, and a field of the struct that is typed by it; or nothing but a place.
abbrev pub with_member : List ℕ → ℕ → Interface → Member → Interface
with_member struct index i (Plain name) = i
with_member struct index i (Holds s) = with_field (with_slot i s) (field_of struct index (length (slot_names i)) s.line)

-- a name that is none of these; no bracket is one
abbrev pub IsPlainName : List (List ℕ) → List ℕ → Part
IsPlainName names name ts = (has (codes "(") ts ≡ false) × IsFresh names name ts

-- `(* NAME`, a name that is no member's and no slot's
abbrev pub IsSlotName : Interface → List (List ℕ) → List ℕ → Part
IsSlotName i names name = Is (codes "(") then Is (codes "*") then IsFreshInBoth names (slot_names i) name

-- `TYPE NAME ;` of a type that a value has, or `TYPE (* NAME) ( PARAMS ) CLAUSE .. ;`. The names so far are those of the members before.
abbrev pub IsMember : Interface → List (List ℕ) → Member → Part
IsMember i names (Plain name) = λ ts. (t : Ty) × Valued t (IsPlainName names name then Is (codes ";")) ts
IsMember i names (Holds s) = Typed s.ret (IsSlotName i names s.name then Is (codes ")") then IsCallable (may_use i) (record { ret = s.ret; params = s.params }) s.annotation)

abbrev pub MemberInLine : ℕ → Member → Type 0
MemberInLine line (Plain name) = Unit {0}
MemberInLine line (Holds s) = s.line ≡ line

-- These tokens of a text are a member, of 1,024 tokens at most; it stands in the line of the first.
pub record StandsInside (text : List ℕ) (i : Interface) (names : List (List ℕ)) (m : Member) (tokens : List Token) : Type 0 where
  pub first : Token
  pub more : List Token
  pub whole : tokens ≡ first ∷ more
  pub short : length tokens ≤ most_tokens
  pub line : MemberInLine first.line m
  pub is : IsMember i names m (toks_of text tokens)

-- The tokens are members of a struct, behind those of these names, which make an interface of the one before. The number of a member
-- is that of the members before it.
abbrev pub AreMembers : List ℕ → List ℕ → Interface → List (List ℕ) → List Member → Interface → List Token → Type 0
AreMembers text struct i names [] j tokens = (i ≡ j) × (tokens ≡ [])
AreMembers text struct i names (m ∷ ms) j tokens =
    (front : List Token) × (back : List Token) × StandsInside text i names m front
    × AreMembers text struct (with_member struct (length names) i m) (names ++ name_of m ∷ []) ms j back × (tokens ≡ front ++ back)

-- Declarations.

-- `struct NAME {`, a struct that is not declared before
abbrev pub IsOpening : List (List ℕ) → List ℕ → Part
IsOpening structs name = Is (codes "struct") then IsFresh structs name then Is (codes "{")

-- `} ;`
abbrev pub IsClosing : Part
IsClosing = Is (codes "}") then Is (codes ";")

-- `struct NAME { MEMBER .. } ;`
pub record IsStruct (text : List ℕ) (i : Interface) (structs : List (List ℕ)) (name : List ℕ) (ms : List Member) (j : Interface) (tokens : List Token) : Type 0 where
  pub front : List Token
  pub body : List Token
  pub back : List Token
  pub whole : tokens ≡ front ++ (body ++ back)
  pub opens : IsOpening structs name (toks_of text front)
  pub members : AreMembers text name i [] ms j body
  pub closes : IsClosing (toks_of text back)

-- a declaration of one piece, behind those that declare this interface
abbrev pub IsPlain : Interface → Declaration → Part
IsPlain i (OfReftype name) = Is (codes "reftype") then IsFresh i.reftypes name then Is (codes ";")
IsPlain i (OfIterator x) = Is (codes "iterator") then IsFresh (iterator_names i) x.name then IsIteratorBody (may_use i) x.items
IsPlain i (OfPrototype x) = λ ts. (begins_struct ts ≡ false) × Typed x.ret (IsFresh (export_names i) x.name then IsCallable (may_use i) (record { ret = x.ret; params = x.params }) x.annotation) ts
IsPlain i (OfStruct name ms) = λ ts. ⊥

abbrev pub IsInLine : ℕ → Declaration → Type 0
IsInLine line (OfReftype name) = Unit {0}
IsInLine line (OfIterator x) = x.line ≡ line
IsInLine line (OfPrototype x) = x.line ≡ line
IsInLine line (OfStruct name ms) = Unit {0}

-- what a declaration of one piece means
abbrev pub with_plain : Interface → Declaration → Interface
with_plain i (OfReftype name) = with_reftype i name
with_plain i (OfIterator x) = with_iterator i x
with_plain i (OfPrototype x) = with_export i x
with_plain i (OfStruct name ms) = i

-- These tokens of a text are a declaration of one piece, of 1,024 tokens at most; it stands in the line of the first.
pub record Stands (text : List ℕ) (i : Interface) (d : Declaration) (tokens : List Token) : Type 0 where
  pub first : Token
  pub more : List Token
  pub whole : tokens ≡ first ∷ more
  pub short : length tokens ≤ most_tokens
  pub line : IsInLine first.line d
  pub is : IsPlain i d (toks_of text tokens)

-- The tokens are a declaration, which makes an interface of the one before.
abbrev pub Declares : List ℕ → Interface → List (List ℕ) → Declaration → Interface → List Token → Type 0
Declares text i structs (OfStruct name ms) j tokens = IsStruct text i structs name ms j tokens
Declares text i structs d j tokens = Stands text i d tokens × (j ≡ with_plain i d)

-- the structs that are declared behind a declaration
abbrev pub structs_behind : List (List ℕ) → Declaration → List (List ℕ)
structs_behind structs (OfStruct name ms) = structs ++ name ∷ []
structs_behind structs d = structs

-- The tokens are declarations, one behind the other.
abbrev pub AreDeclarations : List ℕ → Interface → List (List ℕ) → List Declaration → Interface → List Token → Type 0
AreDeclarations text i structs [] j tokens = (i ≡ j) × (tokens ≡ [])
AreDeclarations text i structs (d ∷ ds) j tokens =
    (k : Interface) × (front : List Token) × (back : List Token) × Declares text i structs d k front
    × AreDeclarations text k (structs_behind structs d) ds j back × (tokens ≡ front ++ back)

-- `lxfi_c 1`
abbrev pub IsHead : Part
IsHead = Is (codes "lxfi_c") then Is (codes "1")

-- The text is this interface: its first line, and its declarations.
pub record ArePrototypes (text : List ℕ) (i : Interface) : Type 0 where
  pub tokens : List Token
  pub scans : Scans rules.Prototype text tokens None
  pub head : List Token
  pub body : List Token
  pub whole : tokens ≡ head ++ body
  pub begins : IsHead (toks_of text head)
  pub declarations : List Declaration
  pub are : AreDeclarations text empty [] declarations i body
