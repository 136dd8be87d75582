-- Which interfaces have a text that says them: their names are words and differ, and what they say has tokens in the grammar.
use Rattle.std.specs.Prelude.{◌≡◌, ℕ, ◌<◌, ◌≤◌, true, false, List, [], ◌∷◌, All, length, bytes_eq}
use Rattle.std.specs.List.{IsDistinct}
use Rattle.lx_words.specs.Lexemes.{is_name}
use Rattle.lx_words.specs.declared.token.TokenKind.TheVariants as kinds
use Rattle.lx_annot.specs.declared.interface.Parameter.{Parameter}
use Rattle.lx_annot.specs.declared.interface.CapIterator.{CapIterator}
use Rattle.lx_annot.specs.declared.interface.Slot.{Slot}
use Rattle.lx_annot.specs.declared.interface.Field.{Field}
use Rattle.lx_annot.specs.declared.interface.Export.{Export}
use Rattle.lx_annot.specs.declared.interface.Interface.{Interface}
use Rattle.lx_annot.specs.declared.action.Annotation.{Annotation}
use Rattle.lx_annot.specs.Lawful.{same_field}
use Rattle.lx_annot_expressions.specs.Tokens.{Tok}
use Rattle.lx_annot_expressions.specs.Exprs.{names_of_params}
use Rattle.lx_annot_terms.specs.Lists.{Known}
use Rattle.lx_annot_terms.specs.Signatures.{Signature, is_reserved}
use Rattle.lx_annot_terms.specs.ItemReading.{scope_of_items}
use Rattle.lx_annot_read.specs.declared.head.Version.TheVariants as versions
use Rattle.lx_annot_read.specs.Said.{unquoted}
use Rattle.lx_annot_read.specs.Interfaces.{iterator_names, slot_names, export_names, known_in, greatest_index}
use Rattle.lx_annot_laws.specs.Parts.{IsItems, IsAnnotation}
use Rattle.lx_annot_laws.specs.Says.{IsWord, Told}
use Rattle.lx_cproto_print.specs.Printed.{name_text}

-- a name as the token of a word
abbrev pub word_tok : List ℕ → Tok
word_tok name = record { kind = kinds.Word; bytes = name }

-- A word that may name a parameter.
pub record IsParamWord (name : List ℕ) : Type 0 where
  pub word : IsWord name
  pub free : is_reserved (word_tok name ∷ []) ≡ false

-- Parameters of differing names.
pub record AreSayableParams (params : List Parameter) : Type 0 where
  pub words : All (λ (p : Parameter). IsParamWord p.name) params
  pub differ : IsDistinct bytes_eq (names_of_params params)

-- A slot or an export, where actions may use what is known.
pub record IsSayableCallable (known : Known) (name : List ℕ) (sig : Signature) (a : Annotation) : Type 0 where
  pub word : IsWord name
  pub params : AreSayableParams sig.params
  pub annotation : Told (IsAnnotation sig known a)

-- a slot
abbrev pub IsSayableSlot : Known → Slot → Type 0
IsSayableSlot known x = IsSayableCallable known x.name (record { ret = x.ret; params = x.params }) x.annotation

-- an export, likewise
abbrev pub IsSayableExport : Known → Export → Type 0
IsSayableExport known x = IsSayableCallable known x.name (record { ret = x.ret; params = x.params }) x.annotation

-- An iterator, whose items name a parameter of some name.
pub record IsSayableIterator (known : Known) (x : CapIterator) : Type 0 where
  pub word : IsWord x.name
  pub param : List ℕ
  pub items : Told (IsItems (scope_of_items param) known x.items)

-- A name that may stand behind a `%`: what is printed of it is a name, and says it.
pub record IsStructName (name : List ℕ) : Type 0 where
  pub is : is_name (name_text name) ≡ true
  pub said : unquoted (name_text name) ≡ name

-- A field of a struct, where there are so many slots.
pub record IsSayableField (slots : ℕ) (f : Field) : Type 0 where
  pub struct : IsStructName f.name
  pub index : f.index ≤ greatest_index
  pub slot : f.slot < slots

-- An interface that has a text.
pub record IsSayable (i : Interface) : Type 0 where
  pub reftypes : All IsWord i.reftypes
  pub iterators : All (IsSayableIterator (known_in versions.Two i)) i.iterators
  pub slots : All (IsSayableSlot (known_in versions.Two i)) i.slots
  pub fields : All (IsSayableField (length i.slots)) i.fields
  pub exports : All (IsSayableExport (known_in versions.Two i)) i.exports
  pub reftypes_differ : IsDistinct bytes_eq i.reftypes
  pub iterators_differ : IsDistinct bytes_eq (iterator_names i)
  pub slots_differ : IsDistinct bytes_eq (slot_names i)
  pub fields_differ : IsDistinct same_field i.fields
  pub exports_differ : IsDistinct bytes_eq (export_names i)
