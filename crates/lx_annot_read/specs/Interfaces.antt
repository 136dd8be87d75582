-- Reading interfaces, statement by statement.
use Rattle.std.specs.Prelude.{ℕ, ◌==◌, Bool, ◌&&◌, Option, Some, None, List, [], ◌∷◌, ◌++◌, map, Ok, Err, if◌then◌else◌, codes, bytes_eq}
use Rattle.std.specs.List.{list_any}
use Rattle.lx_words.specs.declared.token.TokenKind.{TokenKind}
use Rattle.lx_words.specs.declared.token.TokenKind.TheVariants as kinds
use Rattle.lx_annot.specs.declared.interface.Item.{Item}
use Rattle.lx_annot.specs.declared.interface.CapIterator.{CapIterator}
use Rattle.lx_annot.specs.declared.interface.Slot.{Slot}
use Rattle.lx_annot.specs.declared.interface.Field.{Field}
use Rattle.lx_annot.specs.declared.interface.Export.{Export}
use Rattle.lx_annot.specs.declared.interface.Interface.{Interface}
use Rattle.lx_annot_expressions.specs.declared.fault.FaultKind.TheVariants.{Twice}
use Rattle.lx_annot_expressions.specs.Tokens.{Tok}
use Rattle.lx_annot_expressions.specs.Reading.{Read, ◌>>=◌, at, refused, behind, pick_at, always_refused, has, next_at, number_at}
use Rattle.lx_annot_expressions.specs.Names.{known_at, fresh_at}
use Rattle.lx_annot_terms.specs.Lists.{Known}
use Rattle.lx_annot_terms.specs.Signatures.{signature_at, param_name_at}
use Rattle.lx_annot_terms.specs.Clauses.{clauses_at}
use Rattle.lx_annot_terms.specs.ItemReading.{scope_of_items, items_at}
use Rattle.lx_annot_read.specs.declared.draft.Callable.{Callable}
use Rattle.lx_annot_read.specs.declared.head.Version.{Version}
use Rattle.lx_annot_read.specs.Head.{may_lend}
use Rattle.lx_annot_read.specs.Said.{struct_of}

-- Names that are declared so far.

abbrev pub iterator_names : Interface → List (List ℕ)
iterator_names i = map (λ (x : CapIterator). x.name) i.iterators

abbrev pub slot_names : Interface → List (List ℕ)
slot_names i = map (λ (x : Slot). x.name) i.slots

abbrev pub export_names : Interface → List (List ℕ)
export_names i = map (λ (x : Export). x.name) i.exports

-- what actions may use behind these statements
abbrev pub known_in : Version → Interface → Known
known_in version i = record { reftypes = i.reftypes; iterators = iterator_names i; lends = may_lend version }

-- the field of this number of a struct
abbrev pub is_field : List ℕ → ℕ → Field → Bool
is_field struct index f = f.index == index && bytes_eq f.name struct

-- a field of a struct that is typed
abbrev pub is_typed : Interface → List ℕ → ℕ → Bool
is_typed i struct index = list_any (is_field struct index) i.fields

-- One more of a kind, at the end.

abbrev pub with_reftype : Interface → List ℕ → Interface
with_reftype i x = record { reftypes = i.reftypes ++ x ∷ []; iterators = i.iterators; slots = i.slots; fields = i.fields; exports = i.exports }

abbrev pub with_iterator : Interface → CapIterator → Interface
with_iterator i x = record { reftypes = i.reftypes; iterators = i.iterators ++ x ∷ []; slots = i.slots; fields = i.fields; exports = i.exports }

abbrev pub with_slot : Interface → Slot → Interface
with_slot i x = record { reftypes = i.reftypes; iterators = i.iterators; slots = i.slots ++ x ∷ []; fields = i.fields; exports = i.exports }

abbrev pub with_field : Interface → Field → Interface
with_field i x = record { reftypes = i.reftypes; iterators = i.iterators; slots = i.slots; fields = i.fields ++ x ∷ []; exports = i.exports }

abbrev pub with_export : Interface → Export → Interface
with_export i x = record { reftypes = i.reftypes; iterators = i.iterators; slots = i.slots; fields = i.fields; exports = i.exports ++ x ∷ [] }

abbrev pub empty : Interface
empty = record { reftypes = []; iterators = []; slots = []; fields = []; exports = [] }

-- The statements behind their words. The line is that of the word.

-- `NAME`
unfoldable pub reftype_at : Interface → List Tok → Read Interface
reftype_at i ts = fresh_at i.reftypes ts >>= λ n. Ok (with_reftype i n.0, n.1)

-- `(P) { ITEM; .. }`
unfoldable pub iterator_body_at : Known → List Tok → Read (List Item)
iterator_body_at known ts = do
  o ← next_at (codes "(") ts
  p ← param_name_at [] o.1
  c ← next_at (codes ")") p.1
  b ← next_at (codes "{") c.1
  items ← items_at (scope_of_items p.0) known b.1
  e ← next_at (codes "}") items.1
  Ok (items.0, e.1)

-- `NAME(P) { ITEM; .. }`
unfoldable pub iterator_at : Version → ℕ → Interface → List Tok → Read Interface
iterator_at version line i ts = do
  n ← fresh_at (iterator_names i) ts
  items ← iterator_body_at (known_in version i) n.1
  Ok (with_iterator i (record { name = n.0; items = items.0; line = line }), items.1)

-- `: T (T P, ..) CLAUSE ..`
unfoldable pub callable_at : Known → List Tok → Read Callable
callable_at known ts = do
  s ← signature_at ts
  a ← clauses_at s.0 known s.1
  Ok (record { signature = s.0; annotation = a.0 }, a.1)

-- `NAME : T (T P, ..) CLAUSE ..`
unfoldable pub slot_at : Version → ℕ → Interface → List Tok → Read Interface
slot_at version line i ts = do
  n ← fresh_at (slot_names i) ts
  f ← callable_at (known_in version i) n.1
  Ok (with_slot i (record { name = n.0; params = f.0.signature.params; ret = f.0.signature.ret; annotation = f.0.annotation; line = line }), f.1)

unfoldable pub export_at : Version → ℕ → Interface → List Tok → Read Interface
export_at version line i ts = do
  n ← fresh_at (export_names i) ts
  f ← callable_at (known_in version i) n.1
  Ok (with_export i (record { name = n.0; params = f.0.signature.params; ret = f.0.signature.ret; annotation = f.0.annotation; line = line }), f.1)

abbrev pub struct_of_kind : TokenKind → List ℕ → Option (List ℕ)
struct_of_kind kinds.Local bytes = Some (struct_of bytes)
struct_of_kind _ bytes = None

-- the name of a struct
abbrev pub struct_at : List Tok → Read (List ℕ)
struct_at ts = pick_at (λ t. struct_of_kind t.kind t.bytes) always_refused ts

abbrev pub greatest_index : ℕ
greatest_index = 4294967295

-- The number of a field. One that the struct has already is a fault at the struct's name, which stands at this place.
abbrev pub untyped : Interface → List Tok → List ℕ → ℕ × List Tok → Read ℕ
untyped i place struct n = if is_typed i struct n.0 then Err (at Twice place) else Ok (n.0, n.1)

abbrev pub index_at : Interface → List Tok → List ℕ → List Tok → Read ℕ
index_at i place struct ts = number_at greatest_index ts >>= λ n. untyped i place struct n

-- `%STRUCT N : SLOT`
unfoldable pub field_at : ℕ → Interface → List Tok → Read Interface
field_at line i ts = do
  s ← struct_at ts
  k ← index_at i ts s.0 s.1
  c ← next_at (codes ":") k.1
  t ← known_at (slot_names i) c.1
  Ok (with_field i (record { name = s.0; index = k.0; slot = t.0; line = line }), t.1)

-- a statement of a text of this version, by its word
unfoldable pub statement_at : Version → ℕ → Interface → List Tok → Read Interface
statement_at version line i ts =
    if has (codes "reftype") ts then reftype_at i (behind ts)
    else if has (codes "iterator") ts then iterator_at version line i (behind ts)
    else if has (codes "slot") ts then slot_at version line i (behind ts)
    else if has (codes "field") ts then field_at line i (behind ts)
    else if has (codes "export") ts then export_at version line i (behind ts)
    else refused ts
