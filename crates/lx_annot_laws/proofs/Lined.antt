-- Statements that differ in lines alone.
use Rattle.std.proofs.Common.{◌≡◌, ℕ, false, List, [], ◌∷◌, ◌++◌, map, refl, ap, ◌∙◌, subst, codes}
use Rattle.std.specs.Prelude.{◌||◌, Bool}
use Rattle.std.specs.List.{list_any}
use Rattle.lx_words.proofs.Lists.{map_one_more}
use Rattle.lx_annot.specs.declared.interface.Field.{Field}
use Rattle.lx_annot.specs.declared.interface.Interface.{Interface}
use Rattle.lx_annot_expressions.specs.Tokens.{Tok}
use Rattle.lx_annot_expressions.specs.Grammar.{Part, Is, ◌then◌}
use Rattle.lx_annot_terms.specs.Lists.{Known}
use Rattle.lx_annot_terms.specs.Signatures.{Signature}
use Rattle.lx_annot_terms.specs.Grammar.{IsKnown}
use Rattle.lx_annot_read.specs.declared.head.Version.TheVariants as versions
use Rattle.lx_annot_read.specs.Head.{may_lend}
use Rattle.lx_annot_read.specs.Interfaces.{known_in}
use Rattle.lx_annot_read.specs.Aside.{iterator_aside, slot_aside, field_aside, export_aside}
use Rattle.lx_annot_read.proofs.Aside.{Same, same_reftypes, same_iterators, same_slots, same_exports, same_typed, same_by}
use Rattle.lx_annot_laws.specs.Statements.{Statement, OfReftype, OfIterator, OfSlot, OfField, OfExport, IsFresh, IsIteratorBody, IsCallable, IsStruct, IsIndex, IsStatement, IsInLine, with_statement}

-- a statement in this line
abbrev pub lined : ℕ → Statement → Statement
lined n (OfReftype name) = OfReftype name
lined n (OfIterator x) = OfIterator (record { name = x.name; items = x.items; line = n })
lined n (OfSlot x) = OfSlot (record { name = x.name; params = x.params; ret = x.ret; annotation = x.annotation; line = n })
lined n (OfField x) = OfField (record { name = x.name; index = x.index; slot = x.slot; line = n })
lined n (OfExport x) = OfExport (record { name = x.name; params = x.params; ret = x.ret; annotation = x.annotation; line = n })

pub lined_there : (n : ℕ) (s : Statement) → IsInLine n (lined n s)
lined_there n (OfReftype name) = tt
lined_there n (OfIterator x) = refl
lined_there n (OfSlot x) = refl
lined_there n (OfField x) = refl
lined_there n (OfExport x) = refl

-- its tokens say nothing of the line
pub statement_lined : (i : Interface) (s : Statement) (n : ℕ) (ts : List Tok) → IsStatement versions.Two i s ts → IsStatement versions.Two i (lined n s) ts
statement_lined i (OfReftype name) n ts is = is
statement_lined i (OfIterator x) n ts is = is
statement_lined i (OfSlot x) n ts is = is
statement_lined i (OfField x) n ts is = is
statement_lined i (OfExport x) n ts is = is

-- What is known of the statements before says nothing of their lines.

any_aside : (p : Field → Bool) → ((f : Field) → p (field_aside f) ≡ p f) → (fs : List Field) → list_any p (map field_aside fs) ≡ list_any p fs
any_aside p h [] = refl
any_aside p h (f ∷ fs) = λ k. h f k || any_aside p h fs k

same_known : (i j : Interface) → Same i j → known_in versions.Two i ≡ known_in versions.Two j
same_known i j s = λ k. record { reftypes = same_reftypes i j s k; iterators = same_iterators i j s k; lends = may_lend versions.Two }

abbrev callable_part : List ℕ → List (List ℕ) → Known → List ℕ → Signature → Rattle.lx_annot.specs.declared.action.Annotation.Annotation → Part
callable_part word names known name sig a = Is word then IsFresh names name then IsCallable known sig a

pub statement_same : (i j : Interface) (s : Statement) (ts : List Tok) → Same i j → IsStatement versions.Two i s ts → IsStatement versions.Two j s ts
statement_same i j (OfReftype name) ts same is = subst (λ ns. (Is (codes "reftype") then IsFresh ns name) ts) (same_reftypes i j same) is
statement_same i j (OfIterator x) ts same is =
    subst (λ (k : List (List ℕ) × Known). (Is (codes "iterator") then IsFresh k.0 x.name then IsIteratorBody k.1 x.items) ts) (λ k. (same_iterators i j same k, same_known i j same k)) is
statement_same i j (OfSlot x) ts same is =
    subst (λ (k : List (List ℕ) × Known). callable_part (codes "slot") k.0 k.1 x.name (record { ret = x.ret; params = x.params }) x.annotation ts) (λ k. (same_slots i j same k, same_known i j same k)) is
statement_same i j (OfField x) ts same is =
    subst (λ (k : List (List ℕ) × Bool). (Is (codes "field") then (λ us. (k.1 ≡ false) × (IsStruct x.name then IsIndex x.index then Is (codes ":") then IsKnown k.0 x.slot) us)) ts)
    (λ k. (same_slots i j same k, same_typed i j x.name x.index same k)) is
statement_same i j (OfExport x) ts same is =
    subst (λ (k : List (List ℕ) × Known). callable_part (codes "export") k.0 k.1 x.name (record { ret = x.ret; params = x.params }) x.annotation ts) (λ k. (same_exports i j same k, same_known i j same k)) is

-- One statement more.

pub more_same : (i j : Interface) (s : Statement) (n : ℕ) → Same i j → Same (with_statement i s) (with_statement j (lined n s))
more_same i j s n same = by s
  where
    reftypes : i.reftypes ≡ j.reftypes
    reftypes = same_reftypes i j same

    iterators : map iterator_aside i.iterators ≡ map iterator_aside j.iterators
    iterators = ap (λ (k : Interface). k.iterators) same

    slots : map slot_aside i.slots ≡ map slot_aside j.slots
    slots = ap (λ (k : Interface). k.slots) same

    fields : map field_aside i.fields ≡ map field_aside j.fields
    fields = ap (λ (k : Interface). k.fields) same

    exports : map export_aside i.exports ≡ map export_aside j.exports
    exports = ap (λ (k : Interface). k.exports) same

    by : (s : Statement) → Same (with_statement i s) (with_statement j (lined n s))
    by (OfReftype name) = same_by _ _ (ap (λ ns. ns ++ name ∷ []) reftypes) iterators slots fields exports
    by (OfIterator x) = same_by _ _ reftypes (map_one_more iterator_aside i.iterators j.iterators x (record { name = x.name; items = x.items; line = n }) iterators refl) slots fields exports
    by (OfSlot x) = same_by _ _ reftypes iterators (map_one_more slot_aside i.slots j.slots x (record { name = x.name; params = x.params; ret = x.ret; annotation = x.annotation; line = n }) slots refl) fields exports
    by (OfField x) = same_by _ _ reftypes iterators slots (map_one_more field_aside i.fields j.fields x (record { name = x.name; index = x.index; slot = x.slot; line = n }) fields refl) exports
    by (OfExport x) = same_by _ _ reftypes iterators slots fields (map_one_more export_aside i.exports j.exports x (record { name = x.name; params = x.params; ret = x.ret; annotation = x.annotation; line = n }) exports refl)
