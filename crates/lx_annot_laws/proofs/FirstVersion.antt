-- Texts of version 1 lend nothing.
use Rattle.std.proofs.Common.{◌≡◌, ℕ, Bool, false, List, [], ◌∷◌, ◌++◌, All, refl, subst}
use Rattle.std.specs.Prelude.{filter, cond}
use Rattle.std.proofs.lemmas.List.Elements.{All-nil, All-push}
use Rattle.lx_words.specs.declared.token.Token.{Token}
use Rattle.lx_annot.specs.declared.action.Annotation.{Annotation}
use Rattle.lx_annot.specs.declared.interface.Slot.{Slot}
use Rattle.lx_annot.specs.declared.interface.Export.{Export}
use Rattle.lx_annot.specs.declared.interface.Interface.{Interface}
use Rattle.lx_annot.specs.Action.{Action, is_lend}
use Rattle.lx_annot_expressions.specs.Tokens.{Tok, toks_of}
use Rattle.lx_annot_terms.specs.Lists.{Known}
use Rattle.lx_annot_terms.specs.Signatures.{Signature}
use Rattle.lx_annot_terms.specs.Clauses.{scope_before}
use Rattle.lx_annot_read.specs.declared.head.Version.{Version}
use Rattle.lx_annot_read.specs.declared.head.Version.TheVariants as versions
use Rattle.lx_annot_read.specs.Head.{may_lend}
use Rattle.lx_annot_read.specs.Interfaces.{known_in, empty}
use Rattle.lx_annot_laws.specs.Parts.{Clause, Principal, Pre, Post, IsClauses, pres}
use Rattle.lx_annot_laws.specs.Statements.{Statement, OfReftype, OfIterator, OfSlot, OfField, OfExport, IsCallable, IsStatement, with_statement, AreStatements, IsInterface}
use Rattle.lx_annot_laws.specs.LawfulLaws.{LendsNothing}
use Rattle.lx_annot_laws.proofs.GrammarActions.{no_lend}

passed : (a : Action) (xs : List Action) → is_lend a ≡ false → filter is_lend xs ≡ [] → filter is_lend (a ∷ xs) ≡ []
passed a xs h e = rw (h, e) refl

module _ (sig : Signature) (known : Known) (none : known.lends ≡ false) where
  pres_lend_nothing : (cs : List Clause) (ts : List Tok) → IsClauses sig known cs ts → filter is_lend (pres cs) ≡ []
  pres_lend_nothing [] ts e = refl
  pres_lend_nothing (Principal w ∷ cs) ts (f, b, is, more, v) = pres_lend_nothing cs b more
  pres_lend_nothing (Pre a ∷ cs) ts (f, b, (f1, b1, word, (f2, b2, round, (f3, b3, is, close, w3), w2), w1), more, v) =
      passed a (pres cs) (no_lend (scope_before sig) known none a f3 is) (pres_lend_nothing cs b more)
  pres_lend_nothing (Post a ∷ cs) ts (f, b, is, more, v) = pres_lend_nothing cs b more

  lends_nothing : (a : Annotation) (ts : List Tok) → IsCallable known sig a ts → LendsNothing a
  lends_nothing a ts (f, b, is, (cs, are, say), w) = subst (λ xs. filter is_lend xs ≡ []) say.pre (pres_lend_nothing cs b are)

-- the slots and exports of an interface lend nothing
record Old (i : Interface) : Type 0 where
  slots : All (λ (x : Slot). LendsNothing x.annotation) i.slots
  exports : All (λ (x : Export). LendsNothing x.annotation) i.exports

old_more : (v : Version) → may_lend v ≡ false → (i : Interface) (s : Statement) (ts : List Tok) → Old i → IsStatement v i s ts → Old (with_statement i s)
old_more v none i (OfReftype name) ts old is = record { slots = old.slots; exports = old.exports }
old_more v none i (OfIterator x) ts old is = record { slots = old.slots; exports = old.exports }
old_more v none i (OfSlot x) ts old (f, b, word, (f1, b1, fresh, is, w1), w) = record {
  slots = All-push (λ (y : Slot). LendsNothing y.annotation) i.slots x old.slots (lends_nothing (record { ret = x.ret; params = x.params }) (known_in v i) none x.annotation b1 is);
  exports = old.exports;
}
old_more v none i (OfField x) ts old is = record { slots = old.slots; exports = old.exports }
old_more v none i (OfExport x) ts old (f, b, word, (f1, b1, fresh, is, w1), w) = record {
  slots = old.slots;
  exports = All-push (λ (y : Export). LendsNothing y.annotation) i.exports x old.exports (lends_nothing (record { ret = x.ret; params = x.params }) (known_in v i) none x.annotation b1 is);
}

all_old : (text : List ℕ) (v : Version) → may_lend v ≡ false → (i j : Interface) (ss : List Statement) (tokens : List Token) → Old i → AreStatements text v i ss j tokens → Old j
all_old text v none i j [] tokens old (same, e) = subst Old same old
all_old text v none i j (s ∷ ss) tokens old (front, back, stands, are, e) =
    all_old text v none (with_statement i s) j ss back (old_more v none i s (toks_of text front) old stands.is) are

none_old : Old empty
none_old = record { slots = All-nil (λ (x : Slot). LendsNothing x.annotation); exports = All-nil (λ (x : Export). LendsNothing x.annotation) }

version_lends_nothing : (v : Version) → v ≡ versions.One → may_lend v ≡ false
version_lends_nothing versions.One e = refl
version_lends_nothing versions.Two e = cc

-- a text of version 1 lends nothing
pub first_version : (text : List ℕ) (i : Interface) (is : IsInterface text i) → is.version ≡ versions.One → All (λ (x : Slot). LendsNothing x.annotation) i.slots × All (λ (x : Export). LendsNothing x.annotation) i.exports
first_version text i is one =
    let old = all_old text is.version (version_lends_nothing is.version one) empty i is.statements is.body none_old is.are in
    (old.slots, old.exports)
