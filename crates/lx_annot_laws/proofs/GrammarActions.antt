-- What is so of each list and each action.
use Rattle.std.proofs.Common.{◌≡◌, ℕ, Bool, true, false, List, length, refl, sym, ap, ◌∙◌, subst, codes, arith, ◌≤◌, [], ◌++◌, map}
use Rattle.std.specs.Prelude.{slice_index_or}
use Rattle.lx_annot.specs.declared.action.CapSpec.{CapSpec}
use Rattle.lx_annot.specs.declared.action.CapSpec.TheVariants as spec
use Rattle.lx_annot.specs.Action.{Action, Copy, Transfer, Check, Lend, End, If, is_lend}
use Rattle.lx_annot_expressions.specs.Tokens.{Tok}
use Rattle.lx_annot_expressions.specs.Exprs.{Scope}
use Rattle.lx_annot_terms.specs.Lists.{Known}
use Rattle.lx_annot_terms.specs.Grammar.{IsList, IsAction, IsDeed}
use Rattle.lx_annot.specs.Lawful.{Nameable, Declared, IsLawfulList, IsLawfulAction}
use Rattle.lx_annot.specs.declared.interface.Interface.{Interface}
use Rattle.lx_annot.specs.Canonical.{call_text, expr_text, list_text, action_text}
use Rattle.lx_annot_read.specs.Interfaces.{iterator_names}
use Rattle.lx_annot_laws.specs.Renaming.{is_language, IsRenaming, renamed}
use Rattle.lx_annot_laws.proofs.RenamedWords.{anew_scope, list_word_same, known_same}
use Rattle.lx_annot_laws.proofs.GrammarNames.{nameable, expr_named, brackets_named, known_there, known_within}
use Rattle.lx_annot_laws.proofs.RenamedTerms.{anew_known, cut, word, expr, brackets, known_name}

-- at least as many of each are declared
pub record Within (a b : Declared) : Type 0 where
  pub reftypes : a.reftypes ≤ b.reftypes
  pub iterators : a.iterators ≤ b.iterators

pub list_grows : (a b : Declared) (may : Nameable) (list : CapSpec) → Within a b → IsLawfulList a may list → IsLawfulList b may list
list_grows a b may (spec.Write x n) w is = is
list_grows a b may (spec.Call e) w is = is
list_grows a b may (spec.Ref t e) w (lt, is) = (omega (arith, lt, w.reftypes), is)
list_grows a b may (spec.Each k e) w (lt, is) = (omega (arith, lt, w.iterators), is)

pub action_grows : (a b : Declared) (may : Nameable) (x : Action) → Within a b → IsLawfulAction a may x → IsLawfulAction b may x
action_grows a b may (Copy list) w is = list_grows a b may list w is
action_grows a b may (Transfer list) w is = list_grows a b may list w is
action_grows a b may (Check list) w is = list_grows a b may list w is
action_grows a b may (Lend list) w is = list_grows a b may list w is
action_grows a b may (End k) w is = absurd is
action_grows a b may (If e x) w (named, is) = (named, action_grows a b may x w is)

-- What is in the grammar names what is there.

module _ (scope : Scope) (known : Known) where
  abbrev pub there : Declared
  there = record { reftypes = length known.reftypes; iterators = length known.iterators }

  list_named : (list : CapSpec) (ts : List Tok) → IsList scope known list ts → IsLawfulList there (nameable scope) list
  list_named (spec.Write a n) ts (f, b, w, (f1, b1, c, (f2, b2, pa, (f3, b3, c1, pn, w3), w2), w1), v) = (expr_named scope a f2 pa, expr_named scope n b3 pn)
  list_named (spec.Call e) ts (f, b, w, (f1, b1, c, is, w1), v) = expr_named scope e b1 is
  list_named (spec.Ref t e) ts (f, b, w, (f1, b1, o, (f2, b2, k, (f3, b3, p, (f4, b4, c, is, w4), w3), w2), w1), v) =
      (known_there known.reftypes t f2 k, expr_named scope e b4 is)
  list_named (spec.Each k e) ts (f, b, (t, h, n, g), is, v) = (known_within known.iterators t.kind t.bytes k h, brackets_named scope e b is)

  pub action_named : (a : Action) (ts : List Tok) → IsAction scope known a ts → IsLawfulAction there (nameable scope) a
  action_named (Copy list) ts (f, b, w, (f1, b1, o, (f2, b2, is, p, w2), w1), v) = list_named list f2 is
  action_named (Transfer list) ts (f, b, w, (f1, b1, o, (f2, b2, is, p, w2), w1), v) = list_named list f2 is
  action_named (Check list) ts (f, b, w, (f1, b1, o, (f2, b2, is, p, w2), w1), v) = list_named list f2 is
  action_named (Lend list) ts (may, (f, b, w, (f1, b1, o, (f2, b2, is, p, w2), w1), v)) = list_named list f2 is
  action_named (End k) ts is = absurd is
  action_named (If e a) ts (f, b, w, (f1, b1, c, is, w1), v) = (brackets_named scope e f1 c, action_named a b1 is)

  -- where no lend may stand, none does
  pub no_lend : known.lends ≡ false → (a : Action) (ts : List Tok) → IsAction scope known a ts → is_lend a ≡ false
  no_lend h (Copy list) ts is = refl
  no_lend h (Transfer list) ts is = refl
  no_lend h (Check list) ts is = refl
  no_lend h (Lend list) ts (may, is) = sym may ∙ h
  no_lend h (End k) ts is = absurd is
  no_lend h (If e a) ts (f, b, w, (f1, b1, c, is, w1), v) = no_lend h a b1 is

-- An interface with the same names has the same canonical texts.

module _ (i j : Interface) (reftypes : j.reftypes ≡ i.reftypes) (iterators : iterator_names j ≡ iterator_names i) where
  list_same : (l : CapSpec) → list_text j l ≡ list_text i l
  list_same (spec.Write at size) = refl
  list_same (spec.Call at) = refl
  list_same (spec.Ref t at) = ap (λ names. call_text (codes "ref") (slice_index_or names t []) ++ codes ", " ++ expr_text at) reftypes
  list_same (spec.Each k at) = ap (λ names. call_text (slice_index_or names k []) (expr_text at)) iterators

  pub action_same : (x : Action) → action_text j x ≡ action_text i x
  action_same (Copy l) = ap (call_text (codes "copy")) (list_same l)
  action_same (Transfer l) = ap (call_text (codes "transfer")) (list_same l)
  action_same (Check l) = ap (call_text (codes "check")) (list_same l)
  action_same (Lend l) = ap (call_text (codes "lend")) (list_same l)
  action_same (End k) = refl
  action_same (If e x) = ap (λ t. call_text (codes "if ") (expr_text e) ++ codes " " ++ t) (action_same x)

-- Tokens with their words given anew are the same lists and actions.

module _ {lends : Bool} (r : List ℕ → List ℕ) (is : IsRenaming lends r) where
  abbrev R : List Tok → List Tok
  R ts = map (renamed r) ts

  list_anew : (scope : Scope) (known : Known) (l : CapSpec) (ts : List Tok) → IsList scope known l ts → IsList (anew_scope r scope) (anew_known r known) l (R ts)
  list_anew scope known (spec.Write x n) ts (a, b, w, (c, d, o, (e, f, y, (g, h, p, z, k), m), u), v) =
      (R a, R b, word r is (codes "write") refl a w, (R c, R d, word r is (codes ",") refl c o, (R e, R f, expr r is scope x e y, (R g, R h, word r is (codes ",") refl g p, expr r is scope n h z, cut r is f g h k), cut r is d e f m), cut r is b c d u), cut r is ts a b v)
  list_anew scope known (spec.Call x) ts (a, b, w, (c, d, o, y, u), v) =
      (R a, R b, word r is (codes "call") refl a w, (R c, R d, word r is (codes ",") refl c o, expr r is scope x d y, cut r is b c d u), cut r is ts a b v)
  list_anew scope known (spec.Ref t x) ts (a, b, w, (c, d, o, (e, f, n, (g, h, p, (k, m, q, y, z), s), u), v), j) =
      (R a, R b, word r is (codes "ref") refl a w, (R c, R d, word r is (codes "(") refl c o, (R e, R f, known_name r is known.reftypes t e n, (R g, R h, word r is (codes ")") refl g p, (R k, R m, word r is (codes ",") refl k q, expr r is scope x m y, cut r is h k m z), cut r is f g h s), cut r is d e f u), cut r is b c d v), cut r is ts a b j)
  list_anew scope known (spec.Each k x) ts (a, b, (t, h, n, g), y, v) =
      (R a, R b, (renamed r t, known_same r is known.iterators t.kind t.bytes ∙ h, list_word_same r is t ∙ n, ap R g), brackets r is scope x b y, cut r is ts a b v)

  deed_anew : (text : List ℕ) → is_language lends text ≡ true → (scope : Scope) (known : Known) (l : CapSpec) (ts : List Tok) → IsDeed text scope known l ts → IsDeed text (anew_scope r scope) (anew_known r known) l (R ts)
  deed_anew text k scope known l ts (a, b, w, (c, d, o, (e, f, x, p, m), u), v) =
      (R a, R b, word r is text k a w, (R c, R d, word r is (codes "(") refl c o, (R e, R f, list_anew scope known l e x, word r is (codes ")") refl f p, cut r is d e f m), cut r is b c d u), cut r is ts a b v)

  lend_kept : lends ≡ true → is_language lends (codes "lend") ≡ true
  lend_kept may = subst (λ b. is_language b (codes "lend") ≡ true) (sym may) refl

  pub action_anew : (scope : Scope) (known : Known) → (known.lends ≡ true → lends ≡ true) → (x : Action) (ts : List Tok) → IsAction scope known x ts → IsAction (anew_scope r scope) (anew_known r known) x (R ts)
  action_anew scope known within (Copy l) ts x = deed_anew (codes "copy") refl scope known l ts x
  action_anew scope known within (Transfer l) ts x = deed_anew (codes "transfer") refl scope known l ts x
  action_anew scope known within (Check l) ts x = deed_anew (codes "check") refl scope known l ts x
  action_anew scope known within (Lend l) ts (may, x) = (may, deed_anew (codes "lend") (lend_kept (within may)) scope known l ts x)
  action_anew scope known within (End k) ts never = absurd never
  action_anew scope known within (If e y) ts (a, b, w, (c, d, o, x, u), v) =
      (R a, R b, word r is (codes "if") refl a w, (R c, R d, brackets r is scope e c o, action_anew scope known within y d x, cut r is b c d u), cut r is ts a b v)
