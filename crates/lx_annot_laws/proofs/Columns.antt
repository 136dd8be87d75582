-- Statements of one kind in a row, each behind those before it.
use Rattle.std.proofs.Common.{◌≡◌, ℕ, zero, suc, ◌+◌, ◌<◌, Bool, true, false, not, cond, nat_lt, Some, None, List, [], ◌∷◌, ◌++◌, length, map, All, refl, sym, ap, ◌∙◌, subst, append_assoc, bytes_eq, arith}
use Rattle.std.specs.Prelude.{slice_index_or}
use Rattle.std.specs.Cmp.{IsEquivalence}
use Rattle.std.specs.List.{AllByRecursion, IsDistinct, list_any, prefix_len}
use Rattle.std.proofs.lemmas.Bool.{or_from}
use Rattle.std.proofs.lemmas.Bool.Decides.{nat_tests}
use Rattle.std.proofs.lemmas.List.{drop_at, map-append, append-nil}
use Rattle.std.proofs.lemmas.List.Elements.{All-head, All-drop, All-from_recursion}
use Rattle.lx_words.proofs.Lists.{bytes_same}
use Rattle.lx_annot.specs.declared.interface.Interface.{Interface}
use Rattle.lx_annot.specs.Canonical.{Text}
use Rattle.lx_annot_expressions.specs.Names.{number_among}
use Rattle.lx_annot_read.specs.declared.head.Version.TheVariants as versions
use Rattle.lx_annot_read.specs.Interfaces.{empty}
use Rattle.lx_annot_laws.specs.Statements.{Statement, IsStatement, with_statement}
use Rattle.lx_annot_laws.proofs.Said.{SaysLine, AreSaid, after, said_joined, after_joined}

-- One of a list.

-- what holds of all holds of it
pub there : {X : Type 0} (P : X → Type 0) (all old : List X) (x : X) (more : List X) → all ≡ old ++ x ∷ more → All P all → P x
there P all old x more e h = All-head P x more (subst (All P) (drop_at old (x ∷ more) (length old) refl) (All-drop P (length old) (old ++ x ∷ more) (subst (All P) e h)))

module _ {X : Type 0} (test : X → X → Bool) (same : IsEquivalence test) where
  later_differs : (y x : X) (xs ys : List X) → AllByRecursion (λ z. test y z ≡ false) (xs ++ x ∷ ys) → test y x ≡ false
  later_differs y x [] ys h = h.0
  later_differs y x (z ∷ xs) ys h = later_differs y x xs ys h.1

  -- where all differ, it is none of those before it
  pub none_before : (xs : List X) (x : X) (ys : List X) → IsDistinct test (xs ++ x ∷ ys) → list_any (test x) xs ≡ false
  unfolding IsDistinct
  none_before [] x ys d = refl
  none_before (y ∷ xs) x ys d = or_from (test x y) (list_any (test x) xs) (same.symm x y ∙ later_differs y x xs ys d.0) (none_before xs x ys d.1)

-- its name is none of those before it
pub new_name : {X : Type 0} (name : X → List ℕ) (all old : List X) (x : X) (more : List X) → all ≡ old ++ x ∷ more → IsDistinct bytes_eq (map name all) → list_any (bytes_eq (name x)) (map name old) ≡ false
new_name name all old x more e d = none_before bytes_eq bytes_same (map name old) (name x) (map name more) (subst (IsDistinct bytes_eq) (ap (map name) e ∙ map-append name old (x ∷ more)) d)

-- The number of a name.

passed : (b : Bool) (m k : ℕ) → b ≡ false → m ≡ k → cond (not b) (1 + m) 0 ≡ suc k
passed true m k h e = cc
passed false m k h e = omega (arith, e)

met : (b : Bool) (m : ℕ) → b ≡ true → cond (not b) (1 + m) 0 ≡ 0
met true m h = refl
met false m h = cc

-- where all differ, the first that is the same stands at its own place
first_at : (names : List (List ℕ)) (k : ℕ) → k < length names → IsDistinct bytes_eq names → prefix_len (λ y. not (bytes_eq (slice_index_or names k []) y)) names ≡ k
unfolding IsDistinct
first_at [] k lt d = absurd (omega arith)
first_at (x ∷ xs) zero lt d = met (bytes_eq x x) (prefix_len (λ y. not (bytes_eq x y)) xs) (bytes_same.refl x)
first_at (x ∷ xs) (suc k) lt d =
    let name = slice_index_or xs k [] in
    let within : k < length xs = omega arith in
    let apart : bytes_eq x name ≡ false = All-from_recursion (λ y. bytes_eq x y ≡ false) xs d.0 k [] within in
    passed (bytes_eq name x) (prefix_len (λ y. not (bytes_eq name y)) xs) k (bytes_same.symm name x ∙ apart) (first_at xs k within d.1)

placed : (i k n : ℕ) → i ≡ k → k < n → cond (nat_lt i n) (Some i) None ≡ Some k
placed i k n e lt = let in' : nat_lt i n ≡ true = grind (arith, nat_tests, e, lt) in rw in' (ap Some e)

-- the number of the name at a place is that place
pub number_found : (names : List (List ℕ)) (k : ℕ) → k < length names → IsDistinct bytes_eq names → number_among names (slice_index_or names k []) ≡ Some k
number_found names k lt d = placed (prefix_len (λ y. not (bytes_eq (slice_index_or names k []) y)) names) k (length names) (first_at names k lt d) lt

-- Statements of one kind, what each is, its line, and the interface of some of them, behind all of the kinds before.

module _ {X : Type 0} (statement : X → Statement) (line : X → Text) (at : List X → Interface) (step : (old : List X) (x : X) → with_statement (at old) (statement x) ≡ at (old ++ x ∷ [])) where
  -- each line says its statement
  pub column : (all : List X) → ((old : List X) (x : X) (more : List X) → all ≡ old ++ x ∷ more → SaysLine (line x) (IsStatement versions.Two (at old) (statement x)))
      → (old new : List X) → all ≡ old ++ new → AreSaid (at old) (map statement new) (map line new)
  column all says old [] e = tt
  column all says old (x ∷ xs) e =
      (says old x xs e, subst (λ i. AreSaid i (map statement xs) (map line xs)) (sym (step old x)) (column all says (old ++ x ∷ []) xs (e ∙ sym (append_assoc old (x ∷ []) xs))))

  -- what they declare
  pub declared : (old new : List X) → after (at old) (map statement new) ≡ at (old ++ new)
  declared old [] = ap at (sym (append-nil old))
  declared old (x ∷ xs) = ap (λ i. after i (map statement xs)) (step old x) ∙ declared (old ++ x ∷ []) xs ∙ ap at (append_assoc old (x ∷ []) xs)

-- The first lines say statements, which declare this interface.
pub record Upto (i : Interface) (ss : List Statement) (ts : List Text) : Type 0 where
  pub said : AreSaid empty ss ts
  pub end : after empty ss ≡ i

-- and those behind them
pub further : (i j : Interface) (ss us : List Statement) (ts vs : List Text) → Upto i ss ts → AreSaid i us vs → after i us ≡ j → Upto j (ss ++ us) (ts ++ vs)
further i j ss us ts vs first said end = record {
  said = said_joined empty ss us ts vs first.said (subst (λ k. AreSaid k us vs) (sym first.end) said);
  end = after_joined empty ss us ∙ ap (λ k. after k us) first.end ∙ end;
}
