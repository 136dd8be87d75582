-- A map that has the newest block of each start, behind a change.
use Rattle.std.proofs.Common.{◌≡◌, ◌∙◌, ℕ, ◌+◌, ◌<◌, ◌≤◌, length, drop, get_or, subst, Bool, true, false, not, ◌&&◌, Option, Some, None, List, [], ◌∷◌, cond, refl, sym, ap, nat_eq, nat_le, arith}
use Rattle.std.specs.Cmp.{unsigned_tied}
use Rattle.std.specs.Ordering.{is_eq, nat_cmp}
use Rattle.std.specs.Map.{lookup}
use Rattle.std.specs.BTreeMap.{BTreeMap, IsEmpty, Updates, get}
use Rattle.std.proofs.lemmas.Bool.Decides.{nat_tests}
use Rattle.lx_trace_text.specs.declared.blocks.Block.{Block}
use Rattle.std.proofs.lemmas.List.{at_drop_more, at_drop_all}
use Rattle.lx_model.specs.declared.program.Program.{Program}
use Rattle.lx_model.specs.declared.program.ProgramGlobal.{ProgramGlobal}
use Rattle.lx_trace_text.specs.Blocks.{Holds, global_block, newest, with_globals, without}

pub empty : (m : BTreeMap ℕ Block) → IsEmpty m → Holds [] m
unfolding Holds
empty m e q = ap (λ es. lookup (λ k. is_eq (nat_cmp q k)) es) e

pub given : (bs : List Block) (b : Block) (m n : BTreeMap ℕ Block) → Holds bs m → Updates nat_cmp m n b.start (Some b) → Holds (b ∷ bs) n
unfolding Holds
given bs b m n h u q = u.0 q ∙ λ j. cond (unsigned_tied b.start q j) (Some b) (h q j)

-- the start is one of those from `first` up to `last`
abbrev inside : ℕ → ℕ → ℕ → Bool
inside first last q = nat_le first q && nat_le q last

alike : (first last a q : ℕ) → nat_eq a q ≡ true → inside first last a ≡ inside first last q
alike first last a q e = let s : a ≡ q = grind (arith, nat_tests, e) in ap (inside first last) s

without_newest : (first last : ℕ) (bs : List Block) (q : ℕ) → newest (without first last bs) q ≡ cond (inside first last q) None (newest bs q)
without_newest first last [] q = by (inside first last q) None
  where
    by : (t : Bool) (o : Option Block) → o ≡ cond t o o
    by true o = refl
    by false o = refl
without_newest first last (b ∷ bs) q =
    by (without_newest first last bs q) (inside first last b.start) (nat_eq b.start q) refl (alike first last b.start q)
  where
    by : newest (without first last bs) q ≡ cond (inside first last q) None (newest bs q)
        → (t u : Bool) → nat_eq b.start q ≡ u → (nat_eq b.start q ≡ true → t ≡ inside first last q)
        → newest (cond (not t) (b ∷ without first last bs) (without first last bs)) q ≡ cond (inside first last q) None (cond u (Some b) (newest bs q))
    by rest true true e s = rest ∙ ap (λ x. cond x None (newest bs q)) (sym (s e)) ∙ ap (λ x. cond x None (Some b)) (s e)
    by rest true false e s = rest
    by rest false true e s = ap (λ x. cond x (Some b) (newest (without first last bs) q)) e ∙ ap (λ x. cond x None (Some b)) (s e)
    by rest false false e s = ap (λ x. cond x (Some b) (newest (without first last bs) q)) e ∙ rest

pub taken : (first last : ℕ) (bs : List Block) (m n : BTreeMap ℕ Block) → Holds bs m
    → ((q : ℕ) → inside first last q ≡ false → get nat_cmp n q ≡ get nat_cmp m q) → ((q : ℕ) → inside first last q ≡ true → get nat_cmp n q ≡ None)
    → Holds (without first last bs) n
unfolding Holds
taken first last bs m n h others gone q = by (inside first last q) refl ∙ sym (without_newest first last bs q)
  where
    by : (t : Bool) → inside first last q ≡ t → get nat_cmp n q ≡ cond (inside first last q) None (newest bs q)
    by true e = gone q e ∙ ap (λ x. cond x None (newest bs q)) (sym e)
    by false e = others q e ∙ h q ∙ ap (λ x. cond x None (newest bs q)) (sym e)

-- globals are given one by one

-- what is known behind some globals gives, with the further ones, what all of them give
pub record Giving (p : Program) (rest : List ProgramGlobal) (m : BTreeMap ℕ Block) (all : List ProgramGlobal) : Type 0 where
  pub known : List Block
  pub holds : Holds known m
  pub same : with_globals p rest known ≡ with_globals p all []

pub given_globals : (p : Program) (now new : BTreeMap ℕ Block) (xs : List ProgramGlobal) (i : ℕ) (x : ProgramGlobal) → i < length xs → x ≡ get_or xs i x
    → Giving p (drop i xs) now xs → ((bs : List Block) → Holds bs now → Holds (global_block p x ∷ bs) new) → Giving p (drop (i + 1) xs) new xs
given_globals p now new xs i x l e g h = record {
  known = global_block p x ∷ g.known;
  holds = h g.known g.holds;
  same = sym (at_drop_more (λ (ys : List ProgramGlobal). with_globals p ys g.known) xs i x l ∙ ap (λ (y : ProgramGlobal). with_globals p (drop (i + 1) xs) (global_block p y ∷ g.known)) (sym e)) ∙ g.same;
}

pub all_given : (p : Program) (m : BTreeMap ℕ Block) (xs : List ProgramGlobal) (i : ℕ) → length xs ≤ i → Giving p (drop i xs) m xs → Holds (with_globals p xs []) m
all_given p m xs i l g =
    subst (λ (bs : List Block). Holds bs m) (sym (at_drop_all (λ (ys : List ProgramGlobal). with_globals p ys g.known) xs i l) ∙ g.same) g.holds
