-- A line with an entry more says what it said, and what the entry says.
use Rattle.std.proofs.Common.{◌≡◌, ◌∙◌, ◌⊎◌, inl, inr, refl, sym, ap, ℕ, ◌<◌, ◌≤◌, ◌^◌, Bool, true, false, not, ◌&&◌, nat_eq, Option, Some, None, List, [], ◌∷◌, ◌++◌, arith, if◌then◌else◌}
use Rattle.std.proofs.lemmas.Bool.Decides.{nat_tests}
use Rattle.std.specs.List.{flat_map}
use Rattle.std.proofs.lemmas.Bool.{and_parts}
use Rattle.lx_caps.specs.declared.Principal.{Principal}
use Rattle.lx_caps.specs.History.{same_principal}
use Rattle.lx_certificates.specs.declared.givers.Gifts.{Gifts}
use Rattle.lx_certificates.specs.Givers.{by_lend, found}
use Rattle.lx_cap_nodes.specs.Bits.{is_set}
use Rattle.lx_cap_lists.specs.Entries.{left_of}
use Rattle.lx_cap_lists.proofs.BitLemmas.{set_left}
use Rattle.lx_cap_nodes.proofs.Masks.{none_set}
use Rattle.lx_act_index.specs.declared.threads.Loan.{Loan}
use Rattle.lx_act_index.specs.declared.lines.Said.{Said}
use Rattle.lx_act_index.specs.declared.lines.Said.TheVariants.{Grant, Lend, Strip}
use Rattle.lx_act_index.specs.declared.lines.Entry.{Entry}
use Rattle.lx_act_index.specs.Lines.{is_strip, same_loan, says, says_of, line_giver, strips, line_strip, replaces, is_spent, left_mask, if_any, left_over, line_with, IsLentBefore, AreLentBefore}
use Rattle.lx_caps.proofs.Principals.{same_principal_is}

-- an entry that says nothing of the bit
passed : (o : Option Bool) (n : ℕ) (rest : Option ℕ) → o ≡ None → found o n rest ≡ rest
passed None n rest is = refl
passed (Some b) n rest is = absurd cc

bit_or_none : (b : Bool) (o : Option Bool) → o ≡ None → (if b then o else None) ≡ None
bit_or_none true o is = is
bit_or_none false o is = refl

one_loan : (l m : Loan) → same_loan l m ≡ true → l ≡ m
one_loan l m is =
    let t : l.thread ≡ m.thread = grind (arith, nat_tests, is) in
    let o : l.older ≡ m.older = grind (arith, nat_tests, is) in
    let n : l.opened ≡ m.opened = grind (arith, nat_tests, is) in
    λ j. record { thread = t j; older = o j; opened = n j }

module _ (gifts : Gifts) (among : Principal → Bool) (stands now : Loan → Bool) (ended : (l : Loan) → now l ≡ false → stands l ≡ false) where
  -- what says nothing anew said nothing before, where the new says all that the old does
  replaced : (new old : Said) → replaces new old ≡ true → says gifts among stands new ≡ None → says gifts among stands old ≡ None
  replaced Strip old is none = absurd cc
  replaced (Grant q) (Grant r) is none = ap (λ p. says gifts among stands (Grant p)) (sym (same_principal_is q r is)) ∙ none
  replaced (Grant q) (Lend m r) is none = absurd cc
  replaced (Grant q) Strip is none = absurd cc
  replaced (Lend l q) (Grant r) is none = absurd cc
  replaced (Lend l q) (Lend m r) is none =
      let b = and_parts (same_loan l m) (same_principal q r) is in
      ap (λ k. says gifts among stands (Lend k r)) (sym (one_loan l m b.0)) ∙ (ap (λ p. says gifts among stands (Lend l p)) (sym (same_principal_is q r b.1)) ∙ none)
  replaced (Lend l q) Strip is none = absurd cc

  no_third : (a b c : Bool) → c ≡ false → (if a && b && c then Some true else None) ≡ None
  no_third true true c is = ap (λ (t : Bool). if t then Some true else None) is
  no_third true false c is = refl
  no_third false b c is = refl

  opposite : (b : Bool) → not b ≡ true → b ≡ false
  opposite true is = absurd cc
  opposite false is = refl

  spent : (old : Said) → is_spent now old ≡ true → says gifts among stands old ≡ None
  spent (Grant q) is = absurd cc
  spent (Lend l q) is = no_third (by_lend gifts) (among q) (stands l) (ended l (opposite (now l) is))
  spent Strip is = absurd cc

  -- what is left of an entry, before a line
  any_giver : (k : ℕ) (e : Entry) (m : ℕ) (rest : List Entry) → (is_set m k ≡ is_set e.mask k) ⊎ ((is_set m k ≡ false) × (says_of gifts among stands k e ≡ None))
      → line_giver gifts among stands k (if_any e m ++ rest) ≡ found (says_of gifts among stands k e) e.act (line_giver gifts among stands k rest)
  any_giver k e m rest how =
      (elim (nat_eq m 0) as (λ t. nat_eq m 0 ≡ t → line_giver gifts among stands k ((if t then [] else (record { said = e.said; act = e.act; mask = m } ∷ [])) ++ rest) ≡ found (says_of gifts among stands k e) e.act (line_giver gifts among stands k rest)) [
        | true ↦ λ zero. sym (passed (says_of gifts among stands k e) e.act (line_giver gifts among stands k rest) (elim how [
          | inl same ↦ ap (λ (b : Bool). if b then says gifts among stands e.said else None) (sym same ∙ (ap (λ n. is_set n k) (none zero) ∙ none_set k))
          | inr gone ↦ gone.1
        ]))
        | false ↦ λ some. elim how [
          | inl same ↦ ap (λ (b : Bool). found (if b then says gifts among stands e.said else None) e.act (line_giver gifts among stands k rest)) same
          | inr gone ↦ ap (λ (b : Bool). found (if b then says gifts among stands e.said else None) e.act (line_giver gifts among stands k rest)) gone.0
              ∙ sym (passed (says_of gifts among stands k e) e.act (line_giver gifts among stands k rest) gone.1)
        ]
      ]) refl
    where
      none : nat_eq m 0 ≡ true → m ≡ 0
      none zero = grind (arith, nat_tests, zero)

  -- what an entry that says nothing of the bit leaves of another one
  module _ (new old : Entry) (k : ℕ) (fits : new.mask < 2 ^ 64) (below : k < 64) where
    abbrev Kept : ℕ → Type 0
    Kept m = (is_set m k ≡ is_set old.mask k) ⊎ ((is_set m k ≡ false) × (says_of gifts among stands k old ≡ None))

    and_yes : (a : Bool) → (a && true) ≡ a
    and_yes true = refl
    and_yes false = refl

    and_no : (a : Bool) → (a && false) ≡ false
    and_no true = refl
    and_no false = refl

    cut_away : (b : Bool) → is_set new.mask k ≡ b → says_of gifts among stands k new ≡ None → replaces new.said old.said ≡ true → Kept (left_of old.mask new.mask)
    cut_away true is none all = inr (
      set_left old.mask new.mask k fits below ∙ (ap (λ (t : Bool). is_set old.mask k && not t) is ∙ and_no (is_set old.mask k)),
      bit_or_none (is_set old.mask k) (says gifts among stands old.said)
          (replaced new.said old.said all (sym (ap (λ (t : Bool). if t then says gifts among stands new.said else None) is) ∙ none)),
    )
    cut_away false is none all = inl (set_left old.mask new.mask k fits below ∙ (ap (λ (t : Bool). is_set old.mask k && not t) is ∙ and_yes (is_set old.mask k)))

    kept_by : (s r : Bool) → is_spent now old.said ≡ s → replaces new.said old.said ≡ r → says_of gifts among stands k new ≡ None
        → Kept (if s then 0 else (if r then left_of old.mask new.mask else old.mask))
    kept_by true r is all none = inr (none_set k, bit_or_none (is_set old.mask k) (says gifts among stands old.said) (spent old.said is))
    kept_by false true is all none = cut_away (is_set new.mask k) refl none all
    kept_by false false is all none = inl refl

    kept : says_of gifts among stands k new ≡ None → Kept (left_mask now new old)
    kept none = kept_by (is_spent now old.said) (replaces new.said old.said) refl refl none

  -- the line that an entry without a word of the bit leaves
  giver_left : (new : Entry) (k : ℕ) → new.mask < 2 ^ 64 → k < 64 → says_of gifts among stands k new ≡ None → (line : List Entry)
      → line_giver gifts among stands k (flat_map (left_over now new) line) ≡ line_giver gifts among stands k line
  giver_left new k fits below none [] = refl
  giver_left new k fits below none (e ∷ es) =
      any_giver k e (left_mask now new e) (flat_map (left_over now new) es) (kept new e k fits below none)
      ∙ ap (found (says_of gifts among stands k e) e.act) (giver_left new k fits below none es)

  giver_by : (o : Option Bool) (n : ℕ) (left rest : Option ℕ) → (o ≡ None → left ≡ rest) → found o n left ≡ found o n rest
  giver_by (Some true) n left rest same = refl
  giver_by (Some false) n left rest same = refl
  giver_by None n left rest same = same refl

  -- who gave the atom of a bit, by a line with an entry more
  pub giver_with : (new : Entry) (k : ℕ) → new.mask < 2 ^ 64 → k < 64 → (line : List Entry)
      → line_giver gifts among stands k (line_with now new line) ≡ found (says_of gifts among stands k new) new.act (line_giver gifts among stands k line)
  giver_with new k fits below line =
      giver_by (says_of gifts among stands k new) new.act (line_giver gifts among stands k (flat_map (left_over now new) line)) (line_giver gifts among stands k line)
      (λ none. giver_left new k fits below none line)

-- the same of strips
module _ (now : Loan → Bool) where
  spent_lent : (old : Said) → is_spent now old ≡ true → is_strip old ≡ false
  spent_lent (Grant q) is = absurd cc
  spent_lent (Lend l q) is = refl
  spent_lent Strip is = absurd cc

  replaced_strip : (new old : Said) → replaces new old ≡ true → is_strip new ≡ false → is_strip old ≡ false
  replaced_strip Strip old is none = absurd cc
  replaced_strip (Grant q) (Grant r) is none = refl
  replaced_strip (Grant q) (Lend m r) is none = refl
  replaced_strip (Grant q) Strip is none = absurd cc
  replaced_strip (Lend l q) (Grant r) is none = refl
  replaced_strip (Lend l q) (Lend m r) is none = refl
  replaced_strip (Lend l q) Strip is none = absurd cc

  no_strip : (a b : Bool) → b ≡ false → (a && b) ≡ false
  no_strip true b is = is
  no_strip false b is = refl

  module _ (new old : Entry) (k : ℕ) (fits : new.mask < 2 ^ 64) (below : k < 64) where
    abbrev StripKept : ℕ → Type 0
    StripKept m = (is_set m k ≡ is_set old.mask k) ⊎ ((is_set m k ≡ false) × (strips k old ≡ false))

    yes_and : (a : Bool) → (a && true) ≡ a
    yes_and true = refl
    yes_and false = refl

    no_and : (a : Bool) → (a && false) ≡ false
    no_and true = refl
    no_and false = refl

    strip_cut : (b : Bool) → is_set new.mask k ≡ b → strips k new ≡ false → replaces new.said old.said ≡ true → StripKept (left_of old.mask new.mask)
    strip_cut true is none all = inr (
      set_left old.mask new.mask k fits below ∙ (ap (λ (t : Bool). is_set old.mask k && not t) is ∙ no_and (is_set old.mask k)),
      no_strip (is_set old.mask k) (is_strip old.said)
          (replaced_strip new.said old.said all (sym (ap (λ (t : Bool). t && is_strip new.said) is) ∙ none)),
    )
    strip_cut false is none all = inl (set_left old.mask new.mask k fits below ∙ (ap (λ (t : Bool). is_set old.mask k && not t) is ∙ yes_and (is_set old.mask k)))

    strip_by : (s r : Bool) → is_spent now old.said ≡ s → replaces new.said old.said ≡ r → strips k new ≡ false
        → StripKept (if s then 0 else (if r then left_of old.mask new.mask else old.mask))
    strip_by true r is all none = inr (none_set k, no_strip (is_set old.mask k) (is_strip old.said) (spent_lent old.said is))
    strip_by false true is all none = strip_cut (is_set new.mask k) refl none all
    strip_by false false is all none = inl refl

    strip_kept : strips k new ≡ false → StripKept (left_mask now new old)
    strip_kept none = strip_by (is_spent now old.said) (replaces new.said old.said) refl refl none

  if_no : (b : Bool) (o rest : Option ℕ) → b ≡ false → rest ≡ (if b then o else rest)
  if_no true o rest is = absurd cc
  if_no false o rest is = refl

  any_strip : (k : ℕ) (e : Entry) (m : ℕ) (rest : List Entry) → (is_set m k ≡ is_set e.mask k) ⊎ ((is_set m k ≡ false) × (strips k e ≡ false))
      → line_strip k (if_any e m ++ rest) ≡ (if strips k e then Some e.act else line_strip k rest)
  any_strip k e m rest how =
      (elim (nat_eq m 0) as (λ t. nat_eq m 0 ≡ t → line_strip k ((if t then [] else (record { said = e.said; act = e.act; mask = m } ∷ [])) ++ rest) ≡ (if strips k e then Some e.act else line_strip k rest)) [
        | true ↦ λ zero. if_no (strips k e) (Some e.act) (line_strip k rest) (elim how [
          | inl same ↦ ap (λ (b : Bool). b && is_strip e.said) (sym same ∙ (ap (λ n. is_set n k) (none zero) ∙ none_set k))
          | inr gone ↦ gone.1
        ])
        | false ↦ λ some. elim how [
          | inl same ↦ ap (λ (b : Bool). if b && is_strip e.said then Some e.act else line_strip k rest) same
          | inr gone ↦ ap (λ (b : Bool). if b && is_strip e.said then Some e.act else line_strip k rest) gone.0
              ∙ if_no (strips k e) (Some e.act) (line_strip k rest) gone.1
        ]
      ]) refl
    where
      none : nat_eq m 0 ≡ true → m ≡ 0
      none zero = grind (arith, nat_tests, zero)

  strip_left : (new : Entry) (k : ℕ) → new.mask < 2 ^ 64 → k < 64 → strips k new ≡ false → (line : List Entry)
      → line_strip k (flat_map (left_over now new) line) ≡ line_strip k line
  strip_left new k fits below none [] = refl
  strip_left new k fits below none (e ∷ es) =
      any_strip k e (left_mask now new e) (flat_map (left_over now new) es) (strip_kept new e k fits below none)
      ∙ ap (λ o. if strips k e then Some e.act else o) (strip_left new k fits below none es)

  strip_if : (b : Bool) (o left rest : Option ℕ) → (b ≡ false → left ≡ rest) → (if b then o else left) ≡ (if b then o else rest)
  strip_if true o left rest same = refl
  strip_if false o left rest same = same refl

  pub strip_with : (new : Entry) (k : ℕ) → new.mask < 2 ^ 64 → k < 64 → (line : List Entry)
      → line_strip k (line_with now new line) ≡ (if strips k new then Some new.act else line_strip k line)
  strip_with new k fits below line =
      strip_if (strips k new) (Some new.act) (line_strip k (flat_map (left_over now new) line)) (line_strip k line) (λ none. strip_left new k fits below none line)

  -- what is lent stays on loans opened before
  any_before : (n : ℕ) (e : Entry) (m : ℕ) (rest : List Entry) → IsLentBefore n e.said → AreLentBefore n rest → AreLentBefore n (if_any e m ++ rest)
  any_before n e m rest first later =
      elim (nat_eq m 0) as (λ t. AreLentBefore n ((if t then [] else (record { said = e.said; act = e.act; mask = m } ∷ [])) ++ rest)) [ true ↦ later | false ↦ (first, later) ]

  before_left : (n : ℕ) (new : Entry) (line : List Entry) → AreLentBefore n line → AreLentBefore n (flat_map (left_over now new) line)
  before_left n new [] all = tt
  before_left n new (e ∷ es) all = any_before n e (left_mask now new e) (flat_map (left_over now new) es) all.0 (before_left n new es all.1)

  pub before_with : (n : ℕ) (new : Entry) (line : List Entry) → IsLentBefore n new.said → AreLentBefore n line → AreLentBefore n (line_with now new line)
  before_with n new line first all = (first, before_left n new line all)

-- a bound that is higher
lent_later : (m n : ℕ) → m ≤ n → (s : Said) → IsLentBefore m s → IsLentBefore n s
lent_later m n le (Grant q) is = tt
lent_later m n le (Lend l q) is = omega (arith, le, is)
lent_later m n le Strip is = tt

pub before_later : (m n : ℕ) → m ≤ n → (line : List Entry) → AreLentBefore m line → AreLentBefore n line
before_later m n le [] all = tt
before_later m n le (e ∷ es) all = (lent_later m n le e.said all.0, before_later m n le es all.1)
