-- What holders have, and what principals own and keep.
use Rattle.std.proofs.Common.{◌≡◌, ◌∙◌, inl, inr, refl, sym, ap, ℕ, zero, suc, ◌-◌, ◌<◌, Bool, true, false, not, ◌&&◌, ◌||◌, nat_eq, nat_lt, nat_le, [], ◌∷◌, length, drop, arith, eqb-true}
use Rattle.std.proofs.lemmas.Bool.{cases_Bool, cond-true, cond-false}
use Rattle.std.proofs.lemmas.Bool.Decides.{nat_tests}
use Rattle.std.proofs.lemmas.List.{length-drop}
use Rattle.lx_words.proofs.Tests.{and_false, second_of}
use Rattle.lx_caps.specs.declared.Principal.{Principal}
use Rattle.lx_caps.specs.declared.Atom.{Atom}
use Rattle.lx_caps.specs.declared.Act.TheVariants.{Grant, Strip, Zero, Loan, Lend, Shut, ShutAll}
use Rattle.lx_caps.specs.Loans.{Ends, Newest, Every, Endings, none_end, before_loan, and_more, before_shut, before_shut_all, goes_on, lends}
use Rattle.lx_caps.specs.LoanLaws.{open_loans}
use Rattle.lx_caps.specs.Owners.{leaves}
use Rattle.lx_caps.specs.History.{History, has, kept_among, owned_among, same_principal}
use Rattle.lx_cap_lists.specs.declared.holder.Holder.{Holder}
use Rattle.lx_cap_lists.specs.declared.holder.Holder.TheVariants.{Keeper, Borrower}
use Rattle.lx_cap_lists.specs.Holders.{by_all, by_keepers, open_count, left_by, had, same_holder}
use Rattle.lx_caps.proofs.Tests.{and_yes}
use Rattle.lx_caps.proofs.Endings.{with_here, with_other, opened_other, fewer, opened_here}

-- how many loans go on
pub count_loan_here : (t : ℕ) (h : History) (u : ℕ) → nat_eq t u ≡ true → open_count (Loan t ∷ h) u ≡ suc (open_count h u)
count_loan_here t h u is = ap length (cond-true (nat_eq t u) (length h ∷ open_loans h u) (open_loans h u) is)

pub count_loan_other : (t : ℕ) (h : History) (u : ℕ) → nat_eq t u ≡ false → open_count (Loan t ∷ h) u ≡ open_count h u
count_loan_other t h u out = ap length (cond-false (nat_eq t u) (length h ∷ open_loans h u) (open_loans h u) out)

pub count_shut_here : (t n : ℕ) (h : History) (u : ℕ) → nat_eq t u ≡ true → open_count (Shut t n ∷ h) u ≡ open_count h u - n
count_shut_here t n h u is = ap length (cond-true (nat_eq t u) (drop n (open_loans h u)) (open_loans h u) is) ∙ length-drop n (open_loans h u)

pub count_shut_other : (t n : ℕ) (h : History) (u : ℕ) → nat_eq t u ≡ false → open_count (Shut t n ∷ h) u ≡ open_count h u
count_shut_other t n h u out = ap length (cond-false (nat_eq t u) (drop n (open_loans h u)) (open_loans h u) out)

pub count_all_here : (t : ℕ) (h : History) (u : ℕ) → nat_eq t u ≡ true → open_count (ShutAll t ∷ h) u ≡ 0
count_all_here t h u is = ap length (cond-true (nat_eq t u) [] (open_loans h u) is)

pub count_all_other : (t : ℕ) (h : History) (u : ℕ) → nat_eq t u ≡ false → open_count (ShutAll t ∷ h) u ≡ open_count h u
count_all_other t h u out = ap length (cond-false (nat_eq t u) [] (open_loans h u) out)

-- a thread that lends has a loan
pub some_loan : (h : History) (t : ℕ) → lends h t ≡ true → 0 < open_count h t
some_loan [] t is = absurd (cc)
some_loan (Grant q c ∷ h) t is = some_loan h t is
some_loan (Strip c ∷ h) t is = some_loan h t is
some_loan (Zero at size ∷ h) t is = some_loan h t is
some_loan (Loan u ∷ h) t is = elim (cases_Bool (nat_eq u t)) [
  | inl here ↦ (let e = count_loan_here u h t here in omega (arith, e))
  | inr out ↦
      (let rest : lends h t ≡ true = ap (λ b. b || lends h t) (sym out) ∙ is in
      let some = some_loan h t rest in
      let e = count_loan_other u h t out in
      omega (arith, e, some))
]
some_loan (Lend u q c ∷ h) t is = some_loan h t is
some_loan (Shut u n ∷ h) t is = elim (cases_Bool (nat_eq u t)) [
  | inl here ↦
      (let some = some_loan h t (second_of (not (nat_eq u t && nat_lt 0 n)) (lends h t) is) in
      let none : n ≡ 0 = by n (ap (λ b. not (b && nat_lt 0 n) && lends h t) (sym here) ∙ is) in
      let e = count_shut_here u n h t here in
      omega (arith, e, some, none))
  | inr out ↦
      (let some = some_loan h t (second_of (not (nat_eq u t && nat_lt 0 n)) (lends h t) is) in
      let e = count_shut_other u n h t out in
      omega (arith, e, some))
]
  where
    by : (k : ℕ) → (not (nat_lt 0 k) && lends h t) ≡ true → k ≡ 0
    by zero e = refl
    by (suc k) e = absurd (let yes : nat_lt 0 (suc k) ≡ true = grind (arith, nat_tests) in let no : false ≡ true = ap (λ b. not b && lends h t) (sym yes) ∙ e in cc)
some_loan (ShutAll u ∷ h) t is = elim (cases_Bool (nat_eq u t)) [
  | inl here ↦ absurd (let no : false ≡ true = ap (λ b. not b && lends h t) (sym here) ∙ is in cc)
  | inr out ↦
      (let some = some_loan h t (second_of (not (nat_eq u t)) (lends h t) is) in
      let e = count_all_other u h t out in
      omega (arith, e, some))
]

-- the holder's loan goes on
abbrev pub is_within : History → Holder → Bool
is_within h (Keeper q) = true
is_within h (Borrower t d q) = nat_lt d (open_count h t)

-- what is had depends on holders whose loans go on
pub had_within : (a b : Holder → Bool) (h : History) (x : Atom) → ((s : Holder) → is_within h s ≡ true → a s ≡ b s) → had a h x ≡ had b h x
had_within a b [] x same = refl
had_within a b (Grant q c ∷ h) x same =
    ap (λ t. (t && has c x) || had a h x) (same (Keeper q) refl) ∙ ap (λ r. (b (Keeper q) && has c x) || r) (had_within a b h x (λ s w. same s (by s w)))
  where
    by : (s : Holder) → is_within h s ≡ true → is_within (Grant q c ∷ h) s ≡ true
    by (Keeper p) w = refl
    by (Borrower t d p) w = w
had_within a b (Strip c ∷ h) x same = ap (λ r. not (has c x) && r) (had_within a b h x (λ s w. same s (by s w)))
  where
    by : (s : Holder) → is_within h s ≡ true → is_within (Strip c ∷ h) s ≡ true
    by (Keeper p) w = refl
    by (Borrower t d p) w = w
had_within a b (Zero at size ∷ h) x same = had_within a b h x (λ s w. same s (by s w))
  where
    by : (s : Holder) → is_within h s ≡ true → is_within (Zero at size ∷ h) s ≡ true
    by (Keeper p) w = refl
    by (Borrower t d p) w = w
had_within a b (Loan u ∷ h) x same = had_within a b h x (λ s w. same s (by s w))
  where
    by : (s : Holder) → is_within h s ≡ true → is_within (Loan u ∷ h) s ≡ true
    by (Keeper p) w = refl
    by (Borrower t d p) w = elim (cases_Bool (nat_eq u t)) [
      | inl here ↦ (let e = count_loan_here u h t here in grind (arith, nat_tests, w, e))
      | inr out ↦ ap (nat_lt d) (count_loan_other u h t out) ∙ w
    ]
had_within a b (Lend t q c ∷ h) x same =
    lent (lends h t) refl ∙ ap (λ r. (lends h t && (b (Borrower t (open_count h t - 1) q) && has c x)) || r) (had_within a b h x (λ s w. same s (by s w)))
  where
    by : (s : Holder) → is_within h s ≡ true → is_within (Lend t q c ∷ h) s ≡ true
    by (Keeper p) w = refl
    by (Borrower u d p) w = w

    lent : (l : Bool) → lends h t ≡ l → ((lends h t && (a (Borrower t (open_count h t - 1) q) && has c x)) || had a h x) ≡ ((lends h t && (b (Borrower t (open_count h t - 1) q) && has c x)) || had a h x)
    lent true is =
        let some = some_loan h t is in
        let w : nat_lt (open_count h t - 1) (open_count h t) ≡ true = grind (arith, nat_tests, some) in
        ap (λ r. (lends h t && (r && has c x)) || had a h x) (same (Borrower t (open_count h t - 1) q) w)
    lent false is = ap (λ l. (l && (a (Borrower t (open_count h t - 1) q) && has c x)) || had a h x) is ∙ sym (ap (λ l. (l && (b (Borrower t (open_count h t - 1) q) && has c x)) || had a h x) is)
had_within a b (Shut t n ∷ h) x same = had_within (left_by t (open_count h t - n) a) (left_by t (open_count h t - n) b) h x by
  where
    by : (s : Holder) → is_within h s ≡ true → left_by t (open_count h t - n) a s ≡ left_by t (open_count h t - n) b s
    by (Keeper p) w = same (Keeper p) refl
    by (Borrower u d p) w = elim (cases_Bool (nat_eq t u && nat_le (open_count h t - n) d)) [
      | inl gone ↦ ap (λ r. not r && a (Borrower u d p)) gone ∙ sym (ap (λ r. not r && b (Borrower u d p)) gone)
      | inr left ↦ ap (λ r. not (nat_eq t u && nat_le (open_count h t - n) d) && r) (same (Borrower u d p) (elim (cases_Bool (nat_eq t u)) [
        | inl here ↦
            (let at = eqb-true t u here in
            let e = count_shut_here t n h u here in
            let less : nat_le (open_count h t - n) d ≡ false = ap (λ r. r && nat_le (open_count h t - n) d) (sym here) ∙ left in
            let less_here : nat_le (open_count h u - n) d ≡ false = ap (λ v. nat_le (open_count h v - n) d) (sym at) ∙ less in
            ap (nat_lt d) e ∙ (grind (arith, nat_tests, less_here)))
        | inr out ↦ ap (nat_lt d) (count_shut_other t n h u out) ∙ w
      ]))
    ]
had_within a b (ShutAll t ∷ h) x same = had_within (left_by t 0 a) (left_by t 0 b) h x by
  where
    by : (s : Holder) → is_within h s ≡ true → left_by t 0 a s ≡ left_by t 0 b s
    by (Keeper p) w = same (Keeper p) refl
    by (Borrower u d p) w = elim (cases_Bool (nat_eq t u)) [
      | inl here ↦
          (let low : nat_le 0 d ≡ true = grind (arith, nat_tests) in
          let gone : (nat_eq t u && nat_le 0 d) ≡ true = ap (λ r. r && nat_le 0 d) here ∙ low in
          ap (λ r. not r && a (Borrower u d p)) gone ∙ sym (ap (λ r. not r && b (Borrower u d p)) gone))
      | inr out ↦ ap (λ r. not (nat_eq t u && nat_le 0 d) && r) (same (Borrower u d p) (ap (nat_lt d) (count_all_other t h u out) ∙ w))
    ]

-- which loans later acts leave
abbrev survives : Ends → ℕ → ℕ → Bool
survives e c d = nat_lt d c && leaves (c - 1 - d) e

abbrev surviving : (Principal → Bool) → Endings → (ℕ → ℕ) → Holder → Bool
surviving among ends count (Keeper q) = among q
surviving among ends count (Borrower t d q) = among q && survives (ends t) (count t) d

loan_numbers : (e : Ends) (c d : ℕ) → nat_lt d c ≡ true → survives (fewer e) c d ≡ survives e (suc c) d
loan_numbers (Newest zero) c d w = grind (arith, nat_tests, w)
loan_numbers (Newest (suc k)) c d w = grind (arith, nat_tests, w)
loan_numbers Every c d w = grind (arith, nat_tests, w)

shut_numbers : (e : Ends) (c n d : ℕ) → nat_lt d c ≡ true → survives (and_more n e) c d ≡ (not (nat_le (c - n) d) && survives e (c - n) d)
shut_numbers (Newest k) c n d w = grind (arith, nat_tests, w)
shut_numbers Every c n d w = grind (arith, nat_tests, w)

and_swap : (a b c : Bool) → (a && (b && c)) ≡ (b && (a && c))
and_swap true b c = refl
and_swap false true c = refl
and_swap false false c = refl

-- a lend on the newest loan
newest_lasts : (e : Ends) (c : ℕ) → 0 < c → survives e c (c - 1) ≡ goes_on e
newest_lasts (Newest zero) c some = grind (arith, nat_tests, some)
newest_lasts (Newest (suc k)) c some = grind (arith, nat_tests, some)
newest_lasts Every c some = grind (arith, nat_tests, some)

lend_order : (g l a x : Bool) → (g && (l && (a && x))) ≡ (l && ((a && g) && x))
lend_order true true true x = refl
lend_order true true false x = refl
lend_order true false a x = refl
lend_order false true true x = refl
lend_order false true false x = refl
lend_order false false a x = refl

lend_is : (h : History) (t : ℕ) (l a x : Bool) (e : Ends) → lends h t ≡ l → (goes_on e && (l && (a && x))) ≡ (l && ((a && survives e (open_count h t) (open_count h t - 1)) && x))
lend_is h t true a x e is = lend_order (goes_on e) true a x ∙ ap (λ g. (a && g) && x) (sym (newest_lasts e (open_count h t) (some_loan h t is)))
lend_is h t false a x e is = and_false (goes_on e)

pub owned_had : (among : Principal → Bool) (ends : Endings) (h : History) (x : Atom) → owned_among among ends h x ≡ had (surviving among ends (open_count h)) h x
owned_had among ends [] x = refl
owned_had among ends (Grant q c ∷ h) x = ap (λ r. (among q && has c x) || r) (owned_had among ends h x)
owned_had among ends (Strip c ∷ h) x = ap (λ r. not (has c x) && r) (owned_had among ends h x)
owned_had among ends (Zero at size ∷ h) x = owned_had among ends h x
owned_had among ends (Loan t ∷ h) x = owned_had among (before_loan t ends) h x ∙ had_within (surviving among (before_loan t ends) (open_count h)) (surviving among ends (open_count (Loan t ∷ h))) h x by
  where
    by : (s : Holder) → is_within h s ≡ true → surviving among (before_loan t ends) (open_count h) s ≡ surviving among ends (open_count (Loan t ∷ h)) s
    by (Keeper q) w = refl
    by (Borrower u d q) w = ap (λ r. among q && r) (elim (cases_Bool (nat_eq t u)) [
      | inl here ↦
          ap (λ e. survives e (open_count h u) d) (opened_here (ends t) t ends u here (ap ends (sym (eqb-true t u here))))
          ∙ (loan_numbers (ends t) (open_count h u) d w ∙ (ap (λ v. survives (ends v) (suc (open_count h u)) d) (eqb-true t u here) ∙ ap (λ c. survives (ends u) c d) (sym (count_loan_here t h u here))))
      | inr out ↦ ap (λ e. survives e (open_count h u) d) (opened_other (ends t) t ends u out) ∙ ap (λ c. survives (ends u) c d) (sym (count_loan_other t h u out))
    ])
owned_had among ends (Lend t q c ∷ h) x =
    ap (λ r. r || owned_among among ends h x) (lend_is h t (lends h t) (among q) (has c x) (ends t) refl)
    ∙ ap (λ r. (lends h t && ((among q && survives (ends t) (open_count h t) (open_count h t - 1)) && has c x)) || r) (owned_had among ends h x)
owned_had among ends (Shut t n ∷ h) x = owned_had among (before_shut t n ends) h x
    ∙ had_within (surviving among (before_shut t n ends) (open_count h)) (left_by t (open_count h t - n) (surviving among ends (open_count (Shut t n ∷ h)))) h x by
  where
    by : (s : Holder) → is_within h s ≡ true → surviving among (before_shut t n ends) (open_count h) s ≡ left_by t (open_count h t - n) (surviving among ends (open_count (Shut t n ∷ h))) s
    by (Keeper q) w = refl
    by (Borrower u d q) w = elim (cases_Bool (nat_eq t u)) [
      | inl here ↦
          ap (λ e. among q && survives e (open_count h u) d) (with_here t (and_more n (ends t)) ends u here)
          ∙ (ap (λ r. among q && r) (shut_numbers (ends t) (open_count h u) n d w)
          ∙ (and_swap (among q) (not (nat_le (open_count h u - n) d)) (survives (ends t) (open_count h u - n) d)
          ∙ (ap (λ v. not (nat_le (open_count h u - n) d) && (among q && survives (ends v) (open_count h u - n) d)) (eqb-true t u here)
          ∙ (ap (λ c. not (nat_le (open_count h u - n) d) && (among q && survives (ends u) c d)) (sym (count_shut_here t n h u here))
          ∙ (ap (λ v. not (nat_le (open_count h v - n) d) && (among q && survives (ends u) (open_count (Shut t n ∷ h) u) d)) (sym (eqb-true t u here))
          ∙ ap (λ r. not (r && nat_le (open_count h t - n) d) && (among q && survives (ends u) (open_count (Shut t n ∷ h) u) d)) (sym here))))))
      | inr out ↦
          ap (λ e. among q && survives e (open_count h u) d) (with_other t (and_more n (ends t)) ends u out)
          ∙ (ap (λ c. among q && survives (ends u) c d) (sym (count_shut_other t n h u out))
          ∙ ap (λ r. not (r && nat_le (open_count h t - n) d) && (among q && survives (ends u) (open_count (Shut t n ∷ h) u) d)) (sym out))
    ]
owned_had among ends (ShutAll t ∷ h) x = owned_had among (before_shut_all t ends) h x
    ∙ had_within (surviving among (before_shut_all t ends) (open_count h)) (left_by t 0 (surviving among ends (open_count (ShutAll t ∷ h)))) h x by
  where
    by : (s : Holder) → is_within h s ≡ true → surviving among (before_shut_all t ends) (open_count h) s ≡ left_by t 0 (surviving among ends (open_count (ShutAll t ∷ h))) s
    by (Keeper q) w = refl
    by (Borrower u d q) w = elim (cases_Bool (nat_eq t u)) [
      | inl here ↦
          (let low : nat_le 0 d ≡ true = grind (arith, nat_tests) in
          let gone : (nat_eq t u && nat_le 0 d) ≡ true = ap (λ r. r && nat_le 0 d) here ∙ low in
          ap (λ e. among q && survives e (open_count h u) d) (with_here t Every ends u here)
          ∙ (ap (λ r. among q && r) (and_false (nat_lt d (open_count h u)))
          ∙ (and_false (among q) ∙ ap (λ r. not r && (among q && survives (ends u) (open_count (ShutAll t ∷ h) u) d)) (sym gone))))
      | inr out ↦
          ap (λ e. among q && survives e (open_count h u) d) (with_other t Every ends u out)
          ∙ (ap (λ c. among q && survives (ends u) c d) (sym (count_all_other t h u out))
          ∙ ap (λ r. not (r && nat_le 0 d) && (among q && survives (ends u) (open_count (ShutAll t ∷ h) u) d)) (sym out))
    ]

-- all that is owned is had by someone, on whatever ground
pub owned_is : (among : Principal → Bool) (h : History) (x : Atom) → owned_among among none_end h x ≡ had (by_all among) h x
owned_is among h x = owned_had among none_end h x ∙ had_within (surviving among none_end (open_count h)) (by_all among) h x by
  where
    by : (s : Holder) → is_within h s ≡ true → surviving among none_end (open_count h) s ≡ by_all among s
    by (Keeper q) w = refl
    by (Borrower t d q) w = ap (λ r. among q && r) (let e : survives (Newest 0) (open_count h t) d ≡ true = grind (arith, nat_tests, w) in e) ∙ and_yes (among q)

-- what is kept is had by keepers
pub kept_is : (among : Principal → Bool) (h : History) (x : Atom) → kept_among among h x ≡ had (by_keepers among) h x
kept_is among [] x = refl
kept_is among (Grant q c ∷ h) x = ap (λ r. (among q && has c x) || r) (kept_is among h x)
kept_is among (Strip c ∷ h) x = ap (λ r. not (has c x) && r) (kept_is among h x)
kept_is among (Zero at size ∷ h) x = kept_is among h x
kept_is among (Loan t ∷ h) x = kept_is among h x
kept_is among (Lend t q c ∷ h) x = kept_is among h x ∙ sym (ap (λ r. r || had (by_keepers among) h x) (and_false (lends h t)))
kept_is among (Shut t n ∷ h) x = kept_is among h x ∙ had_within (by_keepers among) (left_by t (open_count h t - n) (by_keepers among)) h x by
  where
    by : (s : Holder) → is_within h s ≡ true → by_keepers among s ≡ left_by t (open_count h t - n) (by_keepers among) s
    by (Keeper q) w = refl
    by (Borrower u d q) w = sym (and_false (not (nat_eq t u && nat_le (open_count h t - n) d)))
kept_is among (ShutAll t ∷ h) x = kept_is among h x ∙ had_within (by_keepers among) (left_by t 0 (by_keepers among)) h x by
  where
    by : (s : Holder) → is_within h s ≡ true → by_keepers among s ≡ left_by t 0 (by_keepers among) s
    by (Keeper q) w = refl
    by (Borrower u d q) w = sym (and_false (not (nat_eq t u && nat_le 0 d)))

-- who keeps something is its keeper
pub keeper_is : (q : Principal) (s : Holder) → same_holder (Keeper q) s ≡ by_keepers (same_principal q) s
keeper_is q (Keeper p) = refl
keeper_is q (Borrower t d p) = refl
