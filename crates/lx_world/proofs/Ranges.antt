-- The ranges between cuts are the greatest ones.
use Rattle.std.proofs.Common.{◌≡◌, ℕ, zero, suc, ◌+◌, ◌-◌, ◌<◌, ◌≤◌, Bool, true, false, List, [], ◌∷◌, ◌++◌, Option, Some, None, inl, inr, is_some, refl, sym, ap, ◌∙◌, subst, arith}
use Rattle.std.proofs.lemmas.Bool.{true≢false, cases_lt}
use Rattle.lx_caps.specs.declared.Principal.{Principal}
use Rattle.lx_caps.specs.declared.Cap.{Cap}
use Rattle.lx_caps.specs.declared.Cap.TheVariants as cap
use Rattle.lx_caps.specs.declared.Atom.TheVariants.{Byte}
use Rattle.lx_caps.specs.History.{History, owns, same_principal}
use Rattle.lx_caps.specs.Ranges.{IsRanges, AreByteRanges}
use Rattle.lx_model.specs.Owned.{ascending, ends_of, mentioned, begun_behind, closed_at, ranges, owned_ranges}
use Rattle.lx_world.proofs.Cuts.{NotIn, Ascends, below_all, ascends, not_in, gaps, first_one}
use Rattle.lx_world.proofs.Mentioned.{steady, first_free, last, last_free}

-- ranges from an earlier number on
pub ranges_extend : (p : ℕ → Bool) (x y : ℕ) (cs : List Cap) → x ≤ y → ((m : ℕ) → x ≤ m → m < y → p m ≡ false) → IsRanges p y cs → IsRanges p x cs
ranges_extend p x y [] le gap l = λ m xm. gaps p x y m gap (l m) xm
ranges_extend p x y (cap.Write at size ∷ cs) le gap l =
    (omega (arith, le, l.0), (λ m xm ma. gaps p x y m gap (λ ym. l.1 m ym ma) xm), l.2, l.3, l.4, l.5)
ranges_extend p x y (cap.Call at ∷ cs) le gap l = l
ranges_extend p x y (cap.Ref ty at ∷ cs) le gap l = l

-- between cuts the test answers as it did before
flat : (p : ℕ → Bool) (x limit : ℕ) (v : Bool) → (x < limit → p x ≡ v) → ((b : ℕ) → x ≤ b → suc b < limit → p (suc b) ≡ p b) → (b : ℕ) → x ≤ b → b < limit → p b ≡ v
flat p x limit v start same zero le lt = let e : zero ≡ x = omega (arith, le) in ap p e ∙ start (omega (arith, e, lt))
flat p x limit v start same (suc b) le lt =
    elim (cases_lt b x) [
      | inl below ↦ (let e : suc b ≡ x = omega (arith, le, below) in ap p e ∙ start (omega (arith, e, lt)))
      | inr above ↦ same b above lt ∙ flat p x limit v start same b above (omega (arith, lt))
    ]

-- the range that has begun: it is owned up to here
abbrev Begun : (ℕ → Bool) → Option ℕ → ℕ → Type 0
Begun p None x = Unit {0}
Begun p (Some a) x = (a < x) × ((m : ℕ) → a ≤ m → m < x → p m ≡ true)

-- where the ranges that are left begin
abbrev start_of : Option ℕ → ℕ → ℕ
start_of None x = x
start_of (Some a) x = a

-- what is known between the cut before and those that are left
record Steady (p : ℕ → Bool) (begun : Option ℕ) (x : ℕ) (cs : List ℕ) : Type 0 where
  pub ascends : Ascends x cs
  pub begun_is : Begun p begun x
  pub first : NotIn x cs → p x ≡ is_some begun
  pub next : (b : ℕ) → x ≤ b → NotIn (suc b) cs → p (suc b) ≡ p b

begun_some : (w : Bool) (begun : Option ℕ) (d : ℕ) → is_some (begun_behind w begun d) ≡ w
begun_some true None d = refl
begun_some true (Some a) d = refl
begun_some false begun d = refl

begun_next : (p : ℕ → Bool) (w : Bool) (begun : Option ℕ) (x d : ℕ) → p d ≡ w → x ≤ d → Begun p begun x → ((b : ℕ) → x ≤ b → b < d → p b ≡ is_some begun) → Begun p (begun_behind w begun d) (suc d)
begun_next p true None x d e le begun between = (omega arith, (λ m dm md. let k : m ≡ d = omega (arith, dm, md) in ap p k ∙ e))
begun_next p true (Some a) x d e le begun between =
    (omega (arith, le, begun.0), (λ m am md. elim (cases_lt m x) [ inl lt ↦ begun.1 m am lt | inr xm ↦ elim (cases_lt m d) [ inl before ↦ between m xm before | inr dm ↦ (let k : m ≡ d = omega (arith, dm, md) in ap p k ∙ e) ] ]))
begun_next p false begun x d e le b between = tt

upto : (p : ℕ → Bool) (x d : ℕ) → p d ≡ false → ((m : ℕ) → x ≤ m → m < d → p m ≡ false) → (m : ℕ) → x ≤ m → m < suc d → p m ≡ false
upto p x d e gap m xm md = elim (cases_lt m d) [ inl lt ↦ gap m xm lt | inr dm ↦ (let k : m ≡ d = omega (arith, dm, md) in ap p k ∙ e) ]

-- one cut
cut : (p : ℕ → Bool) (w : Bool) (begun : Option ℕ) (x d : ℕ) (rest : List Cap) → p d ≡ w → x ≤ d → Begun p begun x → ((b : ℕ) → x ≤ b → b < d → p b ≡ is_some begun) →
    IsRanges p (start_of (begun_behind w begun d) (suc d)) rest → IsRanges p (start_of begun x) (closed_at w begun d ++ rest)
cut p true None x d rest e le begun between r = ranges_extend p x d rest le between r
cut p true (Some a) x d rest e le begun between r = r
cut p false None x d rest e le begun between r = ranges_extend p x (suc d) rest (omega (arith, le)) (upto p x d e between) r
cut p false (Some a) x d rest e le begun between r =
    let k : a + (d - a) ≡ d = omega (arith, le, begun.0) in (
      omega arith,
      (λ m am ma. absurd (omega (arith, am, ma))),
      omega (arith, le, begun.0),
      (λ m am md. elim (cases_lt m x) [ inl lt ↦ begun.1 m am lt | inr xm ↦ between m xm (omega (arith, md, k)) ]),
      ap p k ∙ e,
      subst (λ y. IsRanges p y rest) (sym k) (ranges_extend p d (suc d) rest (omega arith) (λ m dm md. let j : m ≡ d = omega (arith, dm, md) in ap p j ∙ e) r),
    )

abbrev owned : History → Principal → ℕ → Bool
owned h q b = owns h q (Byte b)

-- from the cuts that are left come the greatest ranges that are left
left : (h : History) (q : Principal) (cs : List ℕ) (begun : Option ℕ) (x : ℕ) → Steady (owned h q) begun x cs → IsRanges (owned h q) (start_of begun x) (ranges h q begun cs)
left h q [] None x s = λ m xm. flat (owned h q) x (suc m) false (λ lt. s.first tt) (λ b xb lt. s.next b xb tt) m xm (omega arith)
left h q [] (Some a) x s =
    absurd (true≢false (sym (flat (owned h q) x (suc (x + last h)) true (λ lt. s.first tt) (λ b xb lt. s.next b xb tt) (x + last h) (omega arith) (omega arith))
    ∙ last_free (same_principal q) h (x + last h) (omega arith)))
left h q (d ∷ ds) begun x s =
    let asc : Ascends d (d ∷ ds) = (omega arith, s.ascends.1) in
    let between : (b : ℕ) → x ≤ b → b < d → owned h q b ≡ is_some begun = flat (owned h q) x d (is_some begun) (λ lt. s.first (below_all d x (d ∷ ds) asc lt)) (λ b xb lt. s.next b xb (below_all d (suc b) (d ∷ ds) asc lt)) in
    cut (owned h q) (owned h q d) begun x d (ranges h q (begun_behind (owned h q d) begun d) ds) refl s.ascends.0 s.begun_is between
    (left h q ds (begun_behind (owned h q d) begun d) (suc d) (record {
      ascends = s.ascends.1;
      begun_is = begun_next (owned h q) (owned h q d) begun x d refl s.ascends.0 s.begun_is between;
      first = λ n. s.next d s.ascends.0 ((λ e. absurd (omega (arith, e))), n) ∙ sym (begun_some (owned h q d) begun d);
      next = λ b db n. s.next b (omega (arith, db, s.ascends.0)) ((λ e. absurd (omega (arith, e, db))), n);
    }))

-- what the definition lists are the greatest ranges of owned bytes
pub owned_ranges-greatest : (h : History) (q : Principal) → IsRanges (λ b. owns h q (Byte b)) 0 (owned_ranges h q)
owned_ranges-greatest h q =
    left h q (ascending (mentioned ends_of h)) None 0 (record {
      ascends = ascends (mentioned ends_of h);
      begun_is = tt;
      first = λ n. first_free (same_principal q) h (not_in 0 (mentioned ends_of h) n);
      next = λ b le n. steady (same_principal q) h b (not_in (suc b) (mentioned ends_of h) n);
    })

same_end : (p : ℕ → Bool) (a s r : ℕ) → 0 < s → 0 < r → ((m : ℕ) → a ≤ m → m < a + s → p m ≡ true) → ((m : ℕ) → a ≤ m → m < a + r → p m ≡ true) → p (a + s) ≡ false → p (a + r) ≡ false → s ≡ r
same_end p a s r ps pr ts tr es er =
    elim (cases_lt s r) [
      | inl lt ↦ absurd (true≢false (sym (tr (a + s) (omega arith) (omega (arith, lt))) ∙ es))
      | inr le ↦ elim (cases_lt r s) [ inl lt ↦ absurd (true≢false (sym (ts (a + r) (omega arith) (omega (arith, lt))) ∙ er)) | inr ge ↦ omega (arith, le, ge) ]
    ]

-- there is but one list of greatest ranges
pub ranges_one : (p : ℕ → Bool) (x : ℕ) (cs ds : List Cap) → IsRanges p x cs → IsRanges p x ds → cs ≡ ds
ranges_one p x [] [] k l = refl
ranges_one p x [] (cap.Write a s ∷ ds) k l = absurd (true≢false (sym (l.3 a (omega arith) (omega (arith, l.2))) ∙ k a l.0))
ranges_one p x [] (cap.Call a ∷ ds) k l = absurd l
ranges_one p x [] (cap.Ref t a ∷ ds) k l = absurd l
ranges_one p x (cap.Write a s ∷ cs) [] k l = absurd (true≢false (sym (k.3 a (omega arith) (omega (arith, k.2))) ∙ l a k.0))
ranges_one p x (cap.Call a ∷ cs) ds k l = absurd k
ranges_one p x (cap.Ref t a ∷ cs) ds k l = absurd k
ranges_one p x (cap.Write a s ∷ cs) (cap.Call b ∷ ds) k l = absurd l
ranges_one p x (cap.Write a s ∷ cs) (cap.Ref t b ∷ ds) k l = absurd l
ranges_one p x (cap.Write a s ∷ cs) (cap.Write b r ∷ ds) k l =
    let e : a ≡ b = first_one p x a b k.0 l.0 k.1 l.1 (k.3 a (omega arith) (omega (arith, k.2))) (l.3 b (omega arith) (omega (arith, l.2))) in
    let l' : IsRanges p x (cap.Write a r ∷ ds) = subst (λ y. IsRanges p x (cap.Write y r ∷ ds)) (sym e) l in
    let f : s ≡ r = same_end p a s r k.2 l'.2 k.3 l'.3 k.4 l'.4 in
    let g : cs ≡ ds = ranges_one p (a + s) cs ds k.5 (subst (λ y. IsRanges p (a + y) ds) (sym f) l'.5) in
    λ i. cap.Write (e i) (f i) ∷ g i

-- what is listed of the bytes that a principal owns
pub ranges_are : (h : History) (q : Principal) (cs : List Cap) → AreByteRanges h q cs → cs ≡ owned_ranges h q
ranges_are h q cs are = ranges_one (λ b. owns h q (Byte b)) 0 cs (owned_ranges h q) are (owned_ranges-greatest h q)
