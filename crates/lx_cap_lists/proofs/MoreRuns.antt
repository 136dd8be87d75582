-- One more run of bytes.
use Rattle.std.proofs.Common.{◌≡◌, ◌≢◌, ℕ, ◌+◌, ◌-◌, ◌<◌, ◌≤◌, Bool, true, false, nat_lt, List, [], ◌∷◌, ◌++◌, inl, inr, refl, sym, ap, ◌∙◌, subst, append_assoc, arith}
use Rattle.std.specs.Prelude.{if◌then◌else◌}
use mathlib.Core.List.{append-nil}
use Rattle.std.proofs.lemmas.Bool.{cases_lt}
use Rattle.std.proofs.lemmas.Bool.Decides.{nat_tests}
use Rattle.lx_caps.specs.declared.Cap.{Cap}
use Rattle.lx_caps.specs.declared.Cap.TheVariants as cap
use Rattle.lx_caps.specs.Ranges.{IsRanges}
use Rattle.lx_cap_lists.specs.declared.runs.Span.{Span}
use Rattle.lx_cap_lists.specs.Runs.{write_of, IsFull, AreRangesUpTo}

-- a gap before a gap
gaps : (p : ℕ → Bool) (y m : ℕ) → (m < y → p m ≡ false) → (y ≤ m → p m ≡ false) → p m ≡ false
gaps p y m gap more = elim (cases_lt m y) [ inl lt ↦ gap lt | inr le ↦ more le ]

-- ranges from an earlier byte on
extends : (p : ℕ → Bool) (x y : ℕ) (cs : List Cap) → x ≤ y → ((m : ℕ) → x ≤ m → m < y → p m ≡ false) → IsRanges p y cs → IsRanges p x cs
extends p x y [] le gap l = λ m xm. gaps p y m (gap m xm) (l m)
extends p x y (cap.Write at size ∷ cs) le gap l =
    (omega (arith, le, l.0), (λ m xm ma. gaps p y m (gap m xm) (λ ym. l.1 m ym ma)), l.2, l.3, l.4, l.5)
extends p x y (cap.Call at ∷ cs) le gap l = l
extends p x y (cap.Ref ty at ∷ cs) le gap l = l

-- nothing stands before the first byte
pub none_before : (p : ℕ → Bool) (done : List Cap) (last : Span) → done ≡ [] → last.from ≡ 0 → last.end ≡ 0 → AreRangesUpTo p done last 0
none_before p done last none from to =
    record {
      order = omega (arith, from, to);
      within = omega (arith, to);
      full = λ b le lt. absurd (omega (arith, to, lt));
      gap = λ b le lt. absurd (omega (arith, lt));
      lists = λ rest l. subst (λ ds. IsRanges p 0 (ds ++ rest)) (sym none) (subst (λ x. IsRanges p x rest) from l);
    }

-- bytes that fail the test
pub goes_past : (p : ℕ → Bool) (done : List Cap) (last : Span) (x y : ℕ) → x ≤ y → ((b : ℕ) → x ≤ b → b < y → p b ≡ false) → AreRangesUpTo p done last x → AreRangesUpTo p done last y
goes_past p done last x y le gap r =
    record {
      order = r.order;
      within = omega (arith, r.within, le);
      full = r.full;
      gap = λ b from to. gaps p x b (λ lt. r.gap b from lt) (λ xb. gap b xb to);
      lists = r.lists;
    }

put_by : (some : Bool) (p : ℕ → Bool) (last : Span) (rest : List Cap) → nat_lt last.from last.end ≡ some → last.from ≤ last.end → IsFull p last → p last.end ≡ false → IsRanges p last.end rest
    → IsRanges p last.from ((if some then cap.Write last.from (last.end - last.from) ∷ [] else []) ++ rest)
put_by true p last rest some order full free l =
    let k : last.from + (last.end - last.from) ≡ last.end = omega (arith, order) in (
      omega arith,
      (λ m am ma. absurd (omega (arith, am, ma))),
      grind (arith, nat_tests, some),
      (λ m am ms. full m am (omega (arith, k, ms))),
      ap p k ∙ free,
      subst (λ y. IsRanges p y rest) (sym k) l,
    )
put_by false p last rest some order full free l =
    let e : last.from ≡ last.end = grind (arith, nat_tests, some, order) in subst (λ y. IsRanges p y rest) (sym e) l

-- the last range stands before what follows
put : (p : ℕ → Bool) (last : Span) (rest : List Cap) → last.from ≤ last.end → IsFull p last → p last.end ≡ false → IsRanges p last.end rest → IsRanges p last.from (write_of last ++ rest)
put p last rest = put_by (nat_lt last.from last.end) p last rest refl

-- a run behind the last range
pub stands_apart : (p : ℕ → Bool) (done new : List Cap) (last run : Span) → last.end ≢ run.from → new ≡ done ++ write_of last → run.from < run.end → IsFull p run → AreRangesUpTo p done last run.from
    → AreRangesUpTo p new run run.end
stands_apart p done new last run apart e some full r =
    record {
      order = omega (arith, some);
      within = omega arith;
      full = full;
      gap = λ b le lt. absurd (omega (arith, le, lt));
      lists = λ rest l. subst (IsRanges p 0) (sym (ap (λ ds. ds ++ rest) e ∙ append_assoc done (write_of last) rest))
          (r.lists (write_of last ++ rest)
          (put p last rest r.order r.full (r.gap last.end (omega arith) (omega (arith, apart, r.within))) (extends p last.end run.from rest r.within r.gap l)));
    }

-- behind all bytes
pub whole : (p : ℕ → Bool) (done new : List Cap) (last : Span) (x : ℕ) → new ≡ done ++ write_of last → ((b : ℕ) → x ≤ b → p b ≡ false) → AreRangesUpTo p done last x → IsRanges p 0 new
whole p done new last x e none r =
    let free : (b : ℕ) → last.end ≤ b → p b ≡ false = (λ b le. gaps p x b (r.gap b le) (none b)) in
    subst (IsRanges p 0) (sym e) (r.lists (write_of last) (subst (IsRanges p last.from) (append-nil (write_of last)) (put p last [] r.order r.full (free last.end (omega arith)) free)))
