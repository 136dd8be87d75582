-- The first line of a report tells its schedule.
use Rattle.std.proofs.Common.{◌≡◌, ℕ, ◌<◌, ◌^◌, All, List, [], ◌∷◌, ◌++◌, length, codes, ap, sym, ◌∙◌, refl, arith, append_assoc}
use Rattle.std.specs.Char.{IsAsciiDigit}
use Rattle.std.specs.List.{enumerate_from, flat_map}
use Rattle.std.proofs.lemmas.List.Elements.{All-head, All-tail}
use Rattle.std.proofs.lemmas.List.{append_cancel_left}
use Rattle.lx_words.specs.TextLaws.{NumberTexts}
use Rattle.lx_annot.specs.Canonical.{Text}
use Rattle.lx_model.specs.declared.program.Program.{Program}
use Rattle.lx_model.specs.declared.account.Account.{Account}
use Rattle.lx_report.specs.Runs.{Run, run, runs}
use Rattle.lx_report.specs.Report.{number_text, run_text, schedule_line, call_line, note_line, image_line, owner_line, report_text}
use Rattle.lx_report.specs.Laws.{events_of, IsSchedule, ReportLaws}
use Rattle.lx_report.proofs.Maximal.{Fit, fit, maximal, written_out}

no_digit : (c : ℕ) (ds : Text) → c < 48 → All IsAsciiDigit (c ∷ ds) → ⊥
no_digit c ds h all = let d = All-head IsAsciiDigit c ds all in omega (arith, d)

-- digits end where another byte follows
digits_end : (ds es : Text) (c d : ℕ) (u v : Text) → All IsAsciiDigit ds → All IsAsciiDigit es → c < 48 → d < 48 → ds ++ c ∷ u ≡ es ++ d ∷ v → (ds ≡ es) × (c ∷ u ≡ d ∷ v)
digits_end [] [] c d u v p q a b e = (refl, e)
digits_end [] (x ∷ es) c d u v p q a b e = absurd (no_digit x es (let same : c ≡ x = cc in omega arith) q)
digits_end (x ∷ ds) [] c d u v p q a b e = absurd (no_digit x ds (let same : x ≡ d = cc in omega arith) p)
digits_end (x ∷ ds) (y ∷ es) c d u v p q a b e =
    let first : x ≡ y = cc in
    let rest = digits_end ds es c d u v (All-tail IsAsciiDigit x ds p) (All-tail IsAsciiDigit y es q) a b (cc) in
    (ap (λ z. z ∷ ds) first ∙ ap (λ zs. y ∷ zs) rest.0, rest.1)

same_head : (a b : ℕ) (x y : Text) → a ∷ x ≡ b ∷ y → a ≡ b
same_head a b x y e = cc

apart : (x y : Text) → 10 ∷ x ≡ 32 ∷ y → ⊥
apart x y e = let same = same_head 10 32 x y e in omega arith

same_tail : {c : ℕ} (x y : Text) → c ∷ x ≡ c ∷ y → x ≡ y
same_tail x y e = cc

in_line : (s : List ℕ) (more : Text) → schedule_line s ++ more ≡ codes "schedule" ++ (flat_map run_text (runs s) ++ 10 ∷ more)
in_line s more = simp append_assoc

lines : (a b c d e : Text) → a ++ b ++ c ++ d ++ e ≡ a ++ (b ++ (c ++ (d ++ e)))
lines a b c d e = simp append_assoc

-- the text behind the first line
abbrev behind_first : Program → Account → Text
behind_first p a =
    flat_map (call_line p a) (enumerate_from 0 a.outcomes)
    ++ (flat_map note_line a.notes ++ (flat_map (image_line p) (enumerate_from 0 a.images) ++ flat_map (owner_line p a.names) a.owners))

in_report : (p : Program) (a : Account) → report_text p a ≡ schedule_line a.schedule ++ behind_first p a
in_report p a =
    lines (schedule_line a.schedule) (flat_map (call_line p a) (enumerate_from 0 a.outcomes)) (flat_map note_line a.notes)
    (flat_map (image_line p) (enumerate_from 0 a.images)) (flat_map (owner_line p a.names) a.owners)

module _ (n : NumberTexts) where
  digits : (m : ℕ) → All IsAsciiDigit (number_text m)
  unfolding number_text
  digits m = n.digits m

  same_number : (m k : ℕ) → m < 2 ^ 64 → k < 2 ^ 64 → number_text m ≡ number_text k → m ≡ k
  unfolding number_text
  same_number m k a b e = n.decimal m k (omega arith) (omega arith) e

  -- a number ends where a byte below the digits follows
  number_ends : (m k c d : ℕ) (u v : Text) → m < 2 ^ 64 → k < 2 ^ 64 → c < 48 → d < 48 → number_text m ++ c ∷ u ≡ number_text k ++ d ∷ v → (m ≡ k) × (c ∷ u ≡ d ∷ v)
  number_ends m k c d u v a b p q e =
      let r = digits_end (number_text m) (number_text k) c d u v (digits m) (digits k) p q e in
      (same_number m k a b r.0, r.1)

  -- what follows the text of some runs
  behind : (r : Run) (more rest : Text) → (run_text r ++ more) ++ 10 ∷ rest ≡ 32 ∷ (number_text r.thread ++ 42 ∷ (number_text r.count ++ (more ++ 10 ∷ rest)))
  behind r more rest = simp append_assoc

  -- no number goes on into the next run, nor into the line's end
  abbrev goes_on : List Run → Text → Type 0
  goes_on rs rest = (c : ℕ) × (u : Text) × (c < 48) × (flat_map run_text rs ++ 10 ∷ rest ≡ c ∷ u)

  goes : (rs : List Run) (rest : Text) → goes_on rs rest
  goes [] rest = (10, rest, omega arith, refl)
  goes (r ∷ rs) rest = (32, _, omega arith, behind r (flat_map run_text rs) rest)

  runs_same : (m k : ℕ) (rs qs : List Run) (x y : Text) → m < 2 ^ 64 → k < 2 ^ 64 → Fit m rs → Fit k qs → flat_map run_text rs ++ 10 ∷ x ≡ flat_map run_text qs ++ 10 ∷ y → rs ≡ qs
  runs_same m k [] [] x y a b p q e = refl
  runs_same m k [] (r ∷ qs) x y a b p q e = absurd (apart x _ (e ∙ behind r (flat_map run_text qs) y))
  runs_same m k (r ∷ rs) [] x y a b p q e = absurd (apart y _ (sym e ∙ behind r (flat_map run_text rs) x))
  runs_same m k (r ∷ rs) (s ∷ qs) x y a b p q e =
      let inside = sym (behind r (flat_map run_text rs) x) ∙ e ∙ behind s (flat_map run_text qs) y in
      let g = goes rs x in
      let h = goes qs y in
      let threads = number_ends r.thread s.thread 42 42 _ _ (omega (arith, p.0)) (omega (arith, q.0)) (omega arith) (omega arith) (same_tail _ _ inside) in
      let after = ap (λ t. number_text r.count ++ t) (sym g.3) ∙ same_tail _ _ threads.1 ∙ ap (λ t. number_text s.count ++ t) h.3 in
      let counts = number_ends r.count s.count g.0 h.0 g.1 h.1 (omega (arith, p.1)) (omega (arith, q.1)) g.2 h.2 after in
      let more = runs_same m k rs qs x y a b p.2 q.2 (g.3 ∙ counts.1 ∙ sym h.3) in
      λ i. run (threads.0 i) (counts.0 i) ∷ more i

  same_schedule : (s t : List ℕ) (more rest : Text) → IsSchedule s → IsSchedule t → flat_map run_text (runs s) ++ 10 ∷ more ≡ flat_map run_text (runs t) ++ 10 ∷ rest → s ≡ t
  same_schedule s t more rest a b e =
      sym (written_out s)
      ∙ ap (flat_map events_of) (runs_same (length s) (length t) (runs s) (runs t) more rest a.0 b.0 (fit s a.1) (fit t b.1) e)
      ∙ written_out t

  pub first_line : (s t : List ℕ) (more rest : Text) → IsSchedule s → IsSchedule t → schedule_line s ++ more ≡ schedule_line t ++ rest → s ≡ t
  first_line s t more rest a b e =
      same_schedule s t more rest a b (append_cancel_left (codes "schedule") _ _ (sym (in_line s more) ∙ e ∙ in_line t rest))

  recovered : (p q : Program) (a b : Account) → IsSchedule a.schedule → IsSchedule b.schedule → report_text p a ≡ report_text q b → a.schedule ≡ b.schedule
  recovered p q a b s t e = first_line a.schedule b.schedule (behind_first p a) (behind_first q b) s t (sym (in_report p a) ∙ e ∙ in_report q b)

  pub report_laws : ReportLaws
  report_laws = record { written_out = written_out; maximal = maximal; first_line = first_line; recovered = recovered }
