-- What threads did, each by itself, and one legal history of them all, are one run of events.
use Rattle.std.proofs.Common.{◌≡◌, ◌≢◌, ◌⊎◌, inl, inr, ⊎_elim, ℕ, zero, suc, ◌+◌, ◌<◌, eq-eqb, ne_eqb, arith, Some, List, [], ◌∷◌, ◌++◌, length, sym, refl, ap, ◌∙◌, subst}
use Rattle.std.specs.Prelude.{if◌then◌else◌, slice_get, slice_set}
use mathlib.Core.Logic.{dite}
use native.Mathlib.Decide.{ℕ_discrete, dec_lt}
use Rattle.lx_model.specs.declared.program.Program.{Program}
use Rattle.lx_model.specs.State.{State}
use Rattle.lx_caplock.specs.declared.knowledge.Entry.{Entry}
use Rattle.lx_caplock.specs.History.{entries_of}
use Rattle.lx_caplock.specs.Serving.{IsLegal, served_by}
use Rattle.lx_threads.specs.Machines.{Machine, IsNext, Made, AllMade, IsEvent, AreEvents}

pub calls_here : (k : ℕ) (e : Entry) (es : List Entry) → k ≡ e.seat → entries_of k (e ∷ es) ≡ e ∷ entries_of k es
calls_here k e es is = ap (λ b. if b then e ∷ entries_of k es else entries_of k es) (eq-eqb k e.seat is)

pub calls_else : (k : ℕ) (e : Entry) (es : List Entry) → k ≢ e.seat → entries_of k (e ∷ es) ≡ entries_of k es
calls_else k e es not = ap (λ b. if b then e ∷ entries_of k es else entries_of k es) (ne_eqb k e.seat not)

module _ {N : Type 0} (machine : Machine N) where
  -- one call more
  pub made_more : (t : ℕ) (x y : N) (es : List Entry) (e : Entry) → IsNext machine t y e → Made machine t x es y → Made machine t x (es ++ e ∷ []) (machine.absorbs t y e.reply)
  made_more t x y [] e is made = (subst (λ (z : N). IsNext machine t z e) (sym made) is, ap (λ (z : N). machine.absorbs t z e.reply) made)
  made_more t x y (c ∷ es) e is made = (made.0, made_more t (machine.absorbs t x c.reply) y es e is made.1)

  -- a thread of the list
  pub record IsAt (i : ℕ) (t : ℕ) (xs : List N) (history : List Entry) (k : ℕ) (x y : N) : Type 0 where
    pub there : slice_get xs k ≡ Some x
    pub made : Made machine t x (entries_of (t + 1) history) y

  at : (i k t : ℕ) (xs ys : List N) (history : List Entry) → AllMade machine i xs history ys → i + k ≡ t → k < length xs → (x : N) × (y : N) × IsAt i t xs history k x y
  at i k t [] ys history all is there = absurd (omega arith)
  at i k t (x ∷ xs) [] history all is there = absurd all
  at i zero t (x ∷ xs) (y ∷ ys) history all is there = (x, y, record { there = refl; made = subst (λ (n : ℕ). Made machine n x (entries_of (n + 1) history) y) (omega arith) all.0 })
  at i (suc k) t (x ∷ xs) (y ∷ ys) history all is there =
      let r = at (suc i) k t xs ys history all.1 (omega arith) (omega arith) in (r.0, r.1, record { there = r.2.there; made = r.2.made })

  -- no entry of these threads
  passed : (i : ℕ) (e : Entry) (xs ys : List N) (es : List Entry) → e.seat < i + 1 → AllMade machine i xs (e ∷ es) ys → AllMade machine i xs es ys
  passed i e [] [] es low all = tt
  passed i e [] (y ∷ ys) es low all = absurd all
  passed i e (x ∷ xs) [] es low all = absurd all
  passed i e (x ∷ xs) (y ∷ ys) es low all =
      (subst (λ (l : List Entry). Made machine i x l y) (calls_else (i + 1) e es (λ same. omega arith)) all.0, passed (suc i) e xs ys es (omega arith) all.1)

  -- behind the first entry, which is that of the thread at place k
  behind : (i k t : ℕ) (e : Entry) (xs ys : List N) (es : List Entry) (x : N) → AllMade machine i xs (e ∷ es) ys → i + k ≡ t → e.seat ≡ t + 1 → slice_get xs k ≡ Some x
      → IsNext machine t x e × AllMade machine i (slice_set xs k (machine.absorbs t x e.reply)) es ys
  behind i k t e [] ys es x all is seat there = absurd (cc)
  behind i k t e (z ∷ xs) [] es x all is seat there = absurd all
  behind i zero t e (z ∷ xs) (y ∷ ys) es x all is seat there =
      let same : z ≡ x = cc in
      let here : i ≡ t = omega arith in
      let mine : Made machine t x (e ∷ entries_of (t + 1) es) y =
      subst (λ (l : List Entry). Made machine t x l y) (calls_here (t + 1) e es (sym seat)) (subst (λ (n : ℕ). Made machine n x (entries_of (n + 1) (e ∷ es)) y) here (subst (λ (w : N). Made machine i w (entries_of (i + 1) (e ∷ es)) y) same all.0)) in
      (mine.0, (subst (λ (n : ℕ). Made machine n (machine.absorbs t x e.reply) (entries_of (n + 1) es) y) (sym here) mine.1, passed (suc i) e xs ys es (omega arith) all.1))
  behind i (suc k) t e (z ∷ xs) (y ∷ ys) es x all is seat there =
      let r = behind (suc i) k t e xs ys es x all.1 (omega arith) seat there in
      (r.0, (subst (λ (l : List Entry). Made machine i z l y) (calls_else (i + 1) e es (λ same. omega arith)) all.0, r.1))

  -- where nothing is left to do
  pub all_same : (i : ℕ) (xs ys : List N) → AllMade machine i xs [] ys → xs ≡ ys
  all_same i [] [] all = refl
  all_same i [] (y ∷ ys) all = absurd all
  all_same i (x ∷ xs) [] all = absurd all
  all_same i (x ∷ xs) (y ∷ ys) all = λ j. all.0 j ∷ all_same (suc i) xs ys all.1 j

  set_length : (xs : List N) (k : ℕ) (x : N) → length (slice_set xs k x) ≡ length xs
  set_length [] k x = refl
  set_length (y ∷ ys) zero x = refl
  set_length (y ∷ ys) (suc k) x = ap suc (set_length ys k x)

  some_list : (e : Entry) (es : List Entry) → e ∷ es ≡ [] → ⊥
  some_list e es is = cc

  -- numbers that no thread's seat has
  abbrev pub NoneElse : ℕ → List Entry → Type 0
  NoneElse count history = (k : ℕ) → (k ≡ 0) ⊎ (count < k) → entries_of k history ≡ []

  none_behind : (count : ℕ) (e : Entry) (es : List Entry) → NoneElse count (e ∷ es) → NoneElse count es
  none_behind count e es none k out = dite (ℕ_discrete k e.seat) (λ same. absurd (some_list e (entries_of k es) (sym (calls_here k e es same) ∙ none k out))) (λ not. sym (calls_else k e es not) ∙ none k out)

  abbrev Further : Program → State → List N → List N → Entry → List Entry → Type 0
  Further p s xs ys e es = (t : ℕ) (x : N) → IsEvent machine p s xs e x → e.thread ≡ t → AllMade machine 0 (slice_set xs t (machine.absorbs t x e.reply)) es ys
      → AreEvents machine p (served_by p s e).state (slice_set xs t (machine.absorbs t x e.reply)) es ys

  run_on : (p : Program) (s : State) (xs ys : List N) (e : Entry) (es : List Entry) (n : ℕ) → e.seat ≡ n → (e.seat ≡ 0 → ⊥) → (length xs < e.seat → ⊥) → e.reply ≡ (served_by p s e).reply
      → AllMade machine 0 xs (e ∷ es) ys → Further p s xs ys e es → AreEvents machine p s xs (e ∷ es) ys
  run_on p s xs ys e es zero is not_none not_more reply all further = absurd (not_none is)
  run_on p s xs ys e es (suc t) is not_none not_more reply all further =
      let low : t < length xs = dite (dec_lt t (length xs)) (λ l. l) (λ g. absurd (not_more (omega arith))) in
      let r = at 0 t t xs ys (e ∷ es) all (omega arith) low in
      let b = behind 0 t t e xs ys es r.0 all (omega arith) (omega arith) r.2.there in
      let thread : e.thread ≡ t = b.0.thread in
      let event : IsEvent machine p s xs e r.0 = record {
        there = ap (slice_get xs) thread ∙ r.2.there;
        next = subst (λ (n : ℕ). IsNext machine n r.0 e) (sym thread) b.0;
        reply = reply;
      } in
      (r.0, event, subst (λ (n : ℕ). AreEvents machine p (served_by p s e).state (slice_set xs n (machine.absorbs n r.0 e.reply)) es ys) (sym thread) (further t r.0 event thread b.1))

  pub runs : (p : Program) (s : State) (xs ys : List N) (history : List Entry) → IsLegal p s history → AllMade machine 0 xs history ys → NoneElse (length xs) history → AreEvents machine p s xs history ys
  runs p s xs ys [] legal all none = all_same 0 xs ys all
  runs p s xs ys (e ∷ es) legal all none =
      run_on p s xs ys e es e.seat refl
      (λ z. some_list e (entries_of e.seat es) (sym (calls_here e.seat e es refl) ∙ none e.seat (inl z)))
      (λ z. some_list e (entries_of e.seat es) (sym (calls_here e.seat e es refl) ∙ none e.seat (inr z)))
      legal.0 all
      (λ t x event is left. runs p (served_by p s e).state (slice_set xs t (machine.absorbs t x e.reply)) ys es legal.1 left
      (λ k out. none_behind (length xs) e es none k (⊎_elim (λ z. inl z) (λ l. inr (omega (arith, set_length xs t (machine.absorbs t x e.reply)))) out)))
