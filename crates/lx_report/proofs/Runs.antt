-- Runs read from the front are the runs of the schedule.
use Rattle.std.proofs.Common.{◌≡◌, ℕ, suc, ◌+◌, true, false, Bool, nat_eq, cond, Some, None, List, [], ◌∷◌, ap, sym, ◌∙◌, refl, arith, zero-add, eqb-true}
use Rattle.lx_words.proofs.Tests.{eq_self, apart_turned}
use Rattle.lx_report.specs.Runs.{Run, run, joined, runs}
use Rattle.lx_report.specs.Begun.{begun, runs_from}

-- the first run with so many events more
abbrev widened : ℕ → List Run → List Run
widened n [] = []
widened n (r ∷ rs) = run r.thread (n + r.count) ∷ rs

widened_none : (rs : List Run) → widened 0 rs ≡ rs
widened_none [] = refl
widened_none (r ∷ rs) = ap (λ n. run r.thread n ∷ rs) (zero-add r.count)

by_test : (b : Bool) (x y z : List Run) → (b ≡ true → x ≡ z) → (b ≡ false → y ≡ z) → elim b as (λ _. List Run) [ true ↦ x | false ↦ y ] ≡ z
by_test true x y z p q = p refl
by_test false x y z p q = q refl

joined_same : (t c : ℕ) (rs : List Run) → joined t (run t c ∷ rs) ≡ run t (suc c) ∷ rs
joined_same t c rs = ap (λ b. cond b (run t (suc c) ∷ rs) (run t 1 ∷ run t c ∷ rs)) (eq_self t)

joined_other : (t u c : ℕ) (rs : List Run) → nat_eq t u ≡ false → joined t (run u c ∷ rs) ≡ run t 1 ∷ run u c ∷ rs
joined_other t u c rs h = ap (λ b. cond b (run t (suc c) ∷ rs) (run t 1 ∷ run u c ∷ rs)) h

-- a thread that has joined stands first
abbrev BeginsWith : ℕ → List Run → Type 0
BeginsWith t rs = (n : ℕ) × (more : List Run) × (rs ≡ run t n ∷ more)

begins_by_test : (b : Bool) (t m n : ℕ) (rs more : List Run) → BeginsWith t (cond b (run t m ∷ rs) (run t n ∷ more))
begins_by_test true t m n rs more = (m, rs, refl)
begins_by_test false t m n rs more = (n, more, refl)

pub joined_begins : (t : ℕ) (rs : List Run) → BeginsWith t (joined t rs)
joined_begins t [] = (1, [], refl)
joined_begins t (r ∷ rs) = begins_by_test (nat_eq t r.thread) t (suc r.count) 1 rs (r ∷ rs)

wider : (t n : ℕ) (rs : List Run) → widened (n + 1) (joined t rs) ≡ widened n (joined t (joined t rs))
wider t n rs =
    let b = joined_begins t rs in
    ap (widened (n + 1)) b.2
    ∙ ap (λ k. run t k ∷ b.1) (omega arith)
    ∙ sym (ap (widened n) (ap (joined t) b.2 ∙ joined_same t b.0 b.1))

apart : (t n u : ℕ) (rs : List Run) → nat_eq u t ≡ false → run t (suc n) ∷ joined u rs ≡ widened n (joined t (joined u rs))
apart t n u rs h =
    let b = joined_begins u rs in
    ap (λ k. run t (suc n) ∷ k) b.2
    ∙ ap (λ k. run t k ∷ run u b.0 ∷ b.1) (omega arith)
    ∙ sym (ap (widened n) (ap (joined t) b.2 ∙ joined_other t u b.0 b.1 (apart_turned u t h)))

runs_from_begun : (t n : ℕ) (s : List ℕ) → runs_from (Some (begun t (suc n))) s ≡ widened n (joined t (runs s))
runs_from_begun t n [] = ap (λ k. run t k ∷ []) (omega arith)
runs_from_begun t n (u ∷ us) =
    by_test (nat_eq u t) _ _ _
    (λ e.
    ap (λ k. runs_from (Some (begun t k)) us) (omega arith)
    ∙ runs_from_begun t (n + 1) us
    ∙ wider t n (runs us)
    ∙ ap (λ k. widened n (joined t (joined k (runs us)))) (sym (eqb-true u t e)))
    (λ e.
    ap (λ k. run t (suc n) ∷ k) (runs_from_begun u 0 us ∙ widened_none (joined u (runs us))) ∙ apart t n u (runs us) e)

pub runs_from_none : (s : List ℕ) → runs_from None s ≡ runs s
runs_from_none [] = refl
runs_from_none (t ∷ ts) = runs_from_begun t 0 ts ∙ widened_none (joined t (runs ts))
