-- Threads of a machine that asks: what each did by itself, and what they did together.
use Rattle.std.specs.Prelude.{◌≡◌, ℕ, suc, ◌+◌, Bool, IsTrue, Some, List, [], ◌∷◌, slice_get, slice_set}
use Rattle.lx_model.specs.declared.program.Program.{Program}
use Rattle.lx_model.specs.declared.request.Reply.{Reply}
use Rattle.lx_model.specs.declared.request.Request.{Request}
use Rattle.lx_model.specs.State.{State}
use Rattle.lx_caplock.specs.declared.knowledge.Entry.{Entry}
use Rattle.lx_caplock.specs.History.{entries_of}
use Rattle.lx_caplock.specs.Serving.{served_by}

-- whether a thread has work, what it asks, and what it is behind a reply
pub record Machine (N : Type 0) : Type 0 where
  pub works : N → Bool
  pub asks : ℕ → N → Request
  pub absorbs : ℕ → N → Reply → N

module _ {N : Type 0} (machine : Machine N) where
  -- the entry is the thread's next request
  pub record IsNext (t : ℕ) (x : N) (e : Entry) : Type 0 where
    pub thread : e.thread ≡ t
    pub work : IsTrue (machine.works x)
    pub request : e.request ≡ machine.asks t x

  -- the thread made these calls by itself, and came from x to y
  abbrev pub Made : ℕ → N → List Entry → N → Type 0
  Made t x [] y = x ≡ y
  Made t x (e ∷ es) y = IsNext t x e × Made t (machine.absorbs t x e.reply) es y

  -- the threads, of which the first has this number, made the calls of the seats whose numbers are one above theirs
  abbrev pub AllMade : ℕ → List N → List Entry → List N → Type 0
  AllMade i [] history [] = Unit {0}
  AllMade i [] history (y ∷ ys) = ⊥
  AllMade i (x ∷ xs) history [] = ⊥
  AllMade i (x ∷ xs) history (y ∷ ys) = Made i x (entries_of (i + 1) history) y × AllMade (suc i) xs history ys

  -- an event of the thread of an entry: what it asks next is served, and it takes in the reply
  pub record IsEvent (p : Program) (s : State) (xs : List N) (e : Entry) (x : N) : Type 0 where
    pub there : slice_get xs e.thread ≡ Some x
    pub next : IsNext e.thread x e
    pub reply : e.reply ≡ (served_by p s e).reply

  -- one event for each entry, in order
  abbrev pub AreEvents : Program → State → List N → List Entry → List N → Type 0
  AreEvents p s xs [] ys = xs ≡ ys
  AreEvents p s xs (e ∷ es) ys = (x : N) × IsEvent p s xs e x × AreEvents p (served_by p s e).state (slice_set xs e.thread (machine.absorbs e.thread x e.reply)) es ys
