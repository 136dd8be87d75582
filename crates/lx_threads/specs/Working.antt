-- What a worker may do and has done.
use Rattle.std.specs.Prelude.{◌≡◌, ◌⊎◌, ◌<◌, ℕ, suc, IsTrue, List, [], ◌∷◌, ◌++◌, Option, Some, None, length}
use Rattle.lx_model.specs.declared.program.Program.{Program}
use Rattle.lx_model.specs.declared.request.Request.{Request}
use Rattle.lx_model.specs.State.{State}
use Rattle.lx_caplock.specs.declared.knowledge.Entry.{Entry}
use Rattle.lx_caplock.specs.declared.lock.CapLock.{CapLock}
use Rattle.lx_caplock.specs.History.{Begins}
use Rattle.lx_caplock.specs.Seats.{IsSeatOf, view_of, opened_with, seen_of, mine_of}
use Rattle.lx_caplock.specs.Serving.{Leaves, state_after}
use Rattle.lx_caplock.specs.Calls.{IsSameSeat}
use Rattle.lx_threads.specs.declared.worker.Worker.{Worker}
use Rattle.lx_threads.specs.Machines.{Machine, Made, AreEvents}

-- the part that was opened stands for the state
abbrev pub StandsFrom : {T : Type 0} → (T → State → Type 0) → Option T → State → Type 0
StandsFrom stands None s = ⊥
StandsFrom stands (Some o) s = stands o s

-- the part that was opened serves the program
abbrev pub Opens : {T : Type 0} → (T → Program) → Option T → Program → Type 0
Opens program None p = ⊥
Opens program (Some o) p = program o ≡ p

-- the thread may ask: what was opened serves the program of its code and stands for a state, what runs stands for a state of
-- the thread, and what threads ask may be served
pub record MayWork {T K N X : Type 0} (program : T → Program) (part : T → State → Type 0) (takes : Program → ℕ → Request → Type 0) (text : K → Program) (runs : K → ℕ → N → X → Type 0) (fits : Program → ℕ → Request → Type 0)
    (code : K) (worker : Worker T N) : Type 0 where
  pub opened : Opens program (opened_with worker.seat) (text code)
  pub thread : worker.thread < 16
  pub state : (s : State) × StandsFrom part (opened_with worker.seat) s
  pub runner : (x : X) × runs code worker.thread worker.runner x
  pub served : (p : Program) (t : ℕ) (r : Request) → fits p t r → takes p t r

-- what runs stands for the state that the thread has come to by these calls
pub record ComesTo {K N X : Type 0} (runs : K → ℕ → N → X → Type 0) (machine : Machine X) (code : K) (t : ℕ) (runner : N) (x : X) (made : List Entry) (y : X) : Type 0 where
  pub calls : Made machine t x made y
  pub stands : runs code t runner y

-- the worker has asked, and its runner has come to what the replies make of the thread
pub record HasWorked {T K N X : Type 0} (part : T → State → Type 0) (runs : K → ℕ → N → X → Type 0) (machine : Machine X) (code : K) (old new : Worker T N) : Type 0 where
  pub made : List Entry
  pub mine : mine_of new.seat ≡ mine_of old.seat ++ made
  pub comes : (s : State) (x : X) → StandsFrom part (opened_with old.seat) s → runs code old.thread old.runner x → (y : X) × ComesTo runs machine code old.thread new.runner x made y

module _ {T K N X : Type 0} (program : T → Program) (part : T → State → Type 0) (lacks : T → ℕ → Request → Type 0) (wants : K → N → Type 0) (machine : Machine X) where
  -- where the thread has work left, what runs with it lacks memory for its own steps, or what this history leaves of the part lacks it for
  -- what the thread asks next
  abbrev pub LacksIfLeft : Option T → List Entry → K → ℕ → N → X → Type 0
  LacksIfLeft opened seen code t runner x = IsTrue (machine.works x) → wants code runner ⊎ ((q : T) × Leaves program part opened q seen × lacks q t (machine.asks t x))

  -- the same of some beginning of the history
  abbrev pub LacksWithin : T → List Entry → K → ℕ → N → X → Type 0
  LacksWithin opened history code t runner x = (seen : List Entry) × Begins seen history × LacksIfLeft (Some opened) seen code t runner x

-- the worker has stopped: no work is left, or memory was lacking behind what its seat has seen
pub record HasStopped {T K N X : Type 0} (program : T → Program) (part : T → State → Type 0) (lacks : T → ℕ → Request → Type 0) (runs : K → ℕ → N → X → Type 0) (wants : K → N → Type 0) (machine : Machine X) (code : K) (old new : Worker T N) : Type 0 where
  pub worked : HasWorked part runs machine code old new
  pub left : (s : State) (x : X) (stands : StandsFrom part (opened_with old.seat) s) (runner : runs code old.thread old.runner x)
      → LacksIfLeft program part lacks wants machine (opened_with old.seat) (seen_of new.seat) code old.thread new.runner (worked.comes s x stands runner).0

-- the worker has asked, with the seat of its lock
pub record AfterWork {T K N X : Type 0} (program : T → Program) (part : T → State → Type 0) (lacks : T → ℕ → Request → Type 0) (runs : K → ℕ → N → X → Type 0) (wants : K → N → Type 0) (machine : Machine X) (code : K) (lock : CapLock T) (old new : Worker T N) : Type 0 where
  pub of : IsSeatOf lock new.seat
  pub thread : new.thread ≡ old.thread
  pub same : IsSameSeat (view_of old.seat) (view_of new.seat)
  pub worked : HasStopped program part lacks runs wants machine code old new

-- what runs with the threads stands for states of them, the first of which has this number
abbrev pub AllStand : {K N X : Type 0} → (K → ℕ → N → X → Type 0) → K → ℕ → List N → List X → Type 0
AllStand runs code t [] [] = Unit {0}
AllStand runs code t [] (x ∷ xs) = ⊥
AllStand runs code t (r ∷ rs) [] = ⊥
AllStand runs code t (r ∷ rs) (x ∷ xs) = runs code t r x × AllStand runs code (suc t) rs xs

-- threads may run from this part
pub record MayRun {T K N X : Type 0} (program : T → Program) (part : T → State → Type 0) (takes : Program → ℕ → Request → Type 0) (text : K → Program) (runs : K → ℕ → N → X → Type 0) (fits : Program → ℕ → Request → Type 0)
    (code : K) (opened : T) (runners : List N) : Type 0 where
  pub same : program opened ≡ text code
  pub state : (s : State) × part opened s
  pub threads : (xs : List X) × AllStand runs code 0 runners xs
  pub served : (p : Program) (t : ℕ) (r : Request) → fits p t r → takes p t r

-- the threads have run: the history is one event after the other, the part stands for the state that they leave, and what runs
-- stands for the threads behind them
pub record ComesToAll {T K N X : Type 0} (part : T → State → Type 0) (runs : K → ℕ → N → X → Type 0) (machine : Machine X) (p : Program) (code : K) (closed : T) (runners : List N) (history : List Entry) (s : State) (xs ys : List X) : Type 0 where
  pub events : AreEvents machine p s xs history ys
  pub state : part closed (state_after p s history)
  pub threads : AllStand runs code 0 runners ys

-- the threads have run: there is one history of them all, and part and runners come to what it leaves, for each state of the part and
-- each list of threads for which they stood. A thread has work left only for want of memory
pub record HasRun {T K N X : Type 0} (program : T → Program) (part : T → State → Type 0) (lacks : T → ℕ → Request → Type 0) (runs : K → ℕ → N → X → Type 0) (wants : K → N → Type 0) (machine : Machine X) (code : K) (opened closed : T) (old new : List N) : Type 0 where
  pub history : List Entry
  pub same : program closed ≡ program opened
  pub many : length new ≡ length old
  pub comes : (s : State) (xs : List X) → part opened s → AllStand runs code 0 old xs → (ys : List X) × ComesToAll part runs machine (program opened) code closed new history s xs ys
  pub left : (s : State) (xs : List X) (stands : part opened s) (runners : AllStand runs code 0 old xs) → AllStand (LacksWithin program part lacks wants machine opened history) code 0 new (comes s xs stands runners).0
