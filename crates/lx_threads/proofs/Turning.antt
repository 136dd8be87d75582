-- What a worker has done, turn by turn.
use Rattle.std.proofs.Common.{◌≡◌, ◌∙◌, refl, sym, ap, subst, ℕ, List, [], ◌∷◌, ◌++◌, append_assoc, append-nil, inr, IsTrue, Bool, true, false, not}
use Rattle.std.specs.Prelude.{Option, Some, None}
use Rattle.lx_model.specs.declared.program.Program.{Program}
use Rattle.lx_model.specs.declared.request.Reply.{Reply}
use Rattle.lx_model.specs.declared.request.Request.{Request}
use Rattle.lx_model.specs.Serve.{serve}
use Rattle.lx_model.specs.State.{State}
use Rattle.lx_caplock.specs.declared.knowledge.Entry.{Entry}
use Rattle.lx_caplock.specs.declared.knowledge.View.{View}
use Rattle.lx_caplock.specs.Seats.{view_of, number_of, seen_of, mine_of, opened_with}
use Rattle.lx_caplock.specs.Serving.{served_by, IsLegal, LegalFrom, Leaves, MayAsk}
use Rattle.lx_caplock.specs.History.{entry}
use Rattle.lx_caplock.specs.Calls.{Answers, Refuses, IsSameSeat}
use Rattle.lx_threads.specs.declared.worker.Worker.{Worker}
use Rattle.lx_threads.specs.Machines.{Machine}
use Rattle.lx_threads.specs.Working.{StandsFrom, Opens, ComesTo, HasWorked, HasStopped}
use Rattle.lx_threads.proofs.Runs.{made_more}

legal_last : (p : Program) (s : State) (xs : List Entry) (e : Entry) → IsLegal p s (xs ++ e ∷ []) → (z : State) × (e.reply ≡ (served_by p z e).reply)
legal_last p s [] e l = (s, l.0)
legal_last p s (x ∷ xs) e l = legal_last p (served_by p s x).state xs e l.1

pub same_trans : {T : Type 0} (u v w : View T) → IsSameSeat u v → IsSameSeat v w → IsSameSeat u w
same_trans u v w a b = record { opened_part = b.opened_part ∙ a.opened_part; seats = b.seats ∙ a.seats; number = b.number ∙ a.number; ended = b.ended ∙ a.ended; out = b.out ∙ a.out }

pub works_on : (a b : Bool) → a ≡ not b → a ≡ false → b ≡ true
works_on a true is off = refl
works_on a false is off = absurd (cc)

module _ {T : Type 0} (program : T → Program) (part : T → State → Type 0) where
  -- the last reply is one that is served
  replied : (o : Option T) (p : Program) (s : State) (seen xs : List Entry) (e : Entry) → Opens program o p → StandsFrom part o s → LegalFrom program part o seen → seen ≡ xs ++ e ∷ []
      → (z : State) × (e.reply ≡ (served_by p z e).reply)
  replied None p s seen xs e opens st legal is = absurd opens
  replied (Some q) p s seen xs e opens st legal is = subst (λ (r : Program). (z : State) × (e.reply ≡ (served_by r z e).reply)) opens (legal_last (program q) s xs e (subst (IsLegal (program q) s) is (legal s st)))

  pub may_ask : (takes : Program → ℕ → Request → Type 0) (o : Option T) (p : Program) (t : ℕ) (r : Request) → Opens program o p → takes p t r → MayAsk program takes o t r
  may_ask takes None p t r opens may = absurd opens
  may_ask takes (Some q) p t r opens may = subst (λ (z : Program). takes z t r) (sym opens) may

module _ {T K N X : Type 0} (part : T → State → Type 0) (runs : K → ℕ → N → X → Type 0) (machine : Machine X) (code : K) where
  pub worked_none : (old : Worker T N) → HasWorked part runs machine code old old
  worked_none old = record { made = []; mine = sym (append-nil (mine_of old.seat)); comes = λ s x st r. (x, record { calls = refl; stands = r }) }

  -- nothing was asked
  pub worked_still : (old now next : Worker T N) → HasWorked part runs machine code old now → mine_of next.seat ≡ mine_of now.seat → ((x : X) → runs code old.thread now.runner x → runs code old.thread next.runner x)
      → HasWorked part runs machine code old next
  worked_still old now next h mine still = record {
    made = h.made;
    mine = mine ∙ h.mine;
    comes = λ s x st r. let c = h.comes s x st r in (c.0, record { calls = c.1.calls; stands = still c.0 c.1.stands });
  }

  -- a state that the runner stands for
  pub comes_now : (old now : Worker T N) → HasWorked part runs machine code old now → ((s : State) × StandsFrom part (opened_with old.seat) s) → ((x : X) × runs code old.thread old.runner x) → (y : X) × runs code old.thread now.runner y
  comes_now old now h s x = let c = h.comes s.0 x.0 s.1 x.1 in (c.0, c.1.stands)

  module _ (program : T → Program) (text : K → Program) (asks : K → ℕ → N → X → Type 0) where
    -- a request was answered
    pub worked_more : (old now next : Worker T N) (mid : N) (request : Request) (reply : Reply) → HasWorked part runs machine code old now
        → Answers (LegalFrom program part) old.thread request (view_of now.seat) reply (view_of next.seat)
        → opened_with now.seat ≡ opened_with old.seat → Opens program (opened_with old.seat) (text code)
        → ((x : X) → runs code old.thread now.runner x → IsTrue (machine.works x) × (request ≡ machine.asks old.thread x) × asks code old.thread mid x)
        → ((x : X) (s : State) → asks code old.thread mid x → reply ≡ (serve (text code) s old.thread (machine.asks old.thread x)).reply → runs code old.thread next.runner (machine.absorbs old.thread x reply))
        → HasWorked part runs machine code old next
    worked_more old now next mid request reply h answer opened_part opens asked absorbs = record {
      made = h.made ++ e ∷ [];
      mine = answer.mine ∙ (ap (λ (l : List Entry). l ++ e ∷ []) h.mine ∙ append_assoc (mine_of old.seat) h.made (e ∷ []));
      comes = comes;
    }
      where
        t : ℕ
        t = old.thread

        e : Entry
        e = entry (number_of now.seat) t request reply

        comes : (s : State) (x : X) → StandsFrom part (opened_with old.seat) s → runs code t old.runner x → (y : X) × ComesTo runs machine code t next.runner x (h.made ++ e ∷ []) y
        comes s x st r =
            let c = h.comes s x st r in
            let y : X = c.0 in
            let a = asked y c.1.stands in
            let legal = subst (λ (o : Option T). LegalFrom program part o (view_of next.seat).seen) opened_part answer.sees.is_legal in
            let z = replied program part (opened_with old.seat) (text code) s (view_of next.seat).seen ((view_of now.seat).seen ++ answer.last.0) e opens st legal answer.last.1 in
            let served : reply ≡ (serve (text code) z.0 t (machine.asks t y)).reply = z.1 ∙ ap (λ (q : Request). (serve (text code) z.0 t q).reply) a.1 in (
              machine.absorbs t y reply,
              record {
                calls = made_more machine t x y h.made e (record { thread = refl; work = a.0; request = a.1 }) c.1.calls;
                stands = absorbs y z.0 a.2 served;
              },
            )

module _ {T K N X : Type 0} (program : T → Program) (part : T → State → Type 0) (lacks : T → ℕ → Request → Type 0) (runs : K → ℕ → N → X → Type 0) (wants : K → N → Type 0) (machine : Machine X) (code : K) where
  -- the part lacks memory
  pub stopped_asking : (old now next : Worker T N) (request : Request) → HasWorked part runs machine code old now → Refuses (Leaves program part) (LegalFrom program part) lacks old.thread request (view_of now.seat) (view_of next.seat)
      → opened_with now.seat ≡ opened_with old.seat → ((x : X) → runs code old.thread now.runner x → runs code old.thread next.runner x) → ((x : X) → runs code old.thread now.runner x → request ≡ machine.asks old.thread x)
      → HasStopped program part lacks runs wants machine code old next
  unfolding worked_still
  stopped_asking old now next request h refuses opened still asked = record {
    worked = worked_still part runs machine code old now next h refuses.mine still;
    left = λ s x st r work.
        let c = h.comes s x st r in
        let q = refuses.lacking in
        inr (q.0, subst (λ (o : Option T). Leaves program part o q.0 (seen_of next.seat)) opened q.1, subst (λ (a : Request). lacks q.0 old.thread a) (asked c.0 c.1.stands) q.2);
  }
