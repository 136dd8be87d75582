-- What the workers did together.
use Rattle.std.proofs.Common.{◌≡◌, ◌∙◌, inl, inr, ⊎_elim, refl, sym, ap, subst, ℕ, zero, suc, ◌+◌, ◌<◌, ◌≤◌, arith, List, [], ◌∷◌, ◌++◌, length, map}
use Rattle.std.specs.Prelude.{Some, slice_index_or}
use Rattle.std.specs.Prelude as std
use Rattle.std.proofs.lemmas.List.{length-map}
use mathlib.Core.Logic.{dite}
use native.Mathlib.Decide.{ℕ_discrete}
use Rattle.lx_model.specs.declared.program.Program.{Program}
use Rattle.lx_model.specs.declared.request.Request.{Request}
use Rattle.lx_model.specs.State.{State}
use Rattle.lx_caplock.specs.declared.knowledge.Entry.{Entry}
use Rattle.lx_caplock.specs.declared.knowledge.View.{View}
use Rattle.lx_caplock.specs.declared.lock.CapLock.{CapLock}
use Rattle.lx_caplock.specs.History.{Begins, entries_of, In}
use Rattle.lx_caplock.specs.Seats.{IsSeatOf, opened_with, seen_of, mine_of}
use Rattle.lx_caplock.specs.Serving.{state_after, IsLegal, LegalFrom, Leaves}
use Rattle.lx_caplock.specs.Calls.{HasClosed, IsAlone}
use Rattle.lx_threads.specs.declared.worker.Worker.{Worker}
use Rattle.lx_threads.specs.Machines.{Machine, Made, AllMade}
use Rattle.lx_threads.specs.Dealt.{AreDealt}
use Rattle.lx_threads.specs.Gathered.{AreSeated, HaveEnded, HasGathered}
use Rattle.lx_threads.specs.Working.{StandsFrom, Opens, MayWork, AfterWork, AllStand, HasRun, LacksIfLeft, LacksWithin}
use Rattle.lx_threads.proofs.Gathering.{begins_trans}
use Rattle.lx_threads.proofs.Runs.{runs, NoneElse}

module _ {T K N X : Type 0} (program : T → Program) (part : T → State → Type 0) (takes : Program → ℕ → Request → Type 0) (lacks : T → ℕ → Request → Type 0) (text : K → Program) (run : K → ℕ → N → X → Type 0) (fits : Program → ℕ → Request → Type 0)
    (wants : K → N → Type 0) (machine : Machine X) (code : K) (lock : CapLock T) (v : View T) (o : T) (opened_part : v.opened_part ≡ Some o) (same : program o ≡ text code) where
  abbrev W : Type 0
  W = Worker T N

  runners : List W → List N
  runners ws = map (λ w. w.runner) ws

  -- each worker may work
  pub may_all : ((s : State) × part o s) → ((p : Program) (t : ℕ) (r : Request) → fits p t r → takes p t r) → (t : ℕ) (ws : List W) (xs : List X) → AreDealt lock v t ws → AllStand run code t (map (λ w. w.runner) ws) xs → t + length ws ≤ 16
      → (i : ℕ) (w : W) → i < length ws → w ≡ slice_index_or ws i w → IsSeatOf lock w.seat × MayWork program part takes text run fits code w
  may_all state served t [] xs dealt all few i w there is = absurd (omega arith)
  may_all state served t (z ∷ ws) [] dealt all few i w there is = absurd all
  may_all state served t (z ∷ ws) (x ∷ xs) dealt all few zero w there is =
      let opened : opened_with z.seat ≡ Some o = ap (λ (u : View T). u.opened_part) dealt.0.view ∙ opened_part in
      subst (λ (u : W). IsSeatOf lock u.seat × MayWork program part takes text run fits code u) (sym is) (
        dealt.0.of,
        record {
          opened = subst (λ (q : std.Option T). Opens program q (text code)) (sym opened) same;
          thread = let a = dealt.0.thread in omega arith;
          state = (state.0, subst (λ (q : std.Option T). StandsFrom part q state.0) (sym opened) state.1);
          runner = (x, subst (λ (n : ℕ). run code n z.runner x) (sym dealt.0.thread) all.0);
          served = served;
        },
      )
  may_all state served t (z ∷ ws) (x ∷ xs) dealt all few (suc i) w there is = may_all state served (suc t) ws xs dealt.1 all.1 (omega arith) i w (omega arith) is

  abbrev pub AllAfter : List W → List W → Type 0
  AllAfter [] [] = Unit {0}
  AllAfter [] (z ∷ zs) = ⊥
  AllAfter (w ∷ ws) [] = ⊥
  AllAfter (w ∷ ws) (z ∷ zs) = AfterWork program part lacks run wants machine code lock w z × AllAfter ws zs

  pub all_after : (ws zs : List W) → length zs ≡ length ws → ((i : ℕ) (d w : W) → i < length ws → w ≡ slice_index_or ws i w → AfterWork program part lacks run wants machine code lock w (slice_index_or zs i d)) → AllAfter ws zs
  all_after [] [] many each = tt
  all_after [] (z ∷ zs) many each = absurd (omega arith)
  all_after (w ∷ ws) [] many each = absurd (omega arith)
  all_after (w ∷ ws) (z ∷ zs) many each = (each 0 z w (omega arith) refl, all_after ws zs (omega arith) (λ i d u l e. each (suc i) d u (omega arith) e))

  -- they have the seats that they were dealt
  pub seated : (t : ℕ) (ws zs : List W) → AreDealt lock v t ws → AllAfter ws zs → AreSeated lock t zs
  seated t [] [] dealt all = tt
  seated t [] (z ∷ zs) dealt all = absurd all
  seated t (w ∷ ws) [] dealt all = absurd all
  seated t (w ∷ ws) (z ∷ zs) dealt all = (
    record {
      of = all.0.of;
      number = all.0.same.number ∙ ap (λ (u : View T). u.number) dealt.0.view;
      ended = all.0.same.ended ∙ ap (λ (u : View T). u.ended) dealt.0.view;
    },
    seated (suc t) ws zs dealt.1 all.1,
  )

  abbrev Within : List Entry → K → ℕ → N → X → Type 0
  Within = LacksWithin program part lacks wants machine o

  abbrev IfLeft : std.Option T → List Entry → K → ℕ → N → X → Type 0
  IfLeft = LacksIfLeft program part lacks wants machine

  -- what each made stands in the history, and each has work left only for want of memory
  together : (s : State) (history : List Entry) (u : View T) → part o s → ((k : ℕ) → In k u.ended → entries_of k history ≡ entries_of k u.seen) → Begins u.seen history → (t : ℕ) (ws zs : List W) (xs : List X) → AreDealt lock v t ws → AllAfter ws zs → HaveEnded t zs u
      → AllStand run code t (map (λ w. w.runner) ws) xs → (ys : List X) × AllMade machine t xs history ys × AllStand run code t (map (λ w. w.runner) zs) ys × AllStand (Within history) code t (map (λ w. w.runner) zs) ys
  together s history u st closed begins t [] [] [] dealt all ended stand = ([], tt, tt, tt)
  together s history u st closed begins t [] [] (x ∷ xs) dealt all ended stand = absurd stand
  together s history u st closed begins t [] (z ∷ zs) xs dealt all ended stand = absurd all
  together s history u st closed begins t (w ∷ ws) [] xs dealt all ended stand = absurd all
  together s history u st closed begins t (w ∷ ws) (z ∷ zs) [] dealt all ended stand = absurd stand
  together s history u st closed begins t (w ∷ ws) (z ∷ zs) (x ∷ xs) dealt all ended stand =
      let rest = together s history u st closed begins (suc t) ws zs xs dealt.1 all.1 ended.1 stand.1 in
      let opened : opened_with w.seat ≡ Some o = ap (λ (q : View T). q.opened_part) dealt.0.view ∙ opened_part in
      let h = all.0.worked.worked in
      let from = subst (λ (q : std.Option T). StandsFrom part q s) (sym opened) st in
      let runner = subst (λ (n : ℕ). run code n w.runner x) (sym dealt.0.thread) stand.0 in
      let c = h.comes s x from runner in
      let y : X = c.0 in
      let none : mine_of w.seat ≡ [] = ap (λ (q : View T). q.mine) dealt.0.view in
      let left = subst (λ (n : ℕ). IfLeft (Some o) (seen_of z.seat) code n z.runner y) dealt.0.thread
      (subst (λ (q : std.Option T). IfLeft q (seen_of z.seat) code w.thread z.runner y) opened (all.0.worked.left s x from runner)) in
      let made : entries_of (t + 1) history ≡ h.made = closed (t + 1) ended.0.ended ∙ (ended.0.mine ∙ (h.mine ∙ ap (λ (l : List Entry). l ++ h.made) none)) in (
        y ∷ rest.0,
        (subst (λ (l : List Entry). Made machine t x l y) (sym made) (subst (λ (n : ℕ). Made machine n x h.made y) dealt.0.thread c.1.calls), rest.1),
        (subst (λ (n : ℕ). run code n z.runner y) dealt.0.thread c.1.stands, rest.2),
        ((seen_of z.seat, begins_trans (seen_of z.seat) u.seen history ended.0.seen begins, left), rest.3),
      )

  as_many : (t : ℕ) (ws : List W) (xs : List X) → AllStand run code t (map (λ w. w.runner) ws) xs → length xs ≡ length ws
  as_many t [] [] all = refl
  as_many t [] (x ∷ xs) all = absurd all
  as_many t (w ∷ ws) [] all = absurd all
  as_many t (w ∷ ws) (x ∷ xs) all = ap suc (as_many (suc t) ws xs all.1)

  same_many : (ws zs : List W) → AllAfter ws zs → length zs ≡ length ws
  same_many [] [] all = refl
  same_many [] (z ∷ zs) all = absurd all
  same_many (w ∷ ws) [] all = absurd all
  same_many (w ∷ ws) (z ∷ zs) all = ap suc (same_many ws zs all.1)

  -- the caller's seat, before and behind the others
  pub ran : (ws zs : List W) (first u : View T) (closed : T) (history : List Entry) → v.number ≡ 0 → v.mine ≡ [] → v.ended ≡ [] → first.opened_part ≡ v.opened_part → first.number ≡ v.number → first.mine ≡ v.mine → first.ended ≡ v.ended
      → AreDealt lock v 0 ws → AllAfter ws zs → HasGathered first zs u → HasClosed (Leaves program part) (LegalFrom program part) u closed history
      → HasRun program part lacks run wants machine code o closed (map (λ w. w.runner) ws) (map (λ w. w.runner) zs)
  ran ws zs first u closed history zero_is mine_is ended_is from_is number_is same_mine same_ended dealt all gathered closes = record {
    history = history;
    same = left.0;
    many = length-map zs (λ w. w.runner) ∙ (same_many ws zs all ∙ sym (length-map ws (λ w. w.runner)));
    comes = λ s xs st stand.
        let t = together s history u st closes.ended closes.begins 0 ws zs xs dealt all gathered.all stand in
        (t.0, record { events = runs machine (program o) s xs t.0 history (legal s st) t.1 (none (length xs) (as_many 0 ws xs stand)); state = left.1 s st; threads = t.2 });
    left = λ s xs st stand. (together s history u st closes.ended closes.begins 0 ws zs xs dealt all gathered.all stand).3;
  }
    where
      opened : u.opened_part ≡ Some o
      opened = gathered.opened_part ∙ (from_is ∙ opened_part)

      left : (program closed ≡ program o) × ((s : State) → part o s → part closed (state_after (program o) s history))
      left = subst (λ (q : std.Option T). Leaves program part q closed history) opened closes.is_left

      legal : (s : State) → part o s → IsLegal (program o) s history
      legal = subst (λ (q : std.Option T). LegalFrom program part q history) opened closes.is_legal

      number : u.number ≡ 0
      number = gathered.number ∙ (number_is ∙ zero_is)

      mine : u.mine ≡ []
      mine = gathered.mine ∙ (same_mine ∙ mine_is)

      no_more : (k : ℕ) → length ws < k → In k u.ended → ⊥
      no_more k more h = ⊎_elim (λ (x : In k first.ended). absurd (subst (In k) (same_ended ∙ ended_is) x)) (λ x. let a = x.1 in let b = same_many ws zs all in omega arith) (gathered.ended k h)

      none : (count : ℕ) → count ≡ length ws → NoneElse machine count history
      none count is k out = ⊎_elim (λ (e : k ≡ 0). ap (λ (n : ℕ). entries_of n history) (e ∙ sym number) ∙ (closes.own ∙ mine))
          (λ more. closes.none_else k (λ e. let a = number in omega arith) (no_more k (omega arith))) out

  -- no other seat is out
  pub alone : (ws zs : List W) (first u : View T) → v.number ≡ 0 → first.number ≡ v.number → first.seats ≡ length ws + 1 → AllAfter ws zs → HasGathered first zs u → IsAlone u
  alone ws zs first u zero_is number_is seats all gathered k low =
      dite (ℕ_discrete k 0)
      (λ e. inl (e ∙ sym (gathered.number ∙ (number_is ∙ zero_is))))
      (λ ne. inr (at 0 zs gathered.all k (omega arith) (let a = gathered.within_seats in let b = same_many ws zs all in omega arith)))
    where
      at : (t : ℕ) (zs : List W) → HaveEnded t zs u → (k : ℕ) → t < k → k < t + length zs + 1 → In k u.ended
      at t [] all k more less = absurd (omega arith)
      at t (z ∷ zs) all k more less = dite (ℕ_discrete k (t + 1)) (λ (e : k ≡ t + 1). subst (λ (n : ℕ). In n u.ended) (sym e) all.0.ended) (λ ne. at (suc t) zs all.1 k (omega arith) (omega arith))
