-- Each step of the lock's table keeps the ticket rule, and tells its seat what it promises.
use Rattle.std.proofs.Common.{◌≡◌, ◌≢◌, ◌⊎◌, inl, inr, ⊎_elim, ℕ, zero, suc, ◌+◌, ◌%◌, ◌^◌, ◌<◌, ◌≤◌, eqb, eq-eqb, ne_eqb, List, [], ◌∷◌, ◌++◌, length, set, get_or, length-set, Bool, true, false, true≢false, sym, refl, ap, ◌∙◌, subst, arith, length-append, max}
use Rattle.std.proofs.Math.Nat.{mod-add-mod}
use Rattle.std.specs.Prelude.{if◌then◌else◌}
use Rattle.std.specs.Prelude as std
use mathlib.Core.Logic.{dite}
use mathlib.Core.Option.{Option, some, none, some-injective, some-ne-none}
use native.Mathlib.Decide.{ℕ_discrete, dec_lt}
use lib.ListN.{get_elem?}
use lib.Seq.{set-get_or}
use prog.Atomic.{either}
use Rattle.atomic_table.specs.Table.{State, Me, step, keeps, takes, gives, stepped, put_back, rest, Allows, Splits, Joins, Final, Seen, opening}
use Rattle.atomic_table.proofs.Lists.{at_set, at_longer, set_here, set_else, one_turn}
use Rattle.lx_caplock.specs.declared.knowledge.Entry.{Entry}
use Rattle.lx_caplock.specs.declared.knowledge.Stage.{Stage}
use Rattle.lx_caplock.specs.declared.knowledge.Stage.TheVariants.{Idle, Waits, Serves}
use Rattle.lx_caplock.specs.declared.knowledge.View.{View}
use Rattle.lx_caplock.specs.History.{entries_of, Begins, In}
use Rattle.lx_caplock.specs.Tickets.{unless_spent, tickets_of_stage, number_count, ticket_count, HasNumber, StageFits, SeatFits, PartOrTurn, TicketRule}
use Rattle.lx_caplock.specs.Views.{first_view, spent_view, waiting, serving, released, with_numbers_out, with_drawn, without_drawn, drawn_view, merged, settled_view, first_or_zero}
use Rattle.lx_caplock.specs.Telling.{TellsTicket, TellsTurn, TellsRelease, TellsCount, TellsDraw, TellsSettle}
use Rattle.lx_caplock.specs.Calls.{HasClosed}
use Rattle.lx_caplock.proofs.Sums.{total_set, total_snoc, total_less, in_length, at_end}
use Rattle.lx_caplock.proofs.Histories.{entries_of-append, begins_refl, begins_more, quiet_entries, entries_of-none, in_either}

-- f, but x at k
abbrev put : (ℕ → ℕ) → ℕ → ℕ → ℕ → ℕ
put f k x n = if eqb n k then x else f n

put_here : (f : ℕ → ℕ) (k x n : ℕ) → n ≡ k → put f k x n ≡ x
put_here f k x n is = ap (λ b. if b then x else f n) (eq-eqb n k is)

put_else : (f : ℕ → ℕ) (k x n : ℕ) → n ≢ k → put f k x n ≡ f n
put_else f k x n not = ap (λ b. if b then x else f n) (ne_eqb n k not)

abbrev ticket_of : Stage → ℕ
ticket_of Idle = 0
ticket_of (Waits t) = t
ticket_of (Serves t) = t

abbrev rank : Stage → ℕ
rank Idle = 0
rank (Waits t) = 1
rank (Serves t) = 2

same_ticket : (a b : ℕ) → Waits a ≡ Waits b → a ≡ b
same_ticket a b e = ap ticket_of e

idle_serves : (t : ℕ) → Idle ≡ Serves t → ⊥
idle_serves t e = let z : rank Idle ≡ rank (Serves t) = ap rank e in omega arith

waits_serves : (a t : ℕ) → Waits a ≡ Serves t → ⊥
waits_serves a t e = let z : rank (Waits a) ≡ rank (Serves t) = ap rank e in omega arith

tickets_below_numbers : (b : Bool) (st : Stage) (n : ℕ) → tickets_of_stage b st ≤ unless_spent b (1 + n)
tickets_below_numbers true st n = omega arith
tickets_below_numbers false Idle n = omega arith
tickets_below_numbers false (Waits t) n = omega arith
tickets_below_numbers false (Serves t) n = omega arith

-- one more ticket
stage_fits_more : (now_serving next_ticket id j : ℕ) (history seen : List Entry) (ticket_holder : ℕ → ℕ) (st : Stage) → StageFits now_serving next_ticket history ticket_holder j seen st → StageFits now_serving (next_ticket + 1) history (put ticket_holder next_ticket id) j seen st
stage_fits_more now_serving next_ticket id j history seen ticket_holder Idle k = tt
stage_fits_more now_serving next_ticket id j history seen ticket_holder (Waits t) k = let a = k.0 in let b = k.1 in (a, omega arith, put_else ticket_holder next_ticket id t (λ e. omega arith) ∙ k.2)
stage_fits_more now_serving next_ticket id j history seen ticket_holder (Serves t) k = let b = k.1 in (k.0, omega arith, put_else ticket_holder next_ticket id t (λ e. omega arith) ∙ k.2, k.3)

-- one more release, of another view's
stage_fits_released : (now_serving next_ticket id j : ℕ) (history history' seen : List Entry) (ticket_holder : ℕ → ℕ) (st : Stage) → j ≢ id → ticket_holder now_serving ≡ id → StageFits now_serving next_ticket history ticket_holder j seen st → StageFits (now_serving + 1) next_ticket history' ticket_holder j seen st
stage_fits_released now_serving next_ticket id j history history' seen ticket_holder Idle apart own k = tt
stage_fits_released now_serving next_ticket id j history history' seen ticket_holder (Waits t) apart own k = let a = k.0 in let ne : t ≢ now_serving = λ e. apart (sym k.2 ∙ (ap ticket_holder e ∙ own)) in (omega arith, k.1, k.2)
stage_fits_released now_serving next_ticket id j history history' seen ticket_holder (Serves t) apart own k = absurd (apart (sym k.2 ∙ (ap ticket_holder k.0 ∙ own)))

module _ {T : Type 0} (left : std.Option T → T → List Entry → Type 0) (legal : std.Option T → List Entry → Type 0) (o : std.Option T) (seats : ℕ) where
  abbrev V : Type 0
  V = View T

  abbrev St : Type 0
  St = State T V

  abbrev Rule : St → Type 0
  Rule = TicketRule left legal o seats

  abbrev SeatFitsIn : (s : St) → Rule s → ℕ → V → Type 0
  SeatFitsIn s r = SeatFits o seats r.numbers_out r.now_serving r.next_ticket r.history r.number_holder r.ticket_holder r.drawn_by

  each_set : (F : ℕ → V → Type 0) (vs : List V) (id : ℕ) (w : V) → (w.spent ≡ false → F id w) → ((j : ℕ) (u : V) → j ≢ id → get_elem? vs j ≡ some u → u.spent ≡ false → F j u)
      → (j : ℕ) (u : V) → get_elem? (set vs id w) j ≡ some u → u.spent ≡ false → F j u
  each_set F vs id w mine others j u e live = ⊎_elim (λ (t : (j ≡ id) × (w ≡ u)). subst (λ (x : ℕ × V). F x.0 x.1) (λ i. (sym t.0 i, t.1 i)) (mine (ap (λ (x : V). x.spent) t.1 ∙ live)))
      (λ (t : (j ≢ id) × (get_elem? vs j ≡ some u)). others j u t.0 t.1 live) (at_set vs id j w u e)

  part_or_turn_set : (history : List Entry) (vs : List V) (id : ℕ) (v w : V) → get_elem? vs id ≡ some v → ((t : ℕ) → v.spent ≡ false → v.stage ≡ Serves t → (w.spent ≡ false) × (w.stage ≡ Serves t))
      → (h : Option T) → PartOrTurn left legal o history vs h → PartOrTurn left legal o history (set vs id w) h
  part_or_turn_set history vs id v w at keep (some x) h = h
  part_or_turn_set history vs id v w at keep none (i, u, t, there, live, is) = dite (ℕ_discrete i id)
      (λ e. let same : v ≡ u = some-injective v u (sym at ∙ (ap (get_elem? vs) (sym e) ∙ there)) in let k = keep t (ap (λ (x : V). x.spent) same ∙ live) (ap (λ (x : V). x.stage) same ∙ is) in
      (id, w, t, set_here vs id w (in_length vs id v at), k.0, k.1))
      (λ ne. (i, u, t, set_else vs id i w ne ∙ there, live, is))

  word0 : (s : St) (r : Rule s) → get_or s.words 0 0 ≡ r.numbers_out
  word0 s r = ap (λ (l : List ℕ). get_or l 0 0) r.words

  -- the tickets out are no more than the numbers
  few_tickets : (s : St) (r : Rule s) → r.next_ticket ≤ r.now_serving + 17
  few_tickets s r = let a = total_less ticket_count number_count (λ (v : V). tickets_below_numbers v.spent v.stage (length v.unsettled + length v.ended)) s.views in let b = r.count in let c = r.queue in let d = r.limits.0 in let e = r.limits.1 in omega arith

  -- the numbers that a view has are below its out
  below : (s : St) (r : Rule s) (j : ℕ) (u : V) → SeatFitsIn s r j u → (k : ℕ) → HasNumber u k → k < u.out
  below s r j u f k h = ⊎_elim (λ (e : k ≡ u.number). let a = f.number in omega arith) (λ t. ⊎_elim (λ x. (f.unsettled k x).0) (λ x. (f.ended k x).0) t) h

  -- two views have no number in common
  apart : (s : St) (r : Rule s) (i j : ℕ) (v u : V) → SeatFitsIn s r i v → SeatFitsIn s r j u → j ≢ i → (k l : ℕ) → HasNumber v k → HasNumber u l → l ≢ k
  apart s r i j v u f g ne k l a b e = ne (sym (g.held l b) ∙ (ap r.number_holder e ∙ f.held k a))

  -- a step that changes one view alone
  quiet : (s : St) (r : Rule s) (id : ℕ) (v w : V) → get_elem? s.views id ≡ some v → v.spent ≡ false → w.spent ≡ false → w.stage ≡ v.stage → number_count w ≡ number_count v → SeatFitsIn s r id w
      → Rule record { words = s.words; homes = s.homes; views = set s.views id w }
  quiet s r id v w at live wlive same size mine = let a = total_set number_count s.views id v w at in let b = total_set ticket_count s.views id v w at in let c = r.count in let d = r.queue in
      let e : ticket_count w ≡ ticket_count v = λ i. tickets_of_stage ((wlive ∙ sym live) i) (same i) in record {
        numbers_out = r.numbers_out;
        now_serving = r.now_serving;
        next_ticket = r.next_ticket;
        history = r.history;
        number_holder = r.number_holder;
        ticket_holder = r.ticket_holder;
        drawn_by = r.drawn_by;
        part_at_home = r.part_at_home;
        words = r.words;
        homes = r.homes;
        limits = r.limits;
        part_or_turn = part_or_turn_set r.history s.views id v w at (λ t _ is. (wlive, same ∙ is)) r.part_at_home r.part_or_turn;
        is_legal = r.is_legal;
        each_seat = each_set (SeatFitsIn s r) s.views id w (λ _. mine) (λ j u _. r.each_seat j u);
        no_entry = r.no_entry;
        drawn_by_lower = r.drawn_by_lower;
        count = omega arith;
        queue = omega arith;
      }

  -- the same, as a step at a word that stays
  unmoved : (s : St) (i id : ℕ) (w : V) → Rule record { words = s.words; homes = s.homes; views = set s.views id w } → (c : List (ℕ × T)) → Rule (stepped s i (get_or s.words i 0) id c w keeps)
  unmoved s i id w r c = subst (λ (ws : List ℕ). Rule record { words = ws; homes = s.homes; views = set s.views id w }) (sym (set-get_or s.words i 0)) r

  -- the rule holds at the opening
  pub starts : (x : T) → 0 < seats → seats ≤ 17 → left o x [] → legal o [] → Rule (opening (1 ∷ 0 ∷ 0 ∷ []) (x ∷ []) (first_view o seats))
  starts x some_seat small l k = record {
    numbers_out = 1;
    now_serving = 0;
    next_ticket = 0;
    history = [];
    number_holder = λ _. 0;
    ticket_holder = λ _. 0;
    drawn_by = λ _. 0;
    part_at_home = some x;
    words = refl;
    homes = refl;
    limits = (omega arith, small);
    part_or_turn = l;
    is_legal = k;
    each_seat = one;
    no_entry = λ _ _. refl;
    drawn_by_lower = λ n a b. omega arith;
    count = omega arith;
    queue = refl;
  }
    where
      one : (i : ℕ) (v : V) → get_elem? (first_view o seats ∷ []) i ≡ some v → v.spent ≡ false → SeatFits o seats 1 0 0 [] (λ _. 0) (λ _. 0) (λ _. 0) i v
      one zero v e live = subst (SeatFits o seats 1 0 0 [] (λ _. 0) (λ _. 0) (λ _. 0) 0) (some-injective _ _ e) record {
        opened_part = refl;
        same_seats = refl;
        number = omega arith;
        out = omega arith;
        seen = ([], refl);
        unsettled_seen = ([], refl);
        mine = refl;
        mine_seen = refl;
        ended = λ k h. absurd h;
        unsettled = λ k h. absurd h;
        held = λ _ _. refl;
        drawn_below_out = λ n a b _. absurd (omega arith);
        stage = tt;
      }
      one (suc i) v e live = absurd (some-ne-none v (sym e))

  -- a ticket is taken
  pub tickets : (slots id : ℕ) (me : Me T V) → me.0.spent ≡ false → me.0.stage ≡ Idle → Allows Rule slots id me 1 (λ n. (n + 1) % 2 ^ 64) (TellsTicket (step slots 1 1 0 none) me)
  tickets slots id me live idle s r _ at _ = let v : V = me.0 in let w : V = waiting v r.next_ticket in let f = r.each_seat id v at live in
      let word : get_or s.words 1 0 ≡ r.next_ticket % 2 ^ 64 = ap (λ (l : List ℕ). get_or l 1 0) r.words in
      let next : (get_or s.words 1 0 + 1) % 2 ^ 64 ≡ (r.next_ticket + 1) % 2 ^ 64 = ap (λ (n : ℕ). (n + 1) % 2 ^ 64) word ∙ mod-add-mod r.next_ticket (2 ^ 64) 1 in
      let ticket_holder : ℕ → ℕ = put r.ticket_holder r.next_ticket id in
      let a = total_set number_count s.views id v w at in let b = total_set ticket_count s.views id v w at in let c = r.count in let d = r.queue in let l = few_tickets s r in
      let e : ticket_count v ≡ tickets_of_stage false Idle = λ i. tickets_of_stage (live i) (idle i) in let g : ticket_count w ≡ tickets_of_stage false (Waits r.next_ticket) = λ i. tickets_of_stage (live i) (Waits r.next_ticket) in (
        w,
        keeps,
        tt,
        record {
          numbers_out = r.numbers_out;
          now_serving = r.now_serving;
          next_ticket = r.next_ticket + 1;
          history = r.history;
          number_holder = r.number_holder;
          ticket_holder = ticket_holder;
          drawn_by = r.drawn_by;
          part_at_home = r.part_at_home;
          words = ap (λ (ws : List ℕ). set ws 1 ((get_or s.words 1 0 + 1) % 2 ^ 64)) r.words ∙ ap (λ (n : ℕ). r.numbers_out ∷ n ∷ (r.now_serving % 2 ^ 64) ∷ []) next;
          homes = r.homes;
          limits = r.limits;
          part_or_turn = part_or_turn_set r.history s.views id v w at (λ t _ is. absurd (idle_serves t (sym idle ∙ is))) r.part_at_home r.part_or_turn;
          is_legal = r.is_legal;
          each_seat = each_set (SeatFits o seats r.numbers_out r.now_serving (r.next_ticket + 1) r.history r.number_holder ticket_holder r.drawn_by) s.views id w
              (λ _. record {
                opened_part = f.opened_part;
                same_seats = f.same_seats;
                number = f.number;
                out = f.out;
                seen = f.seen;
                unsettled_seen = f.unsettled_seen;
                mine = f.mine;
                mine_seen = f.mine_seen;
                ended = f.ended;
                unsettled = f.unsettled;
                held = f.held;
                drawn_below_out = f.drawn_below_out;
                stage = (omega arith, omega arith, put_here r.ticket_holder r.next_ticket id r.next_ticket refl);
              })
              (λ j u _ there here. let g = r.each_seat j u there here in record {
                opened_part = g.opened_part;
                same_seats = g.same_seats;
                number = g.number;
                out = g.out;
                seen = g.seen;
                unsettled_seen = g.unsettled_seen;
                mine = g.mine;
                mine_seen = g.mine_seen;
                ended = g.ended;
                unsettled = g.unsettled;
                held = g.held;
                drawn_below_out = g.drawn_below_out;
                stage = stage_fits_more r.now_serving r.next_ticket id j r.history u.seen r.ticket_holder u.stage g.stage;
              });
          no_entry = r.no_entry;
          drawn_by_lower = r.drawn_by_lower;
          count = omega arith;
          queue = omega arith;
        },
        (r.next_ticket, word, refl),
      )

  -- the slot is at home where a waiting view has the ticket that is served
  at_home : (s : St) (r : Rule s) (id : ℕ) (v : V) (t : ℕ) → get_elem? s.views id ≡ some v → v.spent ≡ false → v.stage ≡ Waits t → r.now_serving ≡ t → (h : Option T) → PartOrTurn left legal o r.history s.views h
      → (x : T) × (h ≡ some x) × left o x r.history
  at_home s r id v t at live is turn (some x) h = (x, refl, h)
  at_home s r id v t at live is turn none (j, u, t', there, here, now) =
      let f = r.each_seat id v at live in let g = r.each_seat j u there here in
      let a : StageFits r.now_serving r.next_ticket r.history r.ticket_holder id v.seen (Waits t) = subst (StageFits r.now_serving r.next_ticket r.history r.ticket_holder id v.seen) is f.stage in
      let b : StageFits r.now_serving r.next_ticket r.history r.ticket_holder j u.seen (Serves t') = subst (StageFits r.now_serving r.next_ticket r.history r.ticket_holder j u.seen) now g.stage in
      let same : j ≡ id = sym b.2 ∙ (ap r.ticket_holder (b.0 ∙ turn) ∙ a.2) in
      let view : v ≡ u = some-injective v u (sym at ∙ (ap (get_elem? s.views) (sym same) ∙ there)) in
      absurd (waits_serves t t' (sym is ∙ (ap (λ (x : V). x.stage) view ∙ now)))

  -- whose turn it is is looked at
  pub looks : (slots id : ℕ) (me : Me T V) (t : ℕ) → me.0.spent ≡ false → me.0.stage ≡ Waits t → Allows Rule slots id me 2 (λ n. n) (TellsTurn left legal (step slots 2 0 0 none) me)
  looks slots id me t live is s r _ at _ = let v : V = me.0 in let f = r.each_seat id v at live in
      let word : get_or s.words 2 0 ≡ r.now_serving % 2 ^ 64 = ap (λ (l : List ℕ). get_or l 2 0) r.words in
      let k : StageFits r.now_serving r.next_ticket r.history r.ticket_holder id v.seen (Waits t) = subst (StageFits r.now_serving r.next_ticket r.history r.ticket_holder id v.seen) is f.stage in
      dite (ℕ_discrete r.now_serving t)
      (λ hit. let got = at_home s r id v t at live is hit r.part_at_home r.part_or_turn in let x : T = got.0 in let w : V = serving v t r.history in
      let a = total_set number_count s.views id v w at in let b = total_set ticket_count s.views id v w at in let c = r.count in let d = r.queue in
      let e : ticket_count v ≡ tickets_of_stage false (Waits t) = λ i. tickets_of_stage (live i) (is i) in let g : ticket_count w ≡ tickets_of_stage false (Serves t) = λ i. tickets_of_stage (live i) (Serves t) in (
        w,
        takes 0 x,
        ap (λ (l : List (Option T)). get_elem? l 0) r.homes ∙ ap (λ (h : Option T). some h) got.1,
        subst (λ (ws : List ℕ). Rule record { words = ws; homes = set s.homes 0 none; views = set s.views id w }) (sym (set-get_or s.words 2 0)) record {
          numbers_out = r.numbers_out;
          now_serving = r.now_serving;
          next_ticket = r.next_ticket;
          history = r.history;
          number_holder = r.number_holder;
          ticket_holder = r.ticket_holder;
          drawn_by = r.drawn_by;
          part_at_home = none;
          words = r.words;
          homes = ap (λ (l : List (Option T)). set l 0 none) r.homes;
          limits = r.limits;
          part_or_turn = (id, w, t, set_here s.views id w (in_length s.views id v at), live, refl);
          is_legal = r.is_legal;
          each_seat = each_set (SeatFitsIn s r) s.views id w
              (λ _. record {
                opened_part = f.opened_part;
                same_seats = f.same_seats;
                number = f.number;
                out = f.out;
                seen = begins_refl r.history;
                unsettled_seen = f.unsettled_seen;
                mine = f.mine;
                mine_seen = f.mine;
                ended = λ n h. ((f.ended n h).0, (f.ended n h).1, refl);
                unsettled = f.unsettled;
                held = f.held;
                drawn_below_out = f.drawn_below_out;
                stage = (sym hit, k.1, k.2, refl);
              })
              (λ j u _. r.each_seat j u);
          no_entry = r.no_entry;
          drawn_by_lower = r.drawn_by_lower;
          count = omega arith;
          queue = omega arith;
        },
        λ t' is'. let same : t ≡ t' = same_ticket t t' (sym is ∙ is') in (
          (λ _. (
            r.history,
            x,
            ap (λ (n : ℕ). (serving v n r.history, (0, x) ∷ me.1)) same,
            subst (λ (q : std.Option T). left q x r.history) (sym f.opened_part) got.2,
            subst (λ (q : std.Option T). legal q r.history) (sym f.opened_part) r.is_legal,
            (f.seen, f.mine, λ n h. ((f.ended n h).1, (f.ended n h).2)),
          )),
          λ not. absurd (not (word ∙ ap (λ (n : ℕ). n % 2 ^ 64) (hit ∙ same))),
        ),
      ))
      (λ miss. (
        v,
        keeps,
        tt,
        unmoved s 2 id v (quiet s r id v v at live live refl refl f) me.1,
        λ t' is'. let same : t ≡ t' = same_ticket t t' (sym is ∙ is') in let a = k.0 in let b = k.1 in let l = few_tickets s r in
            ((λ e. absurd (miss (one_turn r.now_serving t (2 ^ 64) a (omega arith) (sym word ∙ (e ∙ ap (λ (n : ℕ). n % 2 ^ 64) (sym same)))))), λ _. refl),
      ))

  -- a turn ends, with these entries more
  pub releases : (slots id : ℕ) (me : Me T V) (t : ℕ) (y : T) (es : List Entry) → me.0.spent ≡ false → me.0.stage ≡ Serves t → me.1 ≡ (0, y) ∷ [] → me.0.unsettled ≡ []
      → left me.0.opened_part y (me.0.seen ++ es) → legal me.0.opened_part (me.0.seen ++ es) → entries_of me.0.number es ≡ es → ((k : ℕ) → k ≢ me.0.number → entries_of k es ≡ [])
      → Allows Rule slots id me 2 (λ n. (n + 1) % 2 ^ 64) (TellsRelease es (step slots 2 1 0 none) me)
  releases slots id me t y es live is carried bare lft leg own other s r _ at _ = let v : V = me.0 in let w : V = released v es in let f = r.each_seat id v at live in
      let word : get_or s.words 2 0 ≡ r.now_serving % 2 ^ 64 = ap (λ (l : List ℕ). get_or l 2 0) r.words in
      let next : (get_or s.words 2 0 + 1) % 2 ^ 64 ≡ (r.now_serving + 1) % 2 ^ 64 = ap (λ (n : ℕ). (n + 1) % 2 ^ 64) word ∙ mod-add-mod r.now_serving (2 ^ 64) 1 in
      let k : StageFits r.now_serving r.next_ticket r.history r.ticket_holder id v.seen (Serves t) = subst (StageFits r.now_serving r.next_ticket r.history r.ticket_holder id v.seen) is f.stage in
      let saw : v.seen ≡ r.history = k.3 in
      let history : List Entry = r.history ++ es in
      let grown : v.seen ++ es ≡ history = ap (λ (l : List Entry). l ++ es) saw in
      let a = total_set number_count s.views id v w at in let b = total_set ticket_count s.views id v w at in let c = r.count in let d = r.queue in
      let e : ticket_count v ≡ tickets_of_stage false (Serves t) = λ i. tickets_of_stage (live i) (is i) in let g : ticket_count w ≡ tickets_of_stage false Idle = λ i. tickets_of_stage (live i) Idle in
      let first : r.ticket_holder r.now_serving ≡ id = sym (ap r.ticket_holder k.0) ∙ k.2 in let now = k.0 in let under = k.1 in (
        w,
        gives,
        tt,
        record {
          numbers_out = r.numbers_out;
          now_serving = r.now_serving + 1;
          next_ticket = r.next_ticket;
          history = history;
          number_holder = r.number_holder;
          ticket_holder = r.ticket_holder;
          drawn_by = r.drawn_by;
          part_at_home = some y;
          words = ap (λ (ws : List ℕ). set ws 2 ((get_or s.words 2 0 + 1) % 2 ^ 64)) r.words ∙ ap (λ (n : ℕ). r.numbers_out ∷ (r.next_ticket % 2 ^ 64) ∷ n ∷ []) next;
          homes = ap (put_back s.homes) carried ∙ ap (λ (l : List (Option T)). set l 0 (some y)) r.homes;
          limits = r.limits;
          part_or_turn = subst (λ (l : List Entry). left o y l) grown (subst (λ (q : std.Option T). left q y (v.seen ++ es)) f.opened_part lft);
          is_legal = subst (λ (l : List Entry). legal o l) grown (subst (λ (q : std.Option T). legal q (v.seen ++ es)) f.opened_part leg);
          each_seat = each_set (SeatFits o seats r.numbers_out (r.now_serving + 1) r.next_ticket history r.number_holder r.ticket_holder r.drawn_by) s.views id w
              (λ _. record {
                opened_part = f.opened_part;
                same_seats = f.same_seats;
                number = f.number;
                out = f.out;
                seen = subst (Begins (v.seen ++ es)) grown (begins_refl (v.seen ++ es));
                unsettled_seen = begins_more v.unsettled_seen r.history es f.unsettled_seen;
                mine = entries_of-append v.number r.history es ∙ (λ i. f.mine i ++ own i);
                mine_seen = entries_of-append v.number v.seen es ∙ (λ i. f.mine_seen i ++ own i);
                ended = λ n h. ((f.ended n h).0, (f.ended n h).1, ap (entries_of n) (sym grown));
                unsettled = λ n h. absurd (subst (In n) bare h);
                held = f.held;
                drawn_below_out = f.drawn_below_out;
                stage = tt;
              })
              (λ j u ne there here. let g = r.each_seat j u there here in
              let others : (n : ℕ) → HasNumber u n → entries_of n history ≡ entries_of n r.history = λ n h. quiet_entries n r.history es (other n (apart s r id j v u f g ne v.number n (inl refl) h)) in record {
                opened_part = g.opened_part;
                same_seats = g.same_seats;
                number = g.number;
                out = g.out;
                seen = begins_more u.seen r.history es g.seen;
                unsettled_seen = begins_more u.unsettled_seen r.history es g.unsettled_seen;
                mine = others u.number (inl refl) ∙ g.mine;
                mine_seen = g.mine_seen;
                ended = λ n h. ((g.ended n h).0, (g.ended n h).1, others n (inr (inr h)) ∙ (g.ended n h).2);
                unsettled = λ n h. ((g.unsettled n h).0, (g.unsettled n h).1, others n (inr (inl h)) ∙ (g.unsettled n h).2, (g.unsettled n h).3);
                held = g.held;
                drawn_below_out = g.drawn_below_out;
                stage = stage_fits_released r.now_serving r.next_ticket id j r.history history u.seen r.ticket_holder u.stage ne first g.stage;
              });
          no_entry = λ n h. let x = f.number in let z = f.out in quiet_entries n r.history es (other n (λ same. omega arith)) ∙ r.no_entry n h;
          drawn_by_lower = r.drawn_by_lower;
          count = omega arith;
          queue = omega arith;
        },
        ap (λ (l : List (ℕ × T)). (w, rest l)) carried ∙ ap (λ (l : List (ℕ × T)). (w, rest l)) (sym carried),
      )

  -- the numbers that are out are counted
  pub counts : (slots id : ℕ) (me : Me T V) → me.0.spent ≡ false → Allows Rule slots id me 0 (λ n. n) (TellsCount (step slots 0 0 0 none) me)
  counts slots id me live s r _ at _ = let v : V = me.0 in let n : ℕ = get_or s.words 0 0 in let w : V = with_numbers_out v n in let f = r.each_seat id v at live in let is = word0 s r in
      let a = f.number in let b = f.out in let c = r.limits.0 in let d = f.same_seats in (
        w,
        keeps,
        tt,
        unmoved s 0 id w
            (quiet s r id v w at live live refl refl record {
              opened_part = f.opened_part;
              same_seats = f.same_seats;
              number = omega arith;
              out = omega arith;
              seen = f.seen;
              unsettled_seen = f.unsettled_seen;
              mine = f.mine;
              mine_seen = f.mine_seen;
              ended = λ k h. let x = (f.ended k h).0 in (omega arith, (f.ended k h).1, (f.ended k h).2);
              unsettled = λ k h. let x = (f.unsettled k h).0 in (omega arith, (f.unsettled k h).1, (f.unsettled k h).2, (f.unsettled k h).3);
              held = f.held;
              drawn_below_out = λ k p q h. omega arith;
              stage = f.stage;
            })
            me.1,
        (refl, omega arith, omega arith),
      )

  -- the rule behind the drawing of a number
  drew : (s : St) (r : Rule s) (id : ℕ) (v : V) (n : ℕ) → get_elem? s.views id ≡ some v → v.spent ≡ false → v.unsettled ≡ [] → n ≡ r.numbers_out → r.numbers_out < seats → Rule record { words = set s.words 0 (n + 1); homes = s.homes; views = set s.views id (with_drawn v n) }
  drew s r id v n at live bare is room = let w : V = with_drawn v n in let f = r.each_seat id v at live in
      let number_holder : ℕ → ℕ = put r.number_holder r.numbers_out id in let drawn_by : ℕ → ℕ = put r.drawn_by r.numbers_out v.number in
      let a = total_set number_count s.views id v w at in let b = total_set ticket_count s.views id v w at in let c = r.count in let d = r.queue in
      let e : number_count v ≡ unless_spent false (1 + (length {A = ℕ} [] + length v.ended)) = λ i. unless_spent (live i) (1 + (length (bare i) + length v.ended)) in
      let g : number_count w ≡ unless_spent false (1 + (length (n ∷ []) + length v.ended)) = λ i. unless_spent (live i) (1 + (length (n ∷ []) + length v.ended)) in
      let low = f.number in let top = f.out in record {
        numbers_out = r.numbers_out + 1;
        now_serving = r.now_serving;
        next_ticket = r.next_ticket;
        history = r.history;
        number_holder = number_holder;
        ticket_holder = r.ticket_holder;
        drawn_by = drawn_by;
        part_at_home = r.part_at_home;
        words = ap (λ (ws : List ℕ). set ws 0 (n + 1)) r.words ∙ ap (λ (k : ℕ). (k + 1) ∷ (r.next_ticket % 2 ^ 64) ∷ (r.now_serving % 2 ^ 64) ∷ []) is;
        homes = r.homes;
        limits = (omega arith, r.limits.1);
        part_or_turn = part_or_turn_set r.history s.views id v w at (λ t l k. (l, k)) r.part_at_home r.part_or_turn;
        is_legal = r.is_legal;
        each_seat = each_set (SeatFits o seats (r.numbers_out + 1) r.now_serving r.next_ticket r.history number_holder r.ticket_holder drawn_by) s.views id w
            (λ _. record {
              opened_part = f.opened_part;
              same_seats = f.same_seats;
              number = omega arith;
              out = omega arith;
              seen = f.seen;
              unsettled_seen = (r.history, refl);
              mine = f.mine;
              mine_seen = f.mine_seen;
              ended = λ k h. let x = (f.ended k h).0 in (omega arith, (f.ended k h).1, (f.ended k h).2);
              unsettled = λ k h. ⊎_elim (λ (k_is : k ≡ n). (omega arith, (λ same. omega arith), r.no_entry k (omega arith), (λ x. let b = (f.ended k x).0 in omega arith))) (λ no. absurd no) h;
              held = λ k h. ⊎_elim (λ (mine : k ≡ v.number). put_else r.number_holder r.numbers_out id k (λ e. omega arith) ∙ f.held k (inl mine))
                  (λ h'. ⊎_elim (λ x. ⊎_elim (λ (k_is : k ≡ n). put_here r.number_holder r.numbers_out id k (k_is ∙ is)) (λ no. absurd no) x)
                  (λ x. let below = (f.ended k x).0 in put_else r.number_holder r.numbers_out id k (λ e. omega arith) ∙ f.held k (inr (inr x))) h') h;
              drawn_below_out = λ k p q h. omega arith;
              stage = f.stage;
            })
            (λ j u ne there here. let g = r.each_seat j u there here in let gn = g.number in let go = g.out in record {
              opened_part = g.opened_part;
              same_seats = g.same_seats;
              number = g.number;
              out = omega arith;
              seen = g.seen;
              unsettled_seen = g.unsettled_seen;
              mine = g.mine;
              mine_seen = g.mine_seen;
              ended = g.ended;
              unsettled = g.unsettled;
              held = λ k h. let l = below s r j u g k h in put_else r.number_holder r.numbers_out id k (λ e. omega arith) ∙ g.held k h;
              drawn_below_out = λ k p q h. dite (ℕ_discrete k r.numbers_out)
                  (λ (last : k ≡ r.numbers_out). absurd (apart s r id j v u f g ne v.number (drawn_by k) (inl refl) h (put_here r.drawn_by r.numbers_out v.number k last)))
                  (λ other. g.drawn_below_out k p (omega arith) (subst (HasNumber u) (put_else r.drawn_by r.numbers_out v.number k other) h));
              stage = g.stage;
            });
        no_entry = λ k h. r.no_entry k (omega arith);
        drawn_by_lower = λ k p q. dite (ℕ_discrete k r.numbers_out)
            (λ (last : k ≡ r.numbers_out). let x : drawn_by k ≡ v.number = put_here r.drawn_by r.numbers_out v.number k last in omega arith)
            (λ other. let x : drawn_by k ≡ r.drawn_by k = put_else r.drawn_by r.numbers_out v.number k other in let y = r.drawn_by_lower k p (omega arith) in omega arith);
        count = omega arith;
        queue = omega arith;
      }

  -- a number is drawn, where no other seat was faster
  pub draws : (slots id : ℕ) (me : Me T V) (old new : ℕ) → me.0.spent ≡ false → me.0.unsettled ≡ [] → old < me.0.seats → new ≡ old + 1
      → Allows Rule slots id me 0 (λ n. either (eqb n old) new n) (TellsDraw (step slots 0 old new none) me)
  draws slots id me old new live bare room up s r _ at _ = let v : V = me.0 in let n : ℕ = get_or s.words 0 0 in let f = r.each_seat id v at live in let is = word0 s r in dite (ℕ_discrete n old)
      (λ hit. let a = f.number in let b = f.out in let c = f.same_seats in let free = r.no_entry n (omega arith) in (
        with_drawn v n,
        keeps,
        tt,
        subst (λ (k : ℕ). Rule (stepped s 0 k id me.1 (with_drawn v n) keeps)) (ap (λ (k : ℕ). k + 1) hit ∙ (sym up ∙ ap (λ b. either b new n) (sym (eq-eqb n old hit))))
            (drew s r id v n at live bare is (omega arith)),
        ((λ _. (refl, omega arith, omega arith, (λ k h. let x = (f.ended k h).0 in omega arith), entries_of-none n v.seen r.history f.seen free)), λ not. absurd (not hit)),
      ))
      (λ miss. (
        v,
        keeps,
        tt,
        subst (λ (k : ℕ). Rule (stepped s 0 k id me.1 v keeps)) (ap (λ b. either b new n) (sym (ne_eqb n old miss))) (unmoved s 0 id v (quiet s r id v v at live live refl refl f) me.1),
        ((λ hit. absurd (miss hit)), λ _. refl),
      ))

  -- the number that was drawn is given to a new seat
  pub splits : (id : ℕ) (v : V) (n : ℕ) → v.spent ≡ false → v.unsettled ≡ n ∷ [] → v.unsettled_seen ≡ [] → n ≢ v.number → ((k : ℕ) → In k v.ended → k ≢ n) → Splits Rule id v (without_drawn v) (drawn_view v)
  splits id v n live bare none_seen new ended_not s r at = let w : V = without_drawn v in let u0 : V = drawn_view v in let f = r.each_seat id v at live in let end : ℕ = length s.views in
      let number_holder : ℕ → ℕ = put r.number_holder n end in
      let child_is : u0.number ≡ n = ap first_or_zero bare in
      let a = total_set number_count s.views id v w at in let b = total_set ticket_count s.views id v w at in let c = r.count in let d = r.queue in
      let a' = total_snoc number_count (set s.views id w) u0 in let b' = total_snoc ticket_count (set s.views id w) u0 in
      let e : number_count v ≡ unless_spent false (1 + (length (n ∷ []) + length v.ended)) = λ i. unless_spent (live i) (1 + (length (bare i) + length v.ended)) in
      let g : number_count w ≡ unless_spent false (1 + (length {A = ℕ} [] + length v.ended)) = λ i. unless_spent (live i) (1 + (length {A = ℕ} [] + length v.ended)) in
      let here : In n v.unsettled = subst (In n) (sym bare) (inl refl) in
      let drawn_fits = f.unsettled n here in let low = drawn_fits.0 in
      let none_of : entries_of n r.history ≡ [] = drawn_fits.2 ∙ ap (entries_of n) none_seen in
      let F : ℕ → V → Type 0 = SeatFits o seats r.numbers_out r.now_serving r.next_ticket r.history number_holder r.ticket_holder r.drawn_by in
      let not_others : (j : ℕ) (u : V) → j ≢ id → SeatFitsIn s r j u → (k : ℕ) → HasNumber u k → k ≢ n = λ j u ne gf k h. apart s r id j v u f gf ne n k (inr (inl here)) h in
      let others : (j : ℕ) (u : V) → j ≢ id → get_elem? s.views j ≡ some u → u.spent ≡ false → F j u = λ j u ne there lives. let gf = r.each_seat j u there lives in record {
        opened_part = gf.opened_part;
        same_seats = gf.same_seats;
        number = gf.number;
        out = gf.out;
        seen = gf.seen;
        unsettled_seen = gf.unsettled_seen;
        mine = gf.mine;
        mine_seen = gf.mine_seen;
        ended = gf.ended;
        unsettled = gf.unsettled;
        held = λ k h. put_else r.number_holder n end k (not_others j u ne gf k h) ∙ gf.held k h;
        drawn_below_out = gf.drawn_below_out;
        stage = gf.stage;
      } in
      let divider : F id w = record {
        opened_part = f.opened_part;
        same_seats = f.same_seats;
        number = f.number;
        out = f.out;
        seen = f.seen;
        unsettled_seen = f.unsettled_seen;
        mine = f.mine;
        mine_seen = f.mine_seen;
        ended = f.ended;
        unsettled = λ k h. absurd h;
        held = λ k h. ⊎_elim (λ (m : k ≡ v.number). put_else r.number_holder n end k (λ x. new (sym x ∙ m)) ∙ f.held k (inl m))
            (λ h'. ⊎_elim (λ no. absurd no) (λ x. put_else r.number_holder n end k (ended_not k x) ∙ f.held k (inr (inr x))) h') h;
        drawn_below_out = λ k p q h. f.drawn_below_out k p q (⊎_elim (λ m. inl m) (λ h'. ⊎_elim (λ no. absurd no) (λ x. inr (inr x)) h') h);
        stage = f.stage;
      } in
      let top = f.out in
      let new_seat : F end u0 = record {
        opened_part = f.opened_part;
        same_seats = f.same_seats;
        number = omega arith;
        out = f.out;
        seen = f.seen;
        unsettled_seen = (r.history, refl);
        mine = ap (λ (k : ℕ). entries_of k r.history) child_is ∙ none_of;
        mine_seen = ap (λ (k : ℕ). entries_of k v.seen) child_is ∙ entries_of-none n v.seen r.history f.seen none_of;
        ended = λ k h. absurd h;
        unsettled = λ k h. absurd h;
        held = λ k h. ⊎_elim (λ (m : k ≡ u0.number). put_here r.number_holder n end k (m ∙ child_is)) (λ h'. ⊎_elim (λ no. absurd no) (λ no. absurd no) h') h;
        drawn_below_out = λ k p q h. f.drawn_below_out k p q (⊎_elim (λ (m : r.drawn_by k ≡ u0.number). inr (inl (subst (λ (x : ℕ). In x v.unsettled) (sym (m ∙ child_is)) here))) (λ h'. ⊎_elim (λ no. absurd no) (λ no. absurd no) h') h);
        stage = tt;
      } in record {
        numbers_out = r.numbers_out;
        now_serving = r.now_serving;
        next_ticket = r.next_ticket;
        history = r.history;
        number_holder = number_holder;
        ticket_holder = r.ticket_holder;
        drawn_by = r.drawn_by;
        part_at_home = r.part_at_home;
        words = r.words;
        homes = r.homes;
        limits = r.limits;
        part_or_turn = part_or_turn_more r.history (set s.views id w) u0 r.part_at_home (part_or_turn_set r.history s.views id v w at (λ t l k. (l, k)) r.part_at_home r.part_or_turn);
        is_legal = r.is_legal;
        each_seat = λ j u there lives. ⊎_elim (λ x. each_set F s.views id w (λ _. divider) others j u x lives)
            (λ (x : (j ≡ length (set s.views id w)) × (u0 ≡ u)). subst (λ (z : ℕ × V). F z.0 z.1) (λ i. (sym (x.0 ∙ length-set s.views id w) i, x.1 i)) new_seat) (at_end (set s.views id w) u0 u j there);
        no_entry = r.no_entry;
        drawn_by_lower = r.drawn_by_lower;
        count = omega arith;
        queue = omega arith;
      }
    where
      part_or_turn_more : (history : List Entry) (vs : List V) (u : V) (h : Option T) → PartOrTurn left legal o history vs h → PartOrTurn left legal o history (vs ++ u ∷ []) h
      part_or_turn_more history vs u (some x) h = h
      part_or_turn_more history vs u none (i, x, t, there, here, is) = (i, x, t, at_longer vs (u ∷ []) i x there, here, is)

  joined_out : (a b k : ℕ) → k < a ⊎ k < b → k < max a b
  joined_out a b k h = ⊎_elim (λ (x : k < a). omega arith) (λ (x : k < b). omega arith) h

  -- a seat takes in another one, which is spent
  pub joins : (id : ℕ) (v : V) (other : ℕ) (w : V) → v.spent ≡ false → v.unsettled ≡ [] → w.spent ≡ false → w.unsettled ≡ [] → w.stage ≡ Idle → Joins Rule id v other w (merged v w) spent_view
  joins id v other w live bare wlive wbare widle s r at apart_is there =
      let there' : get_elem? s.views other ≡ some w = sym (set_else s.views id other (merged v w) apart_is) ∙ there in
      let m : V = merged v w in let f = r.each_seat id v at live in let g = r.each_seat other w there' wlive in let vs : List V = set s.views id m in
      let number_holder : ℕ → ℕ = λ k. if eqb (r.number_holder k) other then id else r.number_holder k in
      let theirs : (k : ℕ) → r.number_holder k ≡ other → number_holder k ≡ id = λ k e. ap (λ b. if b then id else r.number_holder k) (eq-eqb (r.number_holder k) other e) in
      let not_theirs : (k : ℕ) → r.number_holder k ≢ other → number_holder k ≡ r.number_holder k = λ k ne. ap (λ b. if b then id else r.number_holder k) (ne_eqb (r.number_holder k) other ne) in
      let a = total_set number_count s.views id v m at in let b = total_set ticket_count s.views id v m at in let c = r.count in let d = r.queue in
      let a' = total_set number_count vs other w spent_view there in let b' = total_set ticket_count vs other w spent_view there in
      let e1 : number_count v ≡ unless_spent false (1 + (length {A = ℕ} [] + length v.ended)) = λ i. unless_spent (live i) (1 + (length (bare i) + length v.ended)) in
      let e2 : number_count w ≡ unless_spent false (1 + (length {A = ℕ} [] + length w.ended)) = λ i. unless_spent (wlive i) (1 + (length (wbare i) + length w.ended)) in
      let e3 : number_count m ≡ unless_spent false (1 + (length (w.number ∷ w.ended) + length v.ended)) = λ i. unless_spent (live i) (1 + (length (w.number ∷ w.ended) + length v.ended)) in
      let e4 : ticket_count w ≡ tickets_of_stage false Idle = λ i. tickets_of_stage (wlive i) (widle i) in
      let n1 = f.number in let n2 = f.out in let m1 = g.number in let m2 = g.out in
      let F : ℕ → V → Type 0 = SeatFits o seats r.numbers_out r.now_serving r.next_ticket r.history number_holder r.ticket_holder r.drawn_by in
      let owned : (k : ℕ) → HasNumber m k → HasNumber v k ⊎ HasNumber w k = λ k h. ⊎_elim (λ x. inl (inl x)) (λ h'. ⊎_elim (λ x. inr (⊎_elim (λ y. inl y) (λ y. inr (inr y)) x)) (λ x. inl (inr (inr x))) h') h in
      let mine : F id m = record {
        opened_part = f.opened_part;
        same_seats = f.same_seats;
        number = joined_out v.out w.out v.number (inl n1);
        out = omega arith;
        seen = f.seen;
        unsettled_seen = g.seen;
        mine = f.mine;
        mine_seen = f.mine_seen;
        ended = λ k h. (joined_out v.out w.out k (inl (f.ended k h).0), (f.ended k h).1, (f.ended k h).2);
        unsettled = λ k h. ⊎_elim
            (λ (x : k ≡ w.number). (joined_out v.out w.out k (inr (omega arith)), (λ e. apart s r id other v w f g apart_is v.number k (inl refl) (inl x) e), ap (λ (n : ℕ). entries_of n r.history) x ∙ (g.mine ∙ (sym g.mine_seen ∙ ap (λ (n : ℕ). entries_of n w.seen) (sym x))), (λ y. apart s r id other v w f g apart_is k w.number (inr (inr y)) (inl refl) (sym x))))
            (λ x. (joined_out v.out w.out k (inr (g.ended k x).0), (λ e. apart s r id other v w f g apart_is v.number k (inl refl) (inr (inr x)) e), (g.ended k x).2, (λ y. apart s r id other v w f g apart_is k k (inr (inr y)) (inr (inr x)) refl))) h;
        held = λ k h. ⊎_elim (λ x. let is = f.held k x in not_theirs k (λ e. apart_is (sym e ∙ is)) ∙ is) (λ x. theirs k (g.held k x)) (owned k h);
        drawn_below_out = λ k p q h. joined_out v.out w.out k (⊎_elim (λ x. inl (f.drawn_below_out k p q x)) (λ x. inr (g.drawn_below_out k p q x)) (owned (r.drawn_by k) h));
        stage = f.stage;
      } in
      let others : (j : ℕ) (u : V) → j ≢ other → j ≢ id → get_elem? s.views j ≡ some u → u.spent ≡ false → F j u = λ j u ne ne' e lives. let gf = r.each_seat j u e lives in record {
        opened_part = gf.opened_part;
        same_seats = gf.same_seats;
        number = gf.number;
        out = gf.out;
        seen = gf.seen;
        unsettled_seen = gf.unsettled_seen;
        mine = gf.mine;
        mine_seen = gf.mine_seen;
        ended = gf.ended;
        unsettled = gf.unsettled;
        held = λ k h. not_theirs k (λ x. ne (sym (gf.held k h) ∙ x)) ∙ gf.held k h;
        drawn_below_out = gf.drawn_below_out;
        stage = gf.stage;
      } in record {
        numbers_out = r.numbers_out;
        now_serving = r.now_serving;
        next_ticket = r.next_ticket;
        history = r.history;
        number_holder = number_holder;
        ticket_holder = r.ticket_holder;
        drawn_by = r.drawn_by;
        part_at_home = r.part_at_home;
        words = r.words;
        homes = r.homes;
        limits = r.limits;
        part_or_turn = part_or_turn_set r.history vs other w spent_view there (λ t _ is. absurd (idle_serves t (sym widle ∙ is))) r.part_at_home (part_or_turn_set r.history s.views id v m at (λ t l k. (l, k)) r.part_at_home r.part_or_turn);
        is_legal = r.is_legal;
        each_seat = each_set F vs other spent_view (λ dead. absurd (true≢false dead))
            (λ j u ne e lives. ⊎_elim (λ (x : (j ≡ id) × (m ≡ u)). subst (λ (z : ℕ × V). F z.0 z.1) (λ i. (sym x.0 i, x.1 i)) mine) (λ (x : (j ≢ id) × (get_elem? s.views j ≡ some u)). others j u ne x.0 x.1 lives) (at_set s.views id j m u e));
        no_entry = r.no_entry;
        drawn_by_lower = r.drawn_by_lower;
        count = omega arith;
        queue = omega arith;
      }

  -- the numbers of a seat that was taken in are settled
  pub settles : (slots id : ℕ) (me : Me T V) → me.0.spent ≡ false → me.0.stage ≡ Idle → Allows Rule slots id me 0 (λ n. n) (TellsSettle (step slots 0 0 0 none) me)
  settles slots id me live idle s r _ at _ = let v : V = me.0 in let n : ℕ = get_or s.words 0 0 in let w : V = settled_view v n r.history in let f = r.each_seat id v at live in let is = word0 s r in
      let a = f.number in let b = f.out in let c = r.limits.0 in let d = f.same_seats in
      let all = length-append v.unsettled v.ended in
      let size : number_count w ≡ number_count v = ap (unless_spent v.spent) (omega arith) in
      let was : (k : ℕ) → In k (v.unsettled ++ v.ended) → HasNumber v k = λ k h. ⊎_elim (λ x. inr (inl x)) (λ x. inr (inr x)) (in_either k v.unsettled v.ended h) in
      let owned : (k : ℕ) → HasNumber w k → HasNumber v k = λ k h. ⊎_elim (λ x. inl x) (λ h'. ⊎_elim (λ no. absurd no) (λ x. was k x) h') h in (
        w,
        keeps,
        tt,
        unmoved s 0 id w
            (quiet s r id v w at live live refl size record {
              opened_part = f.opened_part;
              same_seats = f.same_seats;
              number = omega arith;
              out = omega arith;
              seen = begins_refl r.history;
              unsettled_seen = (r.history, refl);
              mine = f.mine;
              mine_seen = f.mine;
              ended = λ k h. let x = below s r id v f k (was k h) in (omega arith, ⊎_elim (λ y. (f.unsettled k y).1) (λ y. (f.ended k y).1) (in_either k v.unsettled v.ended h), refl);
              unsettled = λ k h. absurd h;
              held = λ k h. f.held k (owned k h);
              drawn_below_out = λ k p q h. omega arith;
              stage = subst (StageFits r.now_serving r.next_ticket r.history r.ticket_holder id r.history) (sym idle) tt;
            })
            me.1,
        (r.history, refl, (f.seen, f.mine, λ k h. ((f.ended k h).1, (f.ended k h).2)), f.unsettled_seen, omega arith, (λ k h. (f.unsettled k h).2), omega arith, (λ k h. ((f.unsettled k h).1, (f.unsettled k h).3))),
      )

  -- a view that accounts for each number below its out has seen them all
  all_out : (s : St) (r : Rule s) (id : ℕ) (v : V) → SeatFitsIn s r id v → ((k : ℕ) → k < v.out → HasNumber v k) → v.out ≡ r.numbers_out
  all_out s r id v f all = dite (ℕ_discrete v.out r.numbers_out) (λ e. e)
      (λ ne. let a = f.number in let b = f.out in let c = r.drawn_by_lower v.out (omega arith) (omega arith) in let d = f.drawn_below_out v.out (omega arith) (omega arith) (all (r.drawn_by v.out) c) in absurd (omega arith))

  -- the part is at home, and one legal history leaves it, where no other seat is out
  pub closes : (id : ℕ) (v : V) (ws : List ℕ) (xs : List T) → v.spent ≡ false → v.stage ≡ Idle → ((k : ℕ) → k < v.out → (k ≡ v.number) ⊎ In k v.ended) → Final (Seen Rule id v) ws xs
      → (x : T) × (history : List Entry) × (get_elem? xs 0 ≡ some x) × HasClosed left legal v x history
  closes id v ws xs live idle alone (s, (r, at), words, sizes, values) = ends r.part_at_home refl r.part_or_turn
    where
      all : (k : ℕ) → k < v.out → HasNumber v k
      all k l = ⊎_elim (λ x. inl x) (λ x. inr (inr x)) (alone k l)

      f : SeatFitsIn s r id v
      f = r.each_seat id v at live

      out_is : v.out ≡ r.numbers_out
      out_is = all_out s r id v f all

      ends : (h : Option T) → r.part_at_home ≡ h → PartOrTurn left legal o r.history s.views h → (x : T) × (history : List Entry) × (get_elem? xs 0 ≡ some x) × HasClosed left legal v x history
      ends (some x) e h = (
        x,
        r.history,
        values 0 x (ap (λ (l : List (Option T)). get_elem? l 0) r.homes ∙ ap (λ (y : Option T). some y) e),
        record {
          is_left = subst (λ (q : std.Option T). left q x r.history) (sym f.opened_part) h;
          is_legal = subst (λ (q : std.Option T). legal q r.history) (sym f.opened_part) r.is_legal;
          begins = f.seen;
          own = f.mine;
          ended = λ k i. (f.ended k i).2;
          none_else = λ k ne not. dite (dec_lt k r.numbers_out) (λ l. absurd (⊎_elim ne not (alone k (omega (arith, out_is))))) (λ g. r.no_entry k (omega arith));
        },
      )
      ends none e (j, u, t, there, here, now) = let g = r.each_seat j u there here in let a = g.number in let b = g.out in
          let mine = all u.number (omega (arith, out_is)) in let same : j ≡ id = sym (g.held u.number (inl refl)) ∙ f.held u.number mine in
          let view : v ≡ u = some-injective v u (sym at ∙ (ap (get_elem? s.views) (sym same) ∙ there)) in absurd (idle_serves t (sym idle ∙ (ap (λ (x : V). x.stage) view ∙ now)))
