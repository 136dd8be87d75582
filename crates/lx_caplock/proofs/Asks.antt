-- What a call tells its caller.
use Rattle.std.proofs.Common.{◌≡◌, inl, inr, ⊎_elim, ℕ, ◌<◌, ◌≤◌, arith, subst, List, [], ◌∷◌, ◌++◌, sym, refl, ap, ◌∙◌, append-nil}
use Rattle.std.specs.Prelude as std
use Rattle.atomic_table.specs.Table.{Me, Step}
use Rattle.lx_caplock.specs.declared.knowledge.Entry.{Entry}
use Rattle.lx_model.specs.declared.request.Request.{Request}
use Rattle.lx_model.specs.declared.request.Reply.{Reply}
use Rattle.lx_caplock.specs.declared.knowledge.View.{View}
use Rattle.lx_caplock.specs.History.{entries_of, entry, In}
use Rattle.lx_caplock.specs.Views.{waiting, serving, released, merged}
use Rattle.lx_caplock.specs.Telling.{Learns, TellsSettle}
use Rattle.lx_caplock.specs.Calls.{Answers, Refuses, HasJoined}
use Rattle.lx_caplock.proofs.Histories.{entries_of-append, entries_of-own, entries_of-other, begins_more, quiet_entries, in_either}

-- nothing was added
pub counted_none : (n : ℕ) (history mine : List Entry) → entries_of n history ≡ mine → entries_of n (history ++ []) ≡ mine ++ []
counted_none n history mine is = ap (entries_of n) (append-nil history) ∙ (is ∙ sym (append-nil mine))

module _ {T : Type 0} (legal : std.Option T → List Entry → Type 0) (v : View T) (t0 t : ℕ) (history : List Entry) (thread : ℕ) (request : Request) (reply : Reply) where
  abbrev e : Entry
  e = entry v.number thread request reply

  abbrev pub after_answer : View T
  after_answer = released (serving (waiting v t0) t history) (e ∷ [])

  pub counted : Learns v history → entries_of v.number (history ++ e ∷ []) ≡ v.mine ++ e ∷ []
  counted l = entries_of-append v.number history (e ∷ []) ∙ (λ i. l.1 i ++ entries_of-own v.number e refl i)

  pub answers : legal v.opened_part (history ++ e ∷ []) → Learns v history → Answers legal thread request v reply after_answer
  answers k l = record {
    sees = record {
      is_legal = k;
      begins = begins_more v.seen history (e ∷ []) l.0;
      own = counted l;
      ended = λ n h. let f = l.2 n h in quiet_entries n history (e ∷ []) (entries_of-other n e f.0) ∙ f.1;
    };
    last = (l.0.0, ap (λ (xs : List Entry). xs ++ e ∷ []) l.0.1);
    mine = refl;
  }

module _ {T : Type 0} (leaves : std.Option T → T → List Entry → Type 0) (legal : std.Option T → List Entry → Type 0) (lacks : T → ℕ → Request → Type 0) (v : View T) (t0 t : ℕ) (history : List Entry) (thread : ℕ) (request : Request) where
  pub refuses : (x : T) → leaves v.opened_part x history → legal v.opened_part history → Learns v history → lacks x thread request
      → Refuses leaves legal lacks thread request v (released (serving (waiting v t0) t history) [])
  refuses x left k l lack = record {
    sees = record {
      is_legal = subst (legal v.opened_part) (sym (append-nil history)) k;
      begins = begins_more v.seen history [] l.0;
      own = counted_none v.number history v.mine l.1;
      ended = λ n h. let f = l.2 n h in ap (entries_of n) (append-nil history) ∙ f.1;
    };
    mine = append-nil v.mine;
    lacking = (x, subst (leaves v.opened_part x) (sym (append-nil history)) left, lack);
  }

module _ {T : Type 0} where
  -- all numbers that both have were out when either last looked
  ended_below : (v w : View T) (n : ℕ) → v.out ≤ n → w.out ≤ n → w.number < w.out → ((k : ℕ) → In k v.ended → k < v.out) → ((k : ℕ) → In k w.ended → k < w.out)
      → (k : ℕ) → In k ((w.number ∷ w.ended) ++ v.ended) → k < n
  ended_below v w n low their_low their_number own theirs k h =
      ⊎_elim (⊎_elim (λ (e : k ≡ w.number). omega arith) (λ x. let a = theirs k x in omega arith)) (λ x. let a = own k x in omega arith) (in_either k (w.number ∷ w.ended) v.ended h)

  pub joined : (v w : View T) (s : Step T) (m n : Me T (View T)) (r : ℕ) → m.0 ≡ merged v w → entries_of w.number w.seen ≡ w.mine → v.number < v.out → w.number < w.out
      → ((k : ℕ) → In k v.ended → k < v.out) → ((k : ℕ) → In k w.ended → k < w.out) → TellsSettle s m r n → HasJoined v w n.0
  joined v w s m n r is mine_seen number their_number own_below theirs_below t = go (subst (λ (u : View T). TellsSettle s (u, m.1) r n) is t)
    where
      go : TellsSettle s (merged v w, m.1) r n → HasJoined v w n.0
      go (history, now, learns, unsettled_seen, more, theirs, seats, others) = subst (HasJoined v w) (sym (ap (λ x. x.0) now)) record {
        opened_part = refl;
        seats = refl;
        number = refl;
        mine = refl;
        ended = refl;
        others = others;
        begins = learns.0;
        takes_in = unsettled_seen;
        own = learns.1;
        theirs = theirs w.number (inl refl) ∙ mine_seen;
        own_ended = λ k h. (learns.2 k h).1;
        their_ended = λ k h. theirs k (inr h);
        out = omega arith;
        their_out = omega arith;
        within_seats = omega arith;
        number_out = omega arith;
        ended_out = ended_below v w r (omega arith) (omega arith) their_number own_below theirs_below;
      }
