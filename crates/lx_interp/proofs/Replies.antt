-- What a reply leaves.
use Rattle.std.proofs.Common.{◌≡◌, ℕ, Bool, true, Option, Some, None, List, IsTrue, refl, sym, ap, ◌∙◌, subst}
use Rattle.std.proofs.lemmas.Option.{same_Some}
use Rattle.lx_words.specs.Word.{Word}
use Rattle.lx_caps.specs.declared.Principal.{Principal}
use Rattle.lx_model.specs.declared.request.Outcome.{Outcome}
use Rattle.lx_model.specs.declared.request.Reply.{Reply}
use Rattle.lx_model.specs.declared.request.Reply.TheVariants.{Value, Done, Entered, Ended}
use Rattle.lx_model.specs.declared.request.Request.{Request}
use Rattle.lx_model.specs.declared.request.Way.{Way}
use Rattle.lx_images.specs.Image.{Code, ImageAsking, ImageFrame, ImageThread, Marks, after_end, after_entry, after_reply, image_absorb, image_next}
use Rattle.lx_frames.specs.declared.stack.FrameStack.{FrameStack}
use Rattle.lx_interp.specs.declared.runner.Runner.{Runner}
use Rattle.lx_frames.specs.Stack.{HasRoomFor, IsReadyIf, Shows}
use Rattle.lx_interp.specs.Runner.{Becomes, HasCallIf, IsAsking, IsAt, StandsFor, asking_or, end_in, may_answer, thread_of}
use Rattle.lx_interp.proofs.Goings.{next_is}
use Rattle.lx_interp.proofs.Takings.{left_same, thread_is}

-- a runner that is exactly at its thread stands for it
pub stands_by : (c : Code) (t : ℕ) (new : Runner) (v : ImageThread) → IsAt c t new v → StandsFor c t new v
stands_by c t new v at =
    record {
      number = at.number;
      ready = subst (IsReadyIf c new.stack) (sym at.idle) tt;
      works = subst (HasCallIf new) (sym at.idle) tt;
      asks =
          ap (asking_or c new.marks (thread_of c new)) at.idle
          ∙ ap (λ (m : Option Marks). asking_or c m (thread_of c new) None) at.marks
          ∙ next_is c (thread_of c new)
          ∙ ap (image_next c) at.state;
      calls = ap (λ (x : ImageThread). x.calls) at.state;
      ended = ap (λ (x : ImageThread). x.ended) at.state;
    }

end_absorbed : (c : Code) (t : ℕ) (v : ImageThread) (r : Request) (answer : Reply) (o : Outcome) → Some o ≡ end_in answer → after_end o v ≡ image_absorb c t v r answer
end_absorbed c t v r (Ended o2) o e =
    let s : o ≡ o2 = cc in
    ap (λ y. after_end y v) s
end_absorbed c t v r (Value x) o e = absurd (cc)
end_absorbed c t v r Done o e = absurd (cc)
end_absorbed c t v r (Entered n q b) o e = absurd (cc)

reply_absorbed : (c : Code) (t : ℕ) (v : ImageThread) (r : Request) (answer : Reply) → None ≡ end_in answer → after_reply c t v r.what answer ≡ image_absorb c t v r answer
reply_absorbed c t v r (Ended o) e = absurd (cc)
reply_absorbed c t v r (Value x) e = refl
reply_absorbed c t v r Done e = refl
reply_absorbed c t v r (Entered n q b) e = refl

pub end_at : (c : Code) (t : ℕ) (old mid new : Runner) (asking : ImageAsking) (answer : Reply) (o : Outcome) → IsAsking c t old asking → Some o ≡ end_in answer →
    mid.thread ≡ old.thread → thread_of c mid ≡ thread_of c old → mid.marks ≡ None → mid.request ≡ None →
    Becomes c mid new (after_end o (thread_of c mid)) → IsAt c t new (image_absorb c t asking.thread asking.request answer)
end_at c t old mid new asking answer o a e number state marks idle b =
    record {
      number = b.number ∙ number ∙ a.number;
      state = b.state ∙ ap (after_end o) (state ∙ sym a.thread) ∙ end_absorbed c t asking.thread asking.request answer o e;
      marks = b.marks ∙ marks;
      idle = b.request ∙ idle;
    }

pub asked_is : (c : Code) (t : ℕ) (old : Runner) (asking : ImageAsking) (q : Request) → IsAsking c t old asking → Some q ≡ old.request → q ≡ asking.request
asked_is c t old asking q a e = same_Some q asking.request (e ∙ a.request)

reply_at : (c : Code) (t : ℕ) (old mid new : Runner) (asking : ImageAsking) (q : Request) (answer : Reply) → IsAsking c t old asking → Some q ≡ old.request → None ≡ end_in answer →
    mid.thread ≡ old.thread → thread_of c mid ≡ thread_of c old → mid.marks ≡ None → mid.request ≡ None →
    Becomes c mid new (after_reply c mid.thread (thread_of c mid) q.what answer) → IsAt c t new (image_absorb c t asking.thread asking.request answer)
reply_at c t old mid new asking q answer a is e number state marks idle b =
    let n : mid.thread ≡ t = number ∙ a.number in
    record {
      number = b.number ∙ n;
      state =
          b.state
          ∙ ap (λ k. after_reply c k (thread_of c mid) q.what answer) n
          ∙ ap (λ x. after_reply c t x q.what answer) (state ∙ sym a.thread)
          ∙ reply_absorbed c t asking.thread q answer e
          ∙ ap (λ r. image_absorb c t asking.thread r answer) (asked_is c t old asking q a is);
      marks = b.marks ∙ marks;
      idle = b.request ∙ idle;
    }

-- the thread behind an entry

pub shown_becomes : (c : Code) (old new : Runner) (fs : List ImageFrame) (qs : List Principal) → new.thread ≡ old.thread → new.calls ≡ old.calls → new.endings ≡ old.endings → new.fuel ≡ old.fuel → new.due ≡ old.due →
    new.marks ≡ old.marks → new.request ≡ old.request → Shows c new.stack fs qs → Becomes c old new (record (thread_of c old) { shadow = qs; frames = fs })
shown_becomes c old new fs qs e0 e1 e2 e3 e4 e5 e6 h =
    record { number = e0; calls = e1; marks = e5; request = e6; state = thread_is c new _ _ _ _ _ _ (left_same old new e1 e2) (ap (λ v. v.items) e2) e3 e4 h.frames h.principals }

-- a function that fits its site is entered
pub enters_fitting : (c : Code) (t : ℕ) (old new : Runner) (fits : Bool) (way : Way) (args : List Word) (n : ℕ) (q : Principal) (crosses : Bool) → fits ≡ true →
    Becomes c old new (after_entry c t true way args n q crosses (thread_of c old)) → Becomes c old new (after_entry c t fits way args n q crosses (thread_of c old))
enters_fitting c t old new fits way args n q crosses e h = subst (λ (x : Bool). Becomes c old new (after_entry c t x way args n q crosses (thread_of c old))) (sym e) h

-- what was asked

pub asked_ready : (c : Code) (t : ℕ) (old : Runner) (asking : ImageAsking) (q : Request) → IsAsking c t old asking → Some q ≡ old.request → HasRoomFor c old.stack q.what
asked_ready c t old asking q a is = subst (IsReadyIf c old.stack) (sym is) a.ready

pub asked_may : (c : Code) (t : ℕ) (old : Runner) (asking : ImageAsking) (q : Request) (answer : Reply) → IsAsking c t old asking → Some q ≡ old.request → IsTrue (may_answer asking.request.what answer) → IsTrue (may_answer q.what answer)
asked_may c t old asking q answer a is m = ap (λ (r : Request). may_answer r.what answer) (asked_is c t old asking q a is) ∙ m

pub reply_taken : (c : Code) (t : ℕ) (old mid new : Runner) (asking : ImageAsking) (q : Request) (answer : Reply) → IsAsking c t old asking → Some q ≡ old.request → None ≡ end_in answer → IsTrue (may_answer asking.request.what answer) →
    mid.thread ≡ old.thread → thread_of c mid ≡ thread_of c old → mid.stack ≡ old.stack → mid.marks ≡ None → mid.request ≡ None →
    (HasRoomFor c mid.stack q.what → IsTrue (may_answer q.what answer) → end_in answer ≡ None → Becomes c mid new (after_reply c mid.thread (thread_of c mid) q.what answer)) →
    IsAt c t new (image_absorb c t asking.thread asking.request answer)
reply_taken c t old mid new asking q answer a is e m number state same marks idle becomes =
    reply_at c t old mid new asking q answer a is e number state marks idle
    (becomes (subst (λ (s : FrameStack). HasRoomFor c s q.what) (sym same) (asked_ready c t old asking q a is)) (asked_may c t old asking q answer a is m) (sym e))
