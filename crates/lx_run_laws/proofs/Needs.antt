-- What was served was held.
use Rattle.std.proofs.Common.{◌≡◌, ℕ, zero, suc, Bool, true, false, not, Option, Some, None, List, [], ◌∷◌, refl, sym, ap, subst, ◌∙◌}
use Rattle.std.specs.List.{find}
use Rattle.std.proofs.lemmas.Option.{same_Some}
use Rattle.lx_words.specs.Width.{byte_count}
use Rattle.lx_words.specs.Word.{Word}
use Rattle.lx_caps.specs.declared.Principal.{Principal}
use Rattle.lx_caps.specs.declared.Principal.TheVariants.{Kernel, Shared, Global, Inst}
use Rattle.lx_caps.specs.declared.Cap.{Cap}
use Rattle.lx_caps.specs.declared.Cap.TheVariants as cap
use Rattle.lx_caps.specs.declared.Cap.TheVariants.{Call}
use Rattle.lx_caps.specs.History.{holds}
use Rattle.lx_caps.specs.Memory.{number_at}
use Rattle.lx_caps.specs.Regions.{mapped}
use Rattle.lx_model.specs.declared.program.Program.{Program}
use Rattle.lx_model.specs.declared.request.Outcome.{Outcome}
use Rattle.lx_model.specs.declared.request.Outcome.TheVariants.{Refused}
use Rattle.lx_model.specs.declared.request.Refusal.TheVariants as refusal
use Rattle.lx_model.specs.declared.request.Reply.TheVariants.{Entered, Ended}
use Rattle.lx_model.specs.declared.request.Request.{Request}
use Rattle.lx_model.specs.declared.request.Way.{Way}
use Rattle.lx_model.specs.declared.request.Way.TheVariants.{Script, Direct, Indirect, Slot}
use Rattle.lx_model.specs.declared.request.What.{What}
use Rattle.lx_model.specs.declared.request.What.TheVariants as what
use Rattle.lx_model.specs.Act.{or_else, unless, unmapped, not_held}
use Rattle.lx_model.specs.Authority.{AuthorityLaws, is_module}
use Rattle.lx_model.specs.Decide.{decide_write, decide_what, unless_mapped}
use Rattle.lx_model.specs.Enter.{by_writers, decide_enter, decide_slot, decide_target, slot_writers, writer_refusal, written_target}
use Rattle.lx_model.specs.Next.{next, request}
use Rattle.lx_model.specs.Program.{function_at}
use Rattle.lx_model.specs.Serve.{serve, serve_by}
use Rattle.lx_model.specs.State.{State}
use Rattle.lx_model.specs.World.{World, event}
use Rattle.lx_run_laws.specs.Authorised.{needs, needs_of_way, is_end, IsAuthorised, AreAuthorised}
use Rattle.lx_run_laws.proofs.Tops.{next_top}
use Rattle.lx_model.proofs.Passing.{first_row, passed_on}
use Rattle.lx_model.proofs.Authority.{refused_first}

-- the need of a request is decided first
abbrev IsFirst : State → Principal → Cap → Option Outcome → Type 0
IsFirst s who c d = (more : Option Outcome) × (d ≡ or_else (unless (holds s.history who c) (not_held who c)) more)

alone : (b : Bool) (o : Outcome) → unless b o ≡ or_else (unless b o) None
alone true o = refl
alone false o = refl

write_first : (s : State) (who : Principal) (at size : ℕ) → is_module who ≡ true → IsFirst s who (cap.Write at size) (decide_write s who at size)
write_first s Kernel at size im = absurd (cc)
write_first s (Shared m) at size im = (None, alone (holds s.history (Shared m) (cap.Write at size)) _)
write_first s (Global m) at size im = (None, alone (holds s.history (Global m) (cap.Write at size)) _)
write_first s (Inst m k) at size im = (None, alone (holds s.history (Inst m k) (cap.Write at size)) _)

copy_first : (s : State) (who : Principal) (at size : ℕ) (more : Option Outcome) → is_module who ≡ true → IsFirst s who (cap.Write at size) (or_else (decide_write s who at size) more)
copy_first s Kernel at size more im = absurd (cc)
copy_first s (Shared m) at size more im = (more, refl)
copy_first s (Global m) at size more im = (more, refl)
copy_first s (Inst m k) at size more im = (more, refl)

way_first : (p : Program) (s : State) (who : Principal) (way : Way) (args : List Word) (c : Cap) → needs_of_way way ≡ Some c → IsFirst s who c (decide_enter p s who way args)
way_first p s who (Script n) args c is = absurd (cc)
way_first p s who (Direct n) args c is = absurd (cc)
way_first p s who (Indirect a) args c is =
    subst (λ (d : Cap). IsFirst s who d (decide_enter p s who (Indirect a) args)) (same_Some (cap.Call a) c is) (decide_target p s who a args (function_at p a), refl)
way_first p s who (Slot slot ty) args c is = absurd (cc)

need_first : (p : Program) (s : State) (t : ℕ) (who : Principal) (w : What) (c : Cap) → is_module who ≡ true → needs w ≡ Some c → IsFirst s who c (decide_what p s t who w)
need_first p s t who (what.Load at width) c im is = absurd (cc)
need_first p s t who (what.Store at w) c im is =
    subst (λ (d : Cap). IsFirst s who d (decide_write s who at (byte_count w.width))) (same_Some _ c is) (write_first s who at (byte_count w.width) im)
need_first p s t who (what.Copy to from zero) c im is = absurd (cc)
need_first p s t who (what.Copy to from (suc len)) c im is =
    subst (λ (d : Cap). IsFirst s who d (or_else (decide_write s who to (suc len)) (unless_mapped from (suc len)))) (same_Some _ c is)
    (copy_first s who to (suc len) (unless_mapped from (suc len)) im)
need_first p s t who (what.Fill to byte len) c im is = subst (λ (d : Cap). IsFirst s who d (decide_write s who to len)) (same_Some _ c is) (write_first s who to len im)
need_first p s t who (what.Alloca at size) c im is = absurd (cc)
need_first p s t who (what.Enter way args) c im is = way_first p s who way args c is
need_first p s t who (what.Perform n post k env source dest) c im is = absurd (cc)
need_first p s t who (what.Return low high) c im is = absurd (cc)
need_first p s t who (what.Native k args) c im is = absurd (cc)
need_first p s t who (what.Finish o) c im is = absurd (cc)

met : (b : Bool) (o : Outcome) (more : Option Outcome) (p : Program) (s : State) (t : ℕ) (r : Request) → is_end (serve_by (or_else (unless b o) more) p s t r).reply ≡ false → b ≡ true
met true o more p s t r h = refl
met false o more p s t r h = absurd (cc)

was_held : (p : Program) (s : State) (t : ℕ) (r : Request) (c : Cap) → is_module r.who ≡ true → needs r.what ≡ Some c → is_end (serve p s t r).reply ≡ false → holds s.history r.who c ≡ true
was_held p s t r c im is served =
    let first = need_first p s t r.who r.what c im is in
    met (holds s.history r.who c) (not_held r.who c) first.0 p s t r (subst (λ (d : Option Outcome). is_end (serve_by d p s t r).reply ≡ false) first.1 served)

is_refused : (p : Program) (s : State) (t : ℕ) (r : Request) (c : Cap) → is_module r.who ≡ true → needs r.what ≡ Some c → holds s.history r.who c ≡ false → (serve p s t r).reply ≡ Ended (not_held r.who c)
is_refused p s t r c im is none =
    let first = need_first p s t r.who r.what c im is in
    ap (λ (d : Option Outcome). (serve_by d p s t r).reply) first.1 ∙ refused_first (holds s.history r.who c) (not_held r.who c) first.0 p s t r none

-- the first writer that does not hold the call

writer_named : (s : State) (slot a : ℕ) (ws : List Principal) (w : Principal) → find (λ v. not (holds s.history v (Call a))) ws ≡ Some w
    → writer_refusal s slot a ws ≡ Some (Refused (refusal.Writer w a slot))
writer_named s slot a [] w is = absurd (cc)
writer_named s slot a (v ∷ vs) w is =
    first_row (holds s.history v (Call a)) v w a slot (find (λ u. not (holds s.history u (Call a))) vs) (writer_refusal s slot a vs) is (writer_named s slot a vs w)

-- an outcome that is decided first
goes_first : (o : Outcome) (first more : Option Outcome) → first ≡ Some o → or_else first more ≡ Some o
goes_first o None more is = absurd (cc)
goes_first o (Some x) more is = is

by_named : (p : Program) (s : State) (who : Principal) (slot ty a : ℕ) (target : Option ℕ) (ws : List Principal) (w : Principal)
    → find (λ v. not (holds s.history v (Call a))) ws ≡ Some w → by_writers p s who slot ty a target ws ≡ Some (Refused (refusal.Writer w a slot))
by_named p s who slot ty a target [] w is = absurd (cc)
by_named p s who slot ty a target (v ∷ vs) w is = goes_first _ (writer_refusal s slot a (v ∷ vs)) (written_target p who a ty target) (writer_named s slot a (v ∷ vs) w is)

slot_decided : (p : Program) (s : State) (who : Principal) (slot ty : ℕ) (args : List Word) (w : Principal) → mapped slot 8 ≡ true
    → find (λ v. not (holds s.history v (Call (number_at s.memory slot 8)))) (slot_writers p s slot) ≡ Some w
    → decide_enter p s who (Slot slot ty) args ≡ Some (Refused (refusal.Writer w (number_at s.memory slot 8) slot))
slot_decided p s who slot ty args w at is =
    passed_on (mapped slot 8) (unmapped slot) _ (decide_slot p s who slot ty (number_at s.memory slot 8) args) at
    (goes_first _ (by_writers p s who slot ty (number_at s.memory slot 8) (function_at p (number_at s.memory slot 8)) (slot_writers p s slot)) _
    (by_named p s who slot ty (number_at s.memory slot 8) (function_at p (number_at s.memory slot 8)) (slot_writers p s slot) w is))

writer_is_refused : (p : Program) (s : State) (t : ℕ) (who : Principal) (slot ty : ℕ) (args : List Word) (w : Principal) → mapped slot 8 ≡ true
    → find (λ v. not (holds s.history v (Call (number_at s.memory slot 8)))) (slot_writers p s slot) ≡ Some w
    → (serve p s t (request who (what.Enter (Slot slot ty) args))).reply ≡ Ended (Refused (refusal.Writer w (number_at s.memory slot 8) slot))
writer_is_refused p s t who slot ty args w at is =
    ap (λ (d : Option Outcome). (serve_by d p s t (request who (what.Enter (Slot slot ty) args))).reply) (slot_decided p s who slot ty args w at is)

is_authorised : (laws : AuthorityLaws) (p : Program) (s : State) (t : ℕ) (r : Request) → IsAuthorised p s t r
is_authorised laws p s t r = record {
  held = was_held p s t r;
  refused = is_refused p s t r;
  by_writers = λ slot ty args n q c is served.
      laws.by_slot p s t r.who slot ty args n q c (subst (λ (w : What). (serve p s t (request r.who w)).reply ≡ Entered n q c) is served);
  writer_refused = λ slot ty args w is at found.
      subst (λ (x : What). (serve p s t (request r.who x)).reply ≡ Ended (Refused (refusal.Writer w (number_at s.memory slot 8) slot))) (sym is)
      (writer_is_refused p s t r.who slot ty args w at found);
  annotated = λ slot ty args n q c is served some.
      laws.slot_annotated p s t r.who slot ty args n q c some (subst (λ (w : What). (serve p s t (request r.who w)).reply ≡ Entered n q c) is served);
  stopped = λ o ends. (laws.stopped p s t r o ends, laws.stripped p s t r o ends);
}

pub run_authorised : (laws : AuthorityLaws) (p : Program) (schedule : List ℕ) (w : World) → AreAuthorised p schedule w
run_authorised laws p [] w = tt
run_authorised laws p (t ∷ ts) w = (
  (λ x at work. (next_top p t x, is_authorised laws p w.state t (next p t x).request)),
  run_authorised laws p ts (event p t w),
)
