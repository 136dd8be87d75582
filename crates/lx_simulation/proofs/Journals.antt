-- What is served does not depend on the journal.
use Rattle.std.proofs.Common.{◌≡◌, ℕ, zero, suc, Bool, true, List, [], ◌∷◌, ◌++◌, map, Option, Some, None, Ok, Err, refl, sym, ◌∙◌, ap, subst}
use Rattle.std.proofs.lemmas.List.{map-append}
use Rattle.lx_words.specs.Width.{byte_count}
use Rattle.lx_words.specs.Word.{Word}
use Rattle.lx_caps.specs.declared.Principal.{Principal}
use Rattle.lx_caps.specs.declared.Principal.TheVariants.{Kernel, Shared, Global, Inst}
use Rattle.lx_caps.specs.declared.Cap.TheVariants.{Call, Write}
use Rattle.lx_caps.specs.History.{holds}
use Rattle.lx_caps.specs.Memory.{number_at}
use Rattle.lx_caps.specs.Heap.{alloc_address}
use Rattle.lx_caps.specs.Regions.{mapped}
use Rattle.lx_annot.specs.declared.action.Who.{Who}
use Rattle.lx_annot.specs.declared.action.Who.TheVariants as who
use Rattle.lx_annot.specs.declared.expr.Env.{Env}
use Rattle.lx_annot.specs.Action.{Action}
use Rattle.lx_annot.specs.Value.{Found}
use Rattle.lx_model.specs.declared.program.Program.{Program}
use Rattle.lx_model.specs.declared.request.Entry.{Entry}
use Rattle.lx_model.specs.declared.request.Outcome.{Outcome}
use Rattle.lx_model.specs.declared.request.Outcome.TheVariants.{Refused, Trapped}
use Rattle.lx_model.specs.declared.request.Refusal.TheVariants as refusal
use Rattle.lx_model.specs.declared.request.Trap.TheVariants.{Signature}
use Rattle.lx_model.specs.declared.request.Reply.TheVariants.{Done}
use Rattle.lx_model.specs.declared.request.Request.{Request}
use Rattle.lx_model.specs.declared.request.Way.{Way}
use Rattle.lx_model.specs.declared.request.Way.TheVariants.{Script, Direct, Indirect, Slot}
use Rattle.lx_model.specs.declared.request.What.{What}
use Rattle.lx_model.specs.declared.request.What.TheVariants as what
use Rattle.lx_model.specs.Program.{Home, home_of, function_at, is_in, is_annotated, annotation_or_none, NativeCall, Alloc, Free, ZeroBytes, TryLock, NoteValue, AliasPrincipal, native_call}
use Rattle.std.specs.Prelude.{slice_get, cond, ◌||◌}
use Rattle.lx_model.specs.Next.{actions_of, request}
use Rattle.lx_model.specs.State.{State}
use Rattle.lx_model.specs.Act.{or_else, unless, unmapped, Acted}
use Rattle.lx_model.specs.Enter.{text_of_principal, Running, runs_by, runs_in, runs_as, found_nothing, nobody, not_annotated, fits_params, has_signature, decide_target, writer_refusal, written_target, by_writers, slot_writers, slot_signature, decide_slot, decide_enter}
use Rattle.lx_model.specs.Decide.{decide, decide_write, decide_what, decide_native, decide_alias, outcome_of, result_or_none, action_result, arg, unless_mapped}
use Rattle.lx_model.specs.Serve.{Served, serving, serve, serve_by, with_entry, grant_what, entering, entering_as, after_native, after_try_lock, after_alloc, with_block, after_alias, with_history, history_or}
use Rattle.lx_simulation.proofs.CountedStands.{seen, SameState}
use Rattle.lx_model.proofs.ServedJournal.{served_journal}

-- with another journal
abbrev pub rejournaled : List Entry → State → State
rejournaled j s = record s { journal = j }

abbrev pub served_again : List Entry → Served → Served
served_again j x = serving (rejournaled j x.state) x.reply

-- behind the first decision
second : (a : Option Outcome) {b c : Option Outcome} → b ≡ c → or_else a b ≡ or_else a c
second a e = ap (or_else a) e

-- who runs

runs_by-again : (s : State) (j : List Entry) (m : ℕ) (args : List Word) (w : Option Who) → runs_by (rejournaled j s) m args w ≡ runs_by s m args w
runs_by-again s j m args None = refl
runs_by-again s j m args (Some who.Shared) = refl
runs_by-again s j m args (Some who.Global) = refl
runs_by-again s j m args (Some (who.Value e)) = refl

runs_in-again : (p : Program) (s : State) (j : List Entry) (n : ℕ) (args : List Word) (h : Option Home) → runs_in p (rejournaled j s) n args h ≡ runs_in p s n args h
runs_in-again p s j n args None = refl
runs_in-again p s j n args (Some None) = refl
runs_in-again p s j n args (Some (Some m)) = runs_by-again s j m args (annotation_or_none p n).principal

runs_as-again : (p : Program) (s : State) (j : List Entry) (q : Principal) (way : Way) (n : ℕ) (args : List Word) → runs_as p (rejournaled j s) q way n args ≡ runs_as p s q way n args
runs_as-again p s j q (Script f) n args = runs_in-again p s j n args (home_of p n)
runs_as-again p s j q (Direct f) n args = runs_in-again p s j n args (home_of p n)
runs_as-again p s j q (Indirect a) n args =
    ap (λ (r : Found Running). cond (is_in p (text_of_principal q) n) (Ok (record { principal = q; names = s.names })) r) (runs_in-again p s j n args (home_of p n))
runs_as-again p s j q (Slot at ty) n args = runs_in-again p s j n args (home_of p n)

nobody-again : (p : Program) (s : State) (j : List Entry) (q : Principal) (way : Way) (n : ℕ) (args : List Word) → nobody p (rejournaled j s) q way n args ≡ nobody p s q way n args
nobody-again p s j q way n args = ap found_nothing (runs_as-again p s j q way n args)

-- decisions

target-again : (p : Program) (s : State) (j : List Entry) (q : Principal) (a : ℕ) (args : List Word) (n : Option ℕ) → decide_target p (rejournaled j s) q a args n ≡ decide_target p s q a args n
target-again p s j q a args None = refl
target-again p s j q a args (Some n) = second (unless (is_in p (text_of_principal q) n || is_annotated p n) (not_annotated q a)) (second (unless (fits_params p args n) (Trapped (Signature a))) (nobody-again p s j q (Indirect a) n args))

refusal-again : (s : State) (j : List Entry) (slot a : ℕ) (ws : List Principal) → writer_refusal (rejournaled j s) slot a ws ≡ writer_refusal s slot a ws
refusal-again s j slot a [] = refl
refusal-again s j slot a (w ∷ ws) = second (unless (holds s.history w (Call a)) (Refused (refusal.Writer w a slot))) (refusal-again s j slot a ws)

writers-again : (p : Program) (s : State) (j : List Entry) (q : Principal) (slot ty a : ℕ) (n : Option ℕ) (ws : List Principal) → by_writers p (rejournaled j s) q slot ty a n ws ≡ by_writers p s q slot ty a n ws
writers-again p s j q slot ty a n [] = refl
writers-again p s j q slot ty a n (w ∷ ws) = ap (λ (o : Option Outcome). or_else o (written_target p q a ty n)) (refusal-again s j slot a (w ∷ ws))

signature-again : (p : Program) (s : State) (j : List Entry) (q : Principal) (way : Way) (ty a : ℕ) (args : List Word) (n : Option ℕ) → slot_signature p (rejournaled j s) q way ty a args n ≡ slot_signature p s q way ty a args n
signature-again p s j q way ty a args None = refl
signature-again p s j q way ty a args (Some n) = second (unless (has_signature p ty n) (Trapped (Signature a))) (nobody-again p s j q way n args)

slot-again : (p : Program) (s : State) (j : List Entry) (q : Principal) (slot ty a : ℕ) (args : List Word) → decide_slot p (rejournaled j s) q slot ty a args ≡ decide_slot p s q slot ty a args
slot-again p s j q slot ty a args =
    λ k. or_else (writers-again p s j q slot ty a (function_at p a) (slot_writers p s slot) k) (signature-again p s j q (Slot slot ty) ty a args (function_at p a) k)

enter-again : (p : Program) (s : State) (j : List Entry) (q : Principal) (way : Way) (args : List Word) → decide_enter p (rejournaled j s) q way args ≡ decide_enter p s q way args
enter-again p s j q (Script n) args = nobody-again p s j q (Script n) n args
enter-again p s j q (Direct n) args = refl
enter-again p s j q (Indirect a) args = second (unless (holds s.history q (Call a)) (Refused (refusal.Call q a))) (target-again p s j q a args (function_at p a))
enter-again p s j q (Slot slot ty) args = second (unless (mapped slot 8) (unmapped slot)) (slot-again p s j q slot ty (number_at s.memory slot 8) args)

write-again : (s : State) (j : List Entry) (q : Principal) (at size : ℕ) → decide_write (rejournaled j s) q at size ≡ decide_write s q at size
write-again s j Kernel at size = refl
write-again s j _ at size = refl

alias-again : (s : State) (j : List Entry) (q : Principal) (h : Home) (a b : ℕ) → decide_alias (rejournaled j s) q h a b ≡ decide_alias s q h a b
alias-again s j q None a b = refl
alias-again s j q (Some m) a b = refl

native-again : (s : State) (j : List Entry) (q : Principal) (n : NativeCall) (args : List Word) → decide_native (rejournaled j s) q n args ≡ decide_native s q n args
native-again s j q AliasPrincipal args = alias-again s j q (text_of_principal q) (arg args 0) (arg args 1)
native-again s j q _ args = refl

result-again : (p : Program) (s : State) (j : List Entry) (t : ℕ) (a : Option Action) (env : Env) (source dest : Principal) → result_or_none p (rejournaled j s) t a env source dest ≡ result_or_none p s t a env source dest
result-again p s j t None env source dest = refl
result-again p s j t (Some a) env source dest = refl

what-again : (p : Program) (s : State) (j : List Entry) (t : ℕ) (q : Principal) (w : What) → decide_what p (rejournaled j s) t q w ≡ decide_what p s t q w
what-again p s j t q (what.Store at w) = write-again s j q at (byte_count w.width)
what-again p s j t q (what.Copy to from zero) = refl
what-again p s j t q (what.Copy to from (suc n)) = ap (λ (o : Option Outcome). or_else o (unless_mapped from (suc n))) (write-again s j q to (suc n))
what-again p s j t q (what.Fill to byte len) = write-again s j q to len
what-again p s j t q (what.Enter way args) = enter-again p s j q way args
what-again p s j t q (what.Perform n post k env source dest) = ap outcome_of (result-again p s j t (slice_get (actions_of p n post) k) env source dest)
what-again p s j t q (what.Native k args) = native-again s j q (native_call k) args
what-again p s j t q _ = refl

pub decide-again : (p : Program) (s : State) (j : List Entry) (t : ℕ) (r : Request) → decide p (rejournaled j s) t r ≡ decide p s t r
decide-again p s j t r = what-again p s j t r.who r.what

-- grants

found-again : (p : Program) (s : State) (j : List Entry) (q : Principal) (way : Way) (n : ℕ) (found : Found Running) → entering_as p (rejournaled j s) q way n found ≡ served_again j (entering_as p s q way n found)
found-again p s j q way n (Err at) = refl
found-again p s j q way n (Ok r) = refl

entering-again : (p : Program) (s : State) (j : List Entry) (q : Principal) (way : Way) (args : List Word) (n : Option ℕ) → entering p (rejournaled j s) q way args n ≡ served_again j (entering p s q way args n)
entering-again p s j q way args None = refl
entering-again p s j q way args (Some n) =
    ap (entering_as p (rejournaled j s) q way n) (runs_as-again p s j q way n args) ∙ found-again p s j q way n (runs_as p s q way n args)

way-again : (p : Program) (s : State) (j : List Entry) (q : Principal) (way : Way) (args : List Word) → grant_what p (rejournaled j s) 0 q (what.Enter way args) ≡ served_again j (grant_what p s 0 q (what.Enter way args))
way-again p s j q (Script f) args = entering-again p s j q (Script f) args (Some f)
way-again p s j q (Direct f) args = entering-again p s j q (Direct f) args (Some f)
way-again p s j q (Indirect a) args = entering-again p s j q (Indirect a) args (function_at p a)
way-again p s j q (Slot at ty) args = entering-again p s j q (Slot at ty) args (function_at p (number_at s.memory at 8))

block-again : (s : State) (j : List Entry) (at size : ℕ) → with_block at size (rejournaled j s) ≡ rejournaled j (with_block at size s)
block-again s j zero size = refl
block-again s j (suc n) size = refl

lock-again : (s : State) (j : List Entry) (at n : ℕ) → after_try_lock (rejournaled j s) at n ≡ served_again j (after_try_lock s at n)
lock-again s j at zero = refl
lock-again s j at (suc n) = refl

known-again : (s : State) (j : List Entry) (h : Home) (a b : ℕ) → after_alias (rejournaled j s) h a b ≡ served_again j (after_alias s h a b)
known-again s j None a b = refl
known-again s j (Some m) a b = refl

after_native-again : (s : State) (j : List Entry) (t : ℕ) (q : Principal) (n : NativeCall) (args : List Word) → after_native (rejournaled j s) t q n args ≡ served_again j (after_native s t q n args)
after_native-again s j t q Alloc args =
    ap (λ (x : State). serving x (after_alloc s (arg args 0) (alloc_address s.blocks (arg args 0))).reply) (block-again s j (alloc_address s.blocks (arg args 0)) (arg args 0))
after_native-again s j t q Free args = refl
after_native-again s j t q ZeroBytes args = refl
after_native-again s j t q TryLock args = lock-again s j (arg args 0) (number_at s.memory (arg args 0) 4)
after_native-again s j t q NoteValue args = refl
after_native-again s j t q AliasPrincipal args = known-again s j (text_of_principal q) (arg args 0) (arg args 1)

acted-again : (p : Program) (s : State) (j : List Entry) (t n : ℕ) (post : Bool) (k : ℕ) (env : Env) (source dest : Principal) → action_result p (rejournaled j s) t n post k env source dest ≡ action_result p s t n post k env source dest
acted-again p s j t n post k env source dest = result-again p s j t (slice_get (actions_of p n post) k) env source dest

grant-again : (p : Program) (s : State) (j : List Entry) (t : ℕ) (q : Principal) (w : What) → grant_what p (rejournaled j s) t q w ≡ served_again j (grant_what p s t q w)
grant-again p s j t q (what.Enter way args) = way-again p s j q way args
grant-again p s j t q (what.Perform n post k env source dest) =
    ap (λ (a : Acted). serving (rejournaled j (with_history (history_or a s.history) s)) Done) (acted-again p s j t n post k env source dest)
grant-again p s j t q (what.Native k args) = after_native-again s j t q (native_call k) args
grant-again p s j t q _ = refl

by-again : (p : Program) (s : State) (j : List Entry) (t : ℕ) (r : Request) (o : Option Outcome) → serve_by o p (rejournaled j s) t r ≡ served_again j (serve_by o p s t r)
by-again p s j t r None = grant-again p s j t r.who r.what
by-again p s j t r (Some o) = refl

pub serve_by-again : (p : Program) (s : State) (j : List Entry) (t : ℕ) (r : Request) → serve_by (decide p (rejournaled j s) t r) p (rejournaled j s) t r ≡ served_again j (serve_by (decide p s t r) p s t r)
serve_by-again p s j t r =
    ap (λ (o : Option Outcome). serve_by o p (rejournaled j s) t r) (decide-again p s j t r) ∙ by-again p s j t r (decide p s t r)

-- nothing but the last entry changes the journal

-- what is served from states that differ in their journals alone

abbrev SameServed : Served → Served → Type 0
SameServed x y = SameState x.state y.state × (y.reply ≡ x.reply)

-- the state with the journal of another that is the same
again : (s v : State) → SameState s v → v ≡ rejournaled v.journal s
again s v e =
    λ k. record { memory = e.memory k; blocks = e.blocks k; names = e.names k; history = e.history k; notes = e.notes k; journal = v.journal }

-- the entry of a request, of whoever asks
entered-same : (t : ℕ) (r s : Request) (x y : Served) → s.what ≡ r.what → SameServed x y → SameServed (with_entry t r x) (with_entry t s y)
entered-same t r s x y e same = (
  record {
    memory = same.0.memory;
    blocks = same.0.blocks;
    names = same.0.names;
    history = same.0.history;
    notes = same.0.notes;
    journal =
        map-append seen y.state.journal (record { thread = t; request = s; reply = y.reply } ∷ [])
        ∙ ((λ k. same.0.journal k ++ (record { thread = t; what = e k; reply = same.1 k } ∷ [])) ∙ sym (map-append seen x.state.journal (record { thread = t; request = r; reply = x.reply } ∷ [])));
  },
  same.1,
)

abbrev serving_of : Program → State → ℕ → Request → Served
serving_of p s t r = serve_by (decide p s t r) p s t r

-- with the journal of the other state, what is served is the same
again-same : (p : Program) (s : State) (j : List Entry) (t : ℕ) (r : Request) → map seen j ≡ map seen s.journal → SameServed (serving_of p s t r) (served_again j (serving_of p s t r))
again-same p s j t r e = (
  record { memory = refl; blocks = refl; names = refl; history = refl; notes = refl; journal = e ∙ ap (map seen) (sym (served_journal p s t r (decide p s t r))) },
  refl,
)

by-same : (p : Program) (s v : State) (t : ℕ) (r : Request) → SameState s v → SameServed (serving_of p s t r) (serving_of p v t r)
by-same p s v t r e =
    subst (λ (y : State). SameServed (serving_of p s t r) (serving_of p y t r)) (sym (again s v e))
    (subst (λ (y : Served). SameServed (serving_of p s t r) y) (sym (serve_by-again p s v.journal t r)) (again-same p s v.journal t r e.journal))

-- the same request
pub served-same : (p : Program) (s v : State) (t : ℕ) (r : Request) → SameState s v → SameServed (serve p s t r) (serve p v t r)
served-same p s v t r e = entered-same t r r (serving_of p s t r) (serving_of p v t r) refl (by-same p s v t r e)

-- a store of who holds it, and the kernel's
store_held : (s : State) (q : Principal) (at size : ℕ) → holds s.history q (Write at size) ≡ true → decide_write s q at size ≡ None
store_held s Kernel at size e = ap (λ (b : Bool). unless b (unmapped at)) e
store_held s (Shared m) at size e = ap (λ (b : Bool). unless b (Refused (refusal.Write (Shared m) at size))) e
store_held s (Global m) at size e = ap (λ (b : Bool). unless b (Refused (refusal.Write (Global m) at size))) e
store_held s (Inst m k) at size e = ap (λ (b : Bool). unless b (Refused (refusal.Write (Inst m k) at size))) e

pub served-stores : (p : Program) (s v : State) (t : ℕ) (q : Principal) (at : ℕ) (w : Word) → SameState s v →
    holds s.history q (Write at (byte_count w.width)) ≡ true → mapped at (byte_count w.width) ≡ true →
    SameServed (serve p s t (request q (what.Store at w))) (serve p v t (request Kernel (what.Store at w)))
served-stores p s v t q at w e held lies =
    let mine : serving_of p s t (request q (what.Store at w)) ≡ grant_what p s t q (what.Store at w)
    = ap (λ (o : Option Outcome). serve_by o p s t (request q (what.Store at w))) (store_held s q at (byte_count w.width) held) in
    let kernels : serving_of p s t (request Kernel (what.Store at w)) ≡ grant_what p s t q (what.Store at w)
    = ap (λ (o : Option Outcome). serve_by o p s t (request Kernel (what.Store at w))) (store_held s Kernel at (byte_count w.width) lies) in
    entered-same t (request q (what.Store at w)) (request Kernel (what.Store at w)) (serving_of p s t (request q (what.Store at w))) (serving_of p v t (request Kernel (what.Store at w))) refl
    (subst (λ (x : Served). SameServed x (serving_of p v t (request Kernel (what.Store at w)))) (kernels ∙ sym mine) (by-same p s v t (request Kernel (what.Store at w)) e))
