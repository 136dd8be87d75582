-- What requests do to the bytes of memory.
use Rattle.std.proofs.Common.{◌≡◌, ℕ, zero, suc, ◌+◌, ◌-◌, ◌*◌, ◌/◌, ◌%◌, ◌<◌, Bool, true, false, cond, Option, Some, None, Ok, Err, List, ◌∷◌, length, get_or, refl, ap, arith, ◌∙◌}
use Rattle.std.proofs.lemmas.Option.{same_Some}
use Rattle.lx_words.specs.Width.{byte_count}
use Rattle.lx_words.specs.Word.{Word, word}
use Rattle.lx_words.specs.declared.word.Width.TheVariants.{W32}
use Rattle.lx_caps.specs.declared.Principal.{Principal}
use Rattle.lx_caps.specs.Memory.{Memory, Put, byte_at, bytes_at, bytes_of, number_at}
use Rattle.lx_caps.specs.Regions.{covers}
use Rattle.lx_caps.proofs.Covering.{covers_parts}
use Rattle.lx_memory.proofs.SpaceLemmas.{get_or-bytes_at, length-bytes_at, length-bytes_of}
use Rattle.lx_annot.specs.Value.{Found}
use Rattle.lx_model.specs.declared.program.Program.{Program}
use Rattle.lx_model.specs.declared.request.Outcome.{Outcome}
use Rattle.lx_model.specs.declared.request.Reply.{Reply}
use Rattle.lx_model.specs.declared.request.Reply.TheVariants.{Value}
use Rattle.lx_model.specs.declared.request.Request.{Request}
use Rattle.lx_model.specs.declared.request.Way.{Way}
use Rattle.lx_model.specs.declared.request.What.{What}
use Rattle.lx_model.specs.declared.request.What.TheVariants as what
use Rattle.lx_model.specs.Decide.{arg, decide}
use Rattle.lx_model.specs.Enter.{Running, entered_function, runs_as}
use Rattle.lx_model.specs.Program.{NativeCall, Alloc, Free, ZeroBytes, TryLock, NoteValue, AliasPrincipal, native_call}
use Rattle.lx_model.specs.Serve.{serve, serve_by, grant_what, entering, entering_as, after_native, after_try_lock, with_block}
use Rattle.lx_model.specs.State.{State}
use Rattle.lx_run_laws.specs.Authorised.{is_end}
use Rattle.lx_run_laws.proofs.Needing.{not_false}
use Rattle.lx_monitor_laws.specs.Bytes.{answer, answer_of_native, byte_behind, byte_behind_native, byte_locked, byte_of, byte_with, lock_answer}

-- the bytes of a number

index_byte : (size n i : ℕ) → i < size → get_or (bytes_of size n) i 0 ≡ byte_of n i
index_byte zero n i h = absurd (omega arith)
index_byte (suc k) n zero h = refl
index_byte (suc k) n (suc i) h = index_byte k (n / 256) i (omega arith)

pub number_bytes : (m : Memory) (at size i : ℕ) → ((k : ℕ) → byte_at m k < 256) → i < size → byte_of (number_at m at size) i ≡ byte_at m (at + i)
number_bytes m at zero i small h = absurd (omega arith)
number_bytes m at (suc n) zero small h =
    let least = small at in
    let low : (byte_at m at + 256 * number_at m (suc at) n) % 256 ≡ byte_at m at = omega arith in
    low ∙ ap (byte_at m) (omega arith)
number_bytes m at (suc n) (suc i) small h =
    let least = small at in
    let rest : (byte_at m at + 256 * number_at m (suc at) n) / 256 ≡ number_at m (suc at) n = omega arith in
    ap (λ k. byte_of k i) rest ∙ number_bytes m (suc at) n i small (omega arith) ∙ ap (byte_at m) (omega arith)

-- bytes that are put stand in their range

pick : (b : Bool) (x y z : ℕ) → (b ≡ true → x ≡ y) → cond b x z ≡ cond b y z
pick true x y z same = same refl
pick false x y z same = refl

put_bytes : (ys : List ℕ) (bytes : ℕ → ℕ) (m : Memory) (at size a : ℕ) → length ys ≡ size → ((i : ℕ) → i < size → get_or ys i 0 ≡ bytes i)
    → byte_at (Put at ys ∷ m) a ≡ byte_with at size bytes m a
put_bytes ys bytes m at size a long each =
    ap (λ k. cond (covers at k a) (get_or ys (a - at) 0) (byte_at m a)) long
    ∙ pick (covers at size a) _ _ _ (λ is. let bounds = covers_parts at size a is in each (a - at) (omega arith))

number_put : (m : Memory) (at size n a : ℕ) → byte_at (Put at (bytes_of size n) ∷ m) a ≡ byte_with at size (byte_of n) m a
number_put m at size n a = put_bytes (bytes_of size n) (byte_of n) m at size a (length-bytes_of size n) (index_byte size n)

copied : (m : Memory) (to from len a : ℕ) → byte_at (Put to (bytes_at m from len) ∷ m) a ≡ byte_with to len (λ i. byte_at m (from + i)) m a
copied m to from len a = put_bytes (bytes_at m from len) _ m to len a (length-bytes_at m from len) (get_or-bytes_at m from len)

-- natives

locked : (s : State) (at n a : ℕ) → byte_at (after_try_lock s at n).state.memory a ≡ byte_locked at n s.memory a
locked s at zero a = number_put s.memory at 4 1 a
locked s at (suc n) a = refl

blocks_aside : (at size : ℕ) (s : State) → (with_block at size s).memory ≡ s.memory
blocks_aside zero size s = refl
blocks_aside (suc n) size s = refl

native_bytes : (s : State) (t : ℕ) (who : Principal) (k : NativeCall) (args : List Word) (a : ℕ)
    → byte_at (after_native s t who k args).state.memory a ≡ byte_behind_native s k args a
native_bytes s t who Alloc args a = ap (λ m. byte_at m a) (blocks_aside _ _ s)
native_bytes s t who Free args a = refl
native_bytes s t who ZeroBytes args a = refl
native_bytes s t who TryLock args a = locked s (arg args 0) (number_at s.memory (arg args 0) 4) a
native_bytes s t who NoteValue args a = refl
native_bytes s t who AliasPrincipal args a = refl

-- requests

running_bytes : (p : Program) (s : State) (who : Principal) (way : Way) (n : ℕ) (found : Found Running) → (entering_as p s who way n found).state.memory ≡ s.memory
running_bytes p s who way n (Ok r) = refl
running_bytes p s who way n (Err at) = refl

entering_bytes : (p : Program) (s : State) (who : Principal) (way : Way) (args : List Word) (n : Option ℕ) → (entering p s who way args n).state.memory ≡ s.memory
entering_bytes p s who way args None = refl
entering_bytes p s who way args (Some n) = running_bytes p s who way n (runs_as p s who way n args)

granted_bytes : (p : Program) (s : State) (t : ℕ) (who : Principal) (w : What) (a : ℕ) → byte_at (grant_what p s t who w).state.memory a ≡ byte_behind s w a
granted_bytes p s t who (what.Load at width) a = refl
granted_bytes p s t who (what.Store at w) a = number_put s.memory at (byte_count w.width) w.bits a
granted_bytes p s t who (what.Copy to from len) a = copied s.memory to from len a
granted_bytes p s t who (what.Fill to byte len) a = refl
granted_bytes p s t who (what.Alloca at size) a = refl
granted_bytes p s t who (what.Enter way args) a = ap (λ m. byte_at m a) (entering_bytes p s who way args (entered_function p s way))
granted_bytes p s t who (what.Perform n post k env source dest) a = refl
granted_bytes p s t who (what.Return low high) a = refl
granted_bytes p s t who (what.Native k args) a = native_bytes s t who (native_call k) args a
granted_bytes p s t who (what.Finish o) a = refl

served_bytes : (d : Option Outcome) (p : Program) (s : State) (t : ℕ) (r : Request) (a : ℕ) → is_end (serve_by d p s t r).reply ≡ false
    → byte_at (serve_by d p s t r).state.memory a ≡ byte_behind s r.what a
served_bytes None p s t r a h = granted_bytes p s t r.who r.what a
served_bytes (Some o) p s t r a h = cc

pub bytes : (p : Program) (s : State) (t : ℕ) (r : Request) (a : ℕ) → is_end (serve p s t r).reply ≡ false
    → byte_at (serve p s t r).state.memory a ≡ byte_behind s r.what a
bytes p s t r a h = served_bytes (decide p s t r) p s t r a h

-- answers

lock_goes : (s : State) (at n : ℕ) → (after_try_lock s at n).reply ≡ Value (word W32 (lock_answer n))
lock_goes s at zero = refl
lock_goes s at (suc n) = refl

native_goes : (s : State) (t : ℕ) (who : Principal) (k : NativeCall) (args : List Word)
    → (after_native s t who k args).reply ≡ answer_of_native s k args
native_goes s t who Alloc args = refl
native_goes s t who Free args = refl
native_goes s t who ZeroBytes args = refl
native_goes s t who TryLock args = lock_goes s (arg args 0) (number_at s.memory (arg args 0) 4)
native_goes s t who NoteValue args = refl
native_goes s t who AliasPrincipal args = refl

-- a request that goes on is answered so, and only a call or a finish has no answer of its own
Answers : State → What → Reply → Type 0
Answers s w given = (reply : Reply) → answer s w ≡ Some reply → given ≡ reply

granted_answer : (p : Program) (s : State) (t : ℕ) (who : Principal) (w : What) → Answers s w (grant_what p s t who w).reply
unfolding Answers
granted_answer p s t who (what.Load at width) reply e = cc
granted_answer p s t who (what.Store at w) reply e = cc
granted_answer p s t who (what.Copy to from len) reply e = cc
granted_answer p s t who (what.Fill to byte len) reply e = cc
granted_answer p s t who (what.Alloca at size) reply e = cc
granted_answer p s t who (what.Enter way args) reply e = cc
granted_answer p s t who (what.Perform n post k env source dest) reply e = cc
granted_answer p s t who (what.Return low high) reply e = cc
granted_answer p s t who (what.Native k args) reply e = native_goes s t who (native_call k) args ∙ same_Some _ _ e
granted_answer p s t who (what.Finish o) reply e = cc

served_answer : (d : Option Outcome) (p : Program) (s : State) (t : ℕ) (r : Request) → is_end (serve_by d p s t r).reply ≡ false
    → Answers s r.what (serve_by d p s t r).reply
served_answer None p s t r h = granted_answer p s t r.who r.what
served_answer (Some o) p s t r h = cc

pub answers : (p : Program) (s : State) (t : ℕ) (r : Request) (reply : Reply) → is_end (serve p s t r).reply ≡ false → answer s r.what ≡ Some reply
    → (serve p s t r).reply ≡ reply
unfolding Answers
answers p s t r reply h e = served_answer (decide p s t r) p s t r h reply e

-- a call that ends

native_goes_on : (s : State) (k : NativeCall) (args : List Word) → is_end (answer_of_native s k args) ≡ false
native_goes_on s Alloc args = refl
native_goes_on s Free args = refl
native_goes_on s ZeroBytes args = refl
native_goes_on s TryLock args = refl
native_goes_on s NoteValue args = refl
native_goes_on s AliasPrincipal args = refl

ended_what : (p : Program) (s : State) (t : ℕ) (who : Principal) (w : What) (a : ℕ) → is_end (grant_what p s t who w).reply ≡ true
    → byte_at (grant_what p s t who w).state.memory a ≡ byte_at s.memory a
ended_what p s t who (what.Load at width) a h = cc
ended_what p s t who (what.Store at w) a h = cc
ended_what p s t who (what.Copy to from len) a h = cc
ended_what p s t who (what.Fill to byte len) a h = cc
ended_what p s t who (what.Alloca at size) a h = cc
ended_what p s t who (what.Enter way args) a h = ap (λ m. byte_at m a) (entering_bytes p s who way args (entered_function p s way))
ended_what p s t who (what.Perform n post k env source dest) a h = cc
ended_what p s t who (what.Return low high) a h = cc
ended_what p s t who (what.Native k args) a h =
    not_false (is_end (after_native s t who (native_call k) args).reply) h
    (ap is_end (native_goes s t who (native_call k) args) ∙ native_goes_on s (native_call k) args)
ended_what p s t who (what.Finish o) a h = refl

ended_by : (d : Option Outcome) (p : Program) (s : State) (t : ℕ) (r : Request) (a : ℕ) → is_end (serve_by d p s t r).reply ≡ true
    → byte_at (serve_by d p s t r).state.memory a ≡ byte_at s.memory a
ended_by None p s t r a h = ended_what p s t r.who r.what a h
ended_by (Some o) p s t r a h = refl

pub ended : (p : Program) (s : State) (t : ℕ) (r : Request) (a : ℕ) → is_end (serve p s t r).reply ≡ true
    → byte_at (serve p s t r).state.memory a ≡ byte_at s.memory a
ended p s t r a h = ended_by (decide p s t r) p s t r a h
