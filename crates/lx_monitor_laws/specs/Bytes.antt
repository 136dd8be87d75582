-- What requests do to the bytes of memory, and what they are answered.
use Rattle.std.specs.Prelude.{ℕ, zero, suc, ◌+◌, ◌-◌, ◌/◌, ◌%◌, Option, Some, None, List, if◌then◌else◌}
use Rattle.lx_words.specs.declared.word.Width.TheVariants.{W32, W64}
use Rattle.lx_words.specs.Width.{byte_count}
use Rattle.lx_words.specs.Word.{Word, word}
use Rattle.lx_caps.specs.Heap.{alloc_address}
use Rattle.lx_caps.specs.Memory.{Memory, byte_at, number_at}
use Rattle.lx_caps.specs.Regions.{covers}
use Rattle.lx_model.specs.declared.request.Reply.{Reply}
use Rattle.lx_model.specs.declared.request.Reply.TheVariants.{Value, Done}
use Rattle.lx_model.specs.declared.request.What.{What}
use Rattle.lx_model.specs.declared.request.What.TheVariants as what
use Rattle.lx_model.specs.Decide.{arg}
use Rattle.lx_model.specs.Program.{NativeCall, Alloc, ZeroBytes, TryLock, native_call}
use Rattle.lx_model.specs.State.{State}

-- a byte of a number, where the least one is the first
abbrev pub byte_of : ℕ → ℕ → ℕ
byte_of n zero = n % 256
byte_of n (suc i) = byte_of (n / 256) i

-- the `size` bytes from `at` on are these, counted from 0, and all others are as they were
abbrev pub byte_with : ℕ → ℕ → (ℕ → ℕ) → Memory → ℕ → ℕ
byte_with at size bytes m a = if covers at size a then bytes (a - at) else byte_at m a

-- a lock that is 0 becomes 1, and any other stays
abbrev pub byte_locked : ℕ → ℕ → Memory → ℕ → ℕ
byte_locked at zero m a = byte_with at 4 (byte_of 1) m a
byte_locked at (suc n) m a = byte_at m a

-- a byte behind a native
abbrev pub byte_behind_native : State → NativeCall → List Word → ℕ → ℕ
byte_behind_native s ZeroBytes args a = byte_with (arg args 0) (arg args 1) (λ i. 0) s.memory a
byte_behind_native s TryLock args a = byte_locked (arg args 0) (number_at s.memory (arg args 0) 4) s.memory a
byte_behind_native s _ args a = byte_at s.memory a

-- a byte behind a request that goes on: a block copy writes what stood in the source before
abbrev pub byte_behind : State → What → ℕ → ℕ
byte_behind s (what.Store at w) a = byte_with at (byte_count w.width) (byte_of w.bits) s.memory a
byte_behind s (what.Copy to from len) a = byte_with to len (λ i. byte_at s.memory (from + i)) s.memory a
byte_behind s (what.Fill to byte len) a = byte_with to len (λ i. byte) s.memory a
byte_behind s (what.Alloca at size) a = byte_with at size (λ i. 0) s.memory a
byte_behind s (what.Native k args) a = byte_behind_native s (native_call k) args a
byte_behind s _ a = byte_at s.memory a

-- a lock that was 0 is taken
abbrev pub lock_answer : ℕ → ℕ
lock_answer zero = 1
lock_answer (suc n) = 0

abbrev pub answer_of_native : State → NativeCall → List Word → Reply
answer_of_native s Alloc args = Value (word W64 (alloc_address s.blocks (arg args 0)))
answer_of_native s TryLock args = Value (word W32 (lock_answer (number_at s.memory (arg args 0) 4)))
answer_of_native s _ args = Done

-- what a request that goes on is answered, but a call
abbrev pub answer : State → What → Option Reply
answer s (what.Load at width) = Some (Value (word width (number_at s.memory at (byte_count width))))
answer s (what.Enter way args) = None
answer s (what.Native k args) = Some (answer_of_native s (native_call k) args)
answer s (what.Finish o) = None
answer s _ = Some Done
