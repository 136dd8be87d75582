-- What leaves the journal alone.
use Rattle.std.proofs.Common.{Err, Ok, refl, ℕ, ◌≡◌, suc, zero, List, None, Option, Some}
use Rattle.lx_words.specs.Word.{Word}
use Rattle.lx_caps.specs.declared.Principal.{Principal}
use Rattle.lx_caps.specs.Heap.{alloc_address}
use Rattle.lx_caps.specs.Memory.{number_at}
use Rattle.lx_annot.specs.Value.{Found}
use Rattle.lx_model.specs.Enter.{Running, runs_as, entered_function}
use Rattle.lx_model.specs.Serve.{entering_as, after_try_lock, with_block, entering, after_native, grant_what}
use Rattle.lx_model.specs.State.{State}
use Rattle.lx_model.specs.declared.program.Program.{Program}
use Rattle.lx_model.specs.declared.request.Way.{Way}
use Rattle.lx_model.specs.Decide.{arg}
use Rattle.lx_model.specs.Program.{Alloc, NativeCall, TryLock, native_call}
use Rattle.lx_model.specs.declared.request.What.{What}
use Rattle.lx_model.specs.declared.request.What.TheVariants as what

pub entered_journal : (p : Program) (s : State) (who : Principal) (way : Way) (n : ℕ) (found : Found Running) → (entering_as p s who way n found).state.journal ≡ s.journal
entered_journal p s who way n (Ok r) = refl
entered_journal p s who way n (Err at) = refl

pub locked_journal : (s : State) (at n : ℕ) → (after_try_lock s at n).state.journal ≡ s.journal
locked_journal s at zero = refl
locked_journal s at (suc n) = refl

pub block_journal : (s : State) (at size : ℕ) → (with_block at size s).journal ≡ s.journal
block_journal s zero size = refl
block_journal s (suc n) size = refl

pub entering_journal : (p : Program) (s : State) (q : Principal) (way : Way) (args : List Word) (n : Option ℕ) → (entering p s q way args n).state.journal ≡ s.journal
entering_journal p s q way args None = refl
entering_journal p s q way args (Some n) = entered_journal p s q way n (runs_as p s q way n args)

pub native_journal : (s : State) (t : ℕ) (q : Principal) (n : NativeCall) (args : List Word) → (after_native s t q n args).state.journal ≡ s.journal
native_journal s t q Alloc args = block_journal s (alloc_address s.blocks (arg args 0)) (arg args 0)
native_journal s t q TryLock args = locked_journal s (arg args 0) (number_at s.memory (arg args 0) 4)
native_journal s t q _ args = refl

pub blocked_journal : (at size : ℕ) (s : State) → (with_block at size s).journal ≡ s.journal
blocked_journal zero size s = refl
blocked_journal (suc at) size s = refl

pub granted_journal : (p : Program) (s : State) (t : ℕ) (q : Principal) (w : What) → (grant_what p s t q w).state.journal ≡ s.journal
granted_journal p s t q (what.Enter way args) = entering_journal p s q way args (entered_function p s way)
granted_journal p s t q (what.Native k args) = native_journal s t q (native_call k) args
granted_journal p s t q _ = refl
