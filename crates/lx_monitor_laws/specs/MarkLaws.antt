-- For whom a module's text asks, by the marks that stand before an instruction.
use Rattle.std.specs.Prelude.{◌≡◌, ◌≢◌, ◌↔◌, ℕ, ◌+◌, ◌<◌, ◌≤◌, true, false, Option, Some, None, List}
use Rattle.lx_words.specs.Word.{Word}
use Rattle.lx_words.specs.Width.{byte_count}
use Rattle.lx_caps.specs.declared.Principal.{Principal}
use Rattle.lx_caps.specs.declared.Principal.TheVariants.{Kernel}
use Rattle.lx_model.specs.declared.request.What.{What}
use Rattle.lx_model.specs.declared.request.What.TheVariants.{Store, Copy, Fill, Enter}
use Rattle.lx_model.specs.declared.request.Way.TheVariants.{Indirect}
use Rattle.lx_images.specs.Image.{Marks, asker, covered, module_asker, top}

-- the guard names each of the `n` bytes from `a` on
abbrev pub NamesEach : ℕ × ℕ → ℕ → ℕ → Type 0
NamesEach g a n = (b : ℕ) → a ≤ b → b < a + n → (g.0 ≤ b) × (b < g.0 + g.1)

-- what a module's text writes: where a guard stands before it that names each byte, it is asked for the principal on top; else for the kernel
pub record AsksByGuard (what : What) (a n : ℕ) : Type 0 where
  pub guarded : (m : Marks) (shadow : List Principal) (g : ℕ × ℕ) → m.guarded ≡ Some g → 0 < n → NamesEach g a n → module_asker m shadow what ≡ top shadow
  pub beyond : (m : Marks) (shadow : List Principal) (g : ℕ × ℕ) (b : ℕ) → m.guarded ≡ Some g → a ≤ b → b < a + n → (g.0 ≤ b → g.0 + g.1 ≤ b) → module_asker m shadow what ≡ Kernel
  pub bare : (m : Marks) (shadow : List Principal) → m.guarded ≡ None → module_asker m shadow what ≡ Kernel

pub record MarkLaws : Type 0 where
  pub store : (at : ℕ) (w : Word) → AsksByGuard (Store at w) at (byte_count w.width)
  pub copy : (to from len : ℕ) → AsksByGuard (Copy to from len) to len
  pub fill : (to byte len : ℕ) → AsksByGuard (Fill to byte len) to len
  -- a call through a pointer: a check of its target asks for the principal on top, and none, or one of another address, for the kernel
  pub checked_call : (m : Marks) (shadow : List Principal) (a : ℕ) (args : List Word) → m.checked ≡ Some a → module_asker m shadow (Enter (Indirect a) args) ≡ top shadow
  pub unchecked_call : (m : Marks) (shadow : List Principal) (a : ℕ) (args : List Word) → m.checked ≢ Some a → module_asker m shadow (Enter (Indirect a) args) ≡ Kernel
  -- the kernel's text asks for the kernel, whatever stands before it
  pub kernel_text : (m : Marks) (shadow : List Principal) (what : What) → asker None m shadow what ≡ Kernel
