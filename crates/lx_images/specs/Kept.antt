-- The bytes that a module's function allocated on the stack stay its principal's.
use Rattle.std.specs.Prelude.{◌≡◌, ℕ, ◌<◌, ◌≤◌, Bool, true, false, ◌||◌, List, [], ◌∷◌, ⊤}
use Rattle.lx_caps.specs.declared.Principal.{Principal}
use Rattle.lx_caps.specs.declared.Principal.TheVariants.{Kernel, Shared, Global, Inst}
use Rattle.lx_caps.specs.declared.Atom.TheVariants.{Byte}
use Rattle.lx_caps.specs.Regions.{covers, stack_start, stack_end}
use Rattle.lx_caps.specs.History.{History, keeps}
use Rattle.lx_model.specs.declared.program.Program.{Program}
use Rattle.lx_model.specs.declared.request.What.{What}
use Rattle.lx_model.specs.declared.request.What.TheVariants as what
use Rattle.lx_model.specs.declared.request.Request.{Request}
use Rattle.lx_model.specs.Thread.{Range, Activation, Frame, Thread, top_of_stack}
use Rattle.lx_model.specs.Next.{Step, Goes, Asks, absorb}
use Rattle.lx_model.specs.State.{State}
use Rattle.lx_model.specs.Serve.{serve}
use Rattle.lx_model.specs.World.{World}
use Rattle.lx_images.specs.Stands.{Each}

-- the principal is the kernel
abbrev pub is_kernel : Principal → Bool
is_kernel Kernel = true
is_kernel (Shared m) = false
is_kernel (Global m) = false
is_kernel (Inst m k) = false

-- the byte is one of the ranges'
abbrev pub within : List Range → ℕ → Bool
within [] b = false
within (r ∷ rs) b = covers r.at r.size b || within rs b

-- a module's principal keeps each byte of the ranges: it owns them, and not only on loan
abbrev pub KeepsAll : History → Principal → List Range → Type 0
KeepsAll h q rs = (b : ℕ) → is_kernel q ≡ false → within rs b ≡ true → keeps h q (Byte b) ≡ true

-- each byte of the ranges lies from `low` up to `high`
abbrev pub LiesIn : ℕ → ℕ → List Range → Type 0
LiesIn low high rs = (b : ℕ) → within rs b ≡ true → (low ≤ b) × (b < high)

-- a function's part of the stack stands above the parts of those below it
abbrev pub Piled : ℕ → Activation → List Frame → Type 0
Piled t a fs = (top_of_stack t fs ≤ a.low) × (a.low ≤ a.high) × (a.high ≤ stack_end t) × LiesIn a.low a.high a.allocas

-- each frame's part of the stack stands above those below it, and its principal keeps what its function allocated there
abbrev pub FramesKept : History → ℕ → List Frame → Type 0
FramesKept h t [] = ⊤
FramesKept h t (f ∷ fs) = Piled t f.run fs × KeepsAll h f.principal f.run.allocas × FramesKept h t fs

-- so it is in a thread
abbrev pub Kept : History → ℕ → Thread → Type 0
Kept h t thread = FramesKept h t thread.frames

-- and in each thread of a world, which are sixteen at most
abbrev pub WorldKept : World → Type 0
WorldKept w = Each (λ t thread. (t < 16) × Kept w.state.history t thread) w.threads

-- the bytes that a request takes from everyone lie in the thread's stack
abbrev pub OnStack : ℕ → What → Type 0
OnStack t (what.Alloca at size) = stack_start t ≤ at
OnStack t (what.Return low high) = (stack_start t ≤ low) × (low ≤ high) × (high ≤ stack_end t)
OnStack t w = ⊤

-- a request, before, and once it is served and taken in
abbrev pub AskKept : Program → State → ℕ → Thread → Request → Type 0
AskKept p s t thread r = Kept (serve p s t r).state.history t (absorb p t thread r (serve p s t r).reply) × OnStack t r.what × Kept s.history t thread

-- what a step leaves: a register step, or a request that was served
abbrev pub StepKept : Program → State → ℕ → Step → Type 0
StepKept p s t (Goes thread) = Kept s.history t thread
StepKept p s t (Asks thread r) = AskKept p s t thread r
