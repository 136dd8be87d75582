-- Functions, threads and worlds that are alike: but for registers that nobody reads they are the same.
use Rattle.std.specs.Prelude.{◌≡◌, ℕ, zero, suc, ◌<◌, ◌⊎◌, Some, List, [], ◌∷◌, length, find, bytes_eq, slice_get, ⊤}
use Rattle.lx_ir.specs.declared.types.Scalar.{Scalar}
use Rattle.lx_ir.specs.declared.module.Value.TheVariants.{Register}
use Rattle.lx_ir.specs.declared.instr.Argument.{Argument}
use Rattle.lx_ir.specs.declared.instr.Edge.{Edge}
use Rattle.lx_ir.specs.declared.instr.Op.{Op}
use Rattle.lx_ir.specs.declared.instr.Op.TheVariants as op
use Rattle.lx_ir.specs.Operands.{operands_of, targets_of}
use Rattle.lx_model.specs.declared.program.Program.{Program}
use Rattle.lx_model.specs.Thread.{CodeBlock, Activation, Frame, Thread, register}
use Rattle.lx_model.specs.Effect.{code_block_named}
use Rattle.lx_model.specs.Next.{Goes, Asks, step, with_run}
use Rattle.lx_model.specs.World.{World}
use Rattle.lx_images.specs.Places.{IsIn}
use Rattle.lx_linked.specs.Filled.{Fill, filled_step}

-- the operands of an instruction at which a function stands; phis are passed when control comes to their block, so none is read there
abbrev pub operands_read : Op → List Argument
operands_read (op.Phi to ty edges) = []
operands_read o = operands_of o

-- the instruction reads the register
abbrev pub Reads : Op → ℕ → Type 0
Reads o r = (x : Argument) × IsIn x (operands_read o) × (x.value ≡ Register r)

-- a phi of the block reads the register where control comes from the block with this label
abbrev pub PhiReads : List ℕ → CodeBlock → ℕ → Type 0
PhiReads from b r =
    (to : ℕ) × (ty : Scalar) × (edges : List Edge) × (e : Edge) × IsIn (op.Phi to ty edges) b.code × (find (λ (x : Edge). bytes_eq x.label from) edges ≡ Some e) × (e.value ≡ Register r)

-- so a phi does of a block that the instruction may go to
abbrev pub EdgeReads : Activation → Op → ℕ → Type 0
EdgeReads a o r = (label : List ℕ) × (b : CodeBlock) × IsIn label (targets_of o) × (code_block_named a.blocks label ≡ Some b) × PhiReads a.label b r

-- what a function reads by the instruction at which it stands
abbrev pub ReadsNext : Activation → ℕ → Type 0
ReadsNext a r = (o : Op) × (os : List Op) × (a.code ≡ o ∷ os) × (Reads o r ⊎ EdgeReads a o r)

-- a function at the same place: whatever it reads there is a register of its own, and holds the same word
pub record AlikeRuns (a b : Activation) : Type 0 where
  pub same : b ≡ record a { registers = b.registers }
  pub reads : (r : ℕ) → ReadsNext a r → (r < length a.registers) × (register b r ≡ register a r)

-- frames one by one
abbrev pub AlikeFrames : List Frame → List Frame → Type 0
AlikeFrames [] [] = ⊤
AlikeFrames (f ∷ fs) (g ∷ gs) = (g ≡ with_run f g.run) × AlikeRuns f.run g.run × AlikeFrames fs gs
AlikeFrames _ _ = ⊥

-- threads that differ in their frames alone, and those are alike
pub record AlikeThreads (thread other : Thread) : Type 0 where
  pub same : other ≡ record thread { frames = other.frames }
  pub frames : AlikeFrames thread.frames other.frames

-- a thread behind so many steps, or before its request
abbrev pub behind_steps : ℕ → Program → ℕ → Thread → Thread
behind_steps zero p t thread = thread
behind_steps (suc n) p t thread = elim (step p t thread) [ Goes further ↦ behind_steps n p t further | Asks further r ↦ thread ]

-- so the machine does with other words
abbrev pub behind_filled : Fill → ℕ → Program → ℕ → Thread → Thread
behind_filled fill zero p t thread = thread
behind_filled fill (suc n) p t thread =
    elim (filled_step fill p t thread) [ Goes further ↦ behind_filled fill n p t further | Asks further r ↦ thread ]

-- the worlds have the same state, so the same requests were made and the same replies given; and each thread is alike, as it stands and
-- behind each of its steps to the next request
pub record AlikeWorlds (fill : Fill) (p : Program) (w v : World) : Type 0 where
  pub state : v.state ≡ w.state
  pub threads : length v.threads ≡ length w.threads
  pub steps : (t n : ℕ) (thread other : Thread) → slice_get w.threads t ≡ Some thread → slice_get v.threads t ≡ Some other → AlikeThreads (behind_steps n p t thread) (behind_filled fill n p t other)
