-- What it means of a text that it is an image, in words of its own.
use Rattle.std.specs.Prelude.{◌≡◌, ◌⊎◌, ◌<◌, ℕ, zero, suc, Bool, true, false, Option, Some, None, List, length, map, option_map, slice_get}
use Rattle.lx_ir.specs.declared.module.Block.{Block}
use Rattle.lx_ir.specs.declared.module.Function.{Function}
use Rattle.lx_ir.specs.declared.module.Module.{Module}
use Rattle.lx_ir.specs.declared.instr.Instr.{Instr}
use Rattle.lx_ir.specs.declared.instr.Op.{Op}
use Rattle.lx_ir.specs.Lookup.{blocks_of, is_write, is_indirect_call}
use Rattle.lx_image_texts.specs.Spared.{is_spared}
use Rattle.lx_image_texts.specs.ImageFaults.{ImageFault, Kind, is_wrapper, is_guarding, is_checking, kind_at}
use Rattle.lx_image_texts.specs.Guards.{unlined_global, function_text}

-- the instruction directly before the one with this number
abbrev pub op_before : List Instr → ℕ → Option Op
op_before is zero = None
op_before is (suc n) = option_map (λ (i : Instr). i.op) (slice_get is n)

-- The instruction is watched: behind a guard if it is a store or a block write, but a spared store, and behind a check if it calls by a
-- register.
pub record IsWatched (x : Module) (f : Function) (before : Option Op) (o : Op) : Type 0 where
  pub write : is_write o ≡ true → (is_guarding before ≡ true) ⊎ (is_spared x f o ≡ true)
  pub call : is_indirect_call o ≡ true → is_checking before ≡ true

-- each instruction of each function but the wrappers is
abbrev pub AllWatched : Module → Type 0
AllWatched x =
    (k : ℕ) (f : Function) (j : ℕ) (b : Block) (n : ℕ) (i : Instr)
    → slice_get x.functions k ≡ Some f → is_wrapper f ≡ false → slice_get (blocks_of f) j ≡ Some b → slice_get b.instrs n ≡ Some i
    → IsWatched x f (op_before b.instrs n) i.op

-- the instruction with this number
abbrev pub op_at : List Instr → ℕ → Option Op
op_at is n = option_map (λ (i : Instr). i.op) (slice_get is n)

-- what is wrong at it, if anything is
abbrev pub kind_here : Module → Function → List Instr → ℕ → Instr → Option Kind
kind_here x f is n i = kind_at x f (op_before is n) i.op (op_at is (suc n))

-- nothing is in the first instructions of a block, and in the first blocks of a function

abbrev pub NoneBefore : Module → Function → List Instr → ℕ → Type 0
NoneBefore x f is n = (a : ℕ) (i : Instr) → a < n → slice_get is a ≡ Some i → kind_here x f is a i ≡ None

abbrev pub NoneInFront : Module → Function → ℕ → Type 0
NoneInFront x f j = (a : ℕ) (b : Block) → a < j → slice_get (blocks_of f) a ≡ Some b → NoneBefore x f b.instrs (length b.instrs)

-- The fault of an instruction is the first: it is of this function, block and instruction, and nothing is wrong at any before it, those of
-- wrappers aside.
pub record IsFirst (x : Module) (e : ImageFault) : Type 0 where
  pub k : ℕ
  pub f : Function
  pub j : ℕ
  pub b : Block
  pub n : ℕ
  pub i : Instr
  pub function : slice_get x.functions k ≡ Some f
  pub block : slice_get (blocks_of f) j ≡ Some b
  pub instr : slice_get b.instrs n ≡ Some i
  pub kind : kind_here x f b.instrs n i ≡ Some e.kind
  pub before : NoneBefore x f b.instrs n
  pub blocks : NoneInFront x f j
  pub functions : (a : ℕ) (g : Function) → a < k → slice_get x.functions a ≡ Some g → is_wrapper g ≡ false → NoneInFront x g (length (blocks_of g))

-- texts that differ in lines alone
pub record IsSameText (x y : Module) : Type 0 where
  pub types : x.types ≡ y.types
  pub globals : map unlined_global x.globals ≡ map unlined_global y.globals
  pub functions : map function_text x.functions ≡ map function_text y.functions
