-- A thread: its calls, and its frames, the top one first.
use Rattle.std.specs.Prelude.{ℕ, ◌∷◌, ◌++◌, Bool, true, false, Option, Some, None, List, [], length, map, replicate, slice_index_or, slice_set}
use Rattle.lx_words.specs.declared.word.Width.TheVariants.{W1}
use Rattle.lx_words.specs.Word.{Word, word}
use Rattle.lx_caps.specs.declared.Principal.{Principal}
use Rattle.lx_caps.specs.Regions.{stack_start}
use Rattle.lx_ir.specs.declared.instr.Op.{Op}
use Rattle.lx_ir.specs.declared.module.Block.{Block}
use Rattle.lx_ir.specs.declared.module.Function.{Function}
use Rattle.lx_ir.specs.Lookup.{blocks_of}
use Rattle.lx_ir.specs.Operands.{given_by}
use Rattle.lx_model.specs.declared.program.Program.{Program}
use Rattle.lx_model.specs.declared.program.ScriptCall.{ScriptCall}
use Rattle.lx_model.specs.declared.request.Outcome.{Outcome}
use Rattle.lx_model.specs.Program.{function_of}

-- a block without lines: its label and its instructions
pub record CodeBlock : Type 0 where
  pub label : List ℕ
  pub code : List Op

abbrev pub code_block_of : Block → CodeBlock
code_block_of b = record { label = b.name; code = map (λ i. i.op) b.instrs }

-- what runs of a function: its blocks without lines, and how many registers its instructions give
pub record Routine : Type 0 where
  pub blocks : List CodeBlock
  pub locals : ℕ

abbrev pub routine_of : Function → Routine
routine_of f = record { blocks = map code_block_of (blocks_of f); locals = length f.locals }

-- bytes of the stack
pub record Range : Type 0 where
  pub at : ℕ
  pub size : ℕ

-- a function that runs: its number and its blocks, the label of its block and the instructions that are left of it,
-- its registers, its part of the stack, and what it has allocated there
pub record Activation : Type 0 where
  pub function : ℕ
  pub blocks : List CodeBlock
  pub label : List ℕ
  pub code : List Op
  pub registers : List Word
  pub low : ℕ
  pub high : ℕ
  pub allocas : List Range

-- where a crossing stands: before an action, in its body, or behind it with the result, before an action
pub data Stage : Type 0 where
  Pre : ℕ → Stage
  Body : Stage
  Post : ℕ → Option Word → Stage

-- a call that crosses: which function, who called, the arguments at entry, and how far it is
pub record Crossing : Type 0 where
  pub function : ℕ
  pub source : Principal
  pub args : List Word
  pub stage : Stage

pub record Frame : Type 0 where
  pub run : Activation
  pub principal : Principal
  pub crossing : Option Crossing

-- a call that has ended
pub record Ending : Type 0 where
  pub function : ℕ
  pub outcome : Outcome

-- the calls that are left, the one that runs among them; those that have ended; the fuel that is left of the
-- one that runs, an outcome that it comes to, and its frames
pub record Thread : Type 0 where
  pub calls : List ScriptCall
  pub ended : List Ending
  pub fuel : ℕ
  pub due : Option Outcome
  pub frames : List Frame

abbrev pub zero_word : Word
zero_word = word W1 0

abbrev pub register : Activation → ℕ → Word
register a r = slice_index_or a.registers r zero_word

-- registers after one is given a value, if there is a value and a register
abbrev pub with_register : Option ℕ → Option Word → List Word → List Word
with_register (Some r) (Some w) registers = slice_set registers r w
with_register _ _ registers = registers

-- goes past an instruction, with its value
abbrev pub head_destination : List Op → Option ℕ
head_destination [] = None
head_destination (o ∷ os) = given_by o

abbrev pub behind_head : List Op → List Op
behind_head [] = []
behind_head (o ∷ os) = os

abbrev pub activation_behind : Option Word → Activation → Activation
activation_behind value a = record a { code = behind_head a.code; registers = with_register (head_destination a.code) value a.registers }

-- a function's first block
abbrev pub first_label : List CodeBlock → List ℕ
first_label [] = []
first_label (b ∷ bs) = b.label

abbrev pub first_code : List CodeBlock → List Op
first_code [] = []
first_code (b ∷ bs) = b.code

abbrev pub start_of : ℕ → Routine → List Word → ℕ → Activation
start_of n r args low =
    record {
      function = n;
      blocks = r.blocks;
      label = first_label r.blocks;
      code = first_code r.blocks;
      registers = args ++ replicate r.locals zero_word;
      low = low;
      high = low;
      allocas = [];
    }

-- what runs of a function; nothing, where there is none
abbrev pub routine_or_none : Option Function → Routine
routine_or_none None = record { blocks = []; locals = 0 }
routine_or_none (Some f) = routine_of f

abbrev pub routine : Program → ℕ → Routine
routine p n = routine_or_none (function_of p n)

-- a function at its start
abbrev pub activation : Program → ℕ → List Word → ℕ → Activation
activation p n args low = start_of n (routine p n) args low

-- where the next frame's part of the stack begins
abbrev pub top_of_stack : ℕ → List Frame → ℕ
top_of_stack t [] = stack_start t
top_of_stack t (f ∷ fs) = f.run.high

abbrev pub first_fuel : List ScriptCall → ℕ
first_fuel [] = 0
first_fuel (c ∷ cs) = c.fuel

-- a thread before its first call
abbrev pub fresh_thread : List ScriptCall → Thread
fresh_thread calls = record { calls = calls; ended = []; fuel = first_fuel calls; due = None; frames = [] }

abbrev pub has_call : List ScriptCall → Bool
has_call [] = false
has_call (c ∷ cs) = true

-- the thread has a call left
abbrev pub has_work : Thread → Bool
has_work thread = has_call thread.calls
