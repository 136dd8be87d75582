-- Worked places: a function of two blocks that calls what it is given.
use Rattle.std.specs.Prelude.{◌≡◌, ℕ, Option, Some, None, List, [], ◌∷◌, codes, option_map}
use Rattle.lx_words.specs.declared.word.Width.TheVariants.{W64}
use Rattle.lx_words.specs.Word.{word}
use Rattle.lx_caps.specs.declared.Principal.TheVariants.{Kernel}
use Rattle.lx_ir.specs.declared.types.Scalar.TheVariants.{Ptr}
use Rattle.lx_ir.specs.declared.module.Value.TheVariants as value
use Rattle.lx_ir.specs.declared.module.Function.{Function}
use Rattle.lx_ir.specs.declared.instr.Callee.TheVariants as callee
use Rattle.lx_ir.specs.declared.instr.Op.TheVariants as op
use Rattle.lx_ir.specs.declared.instr.UnaryOp.TheVariants.{Freeze}
use Rattle.lx_model.specs.declared.program.Program.{Program}
use Rattle.lx_model.specs.declared.program.ProgramFunction.TheVariants.{Of}
use Rattle.lx_model.specs.Thread.{Activation, Stage, Pre, Body, Post, Frame, Thread, activation}
use Rattle.lx_code_lines.specs.Place.{Place, place_of, acting, asks_at, image_place, line_of}

-- `define void @f(ptr %x) {` in line 1, `br label %2` in line 2, `2:` in line 3, `%3 = freeze ptr %x` in line 4, `call void %3()` in line 5, and
-- `ret void` in line 6
abbrev pub calling : Function
calling =
    record {
      name = codes "f";
      params = record { name = codes "x"; ty = Ptr } ∷ [];
      locals = codes "3" ∷ [];
      ret = None;
      blocks =
          Some (
          record { name = codes "1"; instrs = record { op = op.Jump (codes "2"); line = 2 } ∷ [] }
          ∷ record {
            name = codes "2";
            instrs =
                record { op = op.Unary 1 Freeze Ptr (value.Register 0); line = 4 }
                ∷ record { op = op.Call None None (callee.Register 1) []; line = 5 } ∷ record { op = op.Ret None; line = 6 } ∷ [];
          }
          ∷ []
          );
      line = 1;
    }

-- the kernel's one function
abbrev pub program : Program
program =
    record {
      kernel = record { types = []; globals = []; functions = calling ∷ [] };
      modules = [];
      functions = Of None 0 ∷ [];
      globals = [];
      interface = record { reftypes = []; iterators = []; slots = []; fields = []; exports = [] };
    }

-- the function before its first instruction, and before its call
abbrev pub at_start : Activation
at_start = activation program 0 (word W64 0x10000 ∷ []) 0x2000000

abbrev pub at_call : Activation
at_call = record at_start { label = codes "2"; code = op.Call None None (callee.Register 1) [] ∷ op.Ret None ∷ [] }

-- a frame of the function, and one of a crossing of it at this stage
abbrev pub plain : Activation → Frame
plain a = record { run = a; principal = Kernel; crossing = None }

abbrev pub crossing : Stage → Frame
crossing s = record { run = at_start; principal = Kernel; crossing = Some (record { function = 0; source = Kernel; args = word W64 0x10000 ∷ []; stage = s }) }

-- the start, and the call, as places
abbrev pub the_start : Place
the_start = record { function = 0; label = codes "1"; left = 1 }

abbrev pub the_call : Place
the_call = record { function = 0; label = codes "2"; left = 2 }

-- a thread in its first call, with this fuel
abbrev pub thread : ℕ → List Frame → Thread
thread fuel frames = record { calls = record { function = 0; args = []; fuel = 9 } ∷ []; ended = []; fuel = fuel; due = None; frames = frames }

-- for which place these frames act
abbrev pub acts_at : List Frame → Option Place
acts_at frames = option_map place_of (acting frames)

pub record WorkedPlaces : Type 0 where
  pub place : place_of at_call ≡ the_call
  pub line : line_of program the_call ≡ Some 5
  pub first : line_of program the_start ≡ Some 2
  -- behind the last instruction, before the first, and where there is no such block or function, no line is meant
  pub past : line_of program (record the_call { left = 0 }) ≡ None
  pub before : line_of program (record the_call { left = 4 }) ≡ None
  pub no_block : line_of program (record the_call { label = codes "3" }) ≡ None
  pub no_function : line_of program (record the_call { function = 1 }) ≡ None
  -- the jump and the freeze ask for nothing
  pub asks : asks_at program 0 (thread 9 (plain at_start ∷ [])) ≡ Some the_call
  -- without fuel for the third step the budget's end is asked for there
  pub ends : asks_at program 0 (thread 2 (plain at_start ∷ [])) ≡ Some the_call
  pub script : asks_at program 0 (thread 9 []) ≡ None
  -- an action of a crossing is where the call stands; a crossing that the script called has none
  pub pre : acts_at (crossing (Pre 0) ∷ plain at_call ∷ []) ≡ Some the_call
  pub body : acts_at (crossing Body ∷ plain at_call ∷ []) ≡ Some the_start
  pub post : acts_at (crossing (Post 0 None) ∷ plain at_call ∷ []) ≡ Some the_call
  pub outside : acts_at (crossing (Pre 0) ∷ []) ≡ None
  -- a check before the call is no instruction of the text
  pub marked : image_place (record { function = 0; label = codes "2"; code = op.Check (value.Register 1) ∷ at_call.code }) ≡ the_call
