-- What an instruction of a running function does.
use Rattle.std.specs.Prelude.{◌≡◌, refl, ℕ, zero, suc, Bool, true, false, Option, Some, None, List, [], ◌∷◌, map, nat_eq, bytes_eq, find, unwrap_or, option_map, slice_set, filter, not, ℤ, pos, ◌+ℤ◌}
use Rattle.std.specs.Int.{next_multiple_of}
use Rattle.lx_words.specs.declared.word.Width.{Width}
use Rattle.lx_words.specs.declared.word.Width.TheVariants.{W1, W8, W64}
use Rattle.lx_words.specs.Word.{Word, word, word_of_int, signed, binary, compare, resize}
use Rattle.lx_ir.specs.declared.types.Scalar.{Scalar}
use Rattle.lx_ir.specs.declared.types.NamedType.{NamedType}
use Rattle.lx_ir.specs.declared.module.Value.{Value}
use Rattle.lx_ir.specs.declared.module.Value.TheVariants as value
use Rattle.lx_ir.specs.declared.module.Symbol.TheVariants as symbol
use Rattle.lx_ir.specs.declared.instr.Edge.{Edge}
use Rattle.lx_ir.specs.declared.instr.SwitchCase.{SwitchCase}
use Rattle.lx_ir.specs.declared.instr.Argument.{Argument}
use Rattle.lx_ir.specs.declared.instr.Callee.{Callee}
use Rattle.lx_ir.specs.declared.instr.Callee.TheVariants as callee
use Rattle.lx_ir.specs.declared.instr.Conversion.{Conversion}
use Rattle.lx_ir.specs.declared.instr.Conversion.TheVariants.{SExt}
use Rattle.lx_ir.specs.declared.instr.UnaryOp.{UnaryOp}
use Rattle.lx_ir.specs.declared.instr.UnaryOp.TheVariants as unary
use Rattle.lx_ir.specs.declared.instr.Op.{Op}
use Rattle.lx_ir.specs.declared.instr.Op.TheVariants as op
use Rattle.lx_ir.specs.Layout.{width_of, layout_of, element_offset}
use Rattle.lx_model.specs.declared.program.Program.{Program}
use Rattle.lx_model.specs.declared.request.Way.TheVariants.{Direct, Indirect, Slot}
use Rattle.lx_model.specs.declared.request.Trap.{Trap}
use Rattle.lx_model.specs.declared.request.Trap.TheVariants.{Division, Unreachable}
use Rattle.lx_model.specs.declared.request.What.{What}
use Rattle.lx_model.specs.declared.request.What.TheVariants as what
use Rattle.lx_model.specs.Program.{Home, home_or_kernel, module_of, constant_word, Target, ToNative, ToSlot, ToImport, ToOwn, Nowhere, target}
use Rattle.lx_model.specs.Thread.{CodeBlock, Activation, register, zero_word, activation_behind}

pub data Effect : Type 0 where
  -- a register step to this activation
  Moves : Activation → Effect
  -- a request that adds no frame
  Wants : What → Effect
  -- a request that adds a frame
  Enters : What → Effect
  -- a register step into a function of the same text
  Calls : ℕ → List Word → Effect
  Traps : Trap → Effect

-- whose text runs
abbrev pub text_of : Program → Activation → Home
text_of p a = home_or_kernel p a.function

abbrev pub operand : Program → Activation → Value → Word
operand p a (value.Register r) = register a r
operand p a (value.Constant c) = constant_word p (text_of p a) c

abbrev pub bits : Program → Activation → Value → ℕ
bits p a v = (operand p a v).bits

abbrev pub argument_words : Program → Activation → List Argument → List Word
argument_words p a args = map (λ x. operand p a x.value) args

abbrev pub value_effect : Activation → Word → Effect
value_effect a w = Moves (activation_behind (Some w) a)

abbrev pub division : Activation → Option Word → Effect
division a None = Traps Division
division a (Some w) = value_effect a w

abbrev pub truth_word : Bool → Word
truth_word true = word W1 1
truth_word false = word W1 0

abbrev pub conversion : Conversion → Word → Scalar → Word
conversion SExt w into = resize w (width_of into) true
conversion _ w into = resize w (width_of into) false

-- the first, unless the number is 0
abbrev pub choice : {A : Type 0} → ℕ → A → A → A
choice zero first second = second
choice (suc n) first second = first

-- the value of a phi on the edge from a block
abbrev pub edge_value : Program → Activation → List Edge → Word
edge_value p a edges =
    unwrap_or (option_map (λ e. operand p a e.value) (find (λ e. bytes_eq e.label a.label) edges)) zero_word

-- the registers after the phis of a block, which are evaluated together: `before` is where the edge begins
abbrev pub with_phi : Program → Activation → Op → List Word → List Word
with_phi p before (op.Phi to ty edges) registers = slice_set registers to (edge_value p before edges)
with_phi p before _ registers = registers

abbrev pub with_phis : Program → Activation → List Op → List Word → List Word
with_phis p before [] registers = registers
with_phis p before (o ∷ os) registers = with_phis p before os (with_phi p before o registers)

abbrev pub is_phi : Op → Bool
is_phi (op.Phi to ty edges) = true
is_phi _ = false

-- the instructions of a block but its phis
abbrev pub without_phis : List Op → List Op
without_phis os = filter (λ o. not (is_phi o)) os

abbrev pub arrival : Program → Activation → Option CodeBlock → Effect
arrival p a None = Traps Unreachable
arrival p a (Some b) =
    Moves (record a { label = b.label; code = without_phis b.code; registers = with_phis p a b.code a.registers })

abbrev pub code_block_named : List CodeBlock → List ℕ → Option CodeBlock
code_block_named blocks label = find (λ b. bytes_eq b.label label) blocks

-- goes to a block of the same function
abbrev pub jump_effect : Program → Activation → List ℕ → Effect
jump_effect p a label = arrival p a (code_block_named a.blocks label)

-- the label of the first equal case
abbrev pub chosen_label : Program → Activation → ℕ → List ℕ → List SwitchCase → List ℕ
chosen_label p a n otherwise cases =
    unwrap_or (option_map (λ c. c.label) (find (λ c. nat_eq (bits p a c.value) n) cases)) otherwise

-- a call of a slot: its first argument is the slot
abbrev pub slot_effect : ℕ → List Word → Effect
slot_effect ty [] = Traps Unreachable
slot_effect ty (s ∷ args) = Enters (what.Enter (Slot s.bits ty) args)

abbrev pub target_effect : Target → List Word → Effect
target_effect (ToNative k) args = Wants (what.Native k args)
target_effect (ToSlot s) args = slot_effect s args
target_effect (ToImport n) args = Enters (what.Enter (Direct n) args)
target_effect (ToOwn n) args = Calls n args
target_effect Nowhere args = Traps Unreachable

abbrev pub call_effect : Program → Activation → Callee → List Word → Effect
call_effect p a (callee.Symbol (symbol.Function f)) args = target_effect (target p (text_of p a) f) args
call_effect p a (callee.Symbol (symbol.Global g)) args = Traps Unreachable
call_effect p a (callee.Register r) args = Enters (what.Enter (Indirect (register a r).bits) args)

-- the types of the text that runs
abbrev pub types_of : Program → Activation → List NamedType
types_of p a = (module_of p (text_of p a)).types

abbrev pub indices_of : Program → Activation → List Argument → List ℤ
indices_of p a indices = map (λ x. signed (operand p a x.value)) indices

-- the result of an operator on one word
abbrev pub unary_value : UnaryOp → Word → Word
unary_value unary.Freeze w = w

-- which is as wide as the word
pub unary_width : (o : UnaryOp) (a : Word) → (unary_value o a).width ≡ a.width
unary_width unary.Freeze a = refl

-- what a verified program never comes to ends as `unreachable` does
abbrev pub effect : Program → Activation → Op → Effect
effect p a (op.Binary to o ty x y) = division a (binary o (operand p a x) (operand p a y))
effect p a (op.Compare to pred ty x y) = value_effect a (truth_word (compare pred (operand p a x) (operand p a y)))
effect p a (op.Convert to how from x into) = value_effect a (conversion how (operand p a x) into)
effect p a (op.Unary to o ty x) = value_effect a (unary_value o (operand p a x))
effect p a (op.Select to test ty x y) = value_effect a (choice (bits p a test) (operand p a x) (operand p a y))
effect p a (op.Alloca to ty) =
    Wants (what.Alloca (next_multiple_of a.high (layout_of (types_of p a) ty).align) (layout_of (types_of p a) ty).size)
effect p a (op.Load to ty at) = Wants (what.Load (bits p a at) (width_of ty))
effect p a (op.Store ty v at) = Wants (what.Store (bits p a at) (word (width_of ty) (bits p a v)))
effect p a (op.GetElementPtr to ty base indices) =
    value_effect a (word_of_int W64 (pos (bits p a base) +ℤ element_offset (types_of p a) ty (indices_of p a indices)))
effect p a (op.Call to ret callee args) = call_effect p a callee (argument_words p a args)
effect p a (op.CopyBlock moves dest source len) = Wants (what.Copy (bits p a dest) (bits p a source) (bits p a len.value))
effect p a (op.FillBlock dest byte len) = Wants (what.Fill (bits p a dest) (word W8 (bits p a byte)).bits (bits p a len.value))
effect p a (op.Ret v) = Wants (what.Return a.low a.high)
effect p a (op.Jump label) = jump_effect p a label
effect p a (op.Branch test first second) = jump_effect p a (choice (bits p a test) first second)
effect p a (op.Switch ty v otherwise cases) = jump_effect p a (chosen_label p a (bits p a v) otherwise cases)
effect p a _ = Traps Unreachable

-- the value that a function returns at a `ret`
abbrev pub returned_by : Program → Activation → Op → Option Word
returned_by p a (op.Ret (Some x)) = Some (operand p a x.value)
returned_by p a _ = None

abbrev pub returned_at : Program → Activation → List Op → Option Word
returned_at p a [] = None
returned_at p a (o ∷ os) = returned_by p a o

abbrev pub returned_value : Program → Activation → Option Word
returned_value p a = returned_at p a a.code

-- the width of the result that a call's site expects
abbrev pub site_result : Op → Option Width
site_result (op.Call to ret callee args) = option_map width_of ret
site_result _ = None

abbrev pub call_result : List Op → Option Width
call_result [] = None
call_result (o ∷ os) = site_result o
