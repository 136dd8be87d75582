-- What is printed is read again: laws on the text of each part of a module.
use Rattle.std.specs.Prelude.{◌≡◌, ℕ, ◌≤◌, Bool, List, [], None, IsTrue, flat_map}
use Rattle.std.specs.List.{AllZip, AllByRecursion, list_all}
use Rattle.lx_words.specs.declared.token.TokenRule.TheVariants.{Ir}
use Rattle.lx_words.specs.Cuts.{Piece, Scans, tokens_of}
use Rattle.lx_ir.specs.declared.types.Scalar.{Scalar}
use Rattle.lx_ir.specs.declared.module.Constant.{Constant}
use Rattle.lx_ir.specs.declared.module.Value.{Value}
use Rattle.lx_ir.specs.declared.module.Function.{Function}
use Rattle.lx_ir.specs.declared.module.Module.{Module}
use Rattle.lx_ir.specs.declared.instr.Op.{Op}
use Rattle.lx_ir.specs.IrType.{IrType}
use Rattle.lx_ir.specs.Init.{Init}
use Rattle.lx_ir.specs.Layout.{is_lawful_type}
use Rattle.lx_ir.specs.Text.{register_names, type_text, constant_text, value_text, init_text, op_text}
use Rattle.lx_ir.specs.Lawful.{is_name, is_lawful_constant, is_lawful_value, is_lawful_init, is_lawful_op, nesting_of_constant, nesting_of_init, IsLawful}
use Rattle.lx_ir_tokens.specs.declared.token.Tok.{Tok}
use Rattle.lx_ir_tokens.specs.declared.read.IrTokens.{IrTokens}
use Rattle.lx_ir_tokens.specs.Reading.{IsTokOf, ReadsAs}
use Rattle.lx_ir_terms.specs.Context.{Context}
use Rattle.lx_ir_terms.specs.Types.{depth_limit}
use Rattle.lx_ir_terms.specs.Grammar.{IsWritten}
use Rattle.lx_ir_constants.specs.Grammar.{IsConstant, IsValue}
use Rattle.lx_ir_constants.specs.InitGrammar.{IsInit}
use Rattle.lx_ir_calls.specs.declared.intrinsics.TextForm.{TextForm}
use Rattle.lx_ir_calls.specs.declared.intrinsics.TextForm.TheVariants.{Program}
use Rattle.lx_ir_instructions.specs.Grammar.{IsInstr}
use Rattle.lx_ir_complete.specs.Pieces.{text_of, AreLaid, lexes}
use Rattle.lx_ir_complete.specs.Printed.{IsSeen, Prints}
use Rattle.lx_ir_complete.specs.Kept.{is_kept_type, is_kept_constant, is_kept_value, is_kept_init, is_kept_op}
use Rattle.lx_ir_complete.specs.Knows.{Knows, KnowsRegisters, HasNoOwnNames, GivesRegister, may_stand}
use Rattle.lx_ir_complete.specs.Lines.{line_of, IsLine}

-- Where each piece is a lexeme that ends where the next begins, the text falls into these pieces and no others.
abbrev pub LaidAreScanned : Type 0
LaidAreScanned = (ps : List Piece) → AreLaid ps [] → Scans Ir (text_of ps) (tokens_of 0 1 ps) None

-- The tokens of such a text are seen by their kinds and bytes, wherever they stand.
abbrev pub PlacesDoNotCount : Type 0
PlacesDoNotCount =
    (ps : List Piece) (names : List (List ℕ)) (toks : List Tok)
    → AllZip (IsTokOf (text_of ps) names) (tokens_of 0 1 ps) toks
    → AllZip (IsSeen names) (lexes ps) toks

-- Parts of a module that is lawful, for a reader that knows its names. Where it is plain, nothing of the module has a name of an image's
-- own.

abbrev pub OfModules : (Bool → Module → Context → Type 0) → Type 0
OfModules law = (plain : Bool) (m : Module) (context : Context) → IsLawful m → Knows m context → (IsTrue plain → HasNoOwnNames m) → law plain m context

-- the text of a type says it
abbrev pub TypesArePrinted : Bool → Module → Context → Type 0
TypesArePrinted plain m context =
    (t : IrType) → IsTrue (is_lawful_type m.types t) → IsTrue (is_kept_type t) → Prints plain context.names (type_text m.types t) (IsWritten context t)

-- the text of a constant says it, where a type of a register stands before it
abbrev pub ConstantsArePrinted : Bool → Module → Context → Type 0
ConstantsArePrinted plain m context =
    (ty : Scalar) (c : Constant) → IsTrue (is_lawful_constant m ty c) → IsTrue (is_kept_constant c) → nesting_of_constant c ≤ depth_limit
    → Prints plain context.names (constant_text m c) (IsConstant context depth_limit ty c)

-- the text of an initialiser says it, where its type stands before it
abbrev pub InitsArePrinted : Bool → Module → Context → Type 0
InitsArePrinted plain m context =
    (ty : IrType) (i : Init) → IsTrue (is_lawful_init m ty i) → IsTrue (is_kept_init i) → nesting_of_init i ≤ depth_limit
    → Prints plain context.names (init_text m i) (IsInit context depth_limit ty i)

-- Parts of a function whose registers have lawful names.

abbrev pub OfFunctions : (Bool → Module → Function → Context → Type 0) → Type 0
OfFunctions law =
    (plain : Bool) (m : Module) (f : Function) (context : Context) → IsLawful m → Knows m context → (IsTrue plain → HasNoOwnNames m) → IsTrue (list_all is_name (register_names f)) → KnowsRegisters f context
    → law plain m f context

-- the text of an operand says it, where its type stands before it
abbrev pub ValuesArePrinted : Bool → Module → Function → Context → Type 0
ValuesArePrinted plain m f context =
    (ty : Scalar) (v : Value) → IsTrue (is_lawful_value m f ty v) → IsTrue (is_kept_value v) → Prints plain context.names (value_text m f v) (IsValue context ty v)

-- the text of an instruction says it, in a form of text that has such lines; where it is plain, in a program
abbrev pub OpsArePrinted : TextForm → Bool → Module → Function → Context → Type 0
OpsArePrinted form plain m f context =
    (IsTrue plain → form ≡ Program) → (o : Op) → IsTrue (is_lawful_op m f o) → IsTrue (is_kept_op o) → GivesRegister f o → IsTrue (may_stand form o)
    → Prints plain context.names (op_text m f o) (IsInstr context form o)

-- Where lines are laid out as lexemes and none is passed over, their text is read as their tokens, to its end.
abbrev pub LinesAreRead : Type 0
LinesAreRead =
    (lines : List (List Piece)) → AllByRecursion IsLine lines → (ir : IrTokens) → ReadsAs (flat_map line_of lines) ir
    → AllZip (IsSeen ir.names) (flat_map lexes lines) ir.toks × (ir.stop ≡ None)
