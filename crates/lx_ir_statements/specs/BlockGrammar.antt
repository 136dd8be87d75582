-- Which tokens blocks are: the grammar, apart from how it is read.
use Rattle.std.specs.Prelude.{◌≡◌, ℕ, Bool, true, false, not, ◌&&◌, ◌⊎◌, Some, List, [], ◌∷◌, ◌++◌}
use Rattle.lx_words.specs.declared.token.Token.{Token}
use Rattle.lx_words.specs.Text.{decimal_text}
use Rattle.lx_ir_tokens.specs.declared.token.Tok.{Tok}
use Rattle.lx_ir_tokens.specs.declared.token.Mark.TheVariants.{CloseBrace, Colon}
use Rattle.lx_ir_tokens.specs.Names.{number_of}
use Rattle.lx_ir.specs.declared.module.Block.{Block}
use Rattle.lx_ir.specs.declared.instr.Instr.{Instr}
use Rattle.lx_ir.specs.Operands.{is_terminator}
use Rattle.lx_ir_terms.specs.Context.{Context, bytes_of}
use Rattle.lx_ir_terms.specs.Reading.{is_mark}
use Rattle.lx_ir_terms.specs.Grammar.{IsNothing}
use Rattle.lx_ir_calls.specs.declared.intrinsics.TextForm.{TextForm}
use Rattle.lx_ir_instructions.specs.Grammar.{IsInstr}
use Rattle.lx_ir_statements.specs.declared.body.Locals.{Locals}
use Rattle.lx_ir_statements.specs.Numbers.{has_number, has_some}
use Rattle.lx_ir_statements.specs.Blocks.{line_at, may_be_label, has_label, given, with_register, with_label}

-- Blocks. Their parts are stated with the tokens that follow them, on which the lines depend.

-- which tokens a part of the grammar is, before these
abbrev pub Before : Type 1
Before = List Tok → List Tok → Type 0

-- an instruction, whose line is that of its first token
abbrev pub IsLine : Context → TextForm → List Token → Instr → Before
IsLine context form places i ts us = IsInstr context form i.op ts × (i.line ≡ line_at places (ts ++ us))

-- instructions, each of which gives no register that was given before
abbrev pub AreInstrs : Context → TextForm → List Token → List Instr → Locals → Locals → Before
AreInstrs context form places [] first last ts us = (first ≡ last) × IsNothing ts
AreInstrs context form places (i ∷ is) first last ts us =
    (front : List Tok) × (back : List Tok) × IsLine context form places i front (back ++ us)
    × (has_some first.registers (given front) ≡ false)
    × AreInstrs context form places is (with_register first (given front)) last back us
    × (ts ≡ front ++ back)

-- none of these but the last is a terminator
abbrev pub is_run : List Instr → Bool
is_run [] = true
is_run (i ∷ []) = true
is_run (i ∷ j ∷ is) = not (is_terminator i.op) && is_run (j ∷ is)

-- the instructions of a block
abbrev pub IsRun : Context → TextForm → List Token → List Instr → Locals → Locals → Before
IsRun context form places is first last ts us = (is_run is ≡ true) × AreInstrs context form places is first last ts us

-- `label:`, which no block before has, and instructions
abbrev pub IsLabelled : Context → TextForm → List Token → Block → Locals → Locals → Before
IsLabelled context form places b first last ts us =
    (l : Tok) × (c : Tok) × (back : List Tok)
    × (may_be_label l.kind ≡ true)
    × (is_mark Colon c.kind ≡ true)
    × (bytes_of context l.name ≡ b.name)
    × (has_number first.labels l.name ≡ false)
    × IsRun context form places b.instrs (with_label first (Some l.name)) last back us
    × (ts ≡ l ∷ c ∷ back)

-- the first block without a label. Where it has no instructions either, no block follows it
abbrev pub IsUnlabelled : Context → TextForm → List Token → ℕ → Block → Locals → Locals → Before
IsUnlabelled context form places numbered b first last ts us =
    (has_label (ts ++ us) ≡ false)
    × (decimal_text numbered ≡ b.name)
    × IsRun context form places b.instrs (with_label first (number_of context.names (decimal_text numbered))) last ts us

abbrev pub IsFirst : Context → TextForm → List Token → ℕ → Block → Locals → Locals → Before
IsFirst context form places numbered b first last ts us =
    IsLabelled context form places b first last ts us ⊎ IsUnlabelled context form places numbered b first last ts us

-- further blocks, each with its label
abbrev pub AreFurtherBlocks : Context → TextForm → List Token → List Block → Locals → Locals → Before
AreFurtherBlocks context form places [] first last ts us = (first ≡ last) × IsNothing ts
AreFurtherBlocks context form places (b ∷ bs) first last ts us =
    (front : List Tok) × (back : List Tok) × (middle : Locals)
    × IsLabelled context form places b first middle front (back ++ us)
    × AreFurtherBlocks context form places bs middle last back us
    × (ts ≡ front ++ back)

-- blocks, where the parameters define these registers and so many of them have a number for a name
abbrev pub AreBlocks : Context → TextForm → List Token → ℕ → List ℕ → List Block → Before
AreBlocks context form places numbered registers [] ts us = ⊥
AreBlocks context form places numbered registers (b ∷ bs) ts us =
    (front : List Tok) × (back : List Tok) × (middle : Locals) × (last : Locals)
    × IsFirst context form places numbered b (record { registers = registers; labels = [] }) middle front (back ++ us)
    × AreFurtherBlocks context form places bs middle last back us
    × (ts ≡ front ++ back)

-- blocks, and the brace behind them
abbrev pub IsBody : Context → TextForm → List Token → ℕ → List ℕ → List Block → Before
IsBody context form places numbered registers bs ts us =
    (inner : List Tok) × (c : Tok)
    × AreBlocks context form places numbered registers bs inner (c ∷ us)
    × (is_mark CloseBrace c.kind ≡ true)
    × (ts ≡ inner ++ c ∷ [])
