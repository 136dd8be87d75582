-- The bodies of functions that are read are lawful.
use Rattle.std.specs.Prelude.{◌≡◌, ℕ, true, ◌+◌, ◌<◌, ◌≤◌, ◌^◌, IsTrue, Option, Some, List, [], ◌++◌, length, map}
use Rattle.std.specs.List.{AllZip, AllByRecursion}
use Rattle.lx_words.specs.declared.token.Token.{Token}
use Rattle.lx_ir.specs.declared.types.Scalar.{Scalar}
use Rattle.lx_ir.specs.declared.module.Parameter.{Parameter}
use Rattle.lx_ir.specs.declared.module.Block.{Block}
use Rattle.lx_ir.specs.declared.module.Module.{Module}
use Rattle.lx_ir.specs.Lawful.{is_lawful_body}
use Rattle.lx_ir_tokens.specs.declared.token.Tok.{Tok}
use Rattle.lx_ir_terms.specs.Context.{Context, nothing}
use Rattle.lx_ir_calls.specs.declared.intrinsics.TextForm.{TextForm}
use Rattle.lx_ir_statements.specs.declared.head.Head.{Head}
use Rattle.lx_ir_statements.specs.HeadGrammar.{IsHead}
use Rattle.lx_ir_statements.specs.BlockGrammar.{IsBody}
use Rattle.lx_ir_tables.specs.Numbering.{numbering, table_of, own_numbers}
use Rattle.lx_ir_tables.specs.Registers.{registers_of}
use Rattle.lx_ir_lawful.specs.Alike.{knowing_registers, AlikeBlocks}
use Rattle.lx_ir_lawful.specs.Tells.{Tells}
use Rattle.lx_ir_lawful.specs.Said.{Names}
use Rattle.lx_ir_lawful.specs.NamedThings.{named_things, has_numbers, AreOnce}
use Rattle.lx_ir_lawful.specs.TokenNames.{mark_count, IsTokenNamed}

abbrev pub said_by : List Parameter → List (List ℕ)
said_by ps = map (λ p. p.name) ps

-- Tokens say the blocks of a function by a context that knows its names, and by one that knows none. The table of the first has the
-- registers that the second makes out.
pub record ReadBody (c : Context) (form : TextForm) (places : List Token) (head : Head) (ds es : List Block) : Type 0 where
  pub opening : List Tok
  pub body : List Tok
  pub behind : List Tok
  pub short : length opening < 2 ^ 128
  pub few : mark_count opening + length c.names < 4294967295
  pub named_opening : AllByRecursion (IsTokenNamed c.names) opening
  pub named_body : AllByRecursion (IsTokenNamed c.names) body
  pub is_head : IsHead (knowing_registers c.names (own_numbers 0 (length c.names))) head opening
  pub known_is : IsBody c form places head.numbered head.registers ds body behind
  pub unknown_is : IsBody (knowing_registers c.names (own_numbers 0 (length c.names))) form places head.numbered head.registers es body behind
  pub alike : AllZip (AlikeBlocks c (knowing_registers c.names (own_numbers 0 (length c.names)))) ds es
  pub registers : c.registers ≡ table_of (registers_of c.names (numbering (length c.names) []) head.params es)

-- The registers are the parameters and these names, and with them the function has a lawful body.
pub record LawfulBody (m : Module) (c : Context) (head : Head) (ds es : List Block) : Type 0 where
  pub locals : List (List ℕ)
  pub numbers : has_numbers c.names locals ≡ true
  pub is : registers_of c.names (numbering (length c.names) []) head.params es ≡ named_things c.names (said_by head.params ++ locals)
  pub lawful : (name : List ℕ) (ret : Option Scalar) (line : ℕ) → IsTrue (is_lawful_body m (record { name = name; params = head.params; locals = locals; ret = ret; blocks = Some ds; line = line }))

-- A function that tokens say has a lawful body.
abbrev pub BodiesAreLawful : Type 0
BodiesAreLawful =
    (m : Module) (c : Context) (form : TextForm) (places : List Token) (head : Head) (ds es : List Block)
    → Tells m c → Names form m c → AreOnce c.names → length c.names ≤ nothing → ReadBody c form places head ds es → LawfulBody m c head ds es
