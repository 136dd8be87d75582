-- What the text of a generated module says: the reader evaluated on its tokens.
use Rattle.std.proofs.Common.{◌≡◌, ℕ, zero, suc, Bool, true, ◌&&◌, ◌||◌, List, [], ◌∷◌, ◌++◌, map, take, drop, Option, Some, None, is_some, slice_get, Ok, refl, subst}
use Rattle.std.specs.Prelude.{◌==◌, codes, if◌then◌else◌, unwrap_or}
use Rattle.std.specs.List.{AllZip, list_all, prefix_len}
use Rattle.std.proofs.lemmas.Bool.{and_parts}
use Rattle.lx_words.specs.declared.token.TokenRule.TheVariants.{Ir}
use Rattle.lx_words.specs.declared.token.Token.{Token}
use Rattle.lx_words.specs.declared.token.Lexeme.TheVariants.{Space}
use Rattle.lx_words.specs.declared.word.Width.TheVariants.{W64}
use Rattle.lx_words.specs.Word.{word}
use Rattle.lx_words.specs.Lexemes.{is_digit, is_name_byte, is_space, is_word_byte, is_word_start, lexeme_behind, lexeme_of, other_lexeme}
use Rattle.lx_words.specs.Cuts.{Piece, Scans, bytes_of, tokens_of}
use Rattle.lx_generate.specs.Generated.{module_text}
use Rattle.lx_ir.specs.declared.types.Scalar.TheVariants.{Ptr}
use Rattle.lx_ir.specs.declared.module.Symbol.TheVariants as symbol
use Rattle.lx_ir.specs.declared.module.Constant.TheVariants as constant
use Rattle.lx_ir.specs.declared.module.Value.TheVariants as value
use Rattle.lx_ir.specs.declared.module.Function.{Function}
use Rattle.lx_ir.specs.declared.module.Module.{Module}
use Rattle.lx_ir.specs.declared.types.Scalar.{Scalar}
use Rattle.lx_ir.specs.declared.instr.Conversion.TheVariants as convert
use Rattle.lx_ir.specs.declared.instr.Callee.TheVariants as callee
use Rattle.lx_ir.specs.declared.instr.Instr.{Instr}
use Rattle.lx_ir.specs.declared.instr.Op.{Op}
use Rattle.lx_ir.specs.declared.instr.Op.TheVariants as op
use Rattle.lx_ir.specs.Fitting.{fitting_layouts, named_starts}
use Rattle.lx_ir_tokens.specs.declared.token.Tok.{Tok}
use Rattle.lx_ir_tokens.specs.declared.read.IrTokens.{IrTokens}
use Rattle.lx_ir_tokens.specs.Keywords.{keyword_of}
use Rattle.lx_ir_tokens.specs.Lines.{kept_tokens, last_line}
use Rattle.lx_ir_tokens.specs.Names.{number_of}
use Rattle.lx_ir_tokens.specs.Reading.{IsTokOf, ReadsAs, StandsFor, names_of, said_at}
use Rattle.lx_ir_tokens.specs.Said.{kind_of, value_of_number}
use Rattle.lx_ir_lawful.proofs.NameNumbers.{named}
use Rattle.lx_ir_terms.specs.Reading.{more_at}
use Rattle.lx_ir_terms.specs.Types.{type_at}
use Rattle.lx_ir_terms.specs.Words.{words_at}
use Rattle.lx_ir_constants.specs.Constants.{constant_at, pointer_at}
use Rattle.lx_ir_constants.specs.Inits.{init_at}
use Rattle.lx_ir_operands.specs.Steps.{items_while, steps_at}
use Rattle.lx_ir_statements.specs.Going.{going_at}
use Rattle.lx_ir_statements.specs.Imports.{unkept_name_at}
use Rattle.lx_ir_calls.specs.declared.intrinsics.TextForm.TheVariants.{Program}
use Rattle.lx_ir_read.specs.First.{first_at}
use Rattle.lx_ir_read.specs.Reading.{SaysModule, module_at}
use Rattle.lx_ir_complete.specs.PieceLaws.{LaidAreScanned}
use Rattle.lx_ir_complete.specs.Pieces.{AreLaid, ends_before, text_of}
use Rattle.lx_generated_laws.specs.RowTexts.{arg, block, i64, param, reg}
use Rattle.lx_generated_laws.proofs.Pieces.{known}

-- The text in pieces, cut by the first byte of each.

-- how many bytes go with the first one of a piece: those of a name, of a number, or of a word
abbrev length_at : ℕ → List ℕ → ℕ
length_at b bs =
    if is_space b then 0
    else if b == 37 || b == 64 then prefix_len is_name_byte bs
    else if is_digit b then prefix_len is_digit bs
    else if is_word_start b then prefix_len is_word_byte bs
    else 0

abbrev chunks_of : ℕ → List ℕ → List (List ℕ)
chunks_of zero text = []
chunks_of (suc n) [] = []
chunks_of (suc n) (b ∷ bs) = (b ∷ take (length_at b bs) bs) ∷ chunks_of n (drop (length_at b bs) bs)

abbrev piece : List ℕ → Piece
piece bytes = record { lexeme = unwrap_or (lexeme_of Ir bytes) Space; bytes = bytes }

abbrev pieces_of : List (List ℕ) → List Piece
pieces_of chunks = map piece chunks

-- each piece is a lexeme, and ends where the others begin
abbrev are_laid : List (List ℕ) → Bool
are_laid [] = true
are_laid (c ∷ cs) = is_some (lexeme_of Ir c) && ends_before (piece c).lexeme (text_of (pieces_of cs) ++ []) && are_laid cs

laid : (cs : List (List ℕ)) → are_laid cs ≡ true → AreLaid (pieces_of cs) []
laid [] h = tt
laid (c ∷ cs) h =
    let front = and_parts (is_some (lexeme_of Ir c) && ends_before (piece c).lexeme (text_of (pieces_of cs) ++ [])) (are_laid cs) h in
    let both = and_parts (is_some (lexeme_of Ir c)) (ends_before (piece c).lexeme (text_of (pieces_of cs) ++ [])) front.0 in
    (known (lexeme_of Ir c) Space both.0, both.1, laid cs front.1)

-- Tokens by their places and the table of their names.

abbrev number_said : List (List ℕ) → Option (List ℕ) → ℕ
number_said names None = 0
number_said names (Some name) = unwrap_or (number_of names name) 0

abbrev tok_of : List ℕ → List (List ℕ) → Token → Tok
tok_of text names t = record { kind = kind_of t.kind (bytes_of text t); name = number_said names (said_at text t) }

abbrev is_named : List (List ℕ) → Option (List ℕ) → Bool
is_named names None = true
is_named names (Some name) = is_some (number_of names name)

stands : (names : List (List ℕ)) (o : Option (List ℕ)) → is_named names o ≡ true → StandsFor names (number_said names o) o
stands names None h = refl
stands names (Some name) h = by (number_of names name) refl h
  where
    by : (o : Option ℕ) → number_of names name ≡ o → is_some o ≡ true → slice_get names (unwrap_or o 0) ≡ Some name
    by None e g = cc g
    by (Some k) e g = named names name k e

toks_are : (text : List ℕ) (names : List (List ℕ)) (places : List Token) → list_all (λ t. is_named names (said_at text t)) places ≡ true → AllZip (IsTokOf text names) places (map (tok_of text names) places)
toks_are text names [] h = tt
toks_are text names (t ∷ ts) h =
    let both = and_parts (is_named names (said_at text t)) (list_all (λ u. is_named names (said_at text u)) ts) h in
    (record { kind = refl; name = stands names (said_at text t) both.0 }, toks_are text names ts both.1)

-- The text.

chunks : List (List ℕ)
chunks = chunks_of 1024 module_text

pieces : List Piece
pieces = pieces_of chunks

tokens : List Token
tokens = tokens_of 0 1 pieces

places : List Token
places = kept_tokens module_text tokens

names : List (List ℕ)
names = names_of module_text places

ir : IrTokens
ir = record { toks = map (tok_of module_text names) places; places = places; names = names; stop = None; last_line = last_line tokens }

text_is : text_of pieces ≡ module_text
unfolding module_text chunks pieces lexeme_behind other_lexeme
text_is = refl

chunks_laid : are_laid chunks ≡ true
unfolding module_text chunks lexeme_behind other_lexeme
chunks_laid = refl

all_named : list_all (λ t. is_named names (said_at module_text t)) places ≡ true
unfolding module_text chunks pieces tokens places names lexeme_behind other_lexeme kept_tokens keyword_of
all_named = refl

reads : LaidAreScanned → ReadsAs module_text ir
unfolding pieces tokens places names ir
reads scanned = record {
  tokens = tokens;
  scans = subst (λ t. Scans Ir t tokens None) text_is (scanned pieces (laid chunks chunks_laid));
  places = refl;
  names = refl;
  toks = toks_are module_text names places all_named;
  last_line = refl;
}

-- The module, with its lines.

abbrev at : ℕ → Op → Instr
at n o = record { op = o; line = n }

abbrev declared : ℕ → List ℕ → Scalar → Option Scalar → Function
declared n name ty ret = record { name = name; params = param [] ty ∷ []; locals = []; ret = ret; blocks = None; line = n }

abbrev defined : ℕ → List ℕ → List (List ℕ) → List Instr → Function
defined n name locals code = record { name = name; params = param (codes "n") i64 ∷ []; locals = locals; ret = Some i64; blocks = Some (block (codes "0") code ∷ []); line = n }

abbrev pub read_module : Module
read_module = record {
  types = [];
  globals = [];
  functions =
      declared 1 (codes "kmalloc") i64 (Some Ptr)
      ∷ declared 2 (codes "kfree") Ptr None
      ∷ defined 3 (codes "work") (codes "p" ∷ codes "v" ∷ [])
      (at 4 (op.Call (Some 1) (Some Ptr) (callee.Symbol (symbol.Function 0)) (arg i64 (value.Constant (constant.Number (word W64 16))) ∷ []))
      ∷ at 5 (op.Store i64 (reg 0) (reg 1))
      ∷ at 6 (op.Load 2 i64 (reg 1))
      ∷ at 7 (op.Call None None (callee.Symbol (symbol.Function 1)) (arg Ptr (reg 1) ∷ []))
      ∷ at 8 (op.Ret (Some (arg i64 (reg 2))))
      ∷ [])
      ∷ defined 10 (codes "stray") (codes "p" ∷ [])
      (at 11 (op.Convert 1 convert.IntToPtr i64 (value.Constant (constant.Number (word W64 16777216))) Ptr)
      ∷ at 12 (op.Store i64 (reg 0) (reg 1))
      ∷ at 13 (op.Ret (Some (arg i64 (reg 0))))
      ∷ [])
      ∷ [];
}

said : module_at Program ir ≡ Ok read_module
unfolding module_text chunks pieces tokens places names ir lexeme_behind other_lexeme kept_tokens keyword_of value_of_number more_at type_at words_at pointer_at constant_at init_at items_while steps_at going_at unkept_name_at first_at fitting_layouts named_starts
said = refl

pub module_is_said : LaidAreScanned → SaysModule Program module_text read_module
module_is_said scanned = (ir, reads scanned, said)
