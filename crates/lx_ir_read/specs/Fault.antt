-- What is told of the first fault of a text.
use Rattle.std.specs.Prelude.{◌≡◌, ℕ, zero, suc, ◌-◌, Bool, true, false, not, ◌&&◌, ◌==◌, Option, Some, None, List, [], ◌∷◌, length, take, drop, fold, slice_get, unwrap_or, codes, if◌then◌else◌}
use Rattle.std.specs.Option.{option_map_or}
use Rattle.lx_words.specs.Text.{decimal_text, hex_text}
use Rattle.lx_words.specs.declared.token.Token.{Token}
use Rattle.lx_words.specs.declared.token.Stop.{Stop}
use Rattle.lx_words.specs.Cuts.{bytes_of}
use Rattle.lx_ir_tokens.specs.declared.token.Tok.{Tok}
use Rattle.lx_ir_tokens.specs.declared.token.Kind.{Kind}
use Rattle.lx_ir_tokens.specs.declared.token.Kind.TheVariants as kinds
use Rattle.lx_ir_tokens.specs.declared.token.Mark.TheVariants.{Comma, Colon}
use Rattle.lx_ir_tokens.specs.declared.keyword.StatementWord.TheVariants.{Define}
use Rattle.lx_ir_tokens.specs.declared.keyword.Keyword.TheVariants as keywords
use Rattle.lx_ir_tokens.specs.declared.read.IrTokens.{IrTokens}
use Rattle.lx_ir_terms.specs.declared.fault.Fault.{Fault}
use Rattle.lx_ir_terms.specs.declared.fault.FaultKind.{FaultKind}
use Rattle.lx_ir_terms.specs.declared.fault.FaultKind.TheVariants as faults
use Rattle.lx_ir_terms.specs.Reading.{is_mark, has}
use Rattle.std.specs.List.{list_all}
use Rattle.lx_words.specs.Lexemes.{is_digit}
use Rattle.lx_ir_read.specs.declared.fault.TextFault.{TextFault}
use Rattle.lx_ir_read.specs.declared.fault.TextFault.TheVariants as texts
use Rattle.lx_ir_read.specs.declared.fault.ReadFault.{ReadFault}
use Rattle.lx_ir_read.specs.declared.fault.ReadFault.TheVariants as reads
use Rattle.lx_ir_read.specs.declared.what.Count.{Count}

-- Names.

abbrev pub name_at : List (List ℕ) → ℕ → List ℕ
name_at names n = unwrap_or (slice_get names n) []

-- a label has the mark of a register, too
abbrev pub sigil : Kind → ℕ
sigil kinds.Global = 64
sigil _ = 37

-- The number of a parameter without a name.

abbrev pub no_parameters : Count
no_parameters = record { numbered = 0; counts = true }

-- a parameter without a name counts, and so does one whose name is a number
abbrev pub count_parameter : Count → Count
count_parameter c = record { numbered = (if c.counts then suc c.numbered else c.numbered); counts = true }

-- a name that is a number: digits alone
abbrev pub is_number : List ℕ → Bool
is_number name = list_all is_digit name

abbrev pub count_name : Count → List ℕ → Count
count_name c name = record { numbered = c.numbered; counts = is_number name }

abbrev pub is_define : Kind → Bool
is_define (kinds.Word (keywords.Statement Define)) = true
is_define _ = false

abbrev pub is_local : Kind → Bool
is_local kinds.Local = true
is_local _ = false

-- a function begins, a parameter ends, or a parameter has a name
abbrev pub count_token : List (List ℕ) → Count → Tok → Count
count_token names c t =
    if is_define t.kind then no_parameters
    else if is_mark Comma t.kind then count_parameter c
    else if is_local t.kind then count_name c (name_at names t.name)
    else c

-- how many parameters of the last function before have a number for a name
abbrev pub numbered_in : List (List ℕ) → List Tok → ℕ
numbered_in names before = (fold (count_token names) no_parameters before).numbered

-- What names a fault.

abbrev pub is_scalar_word : Kind → Bool
is_scalar_word (kinds.Word (keywords.Scalar w)) = true
is_scalar_word _ = false

-- the type of a parameter without a name, and no label
abbrev pub is_nameless : Kind → List Tok → Bool
is_nameless kind ts = is_scalar_word kind && not (has (is_mark Colon) ts)

-- the name at the first of these tokens, with its mark and without quotes
abbrev pub name_shown : List (List ℕ) → List Tok → List Tok → List ℕ
name_shown names before [] = []
name_shown names before (t ∷ ts) =
    if is_nameless t.kind ts then 37 ∷ decimal_text (numbered_in names before) else sigil t.kind ∷ name_at names t.name

-- the place of the token with which so many are left
abbrev pub place_of : List Token → ℕ → Option Token
place_of places left = slice_get places (length places - left)

-- the token as it stands
abbrev pub token_shown : List ℕ → List Token → ℕ → List ℕ
token_shown text places left = option_map_or (bytes_of text) (place_of places left) []

abbrev pub line_shown : List Token → ℕ → ℕ
line_shown places left = option_map_or (λ t. t.line) (place_of places left) 1

abbrev pub names_token : FaultKind → Bool
names_token faults.Statement = true
names_token faults.OutOfProfile = true
names_token _ = false

-- the tokens before the one with which so many are left, and those from it on
abbrev pub what_shown : List ℕ → IrTokens → Fault → List ℕ
what_shown text ir f =
    if f.left == 0 then codes "end"
    else if names_token f.kind then token_shown text ir.places f.left
    else name_shown ir.names (take (length ir.toks - f.left) ir.toks) (drop (length ir.toks - f.left) ir.toks)

-- at the text's end the line is that of the last token
abbrev pub line_of_fault : IrTokens → ℕ → ℕ
line_of_fault ir left = if left == 0 then ir.last_line else line_shown ir.places left

abbrev pub fault_of : FaultKind → ℕ → List ℕ → ReadFault
fault_of faults.Statement line what = reads.Statement line what
fault_of faults.OutOfProfile line what = reads.OutOfProfile line what
fault_of faults.Twice line what = reads.Twice line what
fault_of faults.Unknown line what = reads.Unknown line what

-- the fault as readers answer it
abbrev pub shown : List ℕ → IrTokens → TextFault → ReadFault
shown text ir (texts.Byte stop) = reads.Lexical stop.line (hex_text stop.byte)
shown text ir (texts.Token f) = fault_of f.kind (line_of_fault ir f.left) (what_shown text ir f)

-- a fault as it is told, unless memory ran out
abbrev pub IsTold : ReadFault → ReadFault → Type 0
IsTold reads.Memory fault = Unit {0}
IsTold told fault = told ≡ fault
