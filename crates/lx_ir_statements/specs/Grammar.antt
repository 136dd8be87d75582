-- Which tokens statements are: the grammar, apart from how it is read.
use Rattle.std.specs.Prelude.{◌≡◌, ℕ, Bool, true, false, ◌⊎◌, Option, Some, List, [], ◌∷◌, ◌++◌}
use Rattle.std.specs.List.{list_all}
use Rattle.lx_words.specs.declared.token.Token.{Token}
use Rattle.lx_ir_tokens.specs.declared.token.Tok.{Tok}
use Rattle.lx_ir_tokens.specs.declared.token.Kind.{Kind}
use Rattle.lx_ir_tokens.specs.declared.token.Kind.TheVariants as kinds
use Rattle.lx_ir_tokens.specs.declared.token.Mark.TheVariants.{Equal, OpenBrace}
use Rattle.lx_ir_tokens.specs.declared.keyword.StatementWord.TheVariants as words
use Rattle.lx_ir_tokens.specs.declared.keyword.Keyword.TheVariants as keywords
use Rattle.lx_ir.specs.declared.types.Scalar.{Scalar}
use Rattle.lx_ir.specs.declared.module.Parameter.{Parameter}
use Rattle.lx_ir.specs.declared.module.Block.{Block}
use Rattle.lx_ir.specs.IrType.{IrType, Named}
use Rattle.lx_ir.specs.Init.{Init}
use Rattle.lx_ir.specs.Layout.{is_struct}
use Rattle.lx_ir_terms.specs.Context.{Context}
use Rattle.lx_ir_terms.specs.Types.{depth_limit}
use Rattle.lx_ir_terms.specs.Grammar.{Part, Picks, Is, IsMark, ◌then◌, IsWritten}
use Rattle.lx_ir_constants.specs.InitGrammar.{IsInit}
use Rattle.lx_ir_operands.specs.Grammar.{Repeated, IsAttribute, IsAlign}
use Rattle.lx_ir_calls.specs.declared.intrinsics.TextForm.{TextForm}
use Rattle.lx_ir_statements.specs.declared.head.Head.{Head}
use Rattle.lx_ir_statements.specs.Numbers.{has_number}
use Rattle.lx_ir_statements.specs.Words.{is_linkage_word}
use Rattle.lx_ir_statements.specs.Parameters.{local_name}
use Rattle.lx_ir_statements.specs.HeadGrammar.{IsResult, IsHead, AreImportParameters}
use Rattle.lx_ir_statements.specs.BlockGrammar.{Before, IsBody}
use Rattle.lx_ir_statements.specs.declared.form.Statement.{Statement}
use Rattle.lx_ir_statements.specs.declared.form.Statement.TheVariants as statements
use Rattle.lx_ir_statements.specs.declared.defined.Defined.{Defined}
use Rattle.lx_ir_statements.specs.Defined.{is_block_write}
use Rattle.lx_ir_statements.specs.Statements.{is_type_word, symbol_name, storage_in}

-- Types with names.

-- the name that a type statement defines, which is a type in the text too
abbrev pub IsTypeName : Context → ℕ → Part
IsTypeName context name ts =
    (t : Tok) × (k : ℕ) × (local_name t.kind t.name ≡ Some name) × IsWritten context (Named k) (t ∷ []) × (ts ≡ t ∷ [])

abbrev pub IsStruct : Context → IrType → Part
IsStruct context ty ts = (is_struct ty ≡ true) × IsWritten context ty ts

-- `%name = type {..}`
abbrev pub IsNewType : Context → ℕ → IrType → Part
IsNewType context name ty = IsTypeName context name then IsMark Equal then Is is_type_word then IsStruct context ty

-- Names behind `@`.

abbrev pub IsSymbol : ℕ → Part
IsSymbol name = Picks (λ t. symbol_name t.kind t.name) name

-- Globals.

abbrev pub AreLinkage : Part
AreLinkage ts = list_all (λ t. is_linkage_word t.kind) ts ≡ true

-- `@name = words global T C`
abbrev pub IsGlobal : Context → ℕ → Bool → IrType → Init → Part
IsGlobal context name constant ty init =
    IsSymbol name
    then IsMark Equal
    then AreLinkage
    then Picks (λ t. storage_in t.kind) constant
    then IsWritten context ty
    then IsInit context depth_limit ty init
    then IsAlign

-- Imports and functions.

abbrev pub is_declare_word : Kind → Bool
is_declare_word (kinds.Word (keywords.Statement words.Declare)) = true
is_declare_word _ = false

abbrev pub is_define_word : Kind → Bool
is_define_word (kinds.Word (keywords.Statement words.Define)) = true
is_define_word _ = false

-- `declare words R @name(T, ..) words`
abbrev pub IsImport : ℕ → Option Scalar → List Scalar → Part
IsImport name ret params =
    Is is_declare_word
    then IsResult ret
    then IsSymbol name
    then AreImportParameters params
    then Repeated IsAttribute

-- `define words R @name(T %a, ..) words {`
abbrev pub IsOpening : Context → ℕ → Option Scalar → Head → Part
IsOpening context name ret head =
    Is is_define_word
    then IsResult ret
    then IsSymbol name
    then IsHead context head
    then Repeated IsAttribute
    then IsMark OpenBrace

-- the same, and blocks behind it
abbrev pub IsFunction : Context → TextForm → List Token → ℕ → Option Scalar → List Parameter → List Block → Before
IsFunction context form places name ret params blocks ts us =
    (head : Head) × (front : List Tok) × (back : List Tok)
    × IsOpening context name ret head front
    × IsBody context form places head.numbered head.registers blocks back us
    × (head.params ≡ params)
    × (ts ≡ front ++ back)

-- Statements. The names of types are told from those of functions and globals.

-- these tokens, before those, are this statement, where the statements before define these names
abbrev pub IsStatement : Context → TextForm → List Token → Defined → Statement → Before
IsStatement context form places defined (statements.Type name ty) ts us = (has_number defined.types name ≡ false) × IsNewType context name ty ts
IsStatement context form places defined (statements.Global name constant ty init) ts us = (has_number defined.symbols name ≡ false) × IsGlobal context name constant ty init ts
IsStatement context form places defined (statements.Import name ret params) ts us =
    ((has_number defined.symbols name ≡ false) ⊎ (is_block_write context name ≡ true)) × IsImport name ret params ts
IsStatement context form places defined (statements.Function name ret params blocks) ts us =
    (has_number defined.symbols name ≡ false) × (is_block_write context name ≡ false) × IsFunction context form places name ret params blocks ts us
