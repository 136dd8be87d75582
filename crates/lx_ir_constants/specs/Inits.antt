-- Reading initialisers.
use Rattle.std.specs.Prelude.{ℕ, zero, suc, Bool, true, false, Option, Some, None, List, [], ◌∷◌, Result, Ok, Err, if◌then◌else◌, option_map, map}
use Rattle.lx_ir_tokens.specs.declared.token.Tok.{Tok}
use Rattle.lx_ir_tokens.specs.declared.token.Kind.{Kind}
use Rattle.lx_ir_tokens.specs.declared.token.Kind.TheVariants as kinds
use Rattle.lx_ir_tokens.specs.declared.token.Mark.TheVariants.{OpenBrace, CloseBrace, OpenBracket, CloseBracket, Greater}
use Rattle.lx_ir_tokens.specs.declared.keyword.ConstantWord.{ConstantWord}
use Rattle.lx_ir_tokens.specs.declared.keyword.ConstantWord.TheVariants as constants
use Rattle.lx_ir_tokens.specs.declared.keyword.Keyword.TheVariants as keywords
use Rattle.lx_ir.specs.declared.types.Scalar.TheVariants.{Int, Ptr}
use Rattle.lx_ir.specs.declared.module.Symbol.{Symbol}
use Rattle.lx_ir.specs.declared.module.Pointer.TheVariants as pointers
use Rattle.lx_ir.specs.declared.module.Constant.TheVariants as made
use Rattle.lx_ir.specs.declared.module.Brackets.{Brackets}
use Rattle.lx_ir.specs.declared.module.Brackets.TheVariants as brackets
use Rattle.lx_ir.specs.IrType.{IrType, One, Array, Struct, Packed, Named}
use Rattle.lx_ir.specs.Init.{Init, Plain, Empty, Bytes, Group}
use Rattle.lx_ir.specs.InitNodes.{inits_of_list}
use Rattle.lx_ir_terms.specs.declared.fault.FaultKind.TheVariants.{OutOfProfile}
use Rattle.lx_ir_terms.specs.Context.{Context, symbol_of, bytes_of}
use Rattle.lx_ir_terms.specs.Reading.{Read, ◌>>=◌, at, behind, pick_at, is_mark, has, mark_at, items_at}
use Rattle.lx_ir_terms.specs.Types.{is_opening, written_type_at}
use Rattle.lx_ir_constants.specs.declared.inits.Member.{Member}
use Rattle.lx_ir_constants.specs.declared.inits.Members.{Members}
use Rattle.lx_ir_constants.specs.Constants.{number_in, constant_refusal, blank_of, symbol_pointer, begins_expression, expression_at}

-- Initialisers of one token.

abbrev pub init_of_word : ConstantWord → Option Init
init_of_word constants.True = Some (Plain (made.Truth true))
init_of_word constants.False = Some (Plain (made.Truth false))
init_of_word constants.Null = Some (Plain (made.Pointer pointers.Null))
init_of_word w = option_map Empty (blank_of w)

abbrev pub symbol_init : Symbol → Init
symbol_init s = Plain (made.Pointer (symbol_pointer s))

-- a number stands at an integer type
abbrev pub number_init : IrType → Kind → Option Init
number_init (One (Int w)) k = option_map (λ n. Plain (made.Number n)) (number_in w k)
number_init _ k = None

abbrev pub flat_init_of : Context → IrType → Kind → ℕ → Option Init
flat_init_of context ty (kinds.Word (keywords.Constant w)) name = init_of_word w
flat_init_of context ty kinds.Global name = option_map symbol_init (symbol_of context name)
flat_init_of context ty (kinds.Number v minus) name = number_init ty (kinds.Number v minus)
flat_init_of context ty kinds.Bytes name = Some (Bytes (bytes_of context name))
flat_init_of context ty _ name = None

abbrev pub flat_init_at : Context → IrType → List Tok → Read Init
flat_init_at context ty ts = pick_at (λ t. flat_init_of context ty t.kind t.name) constant_refusal ts

-- an initialiser without others in it
abbrev pub leaf_at : Context → ℕ → IrType → List Tok → Read Init
leaf_at context depth ty ts =
    if has begins_expression ts then (expression_at context depth ts >>= λ c. Ok (Plain c.0, c.1))
    else flat_init_at context ty ts

-- Groups.

-- `T c`, where c is read in this way behind its type
abbrev pub member_at : Context → (IrType → List Tok → Read Init) → List Tok → Read Member
member_at context init ts = do
  t ← written_type_at context ts
  i ← init t.0 t.1
  Ok (record { ty = t.0; init = i.0 }, i.1)

-- the types of some members, and their initialisers
abbrev pub members_of : List Member → Members
members_of ms = record { types = map (λ m. m.ty) ms; inits = map (λ m. m.init) ms }

-- one member or more
abbrev pub some_members_at : (List Tok → Read Member) → List Tok → Read Members
some_members_at member ts = do
  ms ← items_at member ts
  Ok (members_of ms.0, ms.1)

abbrev pub closed_members_at : (Kind → Bool) → (List Tok → Read (Unit {0})) → (List Tok → Read Member) → List Tok → Read Members
closed_members_at is_close close member ts =
    if has is_close ts then Ok (members_of [], behind ts)
    else (some_members_at member ts >>= λ ms. close ms.1 >>= λ c. Ok (ms.0, c.1))

-- members with commas between them, or none, and what closes them
abbrev pub braced_at : (List Tok → Read Member) → List Tok → Read Members
braced_at member ts = closed_members_at (is_mark CloseBrace) (mark_at CloseBrace) member ts

abbrev pub bracketed_at : (List Tok → Read Member) → List Tok → Read Members
bracketed_at member ts = closed_members_at (is_mark CloseBracket) (mark_at CloseBracket) member ts

abbrev pub group : Brackets → Members → Init
group kind ms = Group kind ms.types (inits_of_list ms.inits)

abbrev pub packed_group_behind : (List Tok → Read Member) → List Tok → Read Init
packed_group_behind member ts = do
  o ← mark_at OpenBrace ts
  ms ← braced_at member o.1
  c ← mark_at Greater ms.1
  Ok (group brackets.Packed ms.0, c.1)

-- `[ T c, .. ]`, `{ T c, .. }` or `<{ T c, .. }>`
abbrev pub group_at : (List Tok → Read Member) → List Tok → Read Init
group_at member ts =
    if has (is_mark OpenBracket) ts then (bracketed_at member (behind ts) >>= λ ms. Ok (group brackets.Array ms.0, ms.1))
    else if has (is_mark OpenBrace) ts then (braced_at member (behind ts) >>= λ ms. Ok (group brackets.Struct ms.0, ms.1))
    else packed_group_behind member (behind ts)

-- an initialiser with its type before it, with so many nestings left
unfoldable pub init_at : Context → ℕ → IrType → List Tok → Read Init
init_at context zero ty ts = if has is_opening ts then Err (at OutOfProfile ts) else leaf_at context zero ty ts
init_at context (suc depth) ty ts =
    if has is_opening ts then group_at (member_at context (init_at context depth)) ts
    else leaf_at context (suc depth) ty ts
