-- Types with names, and globals: what is in the grammar is read.
use Rattle.std.proofs.Common.{◌≡◌, ℕ, zero, suc, Bool, true, false, Option, Some, None, List, [], ◌∷◌, ◌++◌, Ok, ◌⊎◌, inl, inr, refl, sym, ap, ◌∙◌, subst, append_assoc}
use Rattle.std.specs.Prelude.{if◌then◌else◌}
use Rattle.lx_ir_tokens.specs.declared.token.Tok.{Tok}
use Rattle.lx_ir_tokens.specs.declared.token.Kind.{Kind}
use Rattle.lx_ir_tokens.specs.declared.token.Kind.TheVariants as kinds
use Rattle.lx_ir_tokens.specs.declared.token.Mark.TheVariants.{Comma, Equal, OpenBrace, OpenBracket, Less}
use Rattle.lx_ir.specs.IrType.{IrType, One, Array, Struct, Packed, Named}
use Rattle.lx_ir.specs.Init.{Init}
use Rattle.lx_ir.specs.Layout.{is_struct}
use Rattle.lx_ir_terms.specs.Context.{Context}
use Rattle.lx_ir_terms.specs.Reading.{Read, ◌>>=◌, has, behind, is_mark, next_at, mark_at}
use Rattle.lx_ir_terms.specs.Types.{written_type_at, flat_of, depth_limit}
use Rattle.lx_ir_terms.specs.Grammar.{Part, Picks, Is, IsMark, ◌then◌, IsType}
use Rattle.lx_ir_terms.specs.Laws.{Reads}
use Rattle.lx_ir_terms.proofs.Marks.{mark_is}
use Rattle.lx_ir_terms.proofs.Written.{written_again}
use Rattle.lx_ir_constants.specs.Constants.{skipped, first_name, word_refusal}
use Rattle.lx_ir_constants.specs.Inits.{init_at}
use Rattle.lx_ir_constants.specs.InitGrammar.{IsInit}
use Rattle.lx_ir_constants.proofs.InitLaws.{init_again}
use Rattle.lx_ir_statements.specs.Numbers.{has_number, has_some}
use Rattle.lx_ir_statements.specs.Parameters.{local_name}
use Rattle.lx_ir_statements.specs.declared.form.Statement.{Statement}
use Rattle.lx_ir_statements.specs.declared.form.Statement.TheVariants as statements
use Rattle.lx_ir_statements.specs.declared.defined.Defined.{Defined}
use Rattle.lx_ir_statements.specs.Statements.{is_type_word, opens_struct, struct_at, new_type_at, type_statement_at}
use Rattle.lx_ir_statements.specs.Grammar.{IsTypeName, IsStruct, IsNewType}

pub local_name_is : (k : Kind) (n name : ℕ) → local_name k n ≡ Some name → (k ≡ kinds.Local) × (n ≡ name)
local_name_is kinds.Local n name e = let s : n ≡ name = cc in (refl, s)
local_name_is (kinds.Word w) n name e = cc
local_name_is kinds.Global n name e = cc
local_name_is (kinds.Number v m) n name e = cc
local_name_is kinds.Text n name e = cc
local_name_is kinds.Bytes n name e = cc
local_name_is (kinds.Mark m) n name e = cc

brace_opens : (k : Kind) → is_mark OpenBrace k ≡ true → opens_struct k ≡ true
brace_opens k e = rw e refl

less_opens : (k : Kind) → is_mark Less k ≡ true → opens_struct k ≡ true
less_opens k e = rw (mark_is Less k e) refl

pub struct_opens : (context : Context) (ty : IrType) (depth : ℕ) (ts us : List Tok) → is_struct ty ≡ true → IsType context ty depth ts → has opens_struct (ts ++ us) ≡ true
struct_opens context (One s) depth ts us h e = cc
struct_opens context (Named k) depth ts us h e = cc
struct_opens context (Array n t) depth ts us h e = cc
struct_opens context (Struct fields) zero ts us h e = absurd e
struct_opens context (Struct fields) (suc depth) ts us h (f, b, (k, e, g), r, w) = rw (w, g) (brace_opens k.kind e)
struct_opens context (Packed fields) zero ts us h e = absurd e
struct_opens context (Packed fields) (suc depth) ts us h (f, b, (k, e, g), r, w) = rw (w, g) (less_opens k.kind e)

pub struct_again : (context : Context) (ty : IrType) → Reads (struct_at context) ty (IsStruct context ty)
struct_again context ty ts us (h, e) = rw (struct_opens context ty depth_limit ts us h e.0, written_again context ty ts us e) refl

pub new_type_again : (context : Context) (name : ℕ) (ty : IrType) → Reads (new_type_at context) (statements.Type name ty) (IsNewType context name ty)
new_type_again context name ty ts us (f, b, (t, k, l, p, g), (f2, b2, (q, e2, g2), (f3, s, (x, e3, g3), r, w3), w2), w) =
    let whole : ts ++ us ≡ t ∷ q ∷ x ∷ (s ++ us) = rw (w, g, w2, g2, w3, g3) refl in
    let typ = written_again context (Named k) (t ∷ []) (q ∷ x ∷ (s ++ us)) p in
    rw (whole, typ, e2, e3, struct_again context ty s us r, (local_name_is t.kind t.name name l).1) refl
