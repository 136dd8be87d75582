-- An instruction begins with the name of the register that it gives, or with no such name.
use Rattle.std.proofs.Common.{◌≡◌, ℕ, zero, suc, true, Option, Some, None, List, [], ◌∷◌, ◌++◌, refl, sym, ap, ◌∙◌, subst}
use Rattle.lx_ir_tokens.specs.declared.token.Tok.{Tok}
use Rattle.lx_ir_tokens.specs.declared.token.Kind.{Kind}
use Rattle.lx_ir_tokens.specs.declared.token.Kind.TheVariants as kinds
use Rattle.lx_ir_tokens.specs.declared.keyword.InstructionWord.{InstructionWord}
use Rattle.lx_ir_tokens.specs.declared.keyword.Keyword.TheVariants as keywords
use Rattle.lx_ir.specs.declared.instr.Op.{Op}
use Rattle.lx_ir.specs.declared.instr.Op.TheVariants as op
use Rattle.lx_ir.specs.Operands.{given_by}
use Rattle.lx_ir_terms.specs.Context.{Context, register_number}
use Rattle.lx_ir_constants.specs.Constants.{is_register}
use Rattle.lx_ir_operands.specs.Operands.{instruction_in}
use Rattle.lx_ir_operands.specs.Grammar.{First}
use Rattle.lx_ir_calls.specs.declared.intrinsics.TextForm.{TextForm}
use Rattle.lx_ir_calls.specs.Calls.{is_tail_word}
use Rattle.lx_ir_calls.specs.Grammar.{IsCall}
use Rattle.lx_ir_instructions.specs.Grammar.{IsRegister, IsForm, IsInstr}
use Rattle.lx_ir_statements.specs.Parameters.{local_name}
use Rattle.lx_ir_statements.specs.Blocks.{given}

-- the name that stands first names the register that is given
abbrev pub IsGiven : Context → Option ℕ → Option ℕ → Type 0
IsGiven context (Some r) first = (n : ℕ) × (first ≡ Some n) × (register_number context n ≡ r)
IsGiven context None first = first ≡ None

local_of : (k : Kind) (n : ℕ) → is_register k ≡ true → local_name k n ≡ Some n
local_of kinds.Local n e = refl
local_of k n e = absurd (cc e)

word_of : (k : Kind) (n : ℕ) (w : InstructionWord) → instruction_in k ≡ Some w → local_name k n ≡ None
word_of (kinds.Word (keywords.Instruction v)) n w e = refl
word_of k n w e = absurd (cc e)

tail_of : (k : Kind) (n : ℕ) → is_tail_word k ≡ true → local_name k n ≡ None
tail_of (kinds.Word keywords.Tail) n e = refl
tail_of k n e = absurd (cc e)

-- the first token of a part that begins with a token
first_token : (t : Tok) (f b ts us : List Tok) → f ≡ t ∷ [] → ts ≡ f ++ b → given (ts ++ us) ≡ local_name t.kind t.name
first_token t f b ts us e w = ap (λ v. given (v ++ us)) (w ∙ ap (λ v. v ++ b) e)

module _ (context : Context) (form : TextForm) where
  register_given : (r : ℕ) (f b ts us : List Tok) → IsRegister context r f → ts ≡ f ++ b → IsGiven context (Some r) (given (ts ++ us))
  register_given r f b ts us (t, k, e, g) w = (t.name, first_token t f b ts us g w ∙ local_of t.kind t.name k, e)

  word_given : (w : InstructionWord) (f b ts us : List Tok) → First w f → ts ≡ f ++ b → given (ts ++ us) ≡ None
  word_given v f b ts us (t, e, g) w = first_token t f b ts us g w ∙ word_of t.kind t.name v e

  call_given : (o : Op) (ts us : List Tok) → IsCall context form o ts → given (ts ++ us) ≡ None
  call_given o ts us (f, b, (zero, none), (f2, b2, first, rest, w2), w) =
      let whole : ts ≡ f2 ++ b2 = w ∙ ap (λ v. v ++ b) none ∙ w2 in
      word_given _ f2 b2 ts us first whole
  call_given o ts us (f, b, (suc n, (f2, b2, (t, e, g), more, w2)), rest, w) =
      let whole : ts ≡ t ∷ (b2 ++ b) = w ∙ ap (λ v. v ++ b) (w2 ∙ ap (λ v. v ++ b2) g) in
      ap (λ v. given (v ++ us)) whole ∙ tail_of t.kind t.name e

  form_given : (o : Op) (ts us : List Tok) → IsForm context form o ts → IsGiven context (given_by o) (given (ts ++ us))
  form_given (op.Binary to o ty a b) ts us h = register_given to h.0 h.1 ts us h.2 h.4
  form_given (op.Compare to p ty a b) ts us h = register_given to h.0 h.1 ts us h.2 h.4
  form_given (op.Convert to how from a into) ts us h = register_given to h.0 h.1 ts us h.2 h.4
  form_given (op.Unary to o ty a) ts us h = register_given to h.0 h.1 ts us h.2 h.4
  form_given (op.Select to c ty a b) ts us h = register_given to h.0 h.1 ts us h.2 h.4
  form_given (op.Phi to ty edges) ts us h = register_given to h.0 h.1 ts us h.2 h.4
  form_given (op.Alloca to ty) ts us h = register_given to h.0 h.1 ts us h.2 h.4
  form_given (op.Load to ty at) ts us h = register_given to h.0 h.1 ts us h.2 h.4
  form_given (op.Store ty v at) ts us h = word_given _ h.0 h.1 ts us h.2 h.4
  form_given (op.GetElementPtr to ty base indices) ts us h = register_given to h.0 h.1 ts us h.2 h.4
  form_given (op.Call None ret f args) ts us h = call_given (op.Call None ret f args) ts us h
  form_given (op.Call (Some to) ret f args) ts us h = register_given to h.0 h.1 ts us h.2 h.4
  form_given (op.CopyBlock moves d s len) ts us h = call_given (op.CopyBlock moves d s len) ts us h
  form_given (op.FillBlock d b len) ts us h = call_given (op.FillBlock d b len) ts us h
  form_given (op.Ret None) ts us h = word_given _ h.0 h.1 ts us h.2 h.4
  form_given (op.Ret (Some v)) ts us h = word_given _ h.0 h.1 ts us h.2 h.4
  form_given (op.Jump l) ts us h = word_given _ h.0 h.1 ts us h.2 h.4
  form_given (op.Branch c a b) ts us h = word_given _ h.0 h.1 ts us h.2 h.4
  form_given (op.Switch ty v otherwise cases) ts us h = word_given _ h.0 h.1 ts us h.2 h.4
  form_given op.Unreachable ts us (t, e, g) = ap (λ v. given (v ++ us)) g ∙ word_of t.kind t.name _ e
  form_given (op.Guard at size narrow) ts us h = call_given (op.Guard at size narrow) ts us h
  form_given (op.Check target) ts us h = call_given (op.Check target) ts us h
  form_given (op.Enter f) ts us h = call_given (op.Enter f) ts us h
  form_given (op.Pre f k) ts us h = call_given (op.Pre f k) ts us h
  form_given (op.Post f k) ts us h = call_given (op.Post f k) ts us h
  form_given (op.Leave f) ts us h = call_given (op.Leave f) ts us h

  -- an instruction begins with what it gives
  pub instr_given : (o : Op) (ts : List Tok) → IsInstr context form o ts → IsGiven context (given_by o) (given ts)
  instr_given o ts (f, b, h, meta, w) = subst (λ v. IsGiven context (given_by o) (given v)) (sym w) (form_given o f b h)
