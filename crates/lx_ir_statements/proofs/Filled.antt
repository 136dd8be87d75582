-- An instruction has a token.
use Rattle.std.proofs.Common.{◌≡◌, ℕ, ◌<◌, ◌+◌, Bool, true, Option, Some, None, List, [], ◌∷◌, ◌++◌, length, Ok, refl, sym, ap, ◌∙◌, subst, arith}
use Rattle.std.proofs.lemmas.List.{length-append}
use Rattle.lx_ir_tokens.specs.declared.token.Tok.{Tok}
use Rattle.lx_ir_tokens.specs.declared.keyword.InstructionWord.{InstructionWord}
use Rattle.lx_ir_tokens.specs.declared.keyword.InstructionWord.TheVariants as instructions
use Rattle.lx_ir.specs.declared.instr.Op.{Op}
use Rattle.lx_ir.specs.declared.instr.Op.TheVariants as op
use Rattle.lx_ir_terms.specs.Context.{Context}
use Rattle.lx_ir_terms.specs.Grammar.{Part, Picks, Is, ◌then◌}
use Rattle.lx_ir_terms.specs.Laws.{Finds}
use Rattle.lx_ir_operands.specs.Grammar.{First, Flagged, Repeated, IsAttribute}
use Rattle.lx_ir_calls.specs.declared.intrinsics.TextForm.{TextForm}
use Rattle.lx_ir_calls.specs.Calls.{is_tail_word}
use Rattle.lx_ir_calls.specs.Grammar.{result_of, given_by, IsCallResult, IsCalled, IsCall}
use Rattle.lx_ir_instructions.specs.Instructions.{instruction_at}
use Rattle.lx_ir_instructions.specs.Grammar.{Given, IsForm, IsInstr}

nothing_else : (f b : List Tok) → [] ≡ f ++ b → (f ≡ []) × (b ≡ [])
nothing_else [] b e = (refl, sym e)
nothing_else (t ∷ f) b e = cc

no_token : (t : Tok) → [] ≡ t ∷ [] → ⊥
no_token t e = cc

word_filled : (w : InstructionWord) (q : Part) → (First w then q) [] → ⊥
word_filled w q (f, b, (t, e, g), r, v) = no_token t (sym (nothing_else f b v).0 ∙ g)

given_filled : (context : Context) (r : ℕ) (p : Part) → Given context r p [] → ⊥
given_filled context r p (f, b, (t, k, n, g), q, v) = no_token t (sym (nothing_else f b v).0 ∙ g)

tails_filled : (p q : Part) (w : InstructionWord) → (p then First w then q) [] → ⊥
tails_filled p q w (f, b, t, r, v) = word_filled w q (subst (First w then q) (nothing_else f b v).1 r)

call_filled : (context : Context) (form : TextForm) (o : Op) → IsCall context form o [] → ⊥
call_filled context form o p =
    tails_filled (Repeated (Is is_tail_word)) (Flagged (IsCallResult (given_by o) (result_of o)) then IsCalled context form o then Repeated IsAttribute) instructions.Call p

form_filled : (context : Context) (form : TextForm) (o : Op) → IsForm context form o [] → ⊥
form_filled context form (op.Binary to o ty a b) p = given_filled context to _ p
form_filled context form (op.Compare to pred ty a b) p = given_filled context to _ p
form_filled context form (op.Convert to how from a into) p = given_filled context to _ p
form_filled context form (op.Unary to o ty a) p = given_filled context to _ p
form_filled context form (op.Select to c ty a b) p = given_filled context to _ p
form_filled context form (op.Phi to ty edges) p = given_filled context to _ p
form_filled context form (op.Alloca to ty) p = given_filled context to _ p
form_filled context form (op.Load to ty at) p = given_filled context to _ p
form_filled context form (op.Store ty v at) p = word_filled instructions.Store _ p
form_filled context form (op.GetElementPtr to ty base indices) p = given_filled context to _ p
form_filled context form (op.Call None ret f args) p = call_filled context form (op.Call None ret f args) p
form_filled context form (op.Call (Some to) ret f args) p = given_filled context to _ p
form_filled context form (op.CopyBlock moves d s len) p = call_filled context form (op.CopyBlock moves d s len) p
form_filled context form (op.FillBlock d b len) p = call_filled context form (op.FillBlock d b len) p
form_filled context form (op.Ret None) p = word_filled instructions.Ret _ p
form_filled context form (op.Ret (Some v)) p = word_filled instructions.Ret _ p
form_filled context form (op.Jump l) p = word_filled instructions.Br _ p
form_filled context form (op.Branch c a b) p = word_filled instructions.Br _ p
form_filled context form (op.Switch ty v otherwise cases) p = word_filled instructions.Switch _ p
form_filled context form op.Unreachable (t, e, g) = no_token t g
form_filled context form (op.Guard at size narrow) p = call_filled context form (op.Guard at size narrow) p
form_filled context form (op.Check target) p = call_filled context form (op.Check target) p
form_filled context form (op.Enter f) p = call_filled context form (op.Enter f) p
form_filled context form (op.Pre f k) p = call_filled context form (op.Pre f k) p
form_filled context form (op.Post f k) p = call_filled context form (op.Post f k) p
form_filled context form (op.Leave f) p = call_filled context form (op.Leave f) p

pub instr_filled : (context : Context) (form : TextForm) (o : Op) → IsInstr context form o [] → ⊥
instr_filled context form o (f, b, i, m, v) = form_filled context form o (subst (IsForm context form o) (nothing_else f b v).0 i)

front_filled : (context : Context) (form : TextForm) (o : Op) (front : List Tok) → IsInstr context form o front → 0 < length front
front_filled context form o [] p = absurd (instr_filled context form o p)
front_filled context form o (t ∷ front) p = omega arith

-- what is read as an instruction is shorter by a token at least
pub instr_shorter : (context : Context) (form : TextForm) → Finds (instruction_at context form) (IsInstr context form) → (ts us : List Tok) (o : Op) → instruction_at context form ts ≡ Ok (o, us) → length us < length ts
instr_shorter context form found ts us o e =
    let w = found ts us o e in
    let some = front_filled context form o w.0 w.1 in
    let size = ap length w.2 ∙ length-append w.0 us in
    omega (arith, some, size)
