-- Instructions with the metadata behind them: what is in the grammar is read, and what is read is in the grammar.
use Rattle.std.proofs.Common.{◌≡◌, ℕ, zero, suc, true, false, List, ◌∷◌, ◌++◌, Ok, refl, sym, ap, subst, append_assoc}
use Rattle.lx_ir_tokens.specs.declared.token.Tok.{Tok}
use Rattle.lx_ir_tokens.specs.declared.token.Kind.TheVariants as kinds
use Rattle.lx_ir_tokens.specs.declared.token.Mark.TheVariants.{Comma, Exclamation, Colon}
use Rattle.lx_ir.specs.declared.instr.Op.{Op}
use Rattle.lx_ir_terms.specs.Context.{Context}
use Rattle.lx_ir_terms.specs.Reading.{◌>>=◌, is_mark}
use Rattle.lx_ir_terms.specs.Laws.{Finds}
use Rattle.lx_ir_terms.proofs.Marks.{mark_is}
use Rattle.lx_ir_terms.proofs.Parts.{Joined, Mapped, bind_finds, last_finds}
use Rattle.lx_ir_operands.specs.Steps.{has_comma, has_further, metadata_at}
use Rattle.lx_ir_operands.specs.Grammar.{IsMetadata, Repeated, Times}
use Rattle.lx_ir_operands.proofs.PassedLaws.{metadata_again, metadata_found}
use Rattle.lx_ir_calls.specs.declared.intrinsics.TextForm.{TextForm}
use Rattle.lx_ir_instructions.specs.Instructions.{form_at, instruction_at}
use Rattle.lx_ir_instructions.specs.Grammar.{IsForm, IsInstr}
use Rattle.lx_ir_instructions.specs.Laws.{MayFollow}
use Rattle.lx_ir_instructions.proofs.FormReads.{Ends, forms_read}
use Rattle.lx_ir_instructions.proofs.FormFinds.{forms_found}

-- metadata, and what may follow an instruction, go on with no form

comma_ends : (t : Tok) (k : Tok) (us : List Tok) → t.kind ≡ kinds.Mark Comma → is_mark Exclamation k.kind ≡ true → Ends (t ∷ (k ∷ us))
comma_ends t k us e x = record { further = rw (e, x) refl; call = record { some = refl; no_colon = ap (is_mark Colon) e; no_attribute = rw e refl } }

nothing_further : (us : List Tok) → has_comma us ≡ false → has_further us ≡ false
nothing_further us h = rw h refl

metadata_ends : (n : ℕ) (ts us : List Tok) → MayFollow us → Times IsMetadata n ts → Ends (ts ++ us)
metadata_ends zero ts us h e =
    subst (λ r. Ends (r ++ us)) (sym e) (record { further = nothing_further us h.no_comma; call = record { some = h.some; no_colon = h.no_colon; no_attribute = h.no_attribute } })
metadata_ends (suc n) ts us h (f, b, (f2, b2, (t, c, g), (f3, b3, (k, x, g3), m, w3), w2), q, w) =
    let whole : ts ++ us ≡ t ∷ (k ∷ ((b3 ++ b) ++ us)) = rw (w, w2, g, w3, g3) refl in
    subst Ends (sym whole) (comma_ends t k ((b3 ++ b) ++ us) (mark_is Comma t.kind c) x)

pub instructions_read : (context : Context) (form : TextForm) (o : Op) (ts us : List Tok) → MayFollow us → IsInstr context form o ts → instruction_at context form (ts ++ us) ≡ Ok (o, us)
instructions_read context form o ts us h (f, b, i, (n, m), w) =
    rw (w, append_assoc f b us, forms_read context form o (b ++ us) (metadata_ends n b us h m) f i, metadata_again tt b us h.no_comma (n, m)) refl

abbrev InstrParts : Context → TextForm → Op → List Tok → Type 0
InstrParts context form = Joined (IsForm context form) (λ o. Mapped (λ (m : Unit {0}). o) (λ m. Repeated IsMetadata))

instr_says : (context : Context) (form : TextForm) (o : Op) (ts : List Tok) → InstrParts context form o ts → IsInstr context form o ts
instr_says context form o ts (x, (f, b, i, (m, r, eq), w)) = subst (λ y. IsInstr context form y ts) eq (f, b, i, r, w)

pub instructions_found : (context : Context) (form : TextForm) → Finds (instruction_at context form) (IsInstr context form)
instructions_found context form ts us o e =
    let w = bind_finds (form_at context form) (λ o. metadata_at o.1 >>= λ m. Ok (o.0, m.1)) _ _ (forms_found context form)
    (λ o. last_finds metadata_at (λ m. o) _ metadata_found) ts us o e in
    (w.0, instr_says context form o w.0 w.1, w.2)
