-- Where instructions, labels and the end of blocks stand.
use Rattle.std.proofs.Common.{◌≡◌, ℕ, zero, suc, Bool, true, false, Some, None, List, [], ◌∷◌, Ok, Err, refl, sym, ap, ◌∙◌, subst}
use Rattle.std.specs.Prelude.{not, ◌&&◌, if◌then◌else◌}
use Rattle.std.proofs.lemmas.Bool.{or_right}
use Rattle.lx_ir_tokens.specs.declared.token.Tok.{Tok}
use Rattle.lx_ir_tokens.specs.declared.token.Kind.{Kind}
use Rattle.lx_ir_tokens.specs.declared.token.Kind.TheVariants as kinds
use Rattle.lx_ir_tokens.specs.declared.token.Mark.TheVariants.{Comma, Colon, CloseBrace, Hash}
use Rattle.lx_ir_tokens.specs.declared.keyword.InstructionWord.{InstructionWord}
use Rattle.lx_ir_tokens.specs.declared.keyword.InstructionWord.TheVariants as instructions
use Rattle.lx_ir_tokens.specs.declared.keyword.Keyword.TheVariants as keywords
use Rattle.lx_ir.specs.declared.instr.Op.{Op}
use Rattle.lx_ir.specs.declared.instr.Op.TheVariants as op
use Rattle.lx_ir_terms.specs.Context.{Context}
use Rattle.lx_ir_terms.specs.Reading.{Read, ◌>>=◌, has, behind, is_mark}
use Rattle.lx_ir_terms.specs.Words.{words_at}
use Rattle.lx_ir_terms.proofs.Marks.{mark_is}
use Rattle.lx_ir_terms.proofs.Parts.{bind_ok, ok_same}
use Rattle.lx_ir_operands.specs.Steps.{steps_at, metadata_at}
use Rattle.lx_ir_calls.specs.declared.intrinsics.TextForm.{TextForm}
use Rattle.lx_ir_instructions.specs.Instructions.{silent_of, form_at, instruction_at}
use Rattle.lx_ir_instructions.specs.Laws.{MayFollow}
use Rattle.lx_ir_statements.specs.Blocks.{may_be_label, has_label, ends_in_label, ends_block}

-- the first token of an instruction
abbrev pub starts : Kind → Bool
starts kinds.Local = true
starts (kinds.Word (keywords.Instruction w)) = true
starts (kinds.Word keywords.Tail) = true
starts _ = false

form_starts : (context : Context) (form : TextForm) (k : Kind) (n : ℕ) (ts us : List Tok) (o : Op) → form_at context form (record { kind = k; name = n } ∷ ts) ≡ Ok (o, us) → starts k ≡ true
form_starts context form kinds.Local n ts us o e = refl
form_starts context form (kinds.Word (keywords.Instruction w)) n ts us o e = refl
form_starts context form (kinds.Word keywords.Tail) n ts us o e = refl
form_starts context form k n ts us o e = cc

at_start : (context : Context) (form : TextForm) (ts us : List Tok) (o : Op) → form_at context form ts ≡ Ok (o, us) → has starts ts ≡ true
at_start context form [] us o e = cc
at_start context form (t ∷ ts) us o e = form_starts context form t.kind t.name ts us o e

pub instr_starts : (context : Context) (form : TextForm) (ts us : List Tok) (o : Op) → instruction_at context form ts ≡ Ok (o, us) → has starts ts ≡ true
instr_starts context form ts us o e =
    let a = bind_ok (form_at context form ts) (λ o. metadata_at o.1 >>= λ m. Ok (o.0, m.1)) (o, us) e in
    at_start context form ts a.0.1 a.0.0 a.1

-- what begins with the first token of an instruction does not go on with the one before it
kind_follows : (k : Kind) (n : ℕ) (ts : List Tok) → starts k ≡ true → MayFollow (record { kind = k; name = n } ∷ ts)
kind_follows kinds.Local n ts e = record { some = refl; no_comma = refl; no_colon = refl; no_attribute = refl }
kind_follows (kinds.Word (keywords.Instruction w)) n ts e = record { some = refl; no_comma = refl; no_colon = refl; no_attribute = refl }
kind_follows (kinds.Word keywords.Tail) n ts e = record { some = refl; no_comma = refl; no_colon = refl; no_attribute = refl }
kind_follows k n ts e = cc

pub start_follows : (ts : List Tok) → has starts ts ≡ true → MayFollow ts
start_follows [] e = cc
start_follows (t ∷ ts) e = kind_follows t.kind t.name ts e

-- a label does not go on with the instruction before it
label_kind_follows : (k : Kind) (n : ℕ) (c : Tok) (ts : List Tok) → may_be_label k ≡ true → is_mark Colon c.kind ≡ true → MayFollow (record { kind = k; name = n } ∷ c ∷ ts)
label_kind_follows (kinds.Word (keywords.Instruction w)) n c ts e o = record { some = refl; no_comma = refl; no_colon = refl; no_attribute = refl }
label_kind_follows (kinds.Word keywords.Tail) n c ts e o = record { some = refl; no_comma = refl; no_colon = refl; no_attribute = refl }
label_kind_follows (kinds.Word w) n c ts e o = record { some = refl; no_comma = refl; no_colon = refl; no_attribute = rw o refl }
label_kind_follows (kinds.Number v m) n c ts e o = record { some = refl; no_comma = refl; no_colon = refl; no_attribute = refl }
label_kind_follows k n c ts e o = cc

pub label_follows : (l c : Tok) (ts : List Tok) → may_be_label l.kind ≡ true → is_mark Colon c.kind ≡ true → MayFollow (l ∷ c ∷ ts)
label_follows l c ts e o = label_kind_follows l.kind l.name c ts e o

-- nor does the brace
brace_kind_follows : (k : Kind) (n : ℕ) (ts : List Tok) → k ≡ kinds.Mark CloseBrace → MayFollow (record { kind = k; name = n } ∷ ts)
brace_kind_follows k n ts e = record { some = refl; no_comma = rw e refl; no_colon = rw e refl; no_attribute = rw e refl }

pub brace_follows : (c : Tok) (ts : List Tok) → is_mark CloseBrace c.kind ≡ true → MayFollow (c ∷ ts)
brace_follows c ts e = brace_kind_follows c.kind c.name ts (mark_is CloseBrace c.kind e)

pub label_ends : (l c : Tok) (ts : List Tok) → may_be_label l.kind ≡ true → is_mark Colon c.kind ≡ true → (has_label (l ∷ c ∷ ts) ≡ true) × (ends_block (l ∷ c ∷ ts) ≡ true)
label_ends l c ts e o = let h : has_label (l ∷ c ∷ ts) ≡ true = rw (e, o) refl in (h, or_right (is_mark CloseBrace l.kind) (has_label (l ∷ c ∷ ts)) h)

pub brace_ends : (c : Tok) (ts : List Tok) → is_mark CloseBrace c.kind ≡ true → (has_label (c ∷ ts) ≡ false) × (ends_block (c ∷ ts) ≡ true)
brace_ends c ts e = (ap (λ k. may_be_label k && has (is_mark Colon) ts) (mark_is CloseBrace c.kind e), rw e refl)

-- An instruction does not begin with a colon behind its first token, unless a colon stands behind it.

abbrev colon : ℕ → Tok
colon m = record { kind = kinds.Mark Colon; name = m }

word_at_colon : (context : Context) (form : TextForm) (w : InstructionWord) (n m : ℕ) (more us : List Tok) (o : Op) → silent_of context form w (record { kind = kinds.Word (keywords.Instruction w); name = n } ∷ colon m ∷ more) ≡ Ok (o, us) → us ≡ colon m ∷ more
unfolding words_at
word_at_colon context form instructions.Unreachable n m more us o e = sym (ok_same op.Unreachable o (colon m ∷ more) us e).1
word_at_colon context form w n m more us o e = cc

form_at_colon : (context : Context) (form : TextForm) (k : Kind) (n m : ℕ) (more us : List Tok) (o : Op) → may_be_label k ≡ true → form_at context form (record { kind = k; name = n } ∷ colon m ∷ more) ≡ Ok (o, us) → us ≡ colon m ∷ more
form_at_colon context form (kinds.Word (keywords.Instruction w)) n m more us o l e = word_at_colon context form w n m more us o e
form_at_colon context form k n m more us o l e = cc

word_at_end : (context : Context) (form : TextForm) (w : InstructionWord) (n : ℕ) (us : List Tok) (o : Op) → silent_of context form w (record { kind = kinds.Word (keywords.Instruction w); name = n } ∷ []) ≡ Ok (o, us) → us ≡ []
unfolding words_at
word_at_end context form instructions.Unreachable n us o e = sym (ok_same op.Unreachable o [] us e).1
word_at_end context form w n us o e = cc

form_at_end : (context : Context) (form : TextForm) (k : Kind) (n : ℕ) (us : List Tok) (o : Op) → may_be_label k ≡ true → form_at context form (record { kind = k; name = n } ∷ []) ≡ Ok (o, us) → us ≡ []
form_at_end context form (kinds.Word (keywords.Instruction w)) n us o l e = word_at_end context form w n us o e
form_at_end context form k n us o l e = cc

no_metadata : (m : ℕ) (more us : List Tok) (x : Unit {0}) → metadata_at (colon m ∷ more) ≡ Ok (x, us) → us ≡ colon m ∷ more
unfolding steps_at
no_metadata m more us x e = sym (ok_same tt x (colon m ∷ more) us e).1

no_metadata_end : (us : List Tok) (x : Unit {0}) → metadata_at [] ≡ Ok (x, us) → us ≡ []
unfolding steps_at
no_metadata_end us x e = sym (ok_same tt x [] us e).1

-- with a colon behind its first token an instruction would leave the colon
leaves_colon : (context : Context) (form : TextForm) (k : Kind) (n m : ℕ) (more us : List Tok) (o : Op) → may_be_label k ≡ true → instruction_at context form (record { kind = k; name = n } ∷ colon m ∷ more) ≡ Ok (o, us) → us ≡ colon m ∷ more
leaves_colon context form k n m more us o l e =
    let a = bind_ok (form_at context form (record { kind = k; name = n } ∷ colon m ∷ more)) (λ o. metadata_at o.1 >>= λ x. Ok (o.0, x.1)) (o, us) e in
    let f = form_at_colon context form k n m more a.0.1 a.0.0 l a.1 in
    let b = bind_ok (metadata_at a.0.1) (λ x. Ok (a.0.0, x.1)) (o, us) a.2 in
    let g : metadata_at (colon m ∷ more) ≡ Ok (b.0.0, b.0.1) = subst (λ r. metadata_at r ≡ Ok (b.0.0, b.0.1)) f b.1 in
    sym (ok_same a.0.0 o b.0.1 us b.2).1 ∙ no_metadata m more b.0.1 b.0.0 g

leaves_nothing : (context : Context) (form : TextForm) (k : Kind) (n : ℕ) (us : List Tok) (o : Op) → may_be_label k ≡ true → instruction_at context form (record { kind = k; name = n } ∷ []) ≡ Ok (o, us) → us ≡ []
leaves_nothing context form k n us o l e =
    let a = bind_ok (form_at context form (record { kind = k; name = n } ∷ [])) (λ o. metadata_at o.1 >>= λ x. Ok (o.0, x.1)) (o, us) e in
    let f = form_at_end context form k n a.0.1 a.0.0 l a.1 in
    let b = bind_ok (metadata_at a.0.1) (λ x. Ok (a.0.0, x.1)) (o, us) a.2 in
    let g : metadata_at [] ≡ Ok (b.0.0, b.0.1) = subst (λ r. metadata_at r ≡ Ok (b.0.0, b.0.1)) f b.1 in
    sym (ok_same a.0.0 o b.0.1 us b.2).1 ∙ no_metadata_end b.0.1 b.0.0 g

colon_kind : (context : Context) (form : TextForm) (t : Tok) (k : Kind) (m : ℕ) (more us : List Tok) (o : Op) → k ≡ kinds.Mark Colon → may_be_label t.kind ≡ true → instruction_at context form (t ∷ record { kind = k; name = m } ∷ more) ≡ Ok (o, us) → has (is_mark Colon) us ≡ true
colon_kind context form t k m more us o q l e =
    let e' : instruction_at context form (t ∷ colon m ∷ more) ≡ Ok (o, us) = subst (λ k. instruction_at context form (t ∷ record { kind = k; name = m } ∷ more) ≡ Ok (o, us)) q e in
    rw (leaves_colon context form t.kind t.name m more us o l e') refl

no_label_by : (context : Context) (form : TextForm) (t : Tok) (l c : Bool) (ts us : List Tok) (o : Op) → may_be_label t.kind ≡ l → has (is_mark Colon) ts ≡ c → has (is_mark Colon) us ≡ false → instruction_at context form (t ∷ ts) ≡ Ok (o, us) → (l && c) ≡ false
no_label_by context form t false c ts us o p q n e = refl
no_label_by context form t true false ts us o p q n e = refl
no_label_by context form t true true [] us o p q n e = cc
no_label_by context form t true true (d ∷ ts) us o p q n e = let h = colon_kind context form t d.kind d.name ts us o (mark_is Colon d.kind q) p e in cc

-- what is read as an instruction, with no colon behind it, is no label
pub no_label : (context : Context) (form : TextForm) (ts us : List Tok) (o : Op) → has (is_mark Colon) us ≡ false → instruction_at context form ts ≡ Ok (o, us) → has_label ts ≡ false
no_label context form [] us o n e = refl
no_label context form (t ∷ ts) us o n e = no_label_by context form t (may_be_label t.kind) (has (is_mark Colon) ts) ts us o refl refl n e

last_by : (context : Context) (form : TextForm) (t : Tok) (l : Bool) (us : List Tok) (o : Op) → may_be_label t.kind ≡ l → has (λ k. true) us ≡ true → instruction_at context form (t ∷ []) ≡ Ok (o, us) → l ≡ false
last_by context form t false us o p s e = refl
last_by context form t true us o p s e =
    let h = leaves_nothing context form t.kind t.name us o p e in
    let f : has (λ k. true) us ≡ false = rw h refl in
    cc

-- where tokens stand behind an instruction, the text does not end in its first token
pub no_last : (context : Context) (form : TextForm) (ts us : List Tok) (o : Op) → has (λ k. true) us ≡ true → instruction_at context form ts ≡ Ok (o, us) → ends_in_label ts ≡ false
no_last context form [] us o s e = refl
no_last context form (t ∷ []) us o s e = last_by context form t (may_be_label t.kind) us o refl s e
no_last context form (t ∷ u ∷ ts) us o s e = refl

-- no block ends at an instruction
kind_no_brace : (k : Kind) → starts k ≡ true → is_mark CloseBrace k ≡ false
kind_no_brace (kinds.Mark m) e = cc
kind_no_brace kinds.Local e = refl
kind_no_brace (kinds.Word w) e = refl
kind_no_brace k e = cc

no_end_by : (ts : List Tok) → has starts ts ≡ true → has_label ts ≡ false → ends_block ts ≡ false
no_end_by [] s l = cc
no_end_by (t ∷ ts) s l = rw (kind_no_brace t.kind s, l) refl

pub no_end : (context : Context) (form : TextForm) (ts us : List Tok) (o : Op) → has (is_mark Colon) us ≡ false → instruction_at context form ts ≡ Ok (o, us) → ends_block ts ≡ false
no_end context form ts us o n e = no_end_by ts (instr_starts context form ts us o e) (no_label context form ts us o n e)
