-- How the forms of instructions are put together.
use Rattle.std.proofs.Common.{◌≡◌, ℕ, false, Some, List, ◌∷◌, ◌++◌, Ok, refl, sym, ap, ◌∙◌, subst, append_assoc}
use Rattle.std.specs.Prelude.{if◌then◌else◌}
use Rattle.lx_ir_tokens.specs.declared.token.Tok.{Tok}
use Rattle.lx_ir_tokens.specs.declared.token.Kind.{Kind}
use Rattle.lx_ir_tokens.specs.declared.token.Kind.TheVariants as kinds
use Rattle.lx_ir_tokens.specs.declared.token.Mark.TheVariants.{Equal}
use Rattle.lx_ir_tokens.specs.declared.keyword.InstructionWord.{InstructionWord}
use Rattle.lx_ir_tokens.specs.declared.keyword.Keyword.TheVariants as keywords
use Rattle.lx_ir.specs.declared.instr.Op.{Op}
use Rattle.lx_ir_terms.specs.Context.{Context, register_number}
use Rattle.lx_ir_terms.specs.Reading.{Read, ◌>>=◌}
use Rattle.lx_ir_terms.specs.Grammar.{Part, IsMark, ◌then◌}
use Rattle.lx_ir_terms.specs.Laws.{Reads}
use Rattle.lx_ir_constants.specs.Constants.{is_register}
use Rattle.lx_ir_operands.specs.Operands.{instruction_in}
use Rattle.lx_ir_operands.specs.Grammar.{First, Flagged}
use Rattle.lx_ir_calls.specs.declared.intrinsics.TextForm.{TextForm}
use Rattle.lx_ir_calls.specs.Calls.{is_tail_word}
use Rattle.lx_ir_instructions.specs.Instructions.{giving_of, giving_at, silent_of, given_behind, form_at}
use Rattle.lx_ir_instructions.specs.Grammar.{IsRegister, Given}

-- what a part is read as, with these tokens behind it
abbrev pub ReadsTo : {A : Type 0} → List Tok → (List Tok → Read A) → A → Part → Type 0
ReadsTo us read x part = (ts : List Tok) → part ts → read (ts ++ us) ≡ Ok (x, us)

pub bind_to : {A B : Type 0} (us : List Tok) (read : List Tok → Read A) (g : A × List Tok → Read B) (x : A) (y : B) (p q : Part) → Reads read x p → ReadsTo us (λ vs. g (x, vs)) y q → ReadsTo us (λ ts. read ts >>= g) y (p then q)
bind_to us read g x y p q h k ts (f, b, a, c, e) = rw (e, append_assoc f b us, h f (b ++ us) a) (k b c)

pub last_to : {A B : Type 0} (us : List Tok) (read : List Tok → Read A) (f : A → B) (x : A) (p : Part) → ReadsTo us read x p → ReadsTo us (λ ts. read ts >>= λ c. Ok (f c.0, c.1)) (f x) p
last_to us read f x p h ts a = rw (h ts a) refl

-- flags before the first of two parts stand before both
pub flags_before : (p q : Part) (ts : List Tok) → (Flagged p then q) ts → Flagged (p then q) ts
flags_before p q ts (f, b, (g, c, flags, x, w2), y, w) =
    (g, c ++ b, flags, (c, b, x, y, refl), w ∙ ap (λ r. r ++ b) w2 ∙ append_assoc g c b)

pub flags_first : (p q : Part) (ts : List Tok) → Flagged (p then q) ts → (Flagged p then q) ts
flags_first p q ts (g, r, flags, (c, b, x, y, w2), w) =
    (g ++ c, b, (g, c, flags, x, refl), y, w ∙ ap (λ s. g ++ s) w2 ∙ sym (append_assoc g c b))

-- The first word.

word_is_no_tail : (k : Kind) (w : InstructionWord) → instruction_in k ≡ Some w → is_tail_word k ≡ false
word_is_no_tail (kinds.Word (keywords.Instruction v)) w e = refl
word_is_no_tail k w e = cc

word_is_no_register : (k : Kind) (w : InstructionWord) → instruction_in k ≡ Some w → is_register k ≡ false
word_is_no_register (kinds.Word (keywords.Instruction v)) w e = refl
word_is_no_register k w e = cc

-- what stands behind `%r =` is read by its first word
pub giving_reads : (context : Context) (form : TextForm) (to : ℕ) (w : InstructionWord) (o : Op) (p : Part) (us : List Tok) → ((t : Tok) (ts : List Tok) → p ts → giving_of context form to w (t ∷ (ts ++ us)) ≡ Ok (o, us)) → ReadsTo us (giving_at context form to) o (First w then p)
giving_reads context form to w o p us h ts (f, b, (t, e, g), q, c) = rw (c, g, word_is_no_tail t.kind w e, e) (h t b q)

-- an instruction that gives nothing is read by its first word
pub silent_reads : (context : Context) (form : TextForm) (w : InstructionWord) (o : Op) (p : Part) (us : List Tok) → ((t : Tok) (ts : List Tok) → p ts → silent_of context form w (t ∷ (ts ++ us)) ≡ Ok (o, us)) → ReadsTo us (form_at context form) o (First w then p)
silent_reads context form w o p us h ts (f, b, (t, e, g), q, c) = rw (c, g, word_is_no_register t.kind w e, word_is_no_tail t.kind w e, e) (h t b q)

-- what gives a register stands behind `%r =`
pub given_reads : (context : Context) (form : TextForm) (to : ℕ) (o : Op) (p : Part) (us : List Tok) → ReadsTo us (giving_at context form to) o p → ReadsTo us (form_at context form) o (Given context to p)
given_reads context form to o p us h ts (f, b, (t, k, r, g), (f2, b2, (s, m, g2), q, c2), c) =
    let whole : ts ++ us ≡ t ∷ (s ∷ (b2 ++ us)) = rw (c, g, c2, g2) refl in
    let one : given_behind context form (register_number context t.name) (s ∷ (b2 ++ us)) ≡ giving_at context form (register_number context t.name) (b2 ++ us) = rw m refl in
    let two : giving_at context form (register_number context t.name) (b2 ++ us) ≡ Ok (o, us) = subst (λ n. giving_at context form n (b2 ++ us) ≡ Ok (o, us)) (sym r) (h b2 q) in
    rw (whole, k) (one ∙ two)

-- What is found.

-- what gives a register, with `%r =` before it
pub given_as : (context : Context) (to : ℕ) (p : Part) (ts rs es : List Tok) → p ts → IsRegister context to rs → IsMark Equal es → Given context to p (rs ++ (es ++ ts))
given_as context to p ts rs es q a b = (rs, es ++ ts, a, (es, ts, b, q, refl), refl)
