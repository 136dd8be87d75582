-- The readings of a text, as loops go over it.
use Rattle.std.proofs.Common.{◌≡◌, ℕ, zero, suc, ◌<◌, ◌≤◌, ◌-◌, Bool, true, false, Option, Some, None, List, [], ◌∷◌, length, Result, Ok, Err, refl, sym, ap, ◌∙◌, subst, arith}
use Rattle.std.specs.Prelude.{if◌then◌else◌}
use Rattle.lx_words.specs.declared.token.Token.{Token}
use Rattle.lx_ir_tokens.specs.declared.token.Tok.{Tok}
use Rattle.lx_ir_terms.specs.declared.fault.Fault.{Fault}
use Rattle.lx_ir_terms.specs.declared.fault.ReadError.{ReadError}
use Rattle.lx_ir_terms.specs.declared.fault.ReadError.TheVariants as errors
use Rattle.lx_ir_terms.specs.Context.{Context}
use Rattle.lx_ir_terms.specs.Reading.{Read, ◌>>=◌, Fails}
use Rattle.lx_ir_calls.specs.declared.intrinsics.TextForm.{TextForm}
use Rattle.lx_ir_read.specs.declared.first.Found.{Found}
use Rattle.lx_ir_read.specs.declared.first.Progress.{Progress}
use Rattle.lx_ir_read.specs.declared.first.FirstReading.{FirstReading}
use Rattle.lx_ir_read.specs.declared.draft.Draft.{Draft}
use Rattle.lx_ir_read.specs.First.{with_found, found_at, stopped, leftover, first_by, first_at}
use Rattle.lx_ir_read.specs.Again.{again_at, all_again}

-- The first reading.

pub first_more : (context : Context) (form : TextForm) (places : List Token) (fuel n : ℕ) (p q : Progress) (f : Found) (ts us : List Tok) (total : FirstReading) → fuel ≡ suc n → 0 < length ts → first_at context form places fuel p ts ≡ total → found_at context form places p.defined ts ≡ Ok (f, us) → q ≡ with_found context p f → first_at context form places n q us ≡ total
unfolding first_at
first_more context form places fuel n p q f [] us total e some so_far read is = absurd (omega (arith, some))
first_more context form places fuel n p q f (t ∷ ts) us total e some so_far read is =
    let one : first_at context form places (suc n) p (t ∷ ts) ≡ first_at context form places n (with_found context p f) us = ap (first_by context (first_at context form places n) p) read in
    ap (λ r. first_at context form places n r us) is ∙ sym one ∙ ap (λ m. first_at context form places m p (t ∷ ts)) (sym e) ∙ so_far

pub first_stops : (context : Context) (form : TextForm) (places : List Token) (fuel n : ℕ) (p : Progress) (f : Fault) (ts : List Tok) (total : FirstReading) → fuel ≡ suc n → 0 < length ts → first_at context form places fuel p ts ≡ total → found_at context form places p.defined ts ≡ Err f → stopped p (Some f) ≡ total
unfolding first_at
first_stops context form places fuel n p f [] total e some so_far read = absurd (omega (arith, some))
first_stops context form places fuel n p f (t ∷ ts) total e some so_far read =
    let one : first_at context form places (suc n) p (t ∷ ts) ≡ stopped p (Some f) = ap (first_by context (first_at context form places n) p) read in
    sym one ∙ ap (λ m. first_at context form places m p (t ∷ ts)) (sym e) ∙ so_far

pub fails_at : {A : Type 0} (e : ReadError) (f : Fault) (read : Read A) → e ≡ errors.Fault f → Fails e read → read ≡ Err f
fails_at e f read is h = subst (λ d. Fails d read) is h

pub first_ends : (context : Context) (form : TextForm) (places : List Token) (fuel : ℕ) (p : Progress) (ts : List Tok) (total : FirstReading) → length ts ≡ 0 → first_at context form places fuel p ts ≡ total → stopped p (leftover ts) ≡ total
unfolding first_at
first_ends context form places zero p ts total none so_far = so_far
first_ends context form places (suc n) p [] total none so_far = so_far
first_ends context form places (suc n) p (t ∷ ts) total none so_far = absurd (omega (arith, none))

pub first_spent : (context : Context) (form : TextForm) (places : List Token) (fuel : ℕ) (p : Progress) (ts : List Tok) (total : FirstReading) → fuel ≡ 0 → first_at context form places fuel p ts ≡ total → stopped p (leftover ts) ≡ total
unfolding first_at
first_spent context form places fuel p ts total none so_far = ap (λ m. first_at context form places m p ts) (sym none) ∙ so_far

-- The further readings.

pub again_more : (context : Context) (form : TextForm) (places : List Token) (toks : List Tok) (d e : Draft) (f : Found) (fs : List Found) (total : Result Draft Fault) → all_again context form places toks d (f ∷ fs) ≡ total → again_at context form places toks d f ≡ Ok e → all_again context form places toks e fs ≡ total
again_more context form places toks d e f fs total so_far read = sym (ap (λ (r : Result Draft Fault). r >>= λ e. all_again context form places toks e fs) read) ∙ so_far

again_stops : (context : Context) (form : TextForm) (places : List Token) (toks : List Tok) (d : Draft) (f : Found) (fs : List Found) (g : Fault) (total : Result Draft Fault) → all_again context form places toks d (f ∷ fs) ≡ total → again_at context form places toks d f ≡ Err g → total ≡ Err g
again_stops context form places toks d f fs g total so_far read = sym so_far ∙ ap (λ (r : Result Draft Fault). r >>= λ e. all_again context form places toks e fs) read

pub again_fails : (context : Context) (form : TextForm) (places : List Token) (toks : List Tok) (d : Draft) (f : Found) (fs : List Found) (error : ReadError) (total : Result Draft Fault) → all_again context form places toks d (f ∷ fs) ≡ total → Fails error (again_at context form places toks d f) → Fails error total
again_fails context form places toks d f fs errors.Memory total so_far h = tt
again_fails context form places toks d f fs (errors.Fault g) total so_far h = again_stops context form places toks d f fs g total so_far h
