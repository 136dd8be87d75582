-- The first reading finds the statements that the grammar says are there.
use Rattle.std.proofs.Common.{◌≡◌, ℕ, zero, suc, ◌+◌, ◌≤◌, true, List, [], ◌∷◌, ◌++◌, length, Ok, refl, sym, ap, ◌∙◌, subst, arith, None, append_assoc}
use Rattle.std.proofs.lemmas.List.{append-nil, length-append}
use Rattle.lx_words.specs.declared.token.Token.{Token}
use Rattle.lx_ir_tokens.specs.declared.token.Tok.{Tok}
use Rattle.lx_ir_terms.specs.Context.{Context}
use Rattle.lx_ir_terms.specs.Reading.{Read, ◌>>=◌}
use Rattle.lx_ir_calls.specs.declared.intrinsics.TextForm.{TextForm}
use Rattle.lx_ir_statements.specs.declared.form.Statement.{Statement}
use Rattle.lx_ir_statements.specs.declared.defined.Defined.{Defined}
use Rattle.lx_ir_statements.specs.Defined.{with_statement}
use Rattle.lx_ir_statements.specs.Statements.{statement_at}
use Rattle.lx_ir_statements.specs.Grammar.{IsStatement}
use Rattle.lx_ir_statements.specs.Laws.{may_follow, StatementsAreRead}
use Rattle.lx_ir_read.specs.declared.first.Found.{Found}
use Rattle.lx_ir_read.specs.declared.first.Progress.{Progress}
use Rattle.lx_ir_read.specs.declared.first.FirstReading.{FirstReading}
use Rattle.lx_ir_read.specs.First.{found, with_found, first_by, first_at}
use Rattle.lx_ir_read.specs.Grammar.{AreStatements}
use Rattle.lx_ir_complete.proofs.RoundTripFirsts.{statement_begins, begins_longer}

-- Behind a statement of a module the next begins, or the text ends.
pub follows : (c : Context) (form : TextForm) (places : List Token) (defined : Defined) (fs : List Found) (ts : List Tok) → AreStatements c form places defined fs ts → may_follow ts ≡ true
follows c form places defined [] ts e = subst (λ v. may_follow v ≡ true) (sym e) refl
follows c form places defined (f ∷ fs) ts (front, back, left, is, more, w) =
    let b = begins_longer front back ts (statement_begins c form places defined f.statement front back is) w in
    subst (λ v. may_follow v ≡ true) (sym b.3) b.2

module _ (read : StatementsAreRead) (c : Context) (form : TextForm) (places : List Token) where
  abbrev ends_with : List Found → FirstReading
  ends_with fs = record { statements = fs; fault = None }

  abbrev after : Progress → List Found → FirstReading
  after p fs = ends_with (p.statements ++ fs)

  nothing_found : (fuel : ℕ) (p : Progress) → first_at c form places fuel p [] ≡ after p []
  unfolding first_at
  nothing_found zero p = ap ends_with (sym (append-nil p.statements))
  nothing_found (suc n) p = ap ends_with (sym (append-nil p.statements))

  one_found : (n : ℕ) (p : Progress) (t : Tok) (rest : List Tok) (s : Statement) (back : List Tok) → statement_at c form places p.defined (t ∷ rest) ≡ Ok (s, back)
      → first_at c form places (suc n) p (t ∷ rest) ≡ first_at c form places n (with_found c p (found (length (t ∷ rest)) s)) back
  unfolding first_at
  one_found n p t rest s back e = ap (λ (r : Read Statement). first_by c (first_at c form places n) p (r >>= λ x. Ok (found (length (t ∷ rest)) x.0, x.1))) e

  one_more : (f : Found) (fs : List Found) (p : Progress) (ts front back : List Tok) → f.left ≡ length ts → IsStatement c form places p.defined f.statement front back → AreStatements c form places (with_statement c p.defined f.statement) fs back → ts ≡ front ++ back
      → (fuel : ℕ) → length ts ≤ fuel → ((n : ℕ) → length back ≤ n → first_at c form places n (with_found c p f) back ≡ after (with_found c p f) fs) → first_at c form places fuel p ts ≡ after p (f ∷ fs)
  one_more f fs p ts front back left is more w zero le again =
      let begun = begins_longer front back ts (statement_begins c form places p.defined f.statement front back is) w in
      let count : length ts ≡ suc (length begun.1) = ap length begun.3 in
      absurd (omega (arith, count, le))
  one_more f fs p ts front back left is more w (suc n) le again =
      let begun = statement_begins c form places p.defined f.statement front back is in
      let whole : ts ≡ begun.0 ∷ (begun.1 ++ back) = w ∙ ap (λ v. v ++ back) begun.3 in
      let reads : statement_at c form places p.defined (begun.0 ∷ (begun.1 ++ back)) ≡ Ok (f.statement, back) =
      ap (statement_at c form places p.defined) (sym (ap (λ v. v ++ back) begun.3)) ∙ read c form places p.defined f.statement front back (follows c form places (with_statement c p.defined f.statement) fs back more) is in
      let it : found (length (begun.0 ∷ (begun.1 ++ back))) f.statement ≡ f = ap (λ n. found n f.statement) (ap length (sym whole) ∙ sym left) in
      let count : length ts ≡ suc (length begun.1 + length back) = ap length whole ∙ ap suc (length-append begun.1 back) in
      let shorter : length back ≤ n = omega (arith, count, le) in
      ap (first_at c form places (suc n) p) whole
      ∙ one_found n p begun.0 (begun.1 ++ back) f.statement back reads
      ∙ ap (λ g. first_at c form places n (with_found c p g) back) it
      ∙ again n shorter
      ∙ ap ends_with (append_assoc p.statements (f ∷ []) fs)

  pub firsts : (fs : List Found) (fuel : ℕ) (p : Progress) (ts : List Tok) → length ts ≤ fuel → AreStatements c form places p.defined fs ts → first_at c form places fuel p ts ≡ after p fs
  firsts [] fuel p ts le e = subst (λ v. first_at c form places fuel p v ≡ after p []) (sym e) (nothing_found fuel p)
  firsts (f ∷ fs) fuel p ts le (front, back, left, is, more, w) =
      one_more f fs p ts front back left is more w fuel le (λ n less. firsts fs n (with_found c p f) back less more)
