-- Statements that were found are read again by a context that knows all names.
use Rattle.std.proofs.Common.{◌≡◌, ◌⊎◌, inl, inr, ℕ, zero, suc, ◌+◌, ◌-◌, ◌<◌, ◌≤◌, Bool, true, false, List, [], ◌∷◌, ◌++◌, length, Result, Ok, Err, refl, sym, ap, ◌∙◌, subst, Option, Some, None, append_assoc}
use Rattle.std.specs.Prelude.{if◌then◌else◌}
use Rattle.std.specs.List.{AllZip, AllByRecursion}
use Rattle.std.proofs.lemmas.List.{append-nil}
use Rattle.lx_words.specs.declared.token.Token.{Token}
use Rattle.lx_ir.specs.declared.module.Function.{Function}
use Rattle.lx_ir_tokens.specs.declared.token.Tok.{Tok}
use Rattle.lx_ir_terms.specs.declared.fault.Fault.{Fault}
use Rattle.lx_ir_terms.specs.Context.{Context, bytes_of}
use Rattle.lx_ir_terms.specs.Reading.{Read, ◌>>=◌}
use Rattle.lx_ir_calls.specs.declared.intrinsics.TextForm.{TextForm}
use Rattle.lx_ir_statements.specs.declared.form.Statement.{Statement}
use Rattle.lx_ir_statements.specs.declared.form.Statement.TheVariants as statements
use Rattle.lx_ir_statements.specs.declared.defined.Defined.{Defined}
use Rattle.lx_ir_statements.specs.Defined.{with_symbol, with_statement, is_block_write}
use Rattle.lx_ir_statements.specs.Statements.{statement_at}
use Rattle.lx_ir_statements.specs.Grammar.{IsStatement}
use Rattle.lx_ir_statements.specs.Laws.{may_follow, StatementsAreRead}
use Rattle.lx_ir_tables.specs.Numbering.{Numbering, table_of}
use Rattle.lx_ir_complete.specs.Statements.{Own}
use Rattle.lx_ir_read.specs.declared.first.Found.{Found}
use Rattle.lx_ir_read.specs.declared.draft.Draft.{Draft}
use Rattle.lx_ir_read.specs.Tables.{tokens_left}
use Rattle.lx_ir_read.specs.Again.{registers_in, with_registers, kept, import_of, with_declared, with_defined, again_at, all_again}
use Rattle.lx_ir_read.specs.Fault.{line_shown}
use Rattle.lx_ir_lawful.proofs.SizedTypes.{left_there}
use Rattle.lx_ir_complete.specs.First.{AreFound}
use Rattle.lx_ir_complete.proofs.RoundTripFirsts.{statement_begins, begins_longer, written_same}

-- What is behind a statement.
pub found_follows : (form : TextForm) (places : List Token) (names : List (List ℕ)) (defined : Defined) (ss : List Own) (fs : List Found) (ts : List Tok) → AreFound form places names defined ss fs ts → may_follow ts ≡ true
found_follows form places names defined [] [] ts e = subst (λ v. may_follow v ≡ true) (sym e) refl
found_follows form places names defined [] (f ∷ fs) ts e = absurd e
found_follows form places names defined (s ∷ ss) [] ts e = absurd e
found_follows form places names defined (s ∷ ss) (f ∷ fs) ts (front, back, is, alike, left, more, w) =
    let b = begins_longer front back ts (statement_begins s.context form places defined s.statement front back is) w in
    subst (λ v. may_follow v ≡ true) (sym b.3) b.2

-- What is defined.

pub defined_if : (b : Bool) (d e : Draft) → d.defined ≡ e.defined → (if b then d else e).defined ≡ d.defined
defined_if true d e same = refl
defined_if false d e same = sym same

pub kept_defined : (c : Context) (registers : Numbering) (line : ℕ) (d : Draft) (s : Statement) → (kept c registers line d s).defined ≡ d.defined
kept_defined c registers line d (statements.Type n t) = refl
kept_defined c registers line d (statements.Global n a t i) = refl
kept_defined c registers line d (statements.Import n r ps) = defined_if (is_block_write c n) d (with_declared d (import_of (bytes_of c n) r ps line)) refl
kept_defined c registers line d (statements.Function n r ps bs) = refl

names_defined : (c d : Context) (defined : Defined) (s : Statement) → c.names ≡ d.names → with_statement c defined s ≡ with_statement d defined s
names_defined c d defined (statements.Type n t) e = refl
names_defined c d defined (statements.Global n a t i) e = refl
names_defined c d defined (statements.Import n r ps) e = ap (λ b. if b then defined else with_symbol defined n) (written_same c d n e)
names_defined c d defined (statements.Function n r ps bs) e = refl

module _ (places : List Token) (full : Context) where
  abbrev pub registers_at : Found → Numbering
  registers_at f = registers_in full.names f.statement

  -- the statement's context is the one by which it is read again
  abbrev pub IsAgain : Own → Found → Type 0
  IsAgain s f = s.context ≡ with_registers full (table_of (registers_at f))

  -- the draft with a statement that was found, and with some
  abbrev pub next : Draft → Own → Found → Draft
  next d s f = kept full (registers_at f) (line_shown places f.left) (with_defined full d s.statement) s.statement

  abbrev pub adds : Draft → List Own → List Found → Draft
  adds d (s ∷ ss) (f ∷ fs) = adds (next d s f) ss fs
  adds d _ _ = d

module _ (read : StatementsAreRead) (form : TextForm) (places : List Token) (full : Context) (toks : List Tok) where
  abbrev SameDraft : Result Draft Fault → Result Draft Fault → Type 0
  SameDraft a b = a ≡ b

  again_one : (d : Draft) (s : Own) (f : Found) (before front back : List Tok) → IsAgain places full s f → IsStatement s.context form places d.defined s.statement front back → may_follow back ≡ true → f.left ≡ length (front ++ back) → toks ≡ before ++ (front ++ back)
      → SameDraft (again_at full form places toks d f) (Ok (next places full d s f))
  again_one d s f before front back again is follow left w =
      let there = left_there before (front ++ back) toks f.left left w in
      let it : statement_at (with_registers full (table_of (registers_at places full f))) form places d.defined (tokens_left f.left toks) ≡ Ok (s.statement, back) =
      ap (λ c. statement_at c form places d.defined (tokens_left f.left toks)) (sym again) ∙ ap (statement_at s.context form places d.defined) there ∙ read s.context form places d.defined s.statement front back follow is in
      ap (λ (r : Read Statement). r >>= λ x. Ok (kept full (registers_at places full f) (line_shown places f.left) (with_defined full d x.0) x.0)) it

  pub again_all : (ss : List Own) (fs : List Found) (d : Draft) (before ts : List Tok) → AllZip (IsAgain places full) ss fs → AreFound form places full.names d.defined ss fs ts → toks ≡ before ++ ts
      → SameDraft (all_again full form places toks d fs) (Ok (adds places full d ss fs))
  again_all [] [] d before ts again are w = refl
  again_all [] (f ∷ fs) d before ts again are w = absurd again
  again_all (s ∷ ss) [] d before ts again are w = absurd again
  again_all (s ∷ ss) (f ∷ fs) d before ts again (front, back, is, alike, left, more, e) w =
      let there : toks ≡ before ++ (front ++ back) = w ∙ ap (λ v. before ++ v) e in
      let one = again_one d s f before front back again.0 is (found_follows form places full.names (with_statement s.context d.defined s.statement) ss fs back more) (left ∙ ap length e) there in
      let named : full.names ≡ s.context.names = sym (ap (λ (c : Context). c.names) again.0) in
      let defined : with_statement s.context d.defined s.statement ≡ (next places full d s f).defined =
      sym (kept_defined full (registers_at places full f) (line_shown places f.left) (with_defined full d s.statement) s.statement ∙ names_defined full s.context d.defined s.statement named) in
      let rest =
      again_all ss fs (next places full d s f) (before ++ front) back again.1 (subst (λ x. AreFound form places full.names x ss fs back) defined more) (there ∙ sym (append_assoc before front back)) in
      ap (λ (r : Result Draft Fault). r >>= λ x. all_again full form places toks x fs) one ∙ rest
