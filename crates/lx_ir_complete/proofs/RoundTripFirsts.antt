-- The first reading of statements that are in the grammar by contexts that know their names.
use Rattle.std.proofs.Common.{◌≡◌, ◌⊎◌, inl, inr, ℕ, zero, suc, ◌+◌, ◌<◌, ◌≤◌, Bool, true, false, List, [], ◌∷◌, ◌++◌, length, Result, Ok, Err, refl, sym, ap, ◌∙◌, subst, arith, Option, Some, None, append_assoc}
use Rattle.std.specs.Prelude.{if◌then◌else◌, is_some, slice_get, unwrap_or}
use Rattle.std.specs.List.{AllByRecursion}
use Rattle.std.proofs.lemmas.List.{append-nil, length-append}
use Rattle.lx_words.specs.declared.token.Token.{Token}
use Rattle.lx_ir_tokens.specs.declared.token.Tok.{Tok}
use Rattle.lx_ir_tokens.specs.declared.token.Kind.{Kind}
use Rattle.lx_ir_tokens.specs.declared.token.Kind.TheVariants as kinds
use Rattle.lx_ir_tokens.specs.declared.keyword.StatementWord.TheVariants as words
use Rattle.lx_ir_tokens.specs.declared.keyword.Keyword.TheVariants as keywords
use Rattle.lx_ir_terms.specs.declared.fault.Fault.{Fault}
use Rattle.lx_ir_terms.specs.Context.{Context, bytes_of}
use Rattle.lx_ir_terms.specs.Reading.{Read, ◌>>=◌}
use Rattle.lx_ir_calls.specs.declared.intrinsics.TextForm.{TextForm}
use Rattle.lx_ir_calls.specs.Writes.{block_write_named}
use Rattle.lx_ir_statements.specs.Parameters.{local_name}
use Rattle.lx_ir_statements.specs.declared.form.Statement.{Statement}
use Rattle.lx_ir_statements.specs.declared.form.Statement.TheVariants as statements
use Rattle.lx_ir_statements.specs.declared.defined.Defined.{Defined}
use Rattle.lx_ir_statements.specs.Defined.{with_type, with_symbol, with_statement, is_block_write}
use Rattle.lx_ir_statements.specs.Statements.{symbol_name, statement_at}
use Rattle.lx_ir_statements.specs.Grammar.{is_declare_word, is_define_word, IsStatement}
use Rattle.lx_ir_statements.specs.Laws.{begins_statement, may_follow, StatementsAreRead}
use Rattle.lx_ir_tables.specs.Numbering.{own_numbers}
use Rattle.lx_ir_lawful.specs.Alike.{knowing_registers, AlikeStatements}
use Rattle.lx_ir_lawful.specs.ForgottenLaws.{StatementsAreForgotten}
use Rattle.lx_ir_complete.specs.Statements.{Own, AreStatements}
use Rattle.lx_ir_read.specs.declared.first.Found.{Found}
use Rattle.lx_ir_read.specs.declared.first.Progress.{Progress}
use Rattle.lx_ir_read.specs.declared.first.FirstReading.{FirstReading}
use Rattle.lx_ir_read.specs.First.{found, with_found, found_at, stopped, first_by, first_at}
use Rattle.lx_ir_complete.specs.KnownLaws.{unknown}
use Rattle.lx_ir_complete.specs.First.{AreFound}

-- First tokens.

local_begins : (k : Kind) (n name : ℕ) → local_name k n ≡ Some name → begins_statement k ≡ true
local_begins kinds.Local n name e = refl
local_begins k n name e = cc

symbol_begins : (k : Kind) (n name : ℕ) → symbol_name k n ≡ Some name → begins_statement k ≡ true
symbol_begins kinds.Global n name e = refl
symbol_begins k n name e = cc

declare_begins : (k : Kind) → is_declare_word k ≡ true → begins_statement k ≡ true
declare_begins (kinds.Word (keywords.Statement words.Declare)) e = refl
declare_begins k e = cc

define_begins : (k : Kind) → is_define_word k ≡ true → begins_statement k ≡ true
define_begins (kinds.Word (keywords.Statement words.Define)) e = refl
define_begins k e = cc

-- a statement begins with a token that begins one
abbrev pub Begins : List Tok → Type 0
Begins ts = (t : Tok) × (rest : List Tok) × (begins_statement t.kind ≡ true) × (ts ≡ t ∷ rest)

begins_with : (t : Tok) (f b ts : List Tok) → begins_statement t.kind ≡ true → f ≡ t ∷ [] → ts ≡ f ++ b → Begins ts
begins_with t f b ts k e w = (t, b, k, w ∙ ap (λ v. v ++ b) e)

pub begins_longer : (f b ts : List Tok) → Begins f → ts ≡ f ++ b → Begins ts
begins_longer f b ts (t, rest, k, e) w = (t, rest ++ b, k, w ∙ ap (λ v. v ++ b) e)

pub statement_begins : (c : Context) (form : TextForm) (places : List Token) (defined : Defined) (s : Statement) (ts us : List Tok) → IsStatement c form places defined s ts us → Begins ts
statement_begins c form places defined (statements.Type name ty) ts us (fresh, (f, b, (t, k, local, ty_name, w3), rest, w)) =
    begins_with t f b ts (local_begins t.kind t.name name local) w3 w
statement_begins c form places defined (statements.Global name constant ty init) ts us (fresh, (f, b, (t, e, w3), rest, w)) =
    begins_with t f b ts (symbol_begins t.kind t.name name e) w3 w
statement_begins c form places defined (statements.Import name ret params) ts us (fresh, (f, b, (t, e, w3), rest, w)) =
    begins_with t f b ts (declare_begins t.kind e) w3 w
statement_begins c form places defined (statements.Function name ret params blocks) ts us (fresh, plain, (head, front, back, (f, b, (t, e, w3), rest, w), body, same, whole)) =
    begins_longer front back ts (begins_with t f b front (define_begins t.kind e) w3 w) whole

pub follows : (form : TextForm) (places : List Token) (defined : Defined) (ss : List Own) (ts : List Tok) → AreStatements form places defined ss ts → may_follow ts ≡ true
follows form places defined [] ts e = subst (λ v. may_follow v ≡ true) (sym e) refl
follows form places defined (s ∷ ss) ts (front, back, is, rest, w) =
    let b = begins_longer front back ts (statement_begins s.context form places defined s.statement front back is) w in
    subst (λ v. may_follow v ≡ true) (sym b.3) b.2

-- What statements define.

pub written_same : (c d : Context) (n : ℕ) → c.names ≡ d.names → is_block_write c n ≡ is_block_write d n
written_same c d n e = ap (λ (v : List (List ℕ)). is_some (block_write_named (unwrap_or (slice_get v n) []))) e

import_same : (c d : Context) (defined : Defined) (n k : ℕ) → c.names ≡ d.names → n ≡ k → (if is_block_write c n then defined else with_symbol defined n) ≡ (if is_block_write d k then defined else with_symbol defined k)
import_same c d defined n k e same =
    ap (λ b. if b then defined else with_symbol defined n) (written_same c d n e) ∙ ap (λ x. if is_block_write d x then defined else with_symbol defined x) same

pub defined_alike : (c d e : Context) (defined : Defined) (s t : Statement) → c.names ≡ d.names → AlikeStatements c e s t → with_statement c defined s ≡ with_statement d defined t
defined_alike c d e defined (statements.Type n t) (statements.Type k u) names same = ap (with_type defined) same
defined_alike c d e defined (statements.Global n a t i) (statements.Global k b u j) names same = ap (with_symbol defined) same.0
defined_alike c d e defined (statements.Import n r ps) (statements.Import k s qs) names same = import_same c d defined n k names same.0
defined_alike c d e defined (statements.Function n r ps bs) (statements.Function k s qs ds) names same = ap (with_symbol defined) same.0
defined_alike c d e defined s t names same = absurd same

-- The first reading.

module _ (read : StatementsAreRead) (forget : StatementsAreForgotten) (form : TextForm) (places : List Token) (names : List (List ℕ)) where
  abbrev u : Context
  u = unknown names

  forgotten_by : (c : Context) (defined : Defined) (s : Statement) (ts us : List Tok) → c.names ≡ names → IsStatement c form places defined s ts us → (t : Statement) × IsStatement u form places defined t ts us × AlikeStatements c u s t
  forgotten_by c defined s ts us e is =
      subst (λ (ns : List (List ℕ)). (t : Statement) × IsStatement (knowing_registers ns (own_numbers 0 (length names))) form places defined t ts us × AlikeStatements c (knowing_registers ns (own_numbers 0 (length names))) s t) e
      (forget c (own_numbers 0 (length names)) form places defined s ts us is)

  abbrev ends_with : List Found → FirstReading
  ends_with fs = record { statements = fs; fault = None }

  abbrev after : Progress → List Found → FirstReading
  after p fs = ends_with (p.statements ++ fs)

  nothing_found : (fuel : ℕ) (p : Progress) → first_at u form places fuel p [] ≡ after p []
  unfolding first_at
  nothing_found zero p = ap ends_with (sym (append-nil p.statements))
  nothing_found (suc n) p = ap ends_with (sym (append-nil p.statements))

  one_found : (n : ℕ) (p : Progress) (t : Tok) (rest : List Tok) (s : Statement) (back : List Tok) → statement_at u form places p.defined (t ∷ rest) ≡ Ok (s, back)
      → first_at u form places (suc n) p (t ∷ rest) ≡ first_at u form places n (with_found u p (found (length (t ∷ rest)) s)) back
  unfolding first_at
  one_found n p t rest s back e = ap (λ (r : Read Statement). first_by u (first_at u form places n) p (r >>= λ x. Ok (found (length (t ∷ rest)) x.0, x.1))) e

  abbrev Firsts : ℕ → Progress → List Own → List Tok → Type 0
  Firsts fuel p ss ts = (fs : List Found) × AreFound form places names p.defined ss fs ts × (first_at u form places fuel p ts ≡ after p fs)

  -- one statement, and those behind it
  one_more : (s : Own) (ss : List Own) (p : Progress) (ts front back : List Tok) → s.context.names ≡ names → IsStatement s.context form places p.defined s.statement front back → AreStatements form places (with_statement s.context p.defined s.statement) ss back → ts ≡ front ++ back
      → (fuel : ℕ) → length ts ≤ fuel → ((n : ℕ) (q : Progress) → length back ≤ n → AreStatements form places q.defined ss back → Firsts n q ss back) → Firsts fuel p (s ∷ ss) ts
  one_more s ss p ts front back named is rest w zero le again =
      let begun = begins_longer front back ts (statement_begins s.context form places p.defined s.statement front back is) w in
      let count : length ts ≡ suc (length begun.1) = ap length begun.3 in
      absurd (omega (arith, count, le))
  one_more s ss p ts front back named is rest w (suc n) le again =
      let begun = statement_begins s.context form places p.defined s.statement front back is in
      let whole : ts ≡ begun.0 ∷ (begun.1 ++ back) = w ∙ ap (λ v. v ++ back) begun.3 in
      let forgotten = forgotten_by s.context p.defined s.statement front back named is in
      let reads : statement_at u form places p.defined (begun.0 ∷ (begun.1 ++ back)) ≡ Ok (forgotten.0, back) =
      ap (statement_at u form places p.defined) (sym (ap (λ v. v ++ back) begun.3)) ∙ read u form places p.defined forgotten.0 front back (follows form places (with_statement s.context p.defined s.statement) ss back rest) forgotten.1 in
      let it : Found = found (length (begun.0 ∷ (begun.1 ++ back))) forgotten.0 in
      let same : with_statement s.context p.defined s.statement ≡ with_statement u p.defined forgotten.0 = defined_alike s.context u u p.defined s.statement forgotten.0 named forgotten.2 in
      let count : length ts ≡ suc (length begun.1 + length back) = ap length whole ∙ ap suc (length-append begun.1 back) in
      let shorter : length back ≤ n = omega (arith, count, le) in
      let more = again n (with_found u p it) shorter (subst (λ x. AreStatements form places x ss back) same rest) in
      let one : first_at u form places (suc n) p ts ≡ first_at u form places n (with_found u p it) back = ap (first_at u form places (suc n) p) whole ∙ one_found n p begun.0 (begun.1 ++ back) forgotten.0 back reads in (
        it ∷ more.0,
        (front, back, is, forgotten.2, ap length (sym whole), subst (λ x. AreFound form places names x ss more.0 back) (sym same) more.1, w),
        one ∙ more.2 ∙ ap ends_with (append_assoc p.statements (it ∷ []) more.0),
      )

  pub firsts : (ss : List Own) → AllByRecursion (λ s. s.context.names ≡ names) ss → (fuel : ℕ) (p : Progress) (ts : List Tok) → length ts ≤ fuel → AreStatements form places p.defined ss ts → Firsts fuel p ss ts
  firsts [] all fuel p ts le e = ([], e, subst (λ v. first_at u form places fuel p v ≡ after p []) (sym e) (nothing_found fuel p))
  firsts (s ∷ ss) all fuel p ts le (front, back, is, rest, w) = one_more s ss p ts front back all.0 is rest w fuel le (λ n q less are. firsts ss all.1 n q back less are)
