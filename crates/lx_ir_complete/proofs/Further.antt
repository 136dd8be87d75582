-- Statements that the grammar says are there are read again by a context that knows their names.
use Rattle.std.proofs.Common.{◌≡◌, ◌-◌, true, List, [], ◌∷◌, ◌++◌, length, Result, Ok, Err, refl, sym, ap, ◌∙◌, subst, append_assoc}
use Rattle.std.specs.Prelude.{if◌then◌else◌}
use Rattle.lx_words.specs.declared.token.Token.{Token}
use Rattle.lx_ir_tokens.specs.declared.token.Tok.{Tok}
use Rattle.lx_ir_terms.specs.declared.fault.Fault.{Fault}
use Rattle.lx_ir_terms.specs.Context.{Context}
use Rattle.lx_ir_terms.specs.Reading.{Read, ◌>>=◌}
use Rattle.lx_ir_terms.proofs.Parts.{ok_same}
use Rattle.lx_ir_calls.specs.declared.intrinsics.TextForm.{TextForm}
use Rattle.lx_ir_statements.specs.BlockLaws.{BodiesAreRead}
use Rattle.lx_ir_statements.specs.declared.form.Statement.{Statement}
use Rattle.lx_ir_statements.specs.declared.form.Statement.TheVariants as statements
use Rattle.lx_ir_statements.specs.Defined.{with_statement}
use Rattle.lx_ir_statements.specs.Statements.{statement_at}
use Rattle.lx_ir_statements.specs.Grammar.{IsStatement}
use Rattle.lx_ir_statements.specs.Laws.{may_follow, StatementsAreRead}
use Rattle.lx_ir_tables.specs.Numbering.{table_of, own_numbers}
use Rattle.lx_ir_lawful.specs.ForgottenLaws.{StatementsAreForgotten}
use Rattle.lx_ir_read.specs.declared.first.Found.{Found}
use Rattle.lx_ir_read.specs.declared.draft.Draft.{Draft}
use Rattle.lx_ir_read.specs.First.{unknown_context}
use Rattle.lx_ir_read.specs.Tables.{tokens_left}
use Rattle.lx_ir_read.specs.Again.{registers_in, with_registers, with_defined, kept, again_at, all_again}
use Rattle.lx_ir_read.specs.Fault.{line_shown}
use Rattle.lx_ir_read.specs.Grammar.{AreStatements, Adds, AddAll}
use Rattle.lx_ir_lawful.proofs.SizedTypes.{left_there}
use Rattle.lx_ir_complete.proofs.RoundTripFirsts.{defined_alike}
use Rattle.lx_ir_complete.proofs.Ends.{ended, ReadsAlike, statement_alike}
use Rattle.lx_ir_complete.proofs.Firsts.{follows}
use Rattle.lx_ir_complete.proofs.Again.{kept_defined}

-- What is kept of a statement defines no name that was not defined before it is kept.

-- what the last part is read as, where the whole is read so
ended_as : (last : Read (Unit {0})) (t s : Statement) (us : List Tok) → ended t last ≡ Ok (s, us) → (last ≡ Ok (tt, us)) × (t ≡ s)
ended_as (Ok x) t s us e = let k = ok_same t s x.1 us e in (ap (λ r. Ok (tt, r)) k.1, k.0)
ended_as (Err f) t s us e = cc

module _ (read : StatementsAreRead) (bodies : BodiesAreRead) (forget : StatementsAreForgotten) (form : TextForm) (places : List Token) (full : Context) (toks : List Tok) where
  abbrev u : Context
  u = unknown_context full.names

  -- the context by which a statement is read again that was found
  abbrev by : Found → Context
  by f = with_registers full (table_of (registers_in full.names f.statement))

  abbrev SameDraft : Result Draft Fault → Result Draft Fault → Type 0
  SameDraft a b = a ≡ b

  -- a statement that was found is read again, and defines the same names
  abbrev Again : Draft → Found → Draft → Type 0
  Again d f e = SameDraft (again_at full form places toks d f) (Ok e) × (with_statement u d.defined f.statement ≡ e.defined)

  again_by : (d e : Draft) (f : Found) (s : Statement) (ours behind back : List Tok) → ReadsAlike bodies forget form places (by f) (own_numbers 0 (length full.names)) d.defined s ours behind
      → statement_at u form places d.defined (ours ++ behind) ≡ Ok (f.statement, back) → tokens_left f.left toks ≡ ours ++ behind
      → kept full (registers_in full.names f.statement) (line_shown places f.left) (with_defined full d s) s ≡ e → Again d f e
  again_by d e f s ours behind back alike first there is =
      let last = ended_as alike.last alike.other f.statement back (sym alike.unknown ∙ first) in
      let known : statement_at (by f) form places d.defined (tokens_left f.left toks) ≡ Ok (s, back) =
      ap (statement_at (by f) form places d.defined) there ∙ alike.known ∙ ap (ended s) last.0 in
      let defines : with_statement full d.defined s ≡ with_statement u d.defined alike.other = defined_alike (by f) u u d.defined s alike.other refl alike.alike in (
        ap (λ (r : Read Statement). r >>= λ x. Ok (kept full (registers_in full.names f.statement) (line_shown places f.left) (with_defined full d x.0) x.0)) known ∙ ap (λ x. Ok x) is,
        sym (ap (with_statement u d.defined) last.1) ∙ sym defines
            ∙ sym (kept_defined full (registers_in full.names f.statement) (line_shown places f.left) (with_defined full d s) s) ∙ ap (λ (x : Draft). x.defined) is,
      )

  again_one : (d e : Draft) (f : Found) (before ts front back : List Tok) → f.left ≡ length ts → IsStatement u form places d.defined f.statement front back → may_follow back ≡ true → ts ≡ front ++ back → toks ≡ before ++ ts → Adds full form places toks d f e → Again d f e
  again_one d e f before ts front back left is follow w place (s, ours, behind, it, there, k) =
      let here : tokens_left f.left toks ≡ front ++ back = left_there before ts toks f.left left place ∙ w in
      let first : statement_at u form places d.defined (ours ++ behind) ≡ Ok (f.statement, back) =
      ap (statement_at u form places d.defined) (sym there ∙ here) ∙ read u form places d.defined f.statement front back follow is in
      again_by d e f s ours behind back (statement_alike bodies forget form places (by f) (own_numbers 0 (length full.names)) d.defined s ours behind it) first there k

  pub again_all : (fs : List Found) (d e : Draft) (before ts : List Tok) → AreStatements u form places d.defined fs ts → toks ≡ before ++ ts → AddAll full form places toks d fs e → SameDraft (all_again full form places toks d fs) (Ok e)
  again_all [] d e before ts falls place says = ap (λ x. Ok x) says
  again_all (f ∷ fs) d e before ts (front, back, left, is, more, w) place (m, one, rest) =
      let a = again_one d m f before ts front back left is (follows u form places (with_statement u d.defined f.statement) fs back more) w place one in
      let next : toks ≡ (before ++ front) ++ back = place ∙ ap (λ v. before ++ v) w ∙ sym (append_assoc before front back) in
      ap (λ (r : Result Draft Fault). r >>= λ x. all_again full form places toks x fs) a.0
      ∙ again_all fs m e (before ++ front) back (subst (λ x. AreStatements u form places x fs back) a.1 more) next rest
