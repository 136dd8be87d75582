-- A text says one module, and that is one of the grammar.
use Rattle.std.proofs.Common.{◌≡◌, ℕ, zero, suc, ◌<◌, ◌≤◌, Bool, true, false, Option, Some, None, List, [], ◌∷◌, ◌++◌, length, Result, Ok, Err, refl, sym, ap, ◌∙◌, subst, append_assoc, arith}
use Rattle.std.proofs.lemmas.List.{append-nil}
use Rattle.lx_words.specs.declared.token.Token.{Token}
use Rattle.lx_words.specs.declared.token.Stop.{Stop}
use Rattle.lx_ir_tokens.specs.declared.token.Tok.{Tok}
use Rattle.lx_ir_tokens.specs.declared.read.IrTokens.{IrTokens}
use Rattle.lx_ir_tokens.specs.Reading.{ReadsAs, Readings}
use Rattle.lx_ir.specs.declared.module.Module.{Module}
use Rattle.lx_ir_terms.specs.declared.fault.Fault.{Fault}
use Rattle.lx_ir_terms.specs.Context.{Context}
use Rattle.lx_ir_terms.specs.Reading.{Read, ◌>>=◌}
use Rattle.lx_ir_terms.proofs.Parts as parts
use Rattle.lx_ir_calls.specs.declared.intrinsics.TextForm.{TextForm}
use Rattle.lx_ir_statements.specs.declared.form.Statement.{Statement}
use Rattle.lx_ir_statements.specs.declared.defined.Defined.{Defined}
use Rattle.lx_ir_statements.specs.Defined.{nothing_defined, with_statement}
use Rattle.lx_ir_statements.specs.Statements.{statement_at}
use Rattle.lx_ir_statements.specs.Grammar.{IsStatement}
use Rattle.lx_ir_statements.specs.Laws.{StatementsAreFound}
use Rattle.lx_ir_tables.specs.Numbering.{table_of}
use Rattle.lx_ir_read.specs.declared.first.Found.{Found}
use Rattle.lx_ir_read.specs.declared.first.Progress.{Progress}
use Rattle.lx_ir_read.specs.declared.first.FirstReading.{FirstReading}
use Rattle.lx_ir_read.specs.declared.draft.Draft.{Draft}
use Rattle.lx_ir_read.specs.declared.fault.ReadFault.{ReadFault}
use Rattle.lx_ir_read.specs.declared.fault.TextFault.{TextFault}
use Rattle.lx_ir_read.specs.First.{unknown_context, found, with_found, found_at, stopped, leftover, first_by, first_at, first_reading, no_progress}
use Rattle.lx_ir_read.specs.Tables.{tokens_left}
use Rattle.lx_ir_read.specs.Again.{no_draft, registers_in, with_registers, with_defined, kept, again_at, all_again, module_of}
use Rattle.lx_ir_read.specs.Fault.{line_shown, shown}
use Rattle.lx_ir_read.specs.Reading.{first_early, left_at, first_of, early_context, front_fault, tables_of, full_context, told, ◌and_then◌, module_by_tables, module_found, unless_faulty, module_by, module_at, SaysModule, FirstFault}
use Rattle.lx_ir_read.specs.Grammar.{AreStatements, Adds, AddAll, IsModule}

-- One module, or one fault.

ok_same : {A E : Type 0} (a b : A) (r : Result A E) → r ≡ Ok a → r ≡ Ok b → a ≡ b
ok_same a b (Ok x) e f = let p : x ≡ a = cc in let q : x ≡ b = cc in sym p ∙ q
ok_same a b (Err x) e f = cc

err_same : {A E : Type 0} (a b : E) (r : Result A E) → r ≡ Err a → r ≡ Err b → a ≡ b
err_same a b (Ok x) e f = cc
err_same a b (Err x) e f = let p : x ≡ a = cc in let q : x ≡ b = cc in sym p ∙ q

apart : {A E : Type 0} (a : A) (b : E) (r : Result A E) → r ≡ Ok a → r ≡ Err b → ⊥
apart a b (Ok x) e f = cc
apart a b (Err x) e f = cc

pub one_module : ((text : List ℕ) → Readings text) → (form : TextForm) (text : List ℕ) (a b : Module) → SaysModule form text a → SaysModule form text b → a ≡ b
one_module readings form text a b (ir, r, e) (jr, s, f) =
    let same : ir ≡ jr = (readings text).one ir jr r s in
    ok_same a b (module_at form jr) (ap (module_at form) (sym same) ∙ e) f

pub one_fault : ((text : List ℕ) → Readings text) → (form : TextForm) (text : List ℕ) (e f : ReadFault) → FirstFault form text e → FirstFault form text f → e ≡ f
one_fault readings form text e f (ir, g, r, a, x) (jr, h, s, b, y) =
    let same : ir ≡ jr = (readings text).one ir jr r s in
    let k : g ≡ h = err_same g h (module_at form jr) (ap (module_at form) (sym same) ∙ a) b in
    x ∙ ap (λ i. shown text i g) same ∙ ap (shown text jr) k ∙ sym y

pub not_both : ((text : List ℕ) → Readings text) → (form : TextForm) (text : List ℕ) (m : Module) (f : ReadFault) → SaysModule form text m → FirstFault form text f → ⊥
not_both readings form text m f (ir, r, e) (jr, h, s, b, y) =
    let same : ir ≡ jr = (readings text).one ir jr r s in
    apart m h (module_at form jr) (ap (module_at form) (sym same) ∙ e) b

-- The first reading.

nothing_left : (ts : List Tok) → leftover ts ≡ None → ts ≡ []
nothing_left [] e = refl
nothing_left (t ∷ ts) e = cc

-- what was read from here on
abbrev Falls : Context → TextForm → List Token → Progress → List Tok → FirstReading → Type 0
Falls context form places p ts r = (fs : List Found) × (r.statements ≡ p.statements ++ fs) × AreStatements context form places p.defined fs ts

abbrev found_in : ℕ → Read Statement → Read Found
found_in n q = q >>= λ s. Ok (found n s.0, s.1)

found_is : (q : Read Statement) (n : ℕ) (f : Found) (us : List Tok) → found_in n q ≡ Ok (f, us) → (s : Statement) × (q ≡ Ok (s, us)) × (f ≡ found n s)
found_is (Ok s) n f us e = let k = parts.ok_same (found n s.0) f s.1 us e in (s.0, ap (λ r. Ok (s.0, r)) k.1, sym k.0)
found_is (Err d) n f us e = cc

no_more : (context : Context) (form : TextForm) (places : List Token) (p : Progress) (ts : List Tok) (r : FirstReading) → stopped p None ≡ r → ts ≡ [] → Falls context form places p ts r
no_more context form places p ts r e none = ([], ap (λ (q : FirstReading). q.statements) (sym e) ∙ sym (append-nil p.statements), none)

falls_step : StatementsAreFound → (context : Context) (form : TextForm) (places : List Token) (n : ℕ) (p : Progress) (t : Tok) (ts : List Tok) (r : FirstReading) (q : Read Found)
    → ((o : Progress) (us : List Tok) → first_at context form places n o us ≡ r → Falls context form places o us r)
    → found_at context form places p.defined (t ∷ ts) ≡ q → first_by context (first_at context form places n) p q ≡ r → r.fault ≡ None → Falls context form places p (t ∷ ts) r
falls_step law context form places n p t ts r (Ok f) again w e none =
    let s = found_is (statement_at context form places p.defined (t ∷ ts)) (length (t ∷ ts)) f.0 f.1 w in
    let g : Found = found (length (t ∷ ts)) s.0 in
    let more = again (with_found context p g) f.1 (ap (λ h. first_at context form places n (with_found context p h) f.1) (sym s.2) ∙ e) in
    let l = law context form places p.defined (t ∷ ts) f.1 s.0 s.1 in
    (g ∷ more.0, more.1 ∙ append_assoc p.statements (g ∷ []) more.0, (l.0, f.1, refl, l.1, more.2, l.2))
falls_step law context form places n p t ts r (Err f) again w e none =
    let h : Some f ≡ None = ap (λ (q : FirstReading). q.fault) e ∙ none in
    cc

falls : StatementsAreFound → (context : Context) (form : TextForm) (places : List Token) (fuel : ℕ) (p : Progress) (ts : List Tok) (r : FirstReading) → first_at context form places fuel p ts ≡ r → r.fault ≡ None → Falls context form places p ts r
unfolding first_at
falls law context form places zero p ts r e none =
    let k : leftover ts ≡ None = ap (λ (q : FirstReading). q.fault) e ∙ none in
    no_more context form places p ts r (ap (stopped p) (sym k) ∙ e) (nothing_left ts k)
falls law context form places (suc n) p [] r e none = no_more context form places p [] r e refl
falls law context form places (suc n) p (t ∷ ts) r e none =
    falls_step law context form places n p t ts r (found_at context form places p.defined (t ∷ ts)) (λ o us f. falls law context form places n o us r f none) refl e none

-- The further readings.

abbrev SameDraft : Result Draft Fault → Result Draft Fault → Type 0
SameDraft a b = a ≡ b

abbrev SameText : Result Draft TextFault → Result Draft TextFault → Type 0
SameText a b = a ≡ b

abbrev SameModule : Result Module TextFault → Result Module TextFault → Type 0
SameModule a b = a ≡ b

same_draft : (a b : Draft) → SameDraft (Ok a) (Ok b) → a ≡ b
same_draft a b e = ok_same a b (Ok a) refl e

same_text : (a b : Draft) → SameText (Ok a) (Ok b) → a ≡ b
same_text a b e = ok_same a b (Ok a) refl e

same_module : (a b : Module) → SameModule (Ok a) (Ok b) → a ≡ b
same_module a b e = ok_same a b (Ok a) refl e

adds : StatementsAreFound → (context : Context) (form : TextForm) (places : List Token) (toks : List Tok) (d : Draft) (f : Found) (e : Draft) → again_at context form places toks d f ≡ Ok e → Adds context form places toks d f e
adds law context form places toks d f e h =
    let a = parts.bind_ok (statement_at (with_registers context (table_of (registers_in context.names f.statement))) form places d.defined (tokens_left f.left toks)) (λ s. Ok (kept context (registers_in context.names f.statement) (line_shown places f.left) (with_defined context d s.0) s.0)) e h in
    let l = law (with_registers context (table_of (registers_in context.names f.statement))) form places d.defined (tokens_left f.left toks) a.0.1 a.0.0 a.1 in
    let m : Draft = kept context (registers_in context.names f.statement) (line_shown places f.left) (with_defined context d a.0.0) a.0.0 in
    (a.0.0, l.0, a.0.1, l.1, l.2, same_draft m e a.2)

add_all : StatementsAreFound → (context : Context) (form : TextForm) (places : List Token) (toks : List Tok) (fs : List Found) (d e : Draft) → all_again context form places toks d fs ≡ Ok e → AddAll context form places toks d fs e
add_all law context form places toks [] d e h = same_draft d e h
add_all law context form places toks (f ∷ fs) d e h =
    let a = parts.bind_ok (again_at context form places toks d f) (λ m. all_again context form places toks m fs) e h in
    (a.0, adds law context form places toks d f a.0 a.1, add_all law context form places toks fs a.0 e a.2)

-- The module.

unless_ok : (o : Option TextFault) (q : Result Module TextFault) (m : Module) → unless_faulty o q ≡ Ok m → (o ≡ None) × (q ≡ Ok m)
unless_ok None q m e = (refl, e)
unless_ok (Some f) q m e = cc

record Silent (early : Option ℕ) (fault : Option Fault) (stop : Option Stop) : Type 0 where
  no_early : early ≡ None
  no_fault : fault ≡ None
  no_stop : stop ≡ None

silent : (early : Option ℕ) (fault : Option Fault) (stop : Option Stop) → first_of early fault stop ≡ None → Silent early fault stop
silent (Some left) fault stop e = cc
silent None (Some f) stop e = cc
silent None None (Some s) e = cc
silent None None None e = record { no_early = refl; no_fault = refl; no_stop = refl }

and_ok : {A B : Type 0} (q : Result A TextFault) (f : A → Result B TextFault) (y : B) → (q and_then f) ≡ Ok y → (x : A) × (q ≡ Ok x) × (f x ≡ Ok y)
and_ok (Ok x) f y e = (x, refl, e)
and_ok (Err d) f y e = cc

told_ok : (q : Result Draft Fault) (d : Draft) → told q ≡ Ok d → q ≡ Ok d
told_ok (Ok x) d e = let k = same_text x d e in ap (λ y. Ok y) k
told_ok (Err f) d e = cc

pub module_is_found : StatementsAreFound → (form : TextForm) (text : List ℕ) (m : Module) → SaysModule form text m → IsModule form text m
module_is_found law form text m (ir, reads, e) =
    let r : FirstReading = first_reading form ir.names ir.places ir.toks in
    let u = unless_ok (front_fault form ir r) (module_found form ir r.statements) m e in
    let s = silent (first_early form (early_context form ir r.statements) (left_at r.fault) ir.toks) r.fault ir.stop u.0 in
    let f = falls law (unknown_context ir.names) form ir.places (length ir.toks) no_progress ir.toks r refl s.no_fault in
    let t = tables_of form ir r.statements in
    let limited = all_again (full_context ir t true) form ir.places ir.toks no_draft r.statements in
    let a = and_ok (told (all_again (full_context ir t false) form ir.places ir.toks no_draft r.statements)) (λ d. told limited and_then λ e. Ok (module_of e)) m u.1 in
    let b = and_ok (told limited) (λ e. Ok (module_of e)) m a.2 in
    record {
      ir = ir;
      reads = reads;
      whole = s.no_stop;
      statements = r.statements;
      falls = subst (λ fs. AreStatements (unknown_context ir.names) form ir.places nothing_defined fs ir.toks) (sym f.1) f.2;
      sound = ap (λ g. first_early form (early_context form ir r.statements) (left_at g) ir.toks) (sym s.no_fault) ∙ s.no_early;
      draft = b.0;
      says = add_all law (full_context ir t true) form ir.places ir.toks r.statements no_draft b.0 (told_ok limited b.0 b.1);
      is = same_module (module_of b.0) m b.2;
    }
