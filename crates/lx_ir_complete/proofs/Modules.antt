-- What is a module by the grammar is read as it.
use Rattle.std.proofs.Common.{◌≡◌, ◌⊎◌, inl, inr, ℕ, true, false, List, [], ◌∷◌, length, Result, Ok, Err, refl, ap, ◌∙◌, arith, Option, None}
use Rattle.lx_words.specs.declared.token.Stop.{Stop}
use Rattle.lx_ir_tokens.specs.declared.read.IrTokens.{IrTokens}
use Rattle.lx_ir_tokens.specs.Reading.{ReadsAs}
use Rattle.lx_ir.specs.declared.module.Module.{Module}
use Rattle.lx_ir_terms.specs.declared.fault.Fault.{Fault}
use Rattle.lx_ir_terms.specs.Context.{Context}
use Rattle.lx_ir_calls.specs.declared.intrinsics.TextForm.{TextForm}
use Rattle.lx_ir_statements.specs.BlockLaws.{BodiesAreRead}
use Rattle.lx_ir_statements.specs.Laws.{StatementsAreRead}
use Rattle.lx_ir_tables.specs.Numbering.{table_of}
use Rattle.lx_ir_lawful.specs.ForgottenLaws.{StatementsAreForgotten}
use Rattle.lx_ir_complete.specs.UnlimitedLaws.{StatementsAreUnlimited}
use Rattle.lx_ir_read.specs.declared.fault.ReadFault.{ReadFault}
use Rattle.lx_ir_read.specs.declared.fault.TextFault.{TextFault}
use Rattle.lx_ir_read.specs.Fault.{shown}
use Rattle.lx_ir_read.specs.declared.first.Found.{Found}
use Rattle.lx_ir_read.specs.declared.first.FirstReading.{FirstReading}
use Rattle.lx_ir_read.specs.declared.draft.Draft.{Draft}
use Rattle.lx_ir_read.specs.First.{unknown_context, first_reading, no_progress}
use Rattle.lx_ir_read.specs.Again.{no_draft, registers_in, with_registers, module_of}
use Rattle.lx_ir_read.specs.Reading.{first_early, first_of, early_context, front_fault, tables_of, full_context, told, ◌and_then◌, module_found, unless_faulty, module_by, module_at, SaysModule, FirstFault}
use Rattle.lx_ir_read.specs.Grammar.{Adds, AddAll, IsModule}
use Rattle.lx_ir_complete.proofs.Firsts.{firsts}
use Rattle.lx_ir_complete.proofs.Further.{again_all}

-- Without the limits on types, the statements say the same.

module _ (free : StatementsAreUnlimited) (form : TextForm) (ir : IrTokens) (found : List Found) where
  abbrev limited : Context
  limited = full_context ir (tables_of form ir found) true

  abbrev unlimited : Context
  unlimited = full_context ir (tables_of form ir found) false

  adds_free : (d : Draft) (f : Found) (e : Draft) → Adds limited form ir.places ir.toks d f e → Adds unlimited form ir.places ir.toks d f e
  adds_free d f e (s, front, back, is, there, k) =
      (s, front, back, free (with_registers limited (table_of (registers_in ir.names f.statement))) form ir.places d.defined s front back is, there, k)

  add_all_free : (fs : List Found) (d e : Draft) → AddAll limited form ir.places ir.toks d fs e → AddAll unlimited form ir.places ir.toks d fs e
  add_all_free [] d e says = says
  add_all_free (f ∷ fs) d e (m, one, rest) = (m, adds_free d f m one, add_all_free fs m e rest)

-- The module.

-- both readings give these drafts
both_told : (a b : Result Draft Fault) (d e : Draft) → a ≡ Ok d → b ≡ Ok e → (told a and_then λ x. told b and_then λ y. Ok (module_of y)) ≡ Ok (module_of e)
both_told a b d e p q = rw (p, q) refl

none_first : (early : Option ℕ) (stop : Option Stop) → early ≡ None → stop ≡ None → first_of early None stop ≡ None
none_first early stop e s = rw (e, s) refl

unless_none : (fault : Option TextFault) (q : Result Module TextFault) → fault ≡ None → unless_faulty fault q ≡ q
unless_none fault q e = rw e refl

module _ (read : StatementsAreRead) (bodies : BodiesAreRead) (forget : StatementsAreForgotten) (free : StatementsAreUnlimited) where
  pub module_is_read : (form : TextForm) (text : List ℕ) (m : Module) → IsModule form text m → SaysModule form text m
  module_is_read form text m is =
      let ir : IrTokens = is.ir in
      let r : FirstReading = record { statements = is.statements; fault = None } in
      let first : first_reading form ir.names ir.places ir.toks ≡ r =
      firsts read (unknown_context ir.names) form ir.places is.statements (length ir.toks) no_progress ir.toks (omega arith) is.falls in
      let known = again_all read bodies forget form ir.places (full_context ir (tables_of form ir is.statements) false) ir.toks is.statements no_draft is.draft [] ir.toks is.falls refl (add_all_free free form ir is.statements is.statements no_draft is.draft is.says) in
      let within = again_all read bodies forget form ir.places (full_context ir (tables_of form ir is.statements) true) ir.toks is.statements no_draft is.draft [] ir.toks is.falls refl is.says in
      let found : module_found form ir is.statements ≡ Ok (module_of is.draft) = both_told _ _ is.draft is.draft known within in
      let sound : front_fault form ir r ≡ None = none_first (first_early form (early_context form ir is.statements) 0 ir.toks) ir.stop is.sound is.whole in
      (ir, is.reads, ap (module_by form ir) first ∙ unless_none (front_fault form ir r) (module_found form ir is.statements) sound ∙ found ∙ ap (λ x. Ok x) is.is)

-- Each text is answered.

answered_by : (form : TextForm) (text : List ℕ) (ir : IrTokens) → ReadsAs text ir → (answer : Result Module TextFault) → module_at form ir ≡ answer → ((m : Module) × SaysModule form text m) ⊎ ((f : ReadFault) × FirstFault form text f)
answered_by form text ir reads (Ok m) e = inl (m, (ir, reads, e))
answered_by form text ir reads (Err f) e = inr (shown text ir f, (ir, f, reads, e, refl))

pub text_is_answered : ((text : List ℕ) → (ir : IrTokens) × ReadsAs text ir) → (form : TextForm) (text : List ℕ) → ((m : Module) × SaysModule form text m) ⊎ ((f : ReadFault) × FirstFault form text f)
text_is_answered tokens form text = let r = tokens text in answered_by form text r.0 r.1 (module_at form r.0) refl
