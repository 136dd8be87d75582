-- What the grammar says of the first fault of a text.
use Rattle.std.proofs.Common.{◌≡◌, ◌⊎◌, inl, inr, ℕ, Bool, true, false, Option, Some, None, List, ◌∷◌, Result, Ok, Err, refl, ap}
use Rattle.std.specs.Prelude.{◌==◌, if◌then◌else◌}
use Rattle.lx_words.specs.declared.token.Stop.{Stop}
use Rattle.lx_ir_tokens.specs.declared.read.IrTokens.{IrTokens}
use Rattle.lx_ir.specs.declared.module.Module.{Module}
use Rattle.lx_ir_terms.specs.declared.fault.Fault.{Fault}
use Rattle.lx_ir_calls.specs.declared.intrinsics.TextForm.{TextForm}
use Rattle.lx_ir_read.specs.declared.first.FirstReading.{FirstReading}
use Rattle.lx_ir_read.specs.declared.draft.Draft.{Draft}
use Rattle.lx_ir_read.specs.declared.fault.ReadFault.{ReadFault}
use Rattle.lx_ir_read.specs.declared.fault.TextFault.{TextFault}
use Rattle.lx_ir_read.specs.declared.fault.TextFault.TheVariants as texts
use Rattle.lx_ir_read.specs.First.{first_reading}
use Rattle.lx_ir_read.specs.Again.{no_draft, all_again, module_of}
use Rattle.lx_ir_read.specs.Laws.{ModulesAreFound, OneFault}
use Rattle.lx_ir_read.specs.Reading.{first_early, left_at, or_byte, first_of, early_context, front_fault, tables_of, full_context, told, ◌and_then◌, module_found, unless_faulty, module_at, SaysModule, FirstFault}
use Rattle.lx_ir_read.specs.Grammar.{IsModule}
use Rattle.lx_ir_complete.specs.Laws.{FaultyTextsAreNone, RefusedTokensStandNowhere, TextsAreAnswered}
use Rattle.lx_ir_complete.specs.FaultOfText.{IsRefused, IsFirstFault}

-- A fault at a byte is the byte that begins no token.

byte_if : (b : Bool) (f : Fault) (x s : Stop) → (if b then texts.Byte x else texts.Token f) ≡ texts.Byte s → Some x ≡ Some s
byte_if true f x s e = let k : x ≡ s = cc in ap (λ y. Some y) k
byte_if false f x s e = cc

byte_or : (f : Fault) (stop : Option Stop) (s : Stop) → or_byte f stop ≡ texts.Byte s → stop ≡ Some s
byte_or f None s e = cc
byte_or f (Some x) s e = byte_if (f.left == 0) f x s e

some_same : (a b : TextFault) (o : Option TextFault) → o ≡ Some a → o ≡ Some b → a ≡ b
some_same a b (Some x) e f = let p : x ≡ a = cc in let q : x ≡ b = cc in cc (p, q)
some_same a b None e f = cc

byte_first : (early : Option ℕ) (fault : Option Fault) (stop : Option Stop) (s : Stop) → first_of early fault stop ≡ Some (texts.Byte s) → stop ≡ Some s
byte_first (Some left) fault stop s e = cc
byte_first None (Some f) stop s e = byte_or f stop s (some_same (or_byte f stop) (texts.Byte s) (Some (or_byte f stop)) refl e)
byte_first None None (Some x) s e = let k : x ≡ s = cc in ap (λ y. Some y) k
byte_first None None None s e = cc

-- where the text is read again, faults are at tokens
never_byte : (a b : Result Draft Fault) (q : Result Module TextFault) (s : Stop) → (told a and_then λ d. told b and_then λ e. Ok (module_of e)) ≡ q → q ≡ Err (texts.Byte s) → ⊥
never_byte (Err f) b q s e h = cc
never_byte (Ok d) (Err f) q s e h = cc
never_byte (Ok d) (Ok x) q s e h = cc

byte_by : (o : Option TextFault) (q : Result Module TextFault) (s : Stop) → (q ≡ Err (texts.Byte s) → ⊥) → unless_faulty o q ≡ Err (texts.Byte s) → o ≡ Some (texts.Byte s)
byte_by None q s never e = absurd (never e)
byte_by (Some f) q s never e = let k : f ≡ texts.Byte s = cc in ap (λ x. Some x) k

byte_stops : (form : TextForm) (ir : IrTokens) (s : Stop) → module_at form ir ≡ Err (texts.Byte s) → ir.stop ≡ Some s
byte_stops form ir s e =
    let r : FirstReading = first_reading form ir.names ir.places ir.toks in
    let t = tables_of form ir r.statements in
    let open_one = all_again (full_context ir t false) form ir.places ir.toks no_draft r.statements in
    let close_one = all_again (full_context ir t true) form ir.places ir.toks no_draft r.statements in
    byte_first (first_early form (early_context form ir r.statements) (left_at r.fault) ir.toks) r.fault ir.stop s
    (byte_by (front_fault form ir r) (module_found form ir r.statements) s (never_byte open_one close_one (module_found form ir r.statements) s refl) e)

-- The first fault.

refused_by : RefusedTokensStandNowhere → (form : TextForm) (ir : IrTokens) (place : TextFault) → module_at form ir ≡ Err place → IsRefused form ir place
refused_by nowhere form ir (texts.Byte s) e = byte_stops form ir s e
refused_by nowhere form ir (texts.Token f) e = λ stops other front more us t whole left alike statements are.
    nowhere form ir.names ir.places ir.toks f other stops front (t ∷ more) whole left t more us refl alike statements are

pub is_told : FaultyTextsAreNone → RefusedTokensStandNowhere → (form : TextForm) (text : List ℕ) (f : ReadFault) → FirstFault form text f → IsFirstFault form text f
is_told faulty nowhere form text f (ir, place, reads, met, told) = record {
  ir = ir;
  reads = reads;
  place = place;
  met = met;
  told = told;
  none = λ m is. faulty form text m f (ir, place, reads, met, told) is;
  refused = refused_by nowhere form ir place met;
}

pub is_first : (form : TextForm) (text : List ℕ) (f : ReadFault) → IsFirstFault form text f → FirstFault form text f
is_first form text f is = (is.ir, is.place, is.reads, is.met, is.told)

pub one_first : OneFault → (form : TextForm) (text : List ℕ) (e f : ReadFault) → IsFirstFault form text e → IsFirstFault form text f → e ≡ f
one_first one form text e f x y = one form text e f (is_first form text e x) (is_first form text f y)

answered_so : ModulesAreFound → FaultyTextsAreNone → RefusedTokensStandNowhere → (form : TextForm) (text : List ℕ) → ((m : Module) × SaysModule form text m) ⊎ ((f : ReadFault) × FirstFault form text f) → ((m : Module) × IsModule form text m) ⊎ ((f : ReadFault) × IsFirstFault form text f)
answered_so found faulty nowhere form text (inl (m, says)) = inl (m, found form text m says)
answered_so found faulty nowhere form text (inr (f, first)) = inr (f, is_told faulty nowhere form text f first)

pub or_fault : ModulesAreFound → FaultyTextsAreNone → RefusedTokensStandNowhere → TextsAreAnswered → (form : TextForm) (text : List ℕ) → ((m : Module) × IsModule form text m) ⊎ ((f : ReadFault) × IsFirstFault form text f)
or_fault found faulty nowhere answered form text = answered_so found faulty nowhere form text (answered form text)
