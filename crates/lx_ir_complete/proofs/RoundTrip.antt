-- What may be read of a printed text.
use Rattle.std.proofs.Common.{◌≡◌, true, List, ℕ, Result, Ok, Err, refl, sym, ap, ◌∙◌, subst}
use Rattle.lx_ir.specs.declared.module.Module.{Module}
use Rattle.lx_ir.specs.Text.{module_text}
use Rattle.lx_ir.specs.Lawful.{IsLawful, IsPlain}
use Rattle.lx_ir_tokens.specs.declared.read.IrTokens.{IrTokens}
use Rattle.lx_ir_tokens.specs.Reading.{ReadsAs}
use Rattle.lx_ir_calls.specs.declared.intrinsics.TextForm.{TextForm}
use Rattle.lx_ir_calls.specs.declared.intrinsics.TextForm.TheVariants.{Program}
use Rattle.lx_ir_complete.specs.Said.{is_kept_module}
use Rattle.lx_ir_read.specs.declared.fault.TextFault.{TextFault}
use Rattle.lx_ir_read.specs.declared.fault.ReadFault.{ReadFault}
use Rattle.lx_ir_read.specs.Reading.{module_at, SaysModule, FirstFault}
use Rattle.lx_ir_complete.specs.Same.{SameModules}
use Rattle.lx_ir_complete.specs.RoundTripLaws.{PrintedIsRead, IsReadBack}

ok_same : (a b : Module) (r : Result Module TextFault) → r ≡ Ok a → r ≡ Ok b → a ≡ b
ok_same a b (Ok x) e f = let p : x ≡ a = cc in let q : x ≡ b = cc in sym p ∙ q
ok_same a b (Err x) e f = cc

apart : (a : Module) (b : TextFault) (r : Result Module TextFault) → r ≡ Ok a → r ≡ Err b → ⊥
apart a b (Ok x) e f = cc
apart a b (Err x) e f = cc

module _ (form : TextForm) (law : PrintedIsRead form) (m : Module) (lawful : IsLawful m) (kept : is_kept_module form m ≡ true) (plain : form ≡ Program → IsPlain m) where
  said_same : (n : Module) → SaysModule form (module_text m) n → SameModules n m
  said_same n (ir, reads, e) =
      let r = law m lawful kept plain ir reads in
      subst (λ k. SameModules k m) (ok_same r.0 n (module_at form ir) r.1 e) r.2

  never_faulty : (fault : ReadFault) → FirstFault form (module_text m) fault → ⊥
  never_faulty fault (ir, f, reads, e, shown) =
      let r = law m lawful kept plain ir reads in
      apart r.0 f (module_at form ir) r.1 e

  -- The printed text says the module, and has no fault.
  pub read_back : IsReadBack form m
  read_back = record { same = said_same; no_fault = never_faulty }
