-- What is printed of a module is read again.
use Rattle.std.specs.Prelude.{◌≡◌, Ok, IsTrue}
use Rattle.lx_ir.specs.declared.module.Module.{Module}
use Rattle.lx_ir.specs.Text.{module_text}
use Rattle.lx_ir.specs.Lawful.{IsLawful, IsPlain}
use Rattle.lx_ir_tokens.specs.declared.read.IrTokens.{IrTokens}
use Rattle.lx_ir_tokens.specs.Reading.{ReadsAs}
use Rattle.lx_ir_calls.specs.declared.intrinsics.TextForm.{TextForm}
use Rattle.lx_ir_calls.specs.declared.intrinsics.TextForm.TheVariants.{Program}
use Rattle.lx_ir_complete.specs.Said.{is_kept_module}
use Rattle.lx_ir_read.specs.declared.fault.ReadFault.{ReadFault}
use Rattle.lx_ir_read.specs.Reading.{module_at, SaysModule, FirstFault}
use Rattle.lx_ir_complete.specs.Same.{SameModules}

-- What is printed of a lawful module, whose instructions may stand in a text of this form, is read again as a module that differs in
-- lines alone. In a program nothing may have a name of an image's own.
abbrev pub PrintedIsRead : TextForm → Type 0
PrintedIsRead form =
    (m : Module) → IsLawful m → IsTrue (is_kept_module form m) → (form ≡ Program → IsPlain m) → (ir : IrTokens) → ReadsAs (module_text m) ir → (n : Module) × (module_at form ir ≡ Ok n) × SameModules n m

-- What `read_module` may answer to the printed text, but want of memory: a module that is the same, its lines aside, and no fault.
pub record IsReadBack (form : TextForm) (m : Module) : Type 0 where
  pub same : (n : Module) → SaysModule form (module_text m) n → SameModules n m
  pub no_fault : (fault : ReadFault) → FirstFault form (module_text m) fault → ⊥

-- The text of a lawful module, whose instructions may stand in a text of this form, says that module, and has no fault.
abbrev pub RoundTrips : TextForm → Type 0
RoundTrips form = (m : Module) → IsLawful m → IsTrue (is_kept_module form m) → (form ≡ Program → IsPlain m) → IsReadBack form m
