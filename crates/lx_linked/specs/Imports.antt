-- Imports that have the signatures of what they name.
use Rattle.std.specs.Prelude.{◌≡◌, ℕ, true, false, Some, slice_get}
use Rattle.lx_ir.specs.declared.module.Function.{Function}
use Rattle.lx_ir.specs.Lookup.{is_defined}
use Rattle.lx_link_texts.specs.Faults.{defined, is_alias, kernel_native, slot_called}
use Rattle.lx_link_texts.specs.Signatures.{has_native_signature}
use Rattle.lx_link_texts.specs.WellFormed.{is_import_of, is_kernel_import_by}
use Rattle.lx_model.specs.declared.program.Program.{Program}
use Rattle.lx_model.specs.Program.{module_of}

pub record ImportsFit (p : Program) : Type 0 where
  -- what the kernel declares has the signature of a native or of a call through a slot
  pub kernel : (k : ℕ) (g : Function) → slice_get p.kernel.functions k ≡ Some g → is_defined g ≡ false → is_kernel_import_by g (kernel_native g.name) (slot_called p.interface g.name) ≡ true
  -- what a module declares has the signature of the kernel's function of that name
  pub modules : (m k : ℕ) (g : Function) → slice_get (module_of p (Some m)).functions k ≡ Some g → is_defined g ≡ false → is_alias g.name ≡ false → is_import_of g (defined p.kernel g.name) ≡ true
  -- and the alias has its own signature, even where the kernel exports a function of that name
  pub alias : (m k : ℕ) (g : Function) → slice_get (module_of p (Some m)).functions k ≡ Some g → is_defined g ≡ false → is_alias g.name ≡ true → has_native_signature 5 g ≡ true
