-- A function whose wrapper an image calls is the kernel's.
use Rattle.std.proofs.Common.{◌≡◌, ℕ, true, Option, Some, None, List}
use Rattle.std.specs.Prelude.{◌&&◌, option_and_then, position, bytes_eq, slice_get}
use Rattle.lx_ir.specs.Lookup.{is_defined}
use Rattle.lx_ir.specs.declared.instr.Callee.TheVariants as callee
use Rattle.lx_ir.specs.declared.instr.Op.{Op}
use Rattle.lx_ir.specs.declared.instr.Op.TheVariants as op
use Rattle.lx_ir.specs.declared.module.Symbol.TheVariants as symbol
use Rattle.lx_model.specs.declared.program.Program.{Program}
use Rattle.lx_model.specs.Program.{Home, is_in, kernel_function}
use Rattle.lx_images.specs.Image.{Code, out_import, wrapped_import, wrapped_name}
use Rattle.lx_run_laws.proofs.Targets.{found_in}

named_in : (p : Program) (name : Option (List ℕ)) (n : ℕ) → option_and_then (kernel_function p) name ≡ Some n → is_in p None n ≡ true
named_in p None n is = absurd (cc)
named_in p (Some name) n is = found_in p (position (λ f. is_defined f && bytes_eq f.name name) p.kernel.functions) n is

out_in : (c : Code) (home : Home) (f n : ℕ) → out_import c home f ≡ Some n → is_in c.program None n ≡ true
out_in c None f n is = absurd (cc)
out_in c (Some m) f n is = named_in c.program (wrapped_name (option_and_then (λ i. slice_get i.functions f) (slice_get c.images m))) n is

-- whatever import an image calls by its wrapper
pub wrapped_in : (c : Code) (home : Home) (o : Op) (n : ℕ) → wrapped_import c home o ≡ Some n → is_in c.program None n ≡ true
wrapped_in c home (op.Call to ret (callee.Symbol (symbol.Function f)) args) n is = out_in c home f n is
wrapped_in c home (op.Call to ret (callee.Symbol (symbol.Global g)) args) n is = absurd (cc)
wrapped_in c home (op.Call to ret (callee.Register r) args) n is = absurd (cc)
wrapped_in c home _ n is = absurd (cc)
