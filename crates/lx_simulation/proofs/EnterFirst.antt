-- In every code that runs a wrapper that is called begins with its enter, since it has the form of one.
use Rattle.std.proofs.Common.{◌≡◌, ℕ, Bool, true, false, List, [], ◌∷◌, Option, Some, None, length, refl, sym, ap, ◌∙◌}
use Rattle.std.specs.Prelude.{if◌then◌else◌, slice_get, option_and_then, nat_eq, drop}
use Rattle.std.specs.List.{starts_with}
use Rattle.lx_words.proofs.Tests.{second_of}
use Rattle.lx_words.proofs.Lists.{all_at}
use Rattle.lx_ir.specs.declared.module.Function.{Function}
use Rattle.lx_ir.specs.declared.module.Module.{Module}
use Rattle.lx_ir.specs.declared.module.Symbol.{Symbol}
use Rattle.lx_ir.specs.declared.module.Symbol.TheVariants as symbol
use Rattle.lx_ir.specs.declared.instr.Callee.TheVariants as callee
use Rattle.lx_ir.specs.declared.instr.Op.{Op}
use Rattle.lx_ir.specs.declared.instr.Op.TheVariants as op
use Rattle.lx_image_texts.specs.WrapperText.{In, Out, wrapper_prefix}
use Rattle.lx_model.specs.Program.{Home, home_or_kernel, kernel_function}
use Rattle.lx_images.specs.Code.{Code, wrapped_name, wrapped_import}
use Rattle.lx_images.specs.Wrappers.{lines_of, called_lines}
use Rattle.lx_images.specs.WrapperForm.{is_wrapper, wraps_named, is_one_block, is_formed_by, is_formed_as, is_formed, first_named, has_name, has_formed_wrappers, have_formed_wrappers}
use Rattle.lx_images.specs.Lines.{EnterFirst}

-- the lines begin with an enter
abbrev Enters : List Op → Type 0
Enters lines = (s : Symbol) × (more : List Op) × (lines ≡ op.Enter s ∷ more)

by_form : (j many : ℕ) (lines : List Op) → is_wrapper j many lines ≡ true → Enters lines
by_form j many (op.Enter s ∷ lines) h = (s, lines, refl)
by_form j many [] h = cc
by_form j many (o ∷ lines) h = cc

by_number : (x : Module) (f : Function) (name : List ℕ) (j : Option ℕ) → is_formed_by x f name j ≡ true → Enters (lines_of (Some f))
by_number x f name None h = cc
by_number x f name (Some j) h = by_form j (length f.params) (lines_of (Some f)) (second_of (has_name (slice_get x.functions j) name) (is_wrapper j (length f.params) (lines_of (Some f))) h)

by_name : (x : Module) (f : Function) (name : List ℕ) → is_formed_as x f (Some name) ≡ true → Enters (lines_of (Some f))
by_name x f name h = by_number x f name (first_named (lines_of (Some f))) (second_of (is_one_block f.blocks) (is_formed_by x f name (first_named (lines_of (Some f)))) h)

-- a function that wraps an import has a wrapper's name
named : (f : Function) (name : List ℕ) (b : Bool) → starts_with nat_eq f.name (wrapper_prefix Out) ≡ b → (if b then Some (drop 9 f.name) else None) ≡ Some name → wraps_named f.name ≡ Some (drop 9 f.name)
named f name true e h = ap (λ (t : Bool). if t then Some (drop 9 f.name) else (if starts_with nat_eq f.name (wrapper_prefix In) then Some (drop 8 f.name) else None)) e
named f name false e h = cc

called_by : (x : Module) (f : Function) (name : List ℕ) → is_formed x f ≡ true → wrapped_name (Some f) ≡ Some name → Enters (lines_of (Some f))
called_by x f name formed h =
    by_name x f (drop 9 f.name)
    (ap (is_formed_as x f) (sym (named f name (starts_with nat_eq f.name (wrapper_prefix Out)) refl h)) ∙ formed)

-- an import that is wrapped at all is wrapped by a function
wrapped_some : (c : Code) (name : Option (List ℕ)) (n : ℕ) → option_and_then (kernel_function c.program) name ≡ Some n → (x : List ℕ) × (name ≡ Some x)
wrapped_some c None n h = cc
wrapped_some c (Some x) n h = (x, refl)

in_image : (c : Code) (x : Module) (n : ℕ) (f : Option Function) → ((g : Function) → f ≡ Some g → is_formed x g ≡ true) → option_and_then (kernel_function c.program) (wrapped_name f) ≡ Some n → Enters (lines_of f)
in_image c x n None formed h = cc
in_image c x n (Some g) formed h = let name = wrapped_some c (wrapped_name (Some g)) n h in called_by x g name.0 (formed g refl) name.1

of_module : (c : Code) (f n : ℕ) (x : Option Module) → ((m : Module) → x ≡ Some m → has_formed_wrappers m ≡ true) → option_and_then (kernel_function c.program) (wrapped_name (option_and_then (λ i. slice_get i.functions f) x)) ≡ Some n → Enters (lines_of (option_and_then (λ i. slice_get i.functions f) x))
of_module c f n None formed h = cc
of_module c f n (Some m) formed h = in_image c m n (slice_get m.functions f) (λ g e. all_at (is_formed m) m.functions f g (formed m refl) e) h

of_home : (c : Code) → have_formed_wrappers c.images ≡ true → (home : Home) (o : Op) (n : ℕ) → wrapped_import c home o ≡ Some n → Enters (called_lines c home o)
of_home c formed (Some m) (op.Call to ret (callee.Symbol (symbol.Function f)) args) n h =
    of_module c f n (slice_get c.images m) (λ x e. all_at has_formed_wrappers c.images m x formed e) h
of_home c formed (Some m) (op.Call to ret (callee.Symbol (symbol.Global f)) args) n h = cc
of_home c formed (Some m) (op.Call to ret (callee.Register r) args) n h = cc
of_home c formed None (op.Call to ret (callee.Symbol (symbol.Function f)) args) n h = cc
of_home c formed None (op.Call to ret (callee.Symbol (symbol.Global f)) args) n h = cc
of_home c formed None (op.Call to ret (callee.Register r) args) n h = cc
of_home c formed home o n h = cc

pub formed_enter : (c : Code) → have_formed_wrappers c.images ≡ true → EnterFirst c
formed_enter c formed k o n h = of_home c formed (home_or_kernel c.program k) o n h
