-- The wrappers that are made for the kernel's functions.
use Rattle.std.proofs.Common.{◌≡◌, ◌∙◌, refl, sym, ap, subst, ℕ, ◌<◌, ◌≤◌, Option, Some, None, List, [], ◌∷◌, ◌++◌, get_or, length, map, arith}
use Rattle.std.specs.Prelude.{bytes_eq, find, option_map, position, slice_get}
use Rattle.std.proofs.lemmas.Option.{slice_get_read, slice_get_past}
use Rattle.lx_words.proofs.Lists.{none_found, none_past}
use Rattle.lx_ir.specs.declared.instr.Op.{Op}
use Rattle.lx_ir.specs.declared.module.Function.{Function}
use Rattle.lx_annot.specs.declared.action.Annotation.{Annotation}
use Rattle.lx_annot.specs.declared.interface.Export.{Export}
use Rattle.lx_annot.specs.declared.interface.Interface.{Interface}
use Rattle.lx_image_texts.specs.WrapperText.{import_annotation, unlined, wrapper_code}
use Rattle.lx_model.specs.declared.program.Program.{Program}
use Rattle.lx_images.specs.Wrappers.{lines_of}
use Rattle.lx_image_code.specs.Wrappers.{AreKernelWrappers, kernel_wrapper, lines_in_kernel}
use Rattle.lx_name_tables.specs.Places.{is_export}
use Rattle.lx_name_tables.proofs.Firsts.{found_at}
use Rattle.lx_image_code.proofs.Filled.{Each, each_more}

-- annotations by names

pub exported_at : (i n : Interface) (name : List ℕ) (k : ℕ) (r : Option Annotation) → n ≡ i → Some k ≡ position (is_export name) n.exports → r ≡ option_map (λ e. e.annotation) (slice_get i.exports k)
    → r ≡ option_map (λ e. e.annotation) (find (λ e. bytes_eq e.name name) i.exports)
exported_at i n name k r same first is =
    let here : position (is_export name) i.exports ≡ Some k = sym (first ∙ ap (λ (x : Interface). position (is_export name) x.exports) same) in
    is ∙ ap (option_map (λ (e : Export). e.annotation)) (found_at (is_export name) i.exports k (slice_get i.exports k) here refl)

pub not_exported : (i n : Interface) (name : List ℕ) → n ≡ i → None ≡ position (is_export name) n.exports → None ≡ option_map (λ e. e.annotation) (find (λ e. bytes_eq e.name name) i.exports)
not_exported i n name same first =
    let here : position (is_export name) i.exports ≡ None = sym (first ∙ ap (λ (x : Interface). position (is_export name) x.exports) same) in
    ap (option_map (λ (e : Export). e.annotation)) (none_found (is_export name) i.exports here)

-- the wrapper of the function at a place
abbrev pub IsMade : Interface → List Function → ℕ → Function → Type 0
IsMade i gs k w = Some w ≡ option_map (kernel_wrapper i k) (slice_get gs k)

-- one wrapper more
pub made_more : (i : Interface) (gs : List Function) (n : ℕ) (g : Function) (old new : List Function) → n < length gs → g ≡ get_or gs n g → length old ≡ n
    → Each (IsMade i gs) old → new ≡ old ++ kernel_wrapper i (length old) g ∷ [] → Each (IsMade i gs) new
made_more i gs n g old new h e count each is =
    let at : slice_get gs (length old) ≡ Some g = ap (slice_get gs) count ∙ slice_get_read gs (length gs) n g refl h e in
    subst (Each (IsMade i gs)) (sym is) (each_more (IsMade i gs) old (kernel_wrapper i (length old) g) each (sym (ap (option_map (kernel_wrapper i (length old))) at)))

by_place : (i : Interface) (gs made : List Function) (k : ℕ) (found : Option Function) → length gs ≤ length made → Each (IsMade i gs) made → slice_get made k ≡ found
    → found ≡ option_map (kernel_wrapper i k) (slice_get gs k)
by_place i gs made k None h each at = sym (ap (option_map (kernel_wrapper i k)) (slice_get_past gs k (let far = none_past made k at in omega (arith, far, h))))
by_place i gs made k (Some w) h each at = each k w at

-- the wrappers of all functions
pub all_made : (p : Program) (n : ℕ) (made : List Function) → length p.kernel.functions ≤ n → length made ≡ n → Each (IsMade p.interface p.kernel.functions) made → AreKernelWrappers p made
all_made p n made h count each k = by_place p.interface p.kernel.functions made k (slice_get made k) (omega (arith, h, count)) each refl

same_ops : (os : List Op) → map (λ i. i.op) (map unlined os) ≡ os
same_ops [] = refl
same_ops (o ∷ os) = ap (λ xs. o ∷ xs) (same_ops os)

made_lines : (p : Program) (k : ℕ) (found : Option Function) → lines_of (option_map (kernel_wrapper p.interface k) found) ≡ lines_in_kernel p k found
made_lines p k None = refl
made_lines p k (Some g) = same_ops (wrapper_code g k (import_annotation p.interface g.name))

-- their lines
pub lines_made : (p : Program) (made : List Function) (k : ℕ) → AreKernelWrappers p made → lines_of (slice_get made k) ≡ lines_in_kernel p k (slice_get p.kernel.functions k)
lines_made p made k are = ap lines_of (are k) ∙ made_lines p k (slice_get p.kernel.functions k)
