-- Where annotations stand: at exports by their names, and at slot types by what functions get.
use Rattle.std.proofs.Common.{◌≡◌, ℕ, zero, suc, ◌+◌, ◌<◌, ◌≤◌, Bool, true, false, cond, Option, Some, None, List, [], ◌∷◌, ◌++◌, length, nat_eq, nat_lt, if◌then◌else◌, refl, ap, sym, subst, ◌∙◌, arith, find, map, take, get_or, eq-eqb}
use Rattle.std.specs.Prelude.{slice_get, option_map, option_and_then, option_to_list, position, bytes_eq}
use Rattle.std.specs.List.{position_or_len}
use Rattle.std.proofs.lemmas.Bool.Decides.{nat_tests}
use Rattle.std.proofs.lemmas.List.Folds.{find_at}
use Rattle.std.proofs.lemmas.List.{take_all}
use Rattle.std.proofs.lemmas.Option.{slice_get_past, slice_get-map, slice_get-get_or, same_Some}
use Rattle.lx_words.proofs.Tests.{above_fails}
use Rattle.lx_ir.specs.declared.module.Function.{Function}
use Rattle.lx_ir.specs.declared.module.Module.{Module}
use Rattle.lx_ir.specs.Lookup.{is_defined}
use Rattle.lx_annot.specs.declared.interface.Interface.{Interface}
use Rattle.lx_annot.specs.declared.interface.Export.{Export}
use Rattle.lx_slot_types.specs.declared.Marked.{Marked}
use Rattle.lx_slot_types.specs.Gets.{slot_of}
use Rattle.lx_model.specs.declared.program.Program.{Program}
use Rattle.lx_model.specs.declared.program.ProgramModule.{ProgramModule}
use Rattle.lx_model.specs.declared.program.ProgramFunction.{ProgramFunction}
use Rattle.lx_model.specs.declared.program.ProgramFunction.TheVariants.{Native, Of}
use Rattle.lx_model.specs.Program as program
use Rattle.lx_model.specs.Program.{module_of, module_or_empty, export_annotation, slot_annotation, annotation_of_entry, function_of_entry}
use Rattle.lx_serve.specs.declared.source.Source.{Source}
use Rattle.lx_serve.specs.declared.source.Source.TheVariants.{Slot, Export as AtExport}
use Rattle.lx_serve.specs.Sources.{annotation_at, source_of, Knows}
use Rattle.lx_propagate.specs.Slots.{annotated_of, annotated_from, marked}
use Rattle.lx_annotation_tables.specs.Entries.{IsDefinedAt, IsEntry, annotation_of, annotation_by, all_annotated}
use Rattle.lx_link_texts.specs.WellFormed.{IsWellFormed}
use Rattle.lx_annotation_tables.proofs.Texts.{entry_at}

-- exports

at_place : {A B : Type 0} (p : A → Bool) (f : A → B) (xs : List A) (b : Bool) → nat_lt (position_or_len p xs) (length xs) ≡ b
    → option_and_then (λ k. option_map f (slice_get xs k)) (cond b (Some (position_or_len p xs)) None) ≡ option_map f (find p xs)
at_place p f xs true h = sym (ap (option_map f) (find_at p xs))
at_place p f xs false h =
    let n : ℕ = position_or_len p xs in
    let past : length xs ≤ n = grind (arith, nat_tests, h) in
    sym (ap (option_map f) (find_at p xs ∙ slice_get_past xs n past))

-- the export that is first of its name
export_told : (i : Interface) (name : List ℕ) (o : Option ℕ) → o ≡ position (λ (e : Export). bytes_eq e.name name) i.exports
    → option_and_then (annotation_at i) (option_map AtExport o) ≡ export_annotation i name
export_told i name None h = ap (option_and_then (λ k. option_map (λ (e : Export). e.annotation) (slice_get i.exports k))) h ∙ at_place (λ (e : Export). bytes_eq e.name name) (λ (e : Export). e.annotation) i.exports _ refl
export_told i name (Some k) h = ap (option_and_then (λ k. option_map (λ (e : Export). e.annotation) (slice_get i.exports k))) h ∙ at_place (λ (e : Export). bytes_eq e.name name) (λ (e : Export). e.annotation) i.exports _ refl

-- what is told of a function of the kernel
pub kernel_told : (p : Program) (k : ℕ) (f : Function) (r : Option Source) → Some f ≡ slice_get p.kernel.functions k → r ≡ option_map AtExport (position (λ (e : Export). bytes_eq e.name f.name) p.interface.exports)
    → annotation_by p r ≡ annotation_of p (Of None k)
unfolding annotation_of annotation_by
kernel_told p k f r there h =
    ap (option_and_then (annotation_at p.interface)) h ∙ (export_told p.interface f.name (position (λ (e : Export). bytes_eq e.name f.name) p.interface.exports) refl ∙ ap (annotation_of_entry p (Some (Of None k))) there)

pub kernel_untold : (p : Program) (k : ℕ) → None ≡ slice_get p.kernel.functions k → annotation_by p None ≡ annotation_of p (Of None k)
unfolding annotation_of annotation_by
kernel_untold p k there = ap (annotation_of_entry p (Some (Of None k))) there

pub native_told : (p : Program) (k : ℕ) → annotation_by p None ≡ annotation_of p (Native k)
unfolding annotation_of annotation_by
native_told p k = refl

-- slot types

abbrev pub is_of : ℕ → Marked → Bool
is_of f x = nat_eq x.function f

skip : (f : ℕ) (o : Option ℕ) (n : ℕ) (rest : List Marked) → nat_eq n f ≡ false → find (is_of f) (option_to_list (option_map (marked n) o) ++ rest) ≡ find (is_of f) rest
skip f None n rest h = refl
skip f (Some s) n rest h = ap (λ b. cond b (Some (marked n s)) (find (is_of f) rest)) h

skip_mark : (i : Interface) (m : Module) (f n : ℕ) (b : Bool) (rest : List Marked) → nat_eq n f ≡ false → find (is_of f) (option_to_list (if b then option_map (marked n) (slot_of i m n) else None) ++ rest) ≡ find (is_of f) rest
skip_mark i m f n true rest h = skip f (slot_of i m n) n rest h
skip_mark i m f n false rest h = refl

none_before : (i : Interface) (m : Module) (f n : ℕ) (fs : List Function) → f < n → find (is_of f) (annotated_from i m n fs) ≡ None
none_before i m f n [] h = refl
none_before i m f n (g ∷ gs) h =
    skip_mark i m f n (is_defined g) (annotated_from i m (suc n) gs) (above_fails n f h) ∙ none_before i m f (suc n) gs (omega (arith, h))

stands : (f : ℕ) (o : Option ℕ) (n : ℕ) (rest : List Marked) → n ≡ f → find (is_of f) rest ≡ None → find (is_of f) (option_to_list (option_map (marked n) o) ++ rest) ≡ option_map (marked n) o
stands f None n rest e h = h
stands f (Some s) n rest e h = ap (λ b. cond b (Some (marked n s)) (find (is_of f) rest)) (eq-eqb n f e)

found_from : (i : Interface) (m : Module) (n k : ℕ) (fs : List Function) (g : Function) → slice_get fs k ≡ Some g → is_defined g ≡ true
    → find (is_of (n + k)) (annotated_from i m n fs) ≡ option_map (marked (n + k)) (slot_of i m (n + k))
found_from i m n k [] g there defined = absurd (cc)
found_from i m n zero (f ∷ fs) g there defined =
    let e : n ≡ n + 0 = omega arith in
    let d : is_defined f ≡ true = ap is_defined (same_Some f g there) ∙ defined in
    let rest : find (is_of n) (annotated_from i m (suc n) fs) ≡ None = none_before i m n (suc n) fs (omega arith) in
    subst (λ z. find (is_of z) (annotated_from i m n (f ∷ fs)) ≡ option_map (marked z) (slot_of i m z)) e
    (ap (λ b. find (is_of n) (option_to_list (if b then option_map (marked n) (slot_of i m n) else None) ++ annotated_from i m (suc n) fs)) d
    ∙ stands n (slot_of i m n) n (annotated_from i m (suc n) fs) refl rest)
found_from i m n (suc k) (f ∷ fs) g there defined =
    let e : suc n + k ≡ n + suc k = omega arith in
    skip_mark i m (n + suc k) n (is_defined f) (annotated_from i m (suc n) fs) (grind (arith, nat_tests))
    ∙ subst (λ z. find (is_of z) (annotated_from i m (suc n) fs) ≡ option_map (marked z) (slot_of i m z)) e (found_from i m (suc n) k fs g there defined)

-- a function that a module defines stands among the annotated ones where it gets a slot type
pub found_marked : (i : Interface) (m : Module) (k : ℕ) → IsDefinedAt m.functions k → find (is_of k) (annotated_of i m) ≡ option_map (marked k) (slot_of i m k)
found_marked i m k d =
    let e : 0 + k ≡ k = omega arith in
    subst (λ z. find (is_of z) (annotated_of i m) ≡ option_map (marked z) (slot_of i m z)) e (found_from i m 0 k m.functions d.function d.there d.defined)

slot_told : (p : Program) (k : ℕ) (o : Option ℕ) → option_and_then (annotation_at p.interface) (option_map (λ (x : Marked). Slot x.slot) (option_map (marked k) o)) ≡ option_and_then (slot_annotation p.interface) o
slot_told p k None = refl
slot_told p k (Some s) = refl

abbrev home_annotated : Interface → Option ProgramModule → Option (List Marked)
home_annotated i m = option_map (λ (x : ProgramModule). annotated_of i x.«module») m

module_told_by : (p : Program) (h k : ℕ) (m : Option ProgramModule) (list : List Marked) → IsDefinedAt (module_or_empty m).functions k → Some list ≡ home_annotated p.interface m
    → option_and_then (annotation_at p.interface) (option_map (λ (x : Marked). Slot x.slot) (find (is_of k) list)) ≡ option_and_then (slot_annotation p.interface) (slot_of p.interface (module_or_empty m) k)
module_told_by p h k None list d e = absurd (cc)
module_told_by p h k (Some m) list d e =
    let is : list ≡ annotated_of p.interface m.«module» = cc in
    ap (λ xs. option_and_then (annotation_at p.interface) (option_map (λ (x : Marked). Slot x.slot) (find (is_of k) xs))) is
    ∙ (ap (λ o. option_and_then (annotation_at p.interface) (option_map (λ (x : Marked). Slot x.slot) o)) (found_marked p.interface m.«module» k d)
    ∙ slot_told p k (slot_of p.interface m.«module» k))

entry_defined : (p : Program) (h k : ℕ) → IsEntry p (Of (Some h) k) → IsDefinedAt (module_of p (Some h)).functions k
unfolding IsEntry
entry_defined p h k d = d

-- what is told of a function of a module
pub module_told : (p : Program) (h k : ℕ) (list : List Marked) (annotated : List (List Marked)) (r : Option Source) → IsEntry p (Of (Some h) k) → annotated ≡ all_annotated p → Some list ≡ slice_get annotated h
    → r ≡ option_map (λ (x : Marked). Slot x.slot) (find (is_of k) list) → annotation_by p r ≡ annotation_of p (Of (Some h) k)
unfolding annotation_of annotation_by
module_told p h k list annotated r d all there is =
    ap (option_and_then (annotation_at p.interface)) is
    ∙ module_told_by p h k (slice_get p.modules h) list (entry_defined p h k d)
    (there ∙ (ap (λ xs. slice_get xs h) all ∙ slice_get-map (λ (x : ProgramModule). annotated_of p.interface x.«module») p.modules h))

no_module : (p : Program) (h k : ℕ) (m : Option ProgramModule) → IsDefinedAt (module_or_empty m).functions k → None ≡ home_annotated p.interface m → ⊥
no_module p h k None d e = let t : None ≡ Some d.function = d.there in absurd (cc)
no_module p h k (Some m) d e = absurd (cc)

pub module_untold : (p : Program) (h k : ℕ) (annotated : List (List Marked)) → IsEntry p (Of (Some h) k) → annotated ≡ all_annotated p → None ≡ slice_get annotated h → annotation_by p None ≡ annotation_of p (Of (Some h) k)
module_untold p h k annotated d all there =
    absurd (no_module p h k (slice_get p.modules h) (entry_defined p h k d)
    (there ∙ (ap (λ xs. slice_get xs h) all ∙ slice_get-map (λ (x : ProgramModule). annotated_of p.interface x.«module») p.modules h)))

-- all functions

told_by : (p : Program) (s : Option (Option Source)) (e : Option ProgramFunction) → option_map (annotation_by p) s ≡ option_map (annotation_of p) e
    → option_and_then (annotation_at p.interface) (source_of s) ≡ annotation_of_entry p e (function_of_entry p e)
unfolding annotation_of annotation_by
told_by p None None h = refl
told_by p None (Some e) h = absurd (cc)
told_by p (Some s) None h = absurd (cc)
told_by p (Some s) (Some e) h = same_Some _ _ h

pub known : (p : Program) (sources : List (Option Source)) → map (annotation_by p) sources ≡ map (annotation_of p) p.functions → Knows p sources
known p sources h = λ n.
    told_by p (slice_get sources n) (slice_get p.functions n)
    (sym (slice_get-map (annotation_by p) sources n) ∙ (ap (λ xs. slice_get xs n) h ∙ slice_get-map (annotation_of p) p.functions n))

pub known_all : (p : Program) (sources : List (Option Source)) (k : ℕ) → length p.functions ≤ k → map (annotation_by p) sources ≡ map (annotation_of p) (take k p.functions) → Knows p sources
known_all p sources k h e = known p sources (e ∙ ap (map (annotation_of p)) (take_all k p.functions h))

-- the function at a place
pub entry_here : (p : Program) (xs : List ProgramFunction) (k : ℕ) (d : ProgramFunction) → IsWellFormed p → xs ≡ p.functions → k < length xs → IsEntry p (get_or xs k d)
entry_here p xs k d well is h = entry_at p k (get_or xs k d) well (sym (ap (λ zs. slice_get zs k) is) ∙ slice_get-get_or xs k d h)
