-- The functions of a text in their order, beside the names that are expected.
use Rattle.std.proofs.Common.{◌≡◌, ◌∙◌, ℕ, ◌+◌, ◌<◌, ◌≤◌, Bool, true, false, cond, Some, None, List, [], ◌∷◌, ◌++◌, length, get_or, map, drop, refl, ap}
use Rattle.std.specs.Prelude.{bytes_eq, filter, slice_get}
use Rattle.std.specs.Option.{option_or}
use Rattle.std.proofs.lemmas.List.{drop_all}
use Rattle.lx_words.proofs.Lists.{goes_on, ends, rest_at}
use Rattle.lx_ir.specs.Lookup.{is_defined}
use Rattle.lx_ir.specs.declared.module.Function.{Function}
use Rattle.lx_image_texts.specs.ImageFaults.{defined_names, misplaced, wrapper_fault}
use Rattle.lx_image_check.specs.Expected.{fault_if_defined, is_body, name_if, place_fault}

named_if : (b : Bool) (f : Function) (fs : List Function) → map (λ g. g.name) (cond b (f ∷ filter is_body fs) (filter is_body fs)) ≡ name_if b f ++ defined_names fs
named_if true f fs = refl
named_if false f fs = refl

pub names_step : (fs : List Function) (k : ℕ) (f : Function) (old new all : List (List ℕ)) → k < length fs → f ≡ get_or fs k f
    → old ++ defined_names (drop k fs) ≡ all → new ≡ old ++ name_if (is_body f) f → new ++ defined_names (drop (k + 1) fs) ≡ all
names_step fs k f old new all h e was n =
    goes_on old new (name_if (is_body f) f) (defined_names (drop k fs)) (defined_names (drop (k + 1) fs)) all was (ap defined_names (rest_at fs k f h e) ∙ named_if (is_body f) f (drop (k + 1) fs)) n

pub names_end : (fs : List Function) (k : ℕ) (old all : List (List ℕ)) → length fs ≤ k → old ++ defined_names (drop k fs) ≡ all → old ≡ all
names_end fs k old all h was = ends old (defined_names (drop k fs)) all was (ap defined_names (drop_all k fs h))

pub wrappers_step : (ws : List Function) (k : ℕ) (w : Function) (old new all : List (List ℕ)) → k < length ws → w ≡ get_or ws k w
    → old ++ map (λ f. f.name) (drop k ws) ≡ all → new ≡ old ++ name_if true w → new ++ map (λ f. f.name) (drop (k + 1) ws) ≡ all
wrappers_step ws k w old new all h e was n =
    goes_on old new (w.name ∷ []) (map (λ (f : Function). f.name) (drop k ws)) (map (λ (f : Function). f.name) (drop (k + 1) ws)) all was (ap (map (λ (f : Function). f.name)) (rest_at ws k w h e)) n

pub wrappers_end : (ws : List Function) (k : ℕ) (old all : List (List ℕ)) → length ws ≤ k → old ++ map (λ f. f.name) (drop k ws) ≡ all → old ≡ all
wrappers_end ws k old all h was = ends old (map (λ (f : Function). f.name) (drop k ws)) all was (ap (map (λ (f : Function). f.name)) (drop_all k ws h))

-- the place of a function

named_place : (b : Bool) (n : List ℕ) (ns : List (List ℕ)) (f : Function) (fs : List Function)
    → cond b (misplaced ns fs) (Some (wrapper_fault f.line f.name 0)) ≡ option_or (cond b None (Some (wrapper_fault f.line f.name 0))) (misplaced ns fs)
named_place true n ns f fs = refl
named_place false n ns f fs = refl

first_place : (ns : List (List ℕ)) (f : Function) (fs : List Function) → misplaced ns (f ∷ fs) ≡ option_or (place_fault (slice_get ns 0) f) (misplaced (drop 1 ns) fs)
first_place [] f fs = refl
first_place (n ∷ ns) f fs = named_place (bytes_eq n f.name) n ns f fs

place_if : (b : Bool) (ns : List (List ℕ)) (f : Function) (fs : List Function)
    → misplaced ns (cond b (f ∷ fs) fs) ≡ option_or (cond b (place_fault (slice_get ns 0) f) None) (misplaced (cond b (drop 1 ns) ns) fs)
place_if true ns f fs = first_place ns f fs
place_if false ns f fs = refl

pub place_step : (ns : List (List ℕ)) (fs : List Function) (k : ℕ) (f : Function) → k < length fs → f ≡ get_or fs k f
    → misplaced ns (filter is_defined (drop k fs)) ≡ option_or (fault_if_defined (slice_get ns 0) f) (misplaced (cond (is_defined f) (drop 1 ns) ns) (filter is_defined (drop (k + 1) fs)))
place_step ns fs k f h e =
    ap (λ (xs : List Function). misplaced ns (filter is_defined xs)) (rest_at fs k f h e) ∙ place_if (is_defined f) ns f (filter is_defined (drop (k + 1) fs))

pub place_end : (ns : List (List ℕ)) (fs : List Function) (k : ℕ) → length fs ≤ k → misplaced ns (filter is_defined (drop k fs)) ≡ None
place_end ns fs k h = ap (λ (xs : List Function). misplaced ns (filter is_defined xs)) (drop_all k fs h)
