-- Lemmas on how many functions texts define.
use Rattle.std.proofs.Common.{◌≡◌, ℕ, zero, suc, ◌+◌, ◌<◌, ◌≤◌, Bool, true, false, Some, None, List, [], ◌∷◌, ◌++◌, length, get_or, drop, refl, ap, sym, ◌∙◌, arith}
use Rattle.std.specs.Prelude.{if◌then◌else◌}
use Rattle.std.proofs.lemmas.List.{drop_all, length-append}
use Rattle.lx_words.proofs.Lists.{rest_at}
use Rattle.lx_ir.specs.declared.module.Function.{Function}
use Rattle.lx_ir.specs.Lookup.{is_defined}
use Rattle.lx_model.specs.declared.program.ProgramModule.{ProgramModule}
use Rattle.lx_model.specs.declared.program.ProgramFunction.{ProgramFunction}
use Rattle.lx_model.specs.declared.program.ProgramFunction.TheVariants.{Of}
use Rattle.lx_model.specs.Program.{Home}
use Rattle.lx_link_texts.specs.declared.sources.Sources.{Sources}
use Rattle.lx_link_texts.specs.Placing.{entries_from, entry_if, functions_of, module_entries, natives}

abbrev count_if : Bool → ℕ
count_if b = if b then 1 else 0

one_entry : (b : Bool) (x : ProgramFunction) → length (entry_if b x) ≡ count_if b
one_entry true x = refl
one_entry false x = refl

-- one function more
entries_length : (home : Home) (k : ℕ) (f : Function) (fs : List Function) → length (entries_from home k (f ∷ fs)) ≡ count_if (is_defined f) + length (entries_from home (k + 1) fs)
entries_length home k f fs =
    length-append (entry_if (is_defined f) (Of home k)) (entries_from home (k + 1) fs)
    ∙ ap (λ n. n + length (entries_from home (k + 1) fs)) (one_entry (is_defined f) (Of home k))

-- the count is the same, whichever text it is and whatever numbers the functions have
same_count : (a b : Home) (j k : ℕ) (fs : List Function) → length (entries_from a j fs) ≡ length (entries_from b k fs)
same_count a b j k [] = refl
same_count a b j k (f ∷ fs) =
    entries_length a j f fs
    ∙ ap (λ n. count_if (is_defined f) + n) (same_count a b (j + 1) (k + 1) fs)
    ∙ sym (entries_length b k f fs)

pub counted_step : (fs : List Function) (i : ℕ) (f : Function) (n old new all : ℕ) → i < length fs → f ≡ get_or fs i f → n ≡ (if is_defined f then 1 else 0)
    → old + length (entries_from None i (drop i fs)) ≡ all → new ≡ old + n → new + length (entries_from None (i + 1) (drop (i + 1) fs)) ≡ all
counted_step fs i f n old new all h e d k w =
    let more : length (entries_from None i (drop i fs)) ≡ count_if (is_defined f) + length (entries_from None (i + 1) (drop (i + 1) fs)) =
    ap (λ l. length (entries_from None i l)) (rest_at fs i f h e) ∙ entries_length None i f (drop (i + 1) fs) in
    omega (arith, more, d, k, w)

pub counted_end : (fs : List Function) (i old all : ℕ) → length fs ≤ i → old + length (entries_from None i (drop i fs)) ≡ all → old ≡ all
counted_end fs i old all h k =
    let none : length (entries_from None i (drop i fs)) ≡ 0 = ap (λ l. length (entries_from None i l)) (drop_all i fs h) in
    omega (arith, none, k)

pub module_counted_step : (ms : List ProgramModule) (i : ℕ) (m : ProgramModule) (n old new all : ℕ) → i < length ms → m ≡ get_or ms i m → n ≡ length (entries_from None 0 m.«module».functions)
    → old + length (module_entries i (drop i ms)) ≡ all → new ≡ old + n → new + length (module_entries (i + 1) (drop (i + 1) ms)) ≡ all
module_counted_step ms i m n old new all h e d k w =
    let piece = entries_from (Some i) 0 m.«module».functions in
    let more : length (module_entries i (drop i ms)) ≡ length piece + length (module_entries (i + 1) (drop (i + 1) ms)) =
    ap (λ l. length (module_entries i l)) (rest_at ms i m h e) ∙ length-append piece (module_entries (i + 1) (drop (i + 1) ms)) in
    let same : length piece ≡ length (entries_from None 0 m.«module».functions) = same_count (Some i) None 0 0 m.«module».functions in
    omega (arith, more, same, d, k, w)

pub module_counted_end : (ms : List ProgramModule) (i old all : ℕ) → length ms ≤ i → old + length (module_entries i (drop i ms)) ≡ all → old ≡ all
module_counted_end ms i old all h k =
    let none : length (module_entries i (drop i ms)) ≡ 0 = ap (λ l. length (module_entries i l)) (drop_all i ms h) in
    omega (arith, none, k)

-- the natives, those of the kernel and those of the modules
pub all_counted : (s : Sources) (kernel all : ℕ) → kernel ≡ length (entries_from None 0 s.kernel.functions) → all ≡ 6 + kernel + length (module_entries 0 s.modules) → all ≡ length (functions_of s)
unfolding functions_of
all_counted s kernel all k a =
    let defined = entries_from None 0 s.kernel.functions in
    let rest = module_entries 0 s.modules in
    let e : length (functions_of s) ≡ length (natives ++ (defined ++ rest)) = refl in
    let f : length (natives ++ (defined ++ rest)) ≡ length natives + length (defined ++ rest) = length-append natives (defined ++ rest) in
    let six : length natives ≡ 6 = refl in
    let g : length (defined ++ rest) ≡ length defined + length rest = length-append defined rest in
    omega (arith, e, f, six, g, k, a)
