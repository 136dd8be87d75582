-- Lemmas on lists that grow by the functions of texts.
use Rattle.std.proofs.Common.{◌≡◌, ℕ, zero, suc, ◌+◌, ◌<◌, ◌≤◌, Some, List, [], ◌∷◌, ◌++◌, length, get_or, drop, refl, ap, ◌∙◌}
use Rattle.std.proofs.lemmas.List.{drop_all}
use Rattle.lx_words.proofs.Lists.{rest_at, goes_on, ends}
use Rattle.lx_ir.specs.declared.module.Function.{Function}
use Rattle.lx_ir.specs.Lookup.{is_defined}
use Rattle.lx_model.specs.declared.program.ProgramModule.{ProgramModule}
use Rattle.lx_model.specs.declared.program.ProgramFunction.{ProgramFunction}
use Rattle.lx_model.specs.declared.program.ProgramFunction.TheVariants.{Of}
use Rattle.lx_model.specs.Program.{Home}
use Rattle.lx_link_texts.specs.Placing.{entries_from, entry_if, module_entries}

pub entries_step : (home : Home) (fs : List Function) (i : ℕ) (f : Function) (old new all : List ProgramFunction) → i < length fs → f ≡ get_or fs i f
    → old ++ entries_from home i (drop i fs) ≡ all → new ≡ old ++ entry_if (is_defined f) (Of home i) → new ++ entries_from home (i + 1) (drop (i + 1) fs) ≡ all
entries_step home fs i f old new all h e k n =
    goes_on old new (entry_if (is_defined f) (Of home i)) (entries_from home i (drop i fs)) (entries_from home (i + 1) (drop (i + 1) fs)) all k (ap (entries_from home i) (rest_at fs i f h e)) n

pub entries_end : (home : Home) (fs : List Function) (i : ℕ) (old all : List ProgramFunction) → length fs ≤ i → old ++ entries_from home i (drop i fs) ≡ all → old ≡ all
entries_end home fs i old all h k = ends old (entries_from home i (drop i fs)) all k (ap (entries_from home i) (drop_all i fs h))

pub module_entries_step : (ms : List ProgramModule) (i : ℕ) (m : ProgramModule) (old new all : List ProgramFunction) → i < length ms → m ≡ get_or ms i m
    → old ++ module_entries i (drop i ms) ≡ all → new ≡ old ++ entries_from (Some i) 0 m.«module».functions → new ++ module_entries (i + 1) (drop (i + 1) ms) ≡ all
module_entries_step ms i m old new all h e k n =
    goes_on old new (entries_from (Some i) 0 m.«module».functions) (module_entries i (drop i ms)) (module_entries (i + 1) (drop (i + 1) ms)) all k (ap (module_entries i) (rest_at ms i m h e)) n

pub module_entries_end : (ms : List ProgramModule) (i : ℕ) (old all : List ProgramFunction) → length ms ≤ i → old ++ module_entries i (drop i ms) ≡ all → old ≡ all
module_entries_end ms i old all h k = ends old (module_entries i (drop i ms)) all k (ap (module_entries i) (drop_all i ms h))
