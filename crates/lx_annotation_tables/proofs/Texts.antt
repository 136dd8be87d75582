-- What holds of each element of a list, and of each function of a program.
use Rattle.std.proofs.Common.{◌≡◌, ℕ, zero, suc, ◌+◌, Bool, true, false, Some, None, List, [], ◌∷◌, ◌++◌, refl, ap, sym, subst, ◌∙◌, arith}
use Rattle.std.specs.Prelude.{slice_get}
use Rattle.std.proofs.lemmas.Option.{same_Some}
use Rattle.lx_words.proofs.Lists.{from_start}
use Rattle.lx_ir.specs.declared.module.Function.{Function}
use Rattle.lx_ir.specs.declared.module.Module.{Module}
use Rattle.lx_ir.specs.Lookup.{is_defined}
use Rattle.lx_model.specs.declared.program.Program.{Program}
use Rattle.lx_model.specs.declared.program.ProgramModule.{ProgramModule}
use Rattle.lx_model.specs.declared.program.ProgramFunction.{ProgramFunction}
use Rattle.lx_model.specs.declared.program.ProgramFunction.TheVariants.{Of}
use Rattle.lx_model.specs.Program.{Home, module_of}
use Rattle.lx_link_texts.specs.Placing.{functions_of, entries_from, entry_if, module_entries, natives}
use Rattle.lx_link_texts.specs.WellFormed.{IsWellFormed, texts_of}
use Rattle.lx_annotation_tables.specs.Entries.{IsEntry}
use Rattle.lx_model.proofs.Homes.{module_at}

-- each element of a list
abbrev pub Each : {A : Type 0} → (A → Type 0) → List A → Type 0
Each P [] = Unit {0}
Each P (x ∷ xs) = P x × Each P xs

pub each_join : {A : Type 0} (P : A → Type 0) (xs ys : List A) → Each P xs → Each P ys → Each P (xs ++ ys)
each_join P [] ys e f = f
each_join P (x ∷ xs) ys e f = (e.0, each_join P xs ys e.1 f)

pub each_at : {A : Type 0} (P : A → Type 0) (xs : List A) (k : ℕ) (x : A) → Each P xs → slice_get xs k ≡ Some x → P x
each_at P [] k x e h = absurd (cc)
each_at P (y ∷ ys) zero x e h = subst P (same_Some y x h) e.0
each_at P (y ∷ ys) (suc k) x e h = each_at P ys k x e.1 h

-- what goes on behind one element
pub goes_on : {A : Type 0} (all : List A) (k : ℕ) (x : A) (xs : List A) → ((j : ℕ) → slice_get all (k + j) ≡ slice_get (x ∷ xs) j) → (j : ℕ) → slice_get all (k + 1 + j) ≡ slice_get xs j
goes_on all k x xs there j =
    let e : k + 1 + j ≡ k + suc j = omega arith in
    ap (slice_get all) e ∙ there (suc j)

pub first_there : {A : Type 0} (all : List A) (k : ℕ) (x : A) (xs : List A) → ((j : ℕ) → slice_get all (k + j) ≡ slice_get (x ∷ xs) j) → slice_get all k ≡ Some x
first_there all k x xs there =
    let e : k ≡ k + 0 = omega arith in
    ap (slice_get all) e ∙ there 0

-- entries

entry_there : (p : Program) (home : Home) (k : ℕ) (f : Function) (b : Bool) → is_defined f ≡ b → slice_get (module_of p home).functions k ≡ Some f → Each (IsEntry p) (entry_if b (Of home k))
unfolding IsEntry
entry_there p home k f true defined there = (record { function = f; there = there; defined = defined }, tt)
entry_there p home k f false defined there = tt

entries_there : (p : Program) (home : Home) (k : ℕ) (fs : List Function) → ((j : ℕ) → slice_get (module_of p home).functions (k + j) ≡ slice_get fs j) → Each (IsEntry p) (entries_from home k fs)
entries_there p home k [] there = tt
entries_there p home k (f ∷ fs) there =
    each_join (IsEntry p) (entry_if (is_defined f) (Of home k)) (entries_from home (k + 1) fs)
    (entry_there p home k f (is_defined f) refl (first_there (module_of p home).functions k f fs there))
    (entries_there p home (k + 1) fs (goes_on (module_of p home).functions k f fs there))

module_entries_there : (p : Program) (k : ℕ) (ms : List ProgramModule) → ((j : ℕ) → slice_get p.modules (k + j) ≡ slice_get ms j) → Each (IsEntry p) (module_entries k ms)
module_entries_there p k [] there = tt
module_entries_there p k (m ∷ ms) there =
    let is : module_of p (Some k) ≡ m.«module» = module_at p k m (first_there p.modules k m ms there) in
    each_join (IsEntry p) (entries_from (Some k) 0 m.«module».functions) (module_entries (k + 1) ms)
    (entries_there p (Some k) 0 m.«module».functions (λ j. ap (λ (text : Module). slice_get text.functions (0 + j)) is ∙ ap (slice_get m.«module».functions) (omega arith)))
    (module_entries_there p (k + 1) ms (goes_on p.modules k m ms there))

natives_there : (p : Program) → Each (IsEntry p) natives
unfolding IsEntry
natives_there p = (tt, (tt, (tt, (tt, (tt, (tt, tt))))))

all_entries : (p : Program) → Each (IsEntry p) (functions_of (texts_of p))
unfolding functions_of
all_entries p =
    each_join (IsEntry p) natives (entries_from None 0 p.kernel.functions ++ module_entries 0 p.modules) (natives_there p)
    (each_join (IsEntry p) (entries_from None 0 p.kernel.functions) (module_entries 0 p.modules)
    (entries_there p None 0 p.kernel.functions (from_start p.kernel.functions))
    (module_entries_there p 0 p.modules (from_start p.modules)))

-- a function of a well-formed program by its number
pub entry_at : (p : Program) (k : ℕ) (e : ProgramFunction) → IsWellFormed p → slice_get p.functions k ≡ Some e → IsEntry p e
entry_at p k e well there = each_at (IsEntry p) p.functions k e (subst (Each (IsEntry p)) (sym well.functions) (all_entries p)) there
