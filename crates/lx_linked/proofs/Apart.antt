-- Globals are placed one behind another, so no byte of a variable is a constant's.
use Rattle.std.proofs.Common.{◌≡◌, ℕ, zero, suc, ◌+◌, ◌<◌, ◌≤◌, Bool, true, false, not, Option, Some, None, List, [], ◌∷◌, ◌++◌, drop, slice_get, inl, inr, refl, sym, ap, subst, arith}
use Rattle.std.specs.Prelude.{⊤}
use Rattle.std.specs.List.{list_any}
use Rattle.std.proofs.lemmas.Bool.{and_parts, cases_Bool, or_cases}
use Rattle.lx_caps.specs.Regions.{globals_start}
use Rattle.lx_ir.specs.declared.module.GlobalVar.{GlobalVar}
use Rattle.lx_ir.specs.declared.module.Module.{Module}
use Rattle.lx_ir.specs.Layout.{size_of}
use Rattle.lx_model.specs.declared.program.Program.{Program}
use Rattle.lx_model.specs.declared.program.ProgramGlobal.{ProgramGlobal}
use Rattle.lx_model.specs.declared.program.ProgramModule.{ProgramModule}
use Rattle.lx_model.specs.Opening.{global_of}
use Rattle.lx_model.specs.Program.{Home, module_of, module_or_empty}
use Rattle.lx_link_texts.specs.declared.sources.Sources.{Sources}
use Rattle.lx_link_texts.specs.Placing.{end_behind, end_of, global_size, globals_of, kernel_end, module_places, place, places_from, program_of, start_behind}
use Rattle.lx_run_laws.specs.Opened.{global_has, is_constant, is_constant_with, is_variable, is_variable_with, StandApart}
use Rattle.lx_caps.proofs.Covering.{covers_parts}
use Rattle.lx_link_texts.proofs.Places.{behind}

-- how many bytes a place takes
abbrev size_by : Program → ProgramGlobal → Option GlobalVar → ℕ
size_by p x None = 0
size_by p x (Some g) = size_of (module_of p x.«module»).types g.ty

abbrev size_at : Program → ProgramGlobal → ℕ
size_at p x = size_by p x (global_of p x)

-- each begins at this address or behind it, and behind the one before it
abbrev Ordered : Program → ℕ → List ProgramGlobal → Type 0
Ordered p from [] = ⊤
Ordered p from (x ∷ xs) = (from ≤ x.at) × Ordered p (x.at + size_at p x) xs

-- a byte that a global has lies within it

variable_within : (p : Program) (b : ℕ) (x : ProgramGlobal) (g : Option GlobalVar) → is_variable p b x g ≡ true → (x.at ≤ b) × (b < x.at + size_by p x g)
variable_within p b x None is = absurd (cc)
variable_within p b x (Some g) is = covers_parts x.at _ b (and_parts (not g.constant) (global_has p b x g) is).1

constant_within : (p : Program) (b : ℕ) (x : ProgramGlobal) (g : Option GlobalVar) → is_constant p b x g ≡ true → (x.at ≤ b) × (b < x.at + size_by p x g)
constant_within p b x None is = absurd (cc)
constant_within p b x (Some g) is = covers_parts x.at _ b (and_parts g.constant (global_has p b x g) is).1

abbrev Within : Program → ℕ → (ProgramGlobal → Bool) → Type 0
Within p b test = (x : ProgramGlobal) → test x ≡ true → (x.at ≤ b) × (b < x.at + size_at p x)

no_before : (p : Program) (b from : ℕ) (test : ProgramGlobal → Bool) (xs : List ProgramGlobal) → Within p b test → Ordered p from xs → b < from → list_any test xs ≡ true → ⊥
no_before p b from test [] in_it ordered less is = absurd (cc)
no_before p b from test (x ∷ xs) in_it ordered less is =
    let start = ordered.0 in
    elim (or_cases (test x) (list_any test xs) is) [
      | inl here ↦ (let there = (in_it x here).0 in absurd (omega (arith, there, start, less)))
      | inr later ↦ no_before p b (x.at + size_at p x) test xs in_it ordered.1 (omega (arith, start, less)) later
    ]

-- no global is both
not_both : (p : Program) (b : ℕ) (x : ProgramGlobal) (g : Option GlobalVar) → is_variable p b x g ≡ true → is_constant p b x g ≡ true → ⊥
not_both p b x None is also = absurd (cc)
not_both p b x (Some g) is also = neither g.constant (and_parts (not g.constant) (global_has p b x g) is).0 (and_parts g.constant (global_has p b x g) also).0 where
  neither : (c : Bool) → not c ≡ true → c ≡ true → ⊥
  neither true wrong is = absurd (cc)
  neither false is wrong = absurd (cc)

apart_in : (p : Program) (b from : ℕ) (xs : List ProgramGlobal) → Ordered p from xs → list_any (is_variable_with p b) xs ≡ true → list_any (is_constant_with p b) xs ≡ true → ⊥
apart_in p b from [] ordered is also = absurd (cc)
apart_in p b from (x ∷ xs) ordered is also =
    let variables : Within p b (is_variable_with p b) = λ y there. variable_within p b y (global_of p y) there in
    let constants : Within p b (is_constant_with p b) = λ y there. constant_within p b y (global_of p y) there in
    elim (or_cases (is_variable_with p b x) (list_any (is_variable_with p b) xs) is) [
      | inl here ↦ elim (or_cases (is_constant_with p b x) (list_any (is_constant_with p b) xs) also) [
        | inl now ↦ not_both p b x (global_of p x) here now
        | inr later ↦ no_before p b (x.at + size_at p x) (is_constant_with p b) xs constants ordered.1 (variables x here).1 later
      ]
      | inr there ↦ elim (or_cases (is_constant_with p b x) (list_any (is_constant_with p b) xs) also) [
        | inl now ↦ no_before p b (x.at + size_at p x) (is_variable_with p b) xs variables ordered.1 (constants x now).1 there
        | inr later ↦ apart_in p b (x.at + size_at p x) xs ordered.1 there later
      ]
    ]

-- places

first_of : {X : Type 0} (xs : List X) (k : ℕ) (y : X) (ys : List X) → drop k xs ≡ y ∷ ys → slice_get xs k ≡ Some y
first_of xs zero y ys is = ap (λ l. slice_get l 0) is
first_of [] (suc k) y ys is = absurd (cc)
first_of (x ∷ xs) (suc k) y ys is = first_of xs k y ys is

rest_of : {X : Type 0} (xs : List X) (k : ℕ) (y : X) (ys : List X) → drop k xs ≡ y ∷ ys → drop (suc k) xs ≡ ys
rest_of xs zero y ys is = ap (λ l. drop 1 l) is
rest_of [] (suc k) y ys is = absurd (cc)
rest_of (x ∷ xs) (suc k) y ys is = rest_of xs k y ys is

behind_of : {X : Type 0} (xs : List X) (k : ℕ) (y : X) (ys : List X) → drop k xs ≡ y ∷ ys → drop (k + 1) xs ≡ ys
behind_of xs k y ys is = let next : suc k ≡ k + 1 = omega arith in subst (λ n. drop n xs ≡ ys) next (rest_of xs k y ys is)

size_is : (p : Program) (home : Home) (k at : ℕ) (g : GlobalVar) → slice_get (module_of p home).globals k ≡ Some g → size_at p (place home k at) ≡ global_size (module_of p home).types g
unfolding global_size
size_is p home k at g is = ap (size_by p (place home k at)) is

places_ordered : (p : Program) (home : Home) (k end : ℕ) (gs : List GlobalVar) (more : List ProgramGlobal) → drop k (module_of p home).globals ≡ gs
    → Ordered p (end_behind (module_of p home).types end gs) more → Ordered p end (places_from (module_of p home).types home k end gs ++ more)
places_ordered p home k end [] more is rest = rest
places_ordered p home k end (g ∷ gs) more is rest = (
  behind end,
  subst (λ size. Ordered p (start_behind end + size) (places_from (module_of p home).types home (k + 1) (end_of (module_of p home).types end g) gs ++ more))
      (sym (size_is p home k (start_behind end) g (first_of (module_of p home).globals k g gs is)))
      (places_ordered p home (k + 1) (end_of (module_of p home).types end g) gs more (behind_of (module_of p home).globals k g gs is) rest),
)

modules_ordered : (p : Program) (k end : ℕ) (ms : List ProgramModule) → drop k p.modules ≡ ms → Ordered p end (module_places k end ms)
modules_ordered p k end [] is = tt
modules_ordered p k end (m ∷ ms) is =
    let same : module_of p (Some k) ≡ m.«module» = ap module_or_empty (first_of p.modules k m ms is) in
    subst (λ (n : Module). Ordered p end (places_from n.types (Some k) 0 end n.globals ++ module_places (k + 1) (end_behind n.types end n.globals) ms)) same
    (places_ordered p (Some k) 0 end (module_of p (Some k)).globals _ refl
    (modules_ordered p (k + 1) (end_behind (module_of p (Some k)).types end (module_of p (Some k)).globals) ms (behind_of p.modules k m ms is)))

globals_ordered : (s : Sources) → Ordered (program_of s) globals_start (globals_of s)
unfolding globals_of
globals_ordered s = places_ordered (program_of s) None 0 globals_start s.kernel.globals _ refl (modules_ordered (program_of s) 0 (kernel_end s) s.modules refl)

pub apart : (s : Sources) → StandApart (program_of s)
apart s b is =
    elim (cases_Bool (list_any (is_constant_with (program_of s) b) (program_of s).globals)) [
      | inl also ↦ absurd (apart_in (program_of s) b globals_start (program_of s).globals (globals_ordered s) is also)
      | inr none ↦ none
    ]
