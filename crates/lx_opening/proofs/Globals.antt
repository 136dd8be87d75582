-- Each global of a well-formed program lies in memory.
use Rattle.std.proofs.Common.{◌≡◌, ℕ, zero, suc, ◌+◌, ◌<◌, ◌≤◌, true, ◌&&◌, Option, Some, None, List, [], ◌∷◌, length, get_or, nat_le, refl, ap, sym, subst, ◌∙◌, arith}
use Rattle.std.specs.Prelude.{slice_get, IsTrue}
use Rattle.std.proofs.lemmas.Bool.{and_parts}
use Rattle.std.proofs.lemmas.Option.{slice_get-get_or, same_Some}
use Rattle.lx_words.proofs.Options.{first_none, rest_none}
use Rattle.lx_words.proofs.Lists.{all_at, all_got, from_start}
use Rattle.lx_caps.specs.Regions.{globals_start, mapped}
use Rattle.lx_ir.specs.declared.types.NamedType.{NamedType}
use Rattle.lx_ir.specs.declared.module.GlobalVar.{GlobalVar}
use Rattle.lx_ir.specs.declared.module.Module.{Module}
use Rattle.lx_ir.specs.Faults.{Fault, FirstBehind, first_some, global_fault, init_fits}
use Rattle.lx_ir.specs.Lawful.{is_lawful_global, is_lawful_init, is_name, nesting_of_init}
use Rattle.lx_ir.specs.Layout.{size_of, is_lawful_type}
use Rattle.lx_ir.specs.Verified.{IsVerified}
use Rattle.lx_ir.proofs.Refused.{unless_none}
use Rattle.lx_model.specs.declared.program.Program.{Program}
use Rattle.lx_model.specs.declared.program.ProgramModule.{ProgramModule}
use Rattle.lx_model.specs.declared.program.ProgramGlobal.{ProgramGlobal}
use Rattle.lx_model.specs.Program.{Home, module_of, module_or_empty}
use Rattle.lx_model.specs.Opening.{global_of}
use Rattle.lx_link_texts.specs.Placing.{globals_of, globals_end, global_size, places_from, module_places, modules_end, kernel_end, end_behind, end_of, start_behind, place, last_end}
use Rattle.lx_link_texts.specs.WellFormed.{IsWellFormed, IsModuleOf, texts_of}
use Rattle.lx_link_texts.proofs.Places.{behind, farther, farther_modules}
use Rattle.lx_annotation_tables.proofs.Texts.{Each, each_join, each_at, goes_on, first_there}
use Rattle.lx_opening.specs.Placed.{IsGlobalPlaced, is_init_placed}
use Rattle.lx_opening.proofs.Typed.{in_globals, init_placed}
use Rattle.lx_model.proofs.Homes.{module_at}

-- a global's bytes lie in the region of globals
abbrev LiesIn : Program → ProgramGlobal → Type 0
LiesIn p x = (g : GlobalVar) → global_of p x ≡ Some g → (globals_start ≤ x.at) × (x.at + size_of (module_of p x.«module»).types g.ty ≤ last_end)

size_is : (types : List NamedType) (g : GlobalVar) → global_size types g ≡ size_of types g.ty
unfolding global_size
size_is types g = refl

lies : (p : Program) (home : Home) (text : Module) → module_of p home ≡ text → (k end : ℕ) (g : GlobalVar) → slice_get text.globals k ≡ Some g → globals_start ≤ end → end_of text.types end g ≤ last_end → LiesIn p (place home k (start_behind end))
lies p home text is k end g there low high found e =
    let same : found ≡ g = same_Some found g (sym e ∙ (ap (λ (m : Module). slice_get m.globals k) is ∙ there)) in
    let size : size_of (module_of p home).types found.ty ≡ global_size text.types g = (λ j. size_of (is j).types (same j).ty) ∙ sym (size_is text.types g) in
    (omega (arith, low, behind end), omega (arith, size, high))

places_lie : (p : Program) (home : Home) (text : Module) → module_of p home ≡ text → (k end : ℕ) (gs : List GlobalVar) → ((j : ℕ) → slice_get text.globals (k + j) ≡ slice_get gs j)
    → globals_start ≤ end → end_behind text.types end gs ≤ last_end → Each (LiesIn p) (places_from text.types home k end gs)
places_lie p home text is k end [] there low high = tt
places_lie p home text is k end (g ∷ gs) there low high =
    let far : end_of text.types end g ≤ end_behind text.types (end_of text.types end g) gs = farther text.types (end_of text.types end g) gs in
    let near : globals_start ≤ end_of text.types end g = omega (arith, low, behind end) in (
      lies p home text is k end g (first_there text.globals k g gs there) low (omega (arith, far, high)),
      places_lie p home text is (k + 1) (end_of text.types end g) gs (goes_on text.globals k g gs there) near high,
    )

modules_lie : (p : Program) (k end : ℕ) (ms : List ProgramModule) → ((j : ℕ) → slice_get p.modules (k + j) ≡ slice_get ms j) → globals_start ≤ end → modules_end end ms ≤ last_end → Each (LiesIn p) (module_places k end ms)
modules_lie p k end [] there low high = tt
modules_lie p k end (m ∷ ms) there low high =
    let text : Module = m.«module» in
    let next : ℕ = end_behind text.types end text.globals in
    let far : next ≤ modules_end next ms = farther_modules next ms in
    let near : end ≤ next = farther text.types end text.globals in
    each_join (LiesIn p) (places_from text.types (Some k) 0 end text.globals) (module_places (k + 1) next ms)
    (places_lie p (Some k) text (module_at p k m (first_there p.modules k m ms there)) 0 end text.globals (from_start text.globals) low (omega (arith, far, high)))
    (modules_lie p (k + 1) next ms (goes_on p.modules k m ms there) (omega (arith, low, near)) high)

all_lie : (p : Program) → globals_end (texts_of p) ≤ last_end → Each (LiesIn p) (globals_of (texts_of p))
unfolding globals_of globals_end
all_lie p high =
    let end : ℕ = kernel_end (texts_of p) in
    let far : end ≤ modules_end end p.modules = farther_modules end p.modules in
    let near : globals_start ≤ end = farther p.kernel.types globals_start p.kernel.globals in
    each_join (LiesIn p) (places_from p.kernel.types None 0 globals_start p.kernel.globals) (module_places 0 end p.modules)
    (places_lie p None p.kernel refl 0 globals_start p.kernel.globals (from_start p.kernel.globals) (omega arith) (omega (arith, far, high)))
    (modules_lie p 0 end p.modules (from_start p.modules) near high)

-- the globals of a verified text

pub record IsTyped (m : Module) (g : GlobalVar) : Type 0 where
  pub lawful : is_lawful_type m.types g.ty ≡ true
  pub init : is_lawful_init m g.ty g.init ≡ true
  pub fits : init_fits m.types g.ty g.init ≡ true

no_fault : (o : Option Fault) (m : Module) → FirstBehind o m None → o ≡ None
no_fault None m h = refl
no_fault (Some x) m h = absurd (cc)

each_none : {A B : Type 0} (f : A → Option B) (xs : List A) (k : ℕ) (x : A) → first_some f xs ≡ None → slice_get xs k ≡ Some x → f x ≡ None
each_none f [] k x h e = absurd (cc)
each_none f (y ∷ ys) zero x h e = subst (λ z. f z ≡ None) (same_Some y x e) (first_none (f y) (first_some f ys) h)
each_none f (y ∷ ys) (suc k) x h e = each_none f ys k x (rest_none (f y) (first_some f ys) h) e

typed : (m : Module) (k : ℕ) (g : GlobalVar) → IsVerified m → slice_get m.globals k ≡ Some g → IsTyped m g
typed m k g verified there =
    let lawful : is_lawful_global m g ≡ true = all_at (is_lawful_global m) m.globals k g verified.lawful.globals there in
    let a = and_parts (is_name g.name && is_lawful_type m.types g.ty && is_lawful_init m g.ty g.init) (nat_le (nesting_of_init g.init) 64) lawful in
    let b = and_parts (is_name g.name && is_lawful_type m.types g.ty) (is_lawful_init m g.ty g.init) a.0 in
    let c = and_parts (is_name g.name) (is_lawful_type m.types g.ty) b.0 in
    record {
      lawful = c.1;
      init = b.1;
      fits = unless_none (init_fits m.types g.ty g.init) _ (each_none (global_fault m) m.globals k g (no_fault (first_some (global_fault m) m.globals) m verified.no_fault) there);
    }

typed_module : (kernel : Module) (p : Program) (m : Option ProgramModule) (k : ℕ) (g : GlobalVar) → ((x : ProgramModule) → m ≡ Some x → IsModuleOf kernel p.interface x.«module») → slice_get (module_or_empty m).globals k ≡ Some g → IsTyped (module_or_empty m) g
typed_module kernel p None k g all there = absurd (cc)
typed_module kernel p (Some x) k g all there = typed x.«module» k g (all x refl).verified there

typed_global : (p : Program) (home : Home) (k : ℕ) (g : GlobalVar) → IsWellFormed p → slice_get (module_of p home).globals k ≡ Some g → IsTyped (module_of p home) g
typed_global p None k g well there = typed p.kernel k g well.kernel_verified there
typed_global p (Some h) k g well there =
    typed_module p.kernel p (slice_get p.modules h) k g (λ x e. all_got (λ (m : ProgramModule). IsModuleOf p.kernel p.interface m.«module») p.modules h x well.modules e) there

-- each global by its place in the program
pub global_placed : (p : Program) (k : ℕ) (x : ProgramGlobal) → IsWellFormed p → slice_get p.globals k ≡ Some x → IsGlobalPlaced p x
unfolding IsGlobalPlaced
global_placed p k x well there = λ g e.
    let types : List NamedType = (module_of p x.«module»).types in
    let t = typed_global p x.«module» x.global g well e in
    let l = each_at (LiesIn p) p.globals k x (subst (Each (LiesIn p)) (sym well.globals) (all_lie p well.globals_fit)) there g e in
    record {
      lawful = t.lawful;
      within = in_globals x.at (size_of types g.ty) l.0 l.1;
      init = init_placed p x.«module» x.at g.ty g.init t.lawful t.init t.fits l.0 l.1;
    }

-- what is known of a global that is there

pub placed_type : (p : Program) (x : ProgramGlobal) (g : GlobalVar) → IsGlobalPlaced p x → Some g ≡ global_of p x → IsTrue (is_lawful_type (module_of p x.«module»).types g.ty)
unfolding IsGlobalPlaced
placed_type p x g placed e = (placed g (sym e)).lawful

pub placed_range : (p : Program) (x : ProgramGlobal) (g : GlobalVar) → IsGlobalPlaced p x → Some g ≡ global_of p x → mapped x.at (size_of (module_of p x.«module»).types g.ty) ≡ true
unfolding IsGlobalPlaced
placed_range p x g placed e = (placed g (sym e)).within

pub placed_init : (p : Program) (x : ProgramGlobal) (g : GlobalVar) → IsGlobalPlaced p x → Some g ≡ global_of p x → is_init_placed p x.«module» x.at g.init ≡ true
unfolding IsGlobalPlaced
placed_init p x g placed e = (placed g (sym e)).init

-- the global at a place
pub global_here : (p : Program) (xs : List ProgramGlobal) (k : ℕ) (d : ProgramGlobal) → IsWellFormed p → xs ≡ p.globals → k < length xs → IsGlobalPlaced p (get_or xs k d)
global_here p xs k d well is h = global_placed p k (get_or xs k d) well (sym (ap (λ zs. slice_get zs k) is) ∙ slice_get-get_or xs k d h)
