-- Images that are made, one after the other, are images of all modules.
use Rattle.std.proofs.Common.{◌≡◌, ◌∙◌, sym, ap, subst, refl, ℕ, zero, suc, ◌+◌, ◌<◌, ◌≤◌, All, Option, Some, None, List, [], ◌∷◌, ◌++◌, length, take, get_or, arith}
use Rattle.std.specs.Prelude.{slice_get}
use Rattle.std.proofs.lemmas.List.{take_all, take_more}
use Rattle.std.proofs.lemmas.List.Elements.{All-cons, All-nil}
use Rattle.lx_ir.specs.declared.module.Module.{Module}
use Rattle.lx_ir.specs.Lawful.{IsPlain}
use Rattle.lx_ir.specs.Verified.{IsVerified}
use Rattle.lx_annot.specs.declared.interface.Interface.{Interface}
use Rattle.lx_propagate.specs.Slots.{conflict_of}
use Rattle.lx_image_texts.specs.ImageFaults.{ImageFault}
use Rattle.lx_image_texts.specs.Instrumented.{leaves_none, GuardsBut}
use Rattle.lx_input.specs.Laws.{HasNoConflict}
use Rattle.lx_link_texts.specs.WellFormed.{IsModuleOf, IsWellFormed}
use Rattle.lx_model.specs.declared.program.Program.{Program}
use Rattle.lx_model.specs.declared.program.ProgramModule.{ProgramModule}
use Rattle.lx_model.specs.Program.{module_of, module_or_empty}
use Rattle.lx_simulation.specs.Accepted.{AreOfTexts, IsAcceptedBy, IsImageOfText}
use Rattle.lx_simulation.specs.AcceptedLaws.{AcceptedLaws}
use Rattle.lx_opening.specs.Differing.{IsFirstDifferent}
use Rattle.lx_simulation.specs.Images.{AreFullImages}
use Rattle.lx_runs.specs.Images.{AreMadeOf, HasPushed, IsInstrumented, IsMadeOf}
use Rattle.lx_runs.specs.declared.images.Guarding.{Guarding}
use Rattle.lx_runs.specs.declared.images.Guarding.TheVariants.{Spared, Full}

-- one image

accepted_by : AcceptedLaws → (g : Guarding) (i : Interface) (m x : Module) → IsVerified m → IsPlain m → conflict_of i m ≡ None → IsVerified x → IsInstrumented g i m x → IsAcceptedBy i x × IsImageOfText m x
accepted_by laws Spared i m x verified plain agrees image is = laws.made i m x verified plain agrees image is
accepted_by laws Full i m x verified plain agrees image is = laws.made_full i m x verified plain agrees image is

-- the image that is made is accepted, so no fault is told of it
pub made_is : AcceptedLaws → (g : Guarding) (i : Interface) (m x : Module) → IsVerified m → IsPlain m → conflict_of i m ≡ None → IsVerified x → IsInstrumented g i m x → IsMadeOf g i m x
made_is laws g i m x verified plain agrees image is =
    let both = accepted_by laws g i m x verified plain agrees image is in
    record { guards = is; accepted = both.0; text = both.1 }

pub made_same : (g : Guarding) (i : Interface) (m x y : Module) → IsMadeOf g i m x → y ≡ x → IsMadeOf g i m y
made_same g i m x y is same = subst (IsMadeOf g i m) (sym same) is

pub never_told : (o : Option ImageFault) (f : ImageFault) → o ≡ None → o ≡ Some f → ⊥
never_told o f none some = absurd cc

-- the module with a number

pub module_at : (p : Program) (k : ℕ) (m : ProgramModule) → IsWellFormed p → k < length p.modules → m ≡ get_or p.modules k m → IsModuleOf p.kernel p.interface m.«module»
module_at p k m formed below at = subst (λ (n : ProgramModule). IsModuleOf p.kernel p.interface n.«module») (sym at) (formed.modules k m below)

pub agrees_at : (p : Program) (k : ℕ) (m : ProgramModule) → All (λ (n : ProgramModule). HasNoConflict p.interface n.«module») p.modules → k < length p.modules → m ≡ get_or p.modules k m
    → conflict_of p.interface m.«module» ≡ None
agrees_at p k m agree below at = subst (λ (n : ProgramModule). HasNoConflict p.interface n.«module») (sym at) (agree k m below)

-- one more

added : (g : Guarding) (i : Interface) (ms : List ProgramModule) (m : ProgramModule) (xs : List Module) (x : Module) → AreMadeOf g i ms xs → IsMadeOf g i m.«module» x → AreMadeOf g i (ms ++ m ∷ []) (xs ++ x ∷ [])
unfolding AreMadeOf
added g i [] m [] x all is = (is, tt)
added g i [] m (y ∷ ys) x all is = absurd all
added g i (n ∷ ms) m [] x all is = absurd all
added g i (n ∷ ms) m (y ∷ ys) x all is = (all.0, added g i ms m ys x all.1 is)

pub made_more : (g : Guarding) (i : Interface) (ms : List ProgramModule) (k : ℕ) (m : ProgramModule) (old new : List Module) → k < length ms → m ≡ get_or ms k m
    → AreMadeOf g i (take k ms) old → HasPushed g i m.«module» old new → AreMadeOf g i (take (k + 1) ms) new
made_more g i ms k m old new below at all (x, is, same) =
    let next : take (k + 1) ms ≡ take k ms ++ m ∷ [] = take_more ms k m below ∙ ap (λ (n : ProgramModule). take k ms ++ n ∷ []) (sym at) in
    subst (AreMadeOf g i (take (k + 1) ms)) (sym same) (subst (λ (ns : List ProgramModule). AreMadeOf g i ns (old ++ x ∷ [])) (sym next) (added g i (take k ms) m old x all is))

-- all of them

pub made_none : (g : Guarding) (i : Interface) (xs : List Module) → xs ≡ [] → AreMadeOf g i [] xs
unfolding AreMadeOf
made_none g i [] is = tt
made_none g i (x ∷ xs) is = absurd cc

pub made_all : (g : Guarding) (i : Interface) (ms : List ProgramModule) (k : ℕ) (xs : List Module) → length ms ≤ k → AreMadeOf g i (take k ms) xs → AreMadeOf g i ms xs
made_all g i ms k xs past all = subst (λ (ns : List ProgramModule). AreMadeOf g i ns xs) (take_all k ms past) all

-- what it says of each image

pub made_accepted : (g : Guarding) (i : Interface) (ms : List ProgramModule) (xs : List Module) → AreMadeOf g i ms xs → All (IsAcceptedBy i) xs
unfolding AreMadeOf
made_accepted g i [] [] all = All-nil (IsAcceptedBy i)
made_accepted g i [] (x ∷ xs) all = absurd all
made_accepted g i (m ∷ ms) [] all = absurd all
made_accepted g i (m ∷ ms) (x ∷ xs) all = All-cons (IsAcceptedBy i) x xs all.0.accepted (made_accepted g i ms xs all.1)

pub made_count : (g : Guarding) (i : Interface) (ms : List ProgramModule) (xs : List Module) → AreMadeOf g i ms xs → length xs ≡ length ms
unfolding AreMadeOf
made_count g i [] [] all = refl
made_count g i [] (x ∷ xs) all = absurd all
made_count g i (m ∷ ms) [] all = absurd all
made_count g i (m ∷ ms) (x ∷ xs) all = ap suc (made_count g i ms xs all.1)

texts_at : (g : Guarding) (i : Interface) (ms : List ProgramModule) (xs : List Module) → AreMadeOf g i ms xs → (k : ℕ) → k < length ms
    → (x : Module) × (slice_get xs k ≡ Some x) × IsImageOfText (module_or_empty (slice_get ms k)) x
unfolding AreMadeOf
texts_at g i [] xs all k below = absurd (omega (arith, below))
texts_at g i (m ∷ ms) [] all k below = absurd all
texts_at g i (m ∷ ms) (x ∷ xs) all zero below = (x, refl, all.0.text)
texts_at g i (m ∷ ms) (x ∷ xs) all (suc k) below = texts_at g i ms xs all.1 k (omega (arith, below))

pub made_texts : (g : Guarding) (p : Program) (xs : List Module) → AreMadeOf g p.interface p.modules xs → AreOfTexts p xs
made_texts g p xs all = λ k below. texts_at g p.interface p.modules xs all k below

-- so none is another text's

pub none_differs : (g : Guarding) (p : Program) (xs : List Module) (n : ℕ) → AreMadeOf g p.interface p.modules xs → IsFirstDifferent p xs n → ⊥
none_differs g p xs n all first =
    let text = made_texts g p xs all n first.«module» in
    let differs = first.differs in
    let same : text.0 ≡ differs.0 = let e = text.1 in let d = differs.1 in cc in
    differs.2 (subst (IsImageOfText (module_of p (Some n))) same text.2)

-- with a guard before each store

full_at : (i : Interface) (ms : List ProgramModule) (xs : List Module) → AreMadeOf Full i ms xs → (k : ℕ) → k < length ms
    → (x : Module) × (slice_get xs k ≡ Some x) × GuardsBut leaves_none i (module_or_empty (slice_get ms k)) x
unfolding AreMadeOf
full_at i [] xs all k below = absurd (omega (arith, below))
full_at i (m ∷ ms) [] all k below = absurd all
full_at i (m ∷ ms) (x ∷ xs) all zero below = (x, refl, all.0.guards)
full_at i (m ∷ ms) (x ∷ xs) all (suc k) below = full_at i ms xs all.1 k (omega (arith, below))

pub made_full : (p : Program) (xs : List Module) → AreMadeOf Full p.interface p.modules xs → AreFullImages p xs
made_full p xs all = λ k below. full_at p.interface p.modules xs all k below
