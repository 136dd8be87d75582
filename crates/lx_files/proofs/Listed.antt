-- Modules that are read one after the other.
use Rattle.std.proofs.Common.{◌≡◌, ◌∙◌, sym, ap, subst, refl, ℕ, suc, ◌+◌, ◌<◌, ◌≤◌, List, [], ◌∷◌, ◌++◌, length, get_or, drop, append_assoc, Option, Some, Result, Ok, Err, arith}
use Rattle.std.specs.Prelude.{All}
use Rattle.std.specs.Str.{IsAscii}
use Rattle.std.proofs.lemmas.List.{drop_all}
use Rattle.std.proofs.lemmas.List.Elements.{All-nil}
use Rattle.std.proofs.Math.Seq.{drop-cons}
use Rattle.lx_outside.specs.declared.file_text.FileText.{FileText}
use Rattle.lx_script.specs.declared.case.CaseModule.{CaseModule}
use Rattle.lx_ir.specs.declared.module.Module.{Module}
use Rattle.lx_files.specs.declared.stop.InputStop.{InputStop}
use Rattle.lx_files.specs.declared.stop.InputStop.TheVariants as stops
use Rattle.lx_files.specs.Names.{AreNamed}
use Rattle.lx_files.specs.Sound.{IsSoundModule}
use Rattle.lx_files.specs.Turns.{HasNoted, Took}
use Rattle.lx_files.specs.Inputs.{ModuleTurn, ModulesTurn}
use Rattle.lx_files.proofs.Taken.{noted_err}
use Rattle.lx_files.proofs.Sound.{more_sound, one_longer}

-- modules that were read, and what the rest comes to
abbrev pub behind : List Module → Result (List Module) InputStop → Result (List Module) InputStop
behind read (Ok ms) = Ok (read ++ ms)
behind read (Err e) = Err e

-- Some modules were read, and these are left: what these come to, all come to behind those.
pub record HasRead (files files_now : Option (List FileText)) (faults faults_now : List (List ℕ)) (all rest : List CaseModule) (read : List Module) : Type 0 where
  pub files_stay : files_now ≡ files
  pub faults_stay : faults_now ≡ faults
  pub named : AreNamed rest
  pub sound : All IsSoundModule read
  pub count : length read + length rest ≡ length all
  pub goes : (told : List FileText) → files ≡ Some told → (answer : Result (List Module) InputStop) → ModulesTurn told rest answer → ModulesTurn told all (behind read answer)

-- a module before an answer
abbrev front : Module → Result (List Module) InputStop → Result (List Module) InputStop
front x (Ok ms) = Ok (x ∷ ms)
front x (Err e) = Err e

one_more : (told : List FileText) (m : CaseModule) (rest : List CaseModule) (x : Module) → ModuleTurn told m.file (Ok x) → (answer : Result (List Module) InputStop) → ModulesTurn told rest answer → ModulesTurn told (m ∷ rest) (front x answer)
one_more told m rest x first (Ok ms) others = (Ok x, first, (Ok ms, others, refl))
one_more told m rest x first (Err e) others = (Ok x, first, (Err e, others, refl))

behind_front : (read : List Module) (x : Module) (answer : Result (List Module) InputStop) → behind read (front x answer) ≡ behind (read ++ x ∷ []) answer
behind_front read x (Ok ms) = ap Ok (sym (append_assoc read (x ∷ []) ms))
behind_front read x (Err e) = refl

behind_none : (answer : Result (List Module) InputStop) → behind [] answer ≡ answer
behind_none (Ok ms) = refl
behind_none (Err e) = refl

append_none : (xs : List Module) → xs ++ [] ≡ xs
append_none [] = refl
append_none (x ∷ xs) = ap (λ (ys : List Module). x ∷ ys) (append_none xs)

pub starts : (files : Option (List FileText)) (faults : List (List ℕ)) (all : List CaseModule) → AreNamed all → HasRead files files faults faults all all []
starts files faults all named = record {
  files_stay = refl;
  faults_stay = refl;
  named = named;
  sound = All-nil IsSoundModule;
  count = omega arith;
  goes = λ told is answer h. subst (ModulesTurn told all) (sym (behind_none answer)) h;
}

left_with : (ms : List CaseModule) (i : ℕ) (m : CaseModule) → i < length ms → m ≡ get_or ms i m → drop i ms ≡ m ∷ drop (i + 1) ms
left_with ms i m below is =
    let next : suc i ≡ i + 1 = omega arith in
    drop-cons ms i m below ∙ ap (λ (x : CaseModule). x ∷ drop (suc i) ms) (sym is) ∙ ap (λ (n : ℕ). m ∷ drop n ms) next

module _ (files files_mid : Option (List FileText)) (faults faults_mid : List (List ℕ)) (all : List CaseModule) (i : ℕ) (read : List Module) (m : CaseModule) (name : List ℕ)
    (below : i < length all) (is : m ≡ get_or all i m) (called : name ≡ m.file) (so_far : HasRead files files_mid faults faults_mid all (drop i all) read) where
  here : HasRead files files_mid faults faults_mid all (m ∷ drop (i + 1) all) read
  here = subst (λ (rest : List CaseModule). HasRead files files_mid faults faults_mid all rest read) (left_with all i m below is) so_far

  -- the next file has a name that is text
  pub file_named : IsAscii name
  file_named = subst (λ (n : List ℕ). IsAscii n) (sym called) here.named.0

  module _ {files_now : Option (List FileText)} {faults_now : List (List ℕ)} where
    -- one more is read
    pub goes_on : (x : Module) → IsSoundModule x → Took files_mid files_now faults_mid faults_now (λ fs. ModuleTurn fs name) (Ok x) → HasRead files files_now faults faults_now all (drop (i + 1) all) (read ++ x ∷ [])
    goes_on x sound t = record {
      files_stay = t.files_stay ∙ here.files_stay;
      faults_stay = t.noted ∙ here.faults_stay;
      named = here.named.1;
      sound = more_sound read x here.sound sound;
      count = omega (arith, here.count, one_longer read x);
      goes = λ told is_told answer h.
          subst (ModulesTurn told all) (behind_front read x answer)
          (here.goes told is_told (front x answer)
          (one_more told m (drop (i + 1) all) x (subst (λ (n : List ℕ). ModuleTurn told n (Ok x)) called (t.told told (here.files_stay ∙ is_told))) answer h));
    }

    -- the next is not read
    pub ends_early : (e : InputStop) → Took files_mid files_now faults_mid faults_now (λ fs. ModuleTurn fs name) (Err e) → Took files files_now faults faults_now (λ fs. ModulesTurn fs all) (Err e)
    ends_early e t = record {
      told = λ told is_told. here.goes told is_told (Err e) (Err e, subst (λ (n : List ℕ). ModuleTurn told n (Err e)) called (t.told told (here.files_stay ∙ is_told)), refl);
      files_stay = t.files_stay ∙ here.files_stay;
      noted = noted_err Module (List Module) faults faults_now e (subst (λ (before : List (List ℕ)). HasNoted {A = Module} before faults_now (Err e)) here.faults_stay t.noted);
    }

    -- memory runs out behind a module that was read
    pub ends_full : (x : Module) → Took files_mid files_now faults_mid faults_now (λ fs. ModuleTurn fs name) (Ok x) → Took files files_now faults faults_now (λ fs. ModulesTurn fs all) (Err stops.Memory)
    ends_full x t = ends_early stops.Memory (record { told = λ _ _. (Err stops.Memory, tt, refl); files_stay = t.files_stay; noted = t.noted })

pub ends : (files files_now : Option (List FileText)) (faults faults_now : List (List ℕ)) (all : List CaseModule) (i : ℕ) (read : List Module) → length all ≤ i → HasRead files files_now faults faults_now all (drop i all) read
    → Took files files_now faults faults_now (λ fs. ModulesTurn fs all) (Ok read)
ends files files_now faults faults_now all i read past so_far =
    let h : HasRead files files_now faults faults_now all [] read = subst (λ (rest : List CaseModule). HasRead files files_now faults faults_now all rest read) (drop_all i all past) so_far in
    record {
      told = λ told is_told. subst (λ (ms : List Module). ModulesTurn told all (Ok ms)) (append_none read) (h.goes told is_told (Ok []) refl);
      files_stay = h.files_stay;
      noted = h.faults_stay;
    }

-- as many are read as there are
pub ends_as_many : (files files_now : Option (List FileText)) (faults faults_now : List (List ℕ)) (all : List CaseModule) (i : ℕ) (read : List Module) → length all ≤ i → HasRead files files_now faults faults_now all (drop i all) read
    → length read ≡ length all
ends_as_many files files_now faults faults_now all i read past so_far =
    let h : HasRead files files_now faults faults_now all [] read = subst (λ (rest : List CaseModule). HasRead files files_now faults faults_now all rest read) (drop_all i all past) so_far in
    omega (arith, h.count)
