-- Turns one after the other, and the shelf.
use Rattle.std.proofs.Common.{◌∙◌, subst, refl, ℕ, List, Option, Result, Ok, Err}
use Rattle.lx_outside.specs.declared.file_text.FileText.{FileText}
use Rattle.lx_files.specs.declared.line.FaultLine.{FaultLine}
use Rattle.lx_files.specs.declared.stop.InputStop.{InputStop}
use Rattle.lx_files.specs.declared.stop.InputStop.TheVariants as stops
use Rattle.lx_files.specs.Turns.{Reads, Then, Gives, HasNoted, Took}

-- what was noted of a stop does not depend on what was read
pub noted_err : (A B : Type 0) (before now : List (List ℕ)) (e : InputStop) → HasNoted {A = A} before now (Err e) → HasNoted {A = B} before now (Err e)
noted_err A B before now stops.Memory h = h
noted_err A B before now (stops.Unread file) h = h
noted_err A B before now (stops.Fault f) h = h

-- a text that is read asks for no file
pub took_read : {A : Type 0} (files : Option (List FileText)) (faults : List (List ℕ)) (Says : List ℕ → A → Type 0) (Tells : List ℕ → FaultLine → Type 0) (text : List ℕ) (answer : Result A InputStop)
    → Reads Says Tells text answer → Took files files faults faults (λ _. Reads Says Tells text) answer
took_read files faults Says Tells text (Ok x) h = record { told = λ _ _. h; files_stay = refl; noted = refl }
took_read files faults Says Tells text (Err stops.Memory) h = record { told = λ _ _. h; files_stay = refl; noted = refl }
took_read files faults Says Tells text (Err (stops.Fault f)) h = record { told = λ _ _. h; files_stay = refl; noted = refl }
took_read files faults Says Tells text (Err (stops.Unread file)) h = absurd h

pub took_gives : {A : Type 0} (files : Option (List FileText)) (faults : List (List ℕ)) (x : A) → Took files files faults faults (λ _. Gives x) (Ok x)
took_gives files faults x = record { told = λ _ _. refl; files_stay = refl; noted = refl }

-- want of memory asks for no file
pub took_memory : {A : Type 0} (files : Option (List FileText)) (faults : List (List ℕ)) (turn : List FileText → Result A InputStop → Type 0) → ((fs : List FileText) → turn fs (Err stops.Memory))
    → Took files files faults faults turn (Err stops.Memory)
took_memory files faults turn may = record { told = λ fs _. may fs; files_stay = refl; noted = refl }

module _ {A B : Type 0} (first : List FileText → Result A InputStop → Type 0) (next : List FileText → A → Result B InputStop → Type 0) where
  -- where the first turn is a stop, it ends both
  pub took_stop : {files files_now : Option (List FileText)} {faults faults_now : List (List ℕ)} (e : InputStop) → Took files files_now faults faults_now first (Err e)
      → Took files files_now faults faults_now (λ fs. Then (first fs) (next fs)) (Err e)
  took_stop {faults = faults} {faults_now = faults_now} e t = record {
    told = λ fs is. (Err e, t.told fs is, refl);
    files_stay = t.files_stay;
    noted = noted_err A B faults faults_now e t.noted;
  }

  -- and otherwise the next one follows
  pub took_then : {files files_mid files_now : Option (List FileText)} {faults faults_mid faults_now : List (List ℕ)} (x : A) (answer : Result B InputStop) → Took files files_mid faults faults_mid first (Ok x)
      → Took files_mid files_now faults_mid faults_now (λ fs. next fs x) answer → Took files files_now faults faults_now (λ fs. Then (first fs) (next fs)) answer
  took_then {faults_now = faults_now} x answer t u = record {
    told = λ fs is. (Ok x, t.told fs is, u.told fs (t.files_stay ∙ is));
    files_stay = u.files_stay ∙ t.files_stay;
    noted = subst (λ before. HasNoted before faults_now answer) t.noted u.noted;
  }
