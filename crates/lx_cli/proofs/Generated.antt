-- A case that is generated has no fault, so its summary is what is written.
use Rattle.std.proofs.Common.{◌≡◌, ◌≢◌, ◌∙◌, refl, subst, ◌⊎◌, inl, inr, ℕ, ◌≤◌, Bool, true, false, ◌&&◌, List, [], ◌∷◌, Option, Some, None, Result, Ok, Err, IfOk, bytes_eq}
use Rattle.std.specs.Prelude.{codes, if◌then◌else◌, nat_le, option_map}
use Rattle.std.proofs.lemmas.Bool.{and_parts, leb-true}
use Rattle.lx_words.specs.Text.{decimal_value}
use Rattle.lx_input.specs.Files.Asked.{nothing}
use Rattle.lx_input.specs.Files.InputStop.{InputStop}
use Rattle.lx_input.specs.Files.InputStop.TheVariants as stops
use Rattle.lx_input.specs.declared.input.Input.{Input}
use Rattle.lx_input.specs.Inputs.{InputTurn}
use Rattle.lx_input.specs.Laws.{OneInput}
use Rattle.lx_generated_laws.specs.Inputs.{GeneratedFilesAreInputs, generated_files, generated_name}
use Rattle.lx_cli.specs.Command.{Command, Run, Replay, Instrument, Check, Generate, Surface, Why, asked_of, case_of, command_of}
use Rattle.lx_cli.specs.Words.{count_of, if_words, is_name, is_number, one_name, two_names}
use Rattle.lx_cli.specs.declared.answer.Answer.{Answer}
use Rattle.lx_cli.specs.declared.answer.Answer.TheVariants as answer
use Rattle.lx_cli.specs.Rows.{status_of}
use Rattle.lx_cli.specs.Told.{TellsInput}
use Rattle.lx_cli.proofs.Answered.{five_or}

-- words ask for no more calls than a case may have

abbrev IsFew : Option Command → Type 0
IsFew (Some (Generate count)) = count ≤ 4096
IsFew _ = Unit {0}

few_of_two : (b : Bool) (x y : Option Command) → IsFew x → IsFew y → IsFew (if b then x else y)
few_of_two true x y few_x few_y = few_x
few_of_two false x y few_x few_y = few_y

few_where : (b : Bool) (n : ℕ) → (b ≡ true → n ≤ 4096) → IsFew (option_map Generate (if b then Some n else None))
few_where true n few = few refl
few_where false n few = tt

few_counted : (word : List ℕ) → IsFew (option_map Generate (count_of word))
few_counted word =
    few_where (is_number word && nat_le (decimal_value word) 4096) (decimal_value word)
    (λ is. leb-true (decimal_value word) 4096 (and_parts (is_number word) (nat_le (decimal_value word) 4096) is).1)

few_one : (word second : List ℕ) → IsFew (one_name word second)
few_one word second =
    few_of_two (bytes_eq word (codes "run")) (if_words (is_name second) (Run second))
    (if bytes_eq word (codes "generate") then option_map Generate (count_of second) else (if bytes_eq word (codes "surface") then if_words (is_name second) (Surface second) else None))
    (few_of_two (is_name second) (Some (Run second)) None tt tt)
    (few_of_two (bytes_eq word (codes "generate")) (option_map Generate (count_of second)) (if bytes_eq word (codes "surface") then if_words (is_name second) (Surface second) else None)
    (few_counted second)
    (few_of_two (bytes_eq word (codes "surface")) (if_words (is_name second) (Surface second)) None (few_of_two (is_name second) (Some (Surface second)) None tt tt) tt))

few_two : (word case second : List ℕ) → IsFew (two_names word case second)
few_two word case second =
    few_of_two (bytes_eq word (codes "replay")) (Some (Replay case second))
    (if bytes_eq word (codes "instrument") then Some (Instrument case second) else if_words (bytes_eq word (codes "why")) (Why case second))
    tt
    (few_of_two (bytes_eq word (codes "instrument")) (Some (Instrument case second)) (if_words (bytes_eq word (codes "why")) (Why case second)) tt
    (few_of_two (bytes_eq word (codes "why")) (Some (Why case second)) None tt tt))

few_said : (words : List (List ℕ)) → IsFew (command_of words)
few_said [] = tt
few_said (word ∷ []) = tt
few_said (word ∷ second ∷ []) = few_one word second
few_said (word ∷ case ∷ second ∷ []) = few_of_two (is_name case && is_name second) (two_names word case second) None (few_two word case second) tt
few_said (word ∷ case ∷ part ∷ image ∷ []) = few_of_two (bytes_eq word (codes "check") && (is_name case && (is_name part && is_name image))) (Some (Check case part image)) None tt tt
few_said (word ∷ case ∷ part ∷ image ∷ more ∷ others) = tt

pub few_calls : (words : List (List ℕ)) (count : ℕ) → command_of words ≡ Some (Generate count) → count ≤ 4096
few_calls words count is = subst IsFew is (few_said words)

-- what the files of so many calls come to has the status 0

-- the answer is told of the files of the case that a command generates
abbrev TellsOwn : Command → ℕ → Answer → Type 0
TellsOwn c count a = TellsInput (Some c) (InputTurn (generated_files count) (case_of c) (asked_of c)) a

module _ (one : OneInput) (are_inputs : GeneratedFilesAreInputs) (count : ℕ) (few : count ≤ 4096) where
  no_fault : (a : Answer) → TellsOwn (Generate count) count a → ((file : List ℕ) → a ≡ answer.Unread file → ⊥) → status_of a ≡ 0
  no_fault (answer.Fault f) tells read =
      let input = are_inputs count few in
      let no : ◌≡◌ {A = Result Input InputStop} (Err (stops.Fault f)) (Ok input.0) = one (generated_files count) generated_name nothing (Err (stops.Fault f)) (Ok input.0) tells input.1 tt tt in
      absurd cc
  no_fault (answer.Unread file) tells read = absurd (read file refl)
  no_fault (answer.Broken entry) tells read = absurd tells.2
  no_fault (answer.Report text true) tells read = refl
  no_fault (answer.Report text false) tells read = absurd tells.2
  no_fault (answer.Text text) tells read = refl
  no_fault answer.Accepted tells read = refl
  no_fault (answer.Refused f) tells read = absurd tells.2

  no_fault_of : (c : Command) (a : Answer) → c ≡ Generate count → TellsOwn c count a → ((file : List ℕ) → a ≡ answer.Unread file → ⊥) → status_of a ≡ 0
  no_fault_of c a is tells = no_fault a (subst (λ (d : Command). TellsOwn d count a) is tells)

pub summed : {E : Type 0} (one : OneInput) (are_inputs : GeneratedFilesAreInputs) (c : Command) (own : ℕ) (r : Result Answer E) → IfOk r (TellsOwn c own)
    → ((file : List ℕ) → r ≡ Ok (answer.Unread file) → ⊥) → c ≡ Generate own → IfOk r (λ a. (count : ℕ) → c ≡ Generate count → count ≤ 4096 → status_of a ≡ 0)
summed one are_inputs c own (Ok a) tells read is_own = λ count is few.
    let same : own ≡ count = cc in
    no_fault_of one are_inputs own (subst (λ n. n ≤ 4096) (cc) few) c a is_own tells (λ file is_unread. read file (cc))
summed one are_inputs c own (Err e) tells read is_own = tt

-- so it is written, unless the sink does not take all
pub ends_well : (result status : ℕ) → (result ≢ 5 → result ≡ status) → status ≡ 0 → (result ≡ 0) ⊎ (result ≡ 5) ⊎ (result ≡ 6)
ends_well result status is none = elim (five_or result status is) [
  | inl five ↦ inr (inl five)
  | inr same ↦ inl (same ∙ none)
]
