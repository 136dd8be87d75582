-- What an answer says of the files, whatever else it tells.
use Rattle.std.proofs.Common.{◌≡◌, ◌≢◌, ◌∙◌, sym, refl, ◌⊎◌, inl, inr, ℕ, zero, suc, subst, true, false, List, None, Result, Ok, Err, arith}
use Rattle.std.proofs.lemmas.Bool.{cases_lt}
use Rattle.lx_outside.specs.declared.file_text.FileText.{FileText}
use Rattle.lx_outside.specs.Files.{file_at}
use Rattle.lx_input.specs.Files.FaultLine.{FaultLine}
use Rattle.lx_input.specs.Files.InputStop.{InputStop}
use Rattle.lx_input.specs.Files.InputStop.TheVariants as stops
use Rattle.lx_input.specs.Files.Laws.{EndsAt, IsOne}
use Rattle.lx_input.specs.declared.input.Input.{Input}
use Rattle.lx_cli.specs.declared.answer.Answer.{Answer}
use Rattle.lx_cli.specs.declared.answer.Answer.TheVariants as answer
use Rattle.lx_cli.specs.Rows.{status_of}

-- ---- its status

-- a status that a sink took whole, or 5
pub five_or : (r s : ℕ) → (r ≢ 5 → r ≡ s) → (r ≡ 5) ⊎ (r ≡ s)
five_or r s is = elim (cases_lt r 5) [
  | inl below ↦ inr (is (λ e. omega (arith, e, below)))
  | inr least ↦ elim (cases_lt 5 r) [
    | inl above ↦ inr (is (λ e. omega (arith, e, above)))
    | inr most ↦ inl (omega (arith, least, most))
  ]
]

-- the status of an answer that was taken whole
pub status_is : (r k s : ℕ) → (r ≢ 5 → r ≡ s) → r ≡ k → (k ≡ 5 → ⊥) → s ≡ k
status_is r k s status is other = sym (status (λ five. other (sym is ∙ five))) ∙ is

-- the answer of a status that only one kind has

abbrev OfStatus : ℕ → Answer → Type 0
OfStatus (suc (suc (suc zero))) a = (f : FaultLine) × (a ≡ answer.Fault f)
OfStatus (suc (suc (suc (suc zero)))) a = (file : List ℕ) × (a ≡ answer.Unread file)
OfStatus (suc (suc (suc (suc (suc (suc (suc zero))))))) a = (entry : ℕ) × (a ≡ answer.Broken entry)
OfStatus (suc (suc (suc (suc (suc (suc (suc (suc zero)))))))) a = (line : FaultLine) × (a ≡ answer.Refused line)
OfStatus status a = Unit {0}

of_status : (a : Answer) → OfStatus (status_of a) a
of_status (answer.Fault f) = (f, refl)
of_status (answer.Unread file) = (file, refl)
of_status (answer.Broken entry) = (entry, refl)
of_status (answer.Report text true) = tt
of_status (answer.Report text false) = tt
of_status (answer.Text text) = tt
of_status answer.Accepted = tt
of_status (answer.Refused line) = (line, refl)

pub fault_of : (a : Answer) → status_of a ≡ 3 → (f : FaultLine) × (a ≡ answer.Fault f)
fault_of a is = subst (λ (k : ℕ). OfStatus k a) is (of_status a)

pub unread_of : (a : Answer) → status_of a ≡ 4 → (file : List ℕ) × (a ≡ answer.Unread file)
unread_of a is = subst (λ (k : ℕ). OfStatus k a) is (of_status a)

pub broken_of : (a : Answer) → status_of a ≡ 7 → (entry : ℕ) × (a ≡ answer.Broken entry)
broken_of a is = subst (λ (k : ℕ). OfStatus k a) is (of_status a)

pub refused_of : (a : Answer) → status_of a ≡ 8 → (line : FaultLine) × (a ≡ answer.Refused line)
refused_of a is = subst (λ (k : ℕ). OfStatus k a) is (of_status a)

-- ---- what the files come to

-- to the fault, to the file that was not read, or to an input
abbrev pub Comes : (Result Input InputStop → Type 0) → Answer → Type 0
Comes turn (answer.Fault f) = turn (Err (stops.Fault f))
Comes turn (answer.Unread file) = turn (Err (stops.Unread file))
Comes turn a = (i : Input) × turn (Ok i)

module _ (turn : Result Input InputStop → Type 0) (one : IsOne turn) where
  -- no fault stands where the files come to an input
  pub no_fault_in : {X : Type 0} (i : Input) (f : FaultLine) → turn (Ok i) → turn (Err (stops.Fault f)) → X
  no_fault_in i f is_i is_f = let no = one (Ok i) (Err (stops.Fault f)) is_i is_f tt tt in absurd cc

  -- and the files come to one input
  pub same_input : (i j : Input) → turn (Ok i) → turn (Ok j) → i ≡ j
  same_input i j is_i is_j = let same : ◌≡◌ {A = Result Input InputStop} (Ok i) (Ok j) = one (Ok i) (Ok j) is_i is_j tt tt in cc

  module _ (a : Answer) (is : Comes turn a) (result : ℕ) (status : result ≢ 5 → result ≡ status_of a) where
    -- the statuses of a fault
    pub fault_met : (f : FaultLine) → turn (Err (stops.Fault f)) → (result ≡ 3) ⊎ (result ≡ 4) ⊎ (result ≡ 5) ⊎ (result ≡ 6)
    fault_met f comes = elim (five_or result (status_of a) status) [
      | inl five ↦ inr (inr (inl five))
      | inr same ↦ on a is same
    ] where
      on : (b : Answer) → Comes turn b → result ≡ status_of b → (result ≡ 3) ⊎ (result ≡ 4) ⊎ (result ≡ 5) ⊎ (result ≡ 6)
      on (answer.Fault g) is same = inl same
      on (answer.Unread file) is same = inr (inl same)
      on (answer.Broken entry) is same = no_fault_in is.0 f is.1 comes
      on (answer.Report text returned) is same = no_fault_in is.0 f is.1 comes
      on (answer.Text text) is same = no_fault_in is.0 f is.1 comes
      on answer.Accepted is same = no_fault_in is.0 f is.1 comes
      on (answer.Refused g) is same = no_fault_in is.0 f is.1 comes

    -- and those of a file that is not there
    pub missing_met : (files : List FileText) → EndsAt files turn → (file : List ℕ) → turn (Err (stops.Unread file)) → file_at files file ≡ None → (result ≡ 4) ⊎ (result ≡ 5) ⊎ (result ≡ 6)
    missing_met files ends file comes gone = elim (five_or result (status_of a) status) [
      | inl five ↦ inr (inl five)
      | inr same ↦ on a is same
    ] where
      on : (b : Answer) → Comes turn b → result ≡ status_of b → (result ≡ 4) ⊎ (result ≡ 5) ⊎ (result ≡ 6)
      on (answer.Fault g) is same = absurd (ends file (Err (stops.Fault g)) comes gone is tt)
      on (answer.Unread file) is same = inl same
      on (answer.Broken entry) is same = absurd (ends file (Ok is.0) comes gone is.1 tt)
      on (answer.Report text returned) is same = absurd (ends file (Ok is.0) comes gone is.1 tt)
      on (answer.Text text) is same = absurd (ends file (Ok is.0) comes gone is.1 tt)
      on answer.Accepted is same = absurd (ends file (Ok is.0) comes gone is.1 tt)
      on (answer.Refused g) is same = absurd (ends file (Ok is.0) comes gone is.1 tt)
