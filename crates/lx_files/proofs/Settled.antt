-- Turns have one settled answer, and none behind a missing file.
use Rattle.std.proofs.Common.{◌≡◌, ◌∙◌, sym, ap, subst, ℕ, ◌<◌, ◌≤◌, List, length, Option, Some, None, Result, Ok, Err, arith}
use Rattle.lx_outside.specs.declared.file_text.FileText.{FileText}
use Rattle.lx_outside.specs.Files.{file_at}
use Rattle.lx_files.specs.declared.line.FaultLine.{FaultLine}
use Rattle.lx_files.specs.declared.stop.InputStop.{InputStop}
use Rattle.lx_files.specs.declared.stop.InputStop.TheVariants as stops
use Rattle.lx_files.specs.Turns.{Asks, Reads, Tells, Goes, Then, Gives, most_bytes}
use Rattle.lx_files.specs.Laws.{IsSettled, IsOne, EndsAt}

settled_stop : (A B : Type 0) (e : InputStop) → IsSettled {A = B} (Err e) → IsSettled {A = A} (Err e)
settled_stop A B stops.Memory h = h
settled_stop A B (stops.Unread file) h = h
settled_stop A B (stops.Fault f) h = h

-- behind an answer that is not settled no answer is

came_settled : {A B : Type 0} (next : A → Result B InputStop → Type 0) (came : Result A InputStop) (answer : Result B InputStop) → Goes next came answer → IsSettled answer → IsSettled came
came_settled next (Ok x) answer goes settled = tt
came_settled {A = A} {B = B} next (Err e) answer goes settled = settled_stop A B e (subst IsSettled goes settled)

module _ {A B : Type 0} (next : A → Result B InputStop → Type 0) where
  same_behind : ((x : A) → IsOne (next x)) → (came : Result A InputStop) (a b : Result B InputStop) → Goes next came a → Goes next came b → IsSettled a → IsSettled b → a ≡ b
  same_behind one (Ok x) a b ga gb sa sb = one x a b ga gb sa sb
  same_behind one (Err e) a b ga gb sa sb = ga ∙ sym gb

module _ {A B : Type 0} (first : Result A InputStop → Type 0) (next : A → Result B InputStop → Type 0) where
  pub then_one : IsOne first → ((x : A) → IsOne (next x)) → IsOne (Then first next)
  then_one one others a b ta tb sa sb =
      let same : tb.0 ≡ ta.0 = one tb.0 ta.0 tb.1 ta.1 (came_settled next tb.0 b tb.2 sb) (came_settled next ta.0 a ta.2 sa) in
      same_behind next others ta.0 a b ta.2 (subst (λ came. Goes next came b) same tb.2) sa sb

  ends_by : (files : List FileText) → IsOne first → EndsAt files first → ((x : A) → EndsAt files (next x)) → (file : List ℕ) (a : Result B InputStop) (came : Result A InputStop) → first came → Goes next came (Err (stops.Unread file))
      → file_at files file ≡ None → Then first next a → IsSettled a → ⊥
  ends_by files one ends others file a (Ok x) f goes missing t settled =
      let same : t.0 ≡ Ok x = one t.0 (Ok x) t.1 f (came_settled next t.0 a t.2 settled) tt in
      others x file a goes missing (subst (λ came. Goes next came a) same t.2) settled
  ends_by files one ends others file a (Err e) f goes missing t settled =
      let is : e ≡ stops.Unread file = cc in
      ends file t.0 (subst (λ (s : InputStop). first (Err s)) is f) missing t.1 (came_settled next t.0 a t.2 settled)

  pub then_ends : (files : List FileText) → IsOne first → EndsAt files first → ((x : A) → EndsAt files (next x)) → EndsAt files (Then first next)
  then_ends files one ends others file a u missing t settled = ends_by files one ends others file a u.0 u.1 u.2 missing t settled

-- nothing is asked for

pub gives_one : {A : Type 0} (x : A) → IsOne (Gives x)
gives_one x a b ga gb sa sb = ga ∙ sym gb

pub gives_ends : {A : Type 0} (files : List FileText) (x : A) → EndsAt files (Gives x)
gives_ends files x file a unread missing ga settled = absurd (cc)

-- a text is read

module _ {A : Type 0} (Says : List ℕ → A → Type 0) (Told : List ℕ → FaultLine → Type 0) (text : List ℕ) where
  pub reads_one : ((x y : A) → Says text x → Says text y → x ≡ y) → ((f g : FaultLine) → Told text f → Told text g → f ≡ g) → ((x : A) (f : FaultLine) → Says text x → Told text f → ⊥) → IsOne (Reads Says Told text)
  reads_one says told apart (Ok x) (Ok y) ra rb sa sb = ap Ok (says x y ra rb)
  reads_one says told apart (Ok x) (Err (stops.Fault f)) ra rb sa sb = absurd (apart x f ra rb)
  reads_one says told apart (Ok x) (Err (stops.Unread file)) ra rb sa sb = absurd sb
  reads_one says told apart (Ok x) (Err stops.Memory) ra rb sa sb = absurd sb
  reads_one says told apart (Err (stops.Fault f)) (Ok y) ra rb sa sb = absurd (apart y f rb ra)
  reads_one says told apart (Err (stops.Fault f)) (Err (stops.Fault g)) ra rb sa sb = ap (λ h. Err (stops.Fault h)) (told f g ra rb)
  reads_one says told apart (Err (stops.Fault f)) (Err (stops.Unread file)) ra rb sa sb = absurd sb
  reads_one says told apart (Err (stops.Fault f)) (Err stops.Memory) ra rb sa sb = absurd sb
  reads_one says told apart (Err (stops.Unread file)) b ra rb sa sb = absurd sa
  reads_one says told apart (Err stops.Memory) b ra rb sa sb = absurd sa

  pub reads_ends : (files : List FileText) → EndsAt files (Reads Says Told text)
  reads_ends files file a unread missing ra settled = unread

module _ {E : Type 0} (First : List ℕ → E → Type 0) (line : E → Option FaultLine) (text : List ℕ) where
  pub tells_one : ((d e : E) → First text d → First text e → d ≡ e) → (f g : FaultLine) → Tells First line text f → Tells First line text g → f ≡ g
  tells_one one f g tf tg = let same : tf.0 ≡ tg.0 = one tf.0 tg.0 tf.1 tg.1 in let lines : line tf.0 ≡ line tg.0 = ap line same in cc (tf.2, tg.2, lines)

-- a file is asked for

given_within : (x y : List ℕ) → x ≡ y → length x ≤ most_bytes → most_bytes < length y → ⊥
given_within x y is within past = absurd (omega (arith, ap length is))

pub asks_one : (files : List FileText) (name : List ℕ) → IsOne (Asks files name)
asks_one files name (Ok x) (Ok y) ra rb sa sb = let is : x ≡ y = cc (ra.0, rb.0) in ap Ok is
asks_one files name (Ok x) (Err (stops.Fault f)) ra rb sa sb = let is : x ≡ rb.0 = cc (ra.0, rb.1) in absurd (given_within x rb.0 is ra.1 rb.2)
asks_one files name (Ok x) (Err (stops.Unread file)) ra rb sa sb = absurd sb
asks_one files name (Ok x) (Err stops.Memory) ra rb sa sb = absurd sb
asks_one files name (Err (stops.Fault f)) (Ok y) ra rb sa sb = let is : y ≡ ra.0 = cc (rb.0, ra.1) in absurd (given_within y ra.0 is rb.1 ra.2)
asks_one files name (Err (stops.Fault f)) (Err (stops.Fault g)) ra rb sa sb = ap (λ h. Err (stops.Fault h)) (ra.3 ∙ sym rb.3)
asks_one files name (Err (stops.Fault f)) (Err (stops.Unread file)) ra rb sa sb = absurd sb
asks_one files name (Err (stops.Fault f)) (Err stops.Memory) ra rb sa sb = absurd sb
asks_one files name (Err (stops.Unread file)) b ra rb sa sb = absurd sa
asks_one files name (Err stops.Memory) b ra rb sa sb = absurd sa

not_there : (files : List FileText) (file name text : List ℕ) → file ≡ name → file_at files file ≡ None → file_at files name ≡ Some text → ⊥
not_there files file name text is missing there = let same : file_at files file ≡ file_at files name = ap (file_at files) is in absurd (cc (missing, there, same))

pub asks_ends : (files : List FileText) (name : List ℕ) → EndsAt files (Asks files name)
asks_ends files name file (Ok x) unread missing ra settled = not_there files file name x unread missing ra.0
asks_ends files name file (Err (stops.Fault f)) unread missing ra settled = not_there files file name ra.0 unread missing ra.1
asks_ends files name file (Err (stops.Unread other)) unread missing ra settled = settled
asks_ends files name file (Err stops.Memory) unread missing ra settled = settled
