-- Loops that read on.
use Rattle.std.proofs.Common.{◌≡◌, ℕ, zero, suc, ◌+◌, ◌<◌, get_or, List, [], ◌∷◌, ◌++◌, length, Bool, true, false, cond, Option, Some, None, Result, Ok, Err, refl, sym, ap, ◌∙◌, arith, append_assoc}
use Rattle.std.specs.Prelude.{slice_set, bytes_eq, codes}
use Rattle.std.proofs.lemmas.List.{append-nil}
use Rattle.lx_script.specs.declared.fault.ReadError.{ReadError}
use Rattle.lx_script.specs.declared.fault.ReadError.TheVariants as errors
use Rattle.lx_script.specs.declared.case.CaseArg.{CaseArg}
use Rattle.lx_script.specs.declared.case.CaseCall.{CaseCall}
use Rattle.lx_script.specs.declared.fault.Fault.{Fault}
use Rattle.lx_script.specs.Lines.{Statement}
use Rattle.lx_script.specs.Reading.{◌>>=◌, Fails, left, word_at, argument_at, with_argument, next_argument_at, arguments_by, arguments_at, with_call, Draft, statement_at, body_at}
use Rattle.lx_script.proofs.Counts.{same_ok}

-- what is read behind arguments that stand already
abbrev pub with_front : List CaseArg → Result (List CaseArg × Statement) Fault → Result (List CaseArg × Statement) Fault
with_front front read = read >>= λ x. Ok (front ++ x.0, x.1)

-- the last of some threads with a call more
pub call_in_last : (ts : List (List CaseCall)) (n : ℕ) (t new : List CaseCall) (call : CaseCall) → n + 1 ≡ length ts → t ≡ get_or ts n t → new ≡ t ++ call ∷ [] → slice_set ts n new ≡ with_call call ts
call_in_last [] n t new call e at h = absurd (omega arith)
call_in_last (x ∷ []) zero t new call e at h = ap (λ v. v ∷ []) (h ∙ ap (λ v. v ++ call ∷ []) at)
call_in_last (x ∷ []) (suc n) t new call e at h = absurd (omega arith)
call_in_last (x ∷ y ∷ ts) zero t new call e at h = absurd (omega arith)
call_in_last (x ∷ y ∷ ts) (suc n) t new call e at h = ap (λ l. x ∷ l) (call_in_last (y ∷ ts) n t new call (omega arith) at h)

-- what stands behind the next argument, or behind `fuel`
rest_of : List (List ℕ) → Option CaseArg × Statement → Result (List CaseArg × Statement) Fault
rest_of names r = elim r.0 [ None ↦ Ok ([], r.1) | Some a ↦ with_argument a (arguments_at names r.1) ]

first_of : (names : List (List ℕ)) (s : Statement) (read : Result CaseArg Fault) → (read >>= λ a. with_argument a (arguments_at names s)) ≡ ((read >>= λ a. Ok (Some a, s)) >>= rest_of names)
unfolding rest_of
first_of names s (Ok a) = refl
first_of names s (Err e) = refl

one_by_one_if : (names : List (List ℕ)) (s : Statement) (read : Result CaseArg Fault) (b : Bool) → cond b (Ok ([], s)) (read >>= λ a. with_argument a (arguments_at names s)) ≡ (cond b (Ok (None, s)) (read >>= λ a. Ok (Some a, s)) >>= rest_of names)
unfolding rest_of
one_by_one_if names s read true = refl
one_by_one_if names s read false = first_of names s read

one_by_one_in : (names : List (List ℕ)) (row : ℕ) (stop : Option ℕ) (words : List (List ℕ)) → arguments_by names row stop words ≡ (next_argument_at names (left row stop words) >>= rest_of names)
unfolding next_argument_at arguments_by word_at
one_by_one_in names row stop [] = refl
one_by_one_in names row stop (w ∷ ws) = one_by_one_if names (left row stop ws) (argument_at names row w) (bytes_eq w (codes "fuel"))

-- arguments are read one after the other
one_by_one : (names : List (List ℕ)) (s : Statement) → arguments_at names s ≡ (next_argument_at names s >>= rest_of names)
one_by_one names s = one_by_one_in names s.row s.stop s.words

front_more : (front : List CaseArg) (a : CaseArg) (read : Result (List CaseArg × Statement) Fault) → with_front front (with_argument a read) ≡ with_front (front ++ a ∷ []) read
unfolding with_argument
front_more front a (Ok r) = ap (λ l. Ok (l, r.1)) (sym (append_assoc front (a ∷ []) r.0))
front_more front a (Err e) = refl

pub one_argument : (names : List (List ℕ)) (s t : Statement) (front : List CaseArg) (a : CaseArg) → next_argument_at names s ≡ Ok (Some a, t) → with_front front (arguments_at names s) ≡ with_front (front ++ a ∷ []) (arguments_at names t)
unfolding rest_of
one_argument names s t front a e = ap (with_front front) (one_by_one names s ∙ ap (λ r. r >>= rest_of names) e) ∙ front_more front a (arguments_at names t)

pub at_fuel : (names : List (List ℕ)) (s t : Statement) (front : List CaseArg) → next_argument_at names s ≡ Ok (None, t) → with_front front (arguments_at names s) ≡ Ok (front, t)
unfolding rest_of
at_fuel names s t front e = ap (with_front front) (one_by_one names s ∙ ap (λ r. r >>= rest_of names) e) ∙ ap (λ l. Ok (l, t)) (append-nil front)

fault_in : (names : List (List ℕ)) (s : Statement) (front : List CaseArg) (f : Fault) → next_argument_at names s ≡ Err f → with_front front (arguments_at names s) ≡ Err f
fault_in names s front f e = ap (with_front front) (one_by_one names s ∙ ap (λ r. r >>= rest_of names) e)

pub argument_fails : (names : List (List ℕ)) (s : Statement) (front : List CaseArg) (e : ReadError) (whole : Result (List CaseArg × Statement) Fault) → Fails e (next_argument_at names s) → with_front front (arguments_at names s) ≡ whole → Fails e whole
argument_fails names s front errors.Memory whole h i = tt
argument_fails names s front (errors.Fault f) whole h i = sym i ∙ fault_in names s front f h

behind_in : (row : ℕ) (stop : Option ℕ) (ws : List (List ℕ)) (read : Result CaseArg Fault) (a : CaseArg) (t : Statement) → ◌>>=◌ {B = Option CaseArg × Statement} read (λ a. Ok (Some a, left row stop ws)) ≡ Ok (Some a, t) → t.words ≡ ws
behind_in row stop ws (Ok x) a t e = ap (λ (p : Option CaseArg × Statement). p.1.words) (same_ok (Some a, t) (Some x, left row stop ws) _ e refl)
behind_in row stop ws (Err x) a t e = cc

abbrev Next : Type 0
Next = Result (Option CaseArg × Statement) Fault

fewer_if : (row : ℕ) (stop : Option ℕ) (ws : List (List ℕ)) (read : Result CaseArg Fault) (b : Bool) (a : CaseArg) (t : Statement) → cond {A = Next} b (Ok (None, left row stop ws)) (read >>= λ a. Ok (Some a, left row stop ws)) ≡ Ok (Some a, t) → t.words ≡ ws
fewer_if row stop ws read true a t e = let none : None ≡ Some a = ap (λ (p : Option CaseArg × Statement). p.0) (same_ok (None, left row stop ws) (Some a, t) _ refl e) in cc
fewer_if row stop ws read false a t e = behind_in row stop ws read a t e

fewer_in : (names : List (List ℕ)) (row : ℕ) (stop : Option ℕ) (words : List (List ℕ)) (a : CaseArg) (t : Statement) → next_argument_at names (left row stop words) ≡ Ok (Some a, t) → length t.words < length words
unfolding next_argument_at word_at
fewer_in names row stop [] a t e = cc
fewer_in names row stop (w ∷ ws) a t e = let same : t.words ≡ ws = fewer_if row stop ws (argument_at names row w) (bytes_eq w (codes "fuel")) a t e in omega (arith, ap length same)

pub fewer_words : (names : List (List ℕ)) (s t : Statement) (a : CaseArg) → next_argument_at names s ≡ Ok (Some a, t) → length t.words < length s.words
fewer_words names s t a e = fewer_in names s.row s.stop s.words a t e

-- statements are read one after the other
body_turn : (d e : Draft) (s : Statement) (ss : List Statement) → statement_at d s ≡ Ok e → body_at d (s ∷ ss) ≡ body_at e ss
unfolding body_at
body_turn d e s ss h = ap (λ r. r >>= λ f. body_at f ss) h

pub body_more : (d e : Draft) (s : Statement) (old new : List Statement) (whole : Result Draft Fault) → body_at d old ≡ whole → old ≡ s ∷ new → statement_at d s ≡ Ok e → body_at e new ≡ whole
body_more d e s old new whole i o h = sym (body_turn d e s new h) ∙ ap (body_at d) (sym o) ∙ i

body_stops : (d : Draft) (s : Statement) (ss : List Statement) (f : Fault) → statement_at d s ≡ Err f → body_at d (s ∷ ss) ≡ Err f
unfolding body_at
body_stops d s ss f h = ap (λ r. r >>= λ f. body_at f ss) h

pub body_fails : (d : Draft) (s : Statement) (old new : List Statement) (e : ReadError) (whole : Result Draft Fault) → body_at d old ≡ whole → old ≡ s ∷ new → Fails e (statement_at d s) → Fails e whole
body_fails d s old new errors.Memory whole i o h = tt
body_fails d s old new (errors.Fault f) whole i o h = sym i ∙ ap (body_at d) o ∙ body_stops d s new f h

body_ends : (d : Draft) → body_at d [] ≡ Ok d
unfolding body_at
body_ends d = refl

pub body_done : (d : Draft) (old : List Statement) (whole : Result Draft Fault) → body_at d old ≡ whole → old ≡ [] → whole ≡ Ok d
body_done d old whole i o = sym i ∙ ap (body_at d) o ∙ body_ends d

pub none_of : (o : Option CaseArg) → ((a : CaseArg) → o ≡ Some a → ⊥) → o ≡ None
none_of None h = refl
none_of (Some a) h = absurd (h a refl)
