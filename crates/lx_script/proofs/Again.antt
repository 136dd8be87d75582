-- What is in the grammar is read.
use Rattle.std.proofs.Common.{◌≡◌, ℕ, ◌+◌, ◌<◌, ◌≤◌, List, [], ◌∷◌, ◌++◌, length, Bool, true, false, None, Result, Ok, Err, ◌⊎◌, inl, inr, refl, sym, ap, ◌∙◌, arith}
use Rattle.std.specs.Prelude.{codes, bytes_eq, position, is_some, not, nat_lt, nat_le, ◌==◌}
use Rattle.std.proofs.lemmas.Bool.{cond-false, eqb-true, false_from_ne_true}
use Rattle.std.proofs.lemmas.Slice.Eq.{bytes_eq-Decides}
use Rattle.lx_words.proofs.Tests.{not_at_most, not_below}
use Rattle.lx_script.specs.declared.case.Origin.{Origin}
use Rattle.lx_script.specs.declared.case.Origin.TheVariants as origins
use Rattle.lx_script.specs.declared.case.CaseArg.{CaseArg}
use Rattle.lx_script.specs.declared.case.CaseCall.{CaseCall}
use Rattle.lx_script.specs.declared.fault.Fault.{Fault}
use Rattle.lx_script.specs.declared.fault.FaultKind.{FaultKind}
use Rattle.lx_script.specs.declared.fault.FaultKind.TheVariants as kinds
use Rattle.lx_script.specs.declared.fault.CaseFault.{CaseFault}
use Rattle.lx_script.specs.declared.fault.ReadError.{ReadError}
use Rattle.lx_script.specs.declared.fault.ReadError.TheVariants as errors
use Rattle.lx_script.specs.Faults.{answer, answered, fault_of}
use Rattle.lx_script.specs.Case.{Case, most_modules, most_threads, most_calls, most_fuel, call_count, fuel_sum}
use Rattle.lx_script.specs.Lines.{Statement, statements_of}
use Rattle.lx_script.specs.Reading.{◌>>=◌, Fails, left, word_at, end_at, fixed_at, version_at, last_at, file_at, place_at, origin_at, symbol_at, argument_at, with_argument, arguments_by, fuel_at, spent_at, call_in, call_at, thread_at, file_of_module, module_named, module_at, statement_by, statement_at, body_at, next_at, case_at, Draft, names_of, is_module_name, with_call}
use Rattle.lx_script.specs.Grammar.{Has, origin_words, AreArguments, Stands, StandAll, IsCase, SaysCase, FirstCaseFault, CaseFails}
use Rattle.lx_script.proofs.Counts.{same_ok}
use Rattle.lx_script.proofs.Law.{read_is}

is_left : (s : Statement) (words : List (List ℕ)) → Has s words → s ≡ left s.row None words
is_left s words h = ap (λ ws. left s.row s.stop ws) h.0 ∙ ap (λ o. left s.row o words) h.1

version_read : (s : Statement) → Has s (codes "lxfi" ∷ codes "case" ∷ codes "1" ∷ []) → version_at s ≡ Ok tt
unfolding version_at fixed_at word_at end_at
version_read s h = ap version_at (is_left s _ h)

kernel_in : (row : ℕ) (o : Origin) → origin_at (codes "kernel") (left row None (codes "kernel" ∷ origin_words o)) ≡ Ok o
unfolding origin_at place_at fixed_at last_at file_at word_at end_at
kernel_in row origins.None = refl
kernel_in row origins.Builtin = refl
kernel_in row (origins.File name) = refl

interface_in : (row : ℕ) (o : Origin) → origin_at (codes "interface") (left row None (codes "interface" ∷ origin_words o)) ≡ Ok o
unfolding origin_at place_at fixed_at last_at file_at word_at end_at
interface_in row origins.None = refl
interface_in row origins.Builtin = refl
interface_in row (origins.File name) = refl

not_zero : (n : ℕ) → 0 < n → (n == 0) ≡ false
not_zero n h = false_from_ne_true (n == 0) (λ t. omega (arith, eqb-true n 0 t))

-- modules
module_in : (d : Draft) (row : ℕ) (name file : List ℕ) → d.threads ≡ [] → length d.modules < most_modules → is_module_name name ≡ true → position (bytes_eq name) (names_of d.modules) ≡ None → statement_at d (left row None (codes "module" ∷ name ∷ file ∷ [])) ≡ Ok (record { modules = d.modules ++ record { name = name; file = file } ∷ []; threads = d.threads })
unfolding statement_at statement_by module_at module_named file_of_module word_at end_at
module_in d row name file none room named first =
    let a : nat_lt 0 (length d.threads) ≡ false = not_below 0 (length d.threads) (omega (arith, ap length none)) in
    cond-false (nat_lt 0 (length d.threads)) _ _ a ∙ cond-false (nat_le most_modules (length d.modules)) _ _ (not_at_most most_modules (length d.modules) room) ∙ cond-false (not (is_module_name name)) _ _ (ap not named) ∙ cond-false (is_some (position (bytes_eq name) (names_of d.modules))) _ _ (ap is_some first)

thread_in : (d : Draft) (row : ℕ) → length d.threads < most_threads → statement_at d (left row None (codes "thread" ∷ [])) ≡ Ok (record { modules = d.modules; threads = d.threads ++ [] ∷ [] })
unfolding statement_at statement_by thread_at word_at end_at
thread_in d row room = cond-false (nat_le most_threads (length d.threads)) _ _ (not_at_most most_threads (length d.threads) room)

-- arguments
no_argument : (names : List (List ℕ)) (row : ℕ) (a : CaseArg) → argument_at names row (codes "fuel") ≡ Ok a → ⊥
unfolding argument_at
no_argument names row a e = cc (e)

not_fuel_by : (names : List (List ℕ)) (row : ℕ) (w : List ℕ) (a : CaseArg) (v : Bool) → bytes_eq w (codes "fuel") ≡ v → argument_at names row w ≡ Ok a → v ≡ false
not_fuel_by names row w a false b e = refl
not_fuel_by names row w a true b e = absurd (no_argument names row a (ap (argument_at names row) (sym ((bytes_eq-Decides w (codes "fuel")).0 b)) ∙ e))

arguments_in : (names : List (List ℕ)) (row : ℕ) (words : List (List ℕ)) (args : List CaseArg) (behind : List (List ℕ)) → AreArguments names row words args → arguments_by names row None (words ++ codes "fuel" ∷ behind) ≡ Ok (args, left row None behind)
unfolding arguments_by with_argument
arguments_in names row [] [] behind h = refl
arguments_in names row [] (a ∷ rest) behind h = absurd h
arguments_in names row (w ∷ ws) [] behind h = absurd h
arguments_in names row (w ∷ ws) (a ∷ rest) behind h =
    cond-false (bytes_eq w (codes "fuel")) _ _ (not_fuel_by names row w a (bytes_eq w (codes "fuel")) refl h.0)
    ∙ ap (λ r. r >>= λ first. with_argument first (arguments_by names row None (ws ++ codes "fuel" ∷ behind))) h.0
    ∙ ap (with_argument a) (arguments_in names row ws rest behind h.1)

spent_in : (row spent n : ℕ) (fuel : List ℕ) → fuel_at row fuel ≡ Ok n → spent + n ≤ most_fuel → spent_at row spent (left row None (fuel ∷ [])) ≡ Ok (n, left row None [])
unfolding spent_at word_at
spent_in row spent n fuel e fits = rw e (cond-false (nat_lt most_fuel (spent + n)) _ _ (not_below most_fuel (spent + n) fits))

called_in : (names : List (List ℕ)) (row spent : ℕ) (target fuel : List ℕ) (words : List (List ℕ)) (call : CaseCall) → symbol_at names row target target ≡ Ok (call.target.«module», call.target.function) → AreArguments names row words call.args → fuel_at row fuel ≡ Ok call.fuel → spent + call.fuel ≤ most_fuel → call.line ≡ row → call_in names spent (left row None (target ∷ (words ++ codes "fuel" ∷ fuel ∷ []))) ≡ Ok call
unfolding call_in word_at end_at
called_in names row spent target fuel words call t a f fits l =
    rw (t, arguments_in names row words call.args (fuel ∷ []) a, spent_in row spent call.fuel fuel f fits, ← l) refl

call_in_thread : (d : Draft) (row : ℕ) (target fuel : List ℕ) (words : List (List ℕ)) (call : CaseCall) → 0 < length d.threads → call_count d.threads < most_calls → symbol_at (names_of d.modules) row target target ≡ Ok (call.target.«module», call.target.function) → AreArguments (names_of d.modules) row words call.args → fuel_at row fuel ≡ Ok call.fuel → fuel_sum d.threads + call.fuel ≤ most_fuel → call.line ≡ row → statement_at d (left row None (codes "call" ∷ target ∷ (words ++ codes "fuel" ∷ fuel ∷ []))) ≡ Ok (record { modules = d.modules; threads = with_call call d.threads })
unfolding statement_at statement_by call_at word_at
call_in_thread d row target fuel words call some room t a f fits l =
    cond-false (length d.threads == 0) _ _ (not_zero (length d.threads) some)
    ∙ cond-false (nat_le most_calls (call_count d.threads)) _ _ (not_at_most most_calls (call_count d.threads) room)
    ∙ ap (λ r. r >>= λ call. Ok (record { modules = d.modules; threads = with_call call d.threads })) (called_in (names_of d.modules) row (fuel_sum d.threads) target fuel words call t a f fits l)

statement_read : (d : Draft) (s : Statement) (e : Draft) → Stands d s e → statement_at d s ≡ Ok e
statement_read d s e (inl x) = ap (statement_at d) (is_left s _ x.has) ∙ module_in d s.row x.name x.file x.no_thread x.room x.named x.first ∙ ap Ok (sym x.is)
statement_read d s e (inr (inl x)) = ap (statement_at d) (is_left s _ x.has) ∙ thread_in d s.row x.room ∙ ap Ok (sym x.is)
statement_read d s e (inr (inr x)) = ap (statement_at d) (is_left s _ x.has) ∙ call_in_thread d s.row x.target x.fuel x.arguments x.call x.some_thread x.room x.target_is x.arguments_are x.fuel_is x.fuel_fits x.line_is ∙ ap Ok (sym x.is)

pub body_read : (d : Draft) (ss : List Statement) (e : Draft) → StandAll d ss e → body_at d ss ≡ Ok e
unfolding body_at
body_read d [] e h = ap Ok h
body_read d (s ∷ ss) e h = ap (λ r. r >>= λ f. body_at f ss) (statement_read d s h.0 h.1) ∙ body_read h.0 ss e h.2

case_in : (v k i : Statement) (body : List Statement) (case : Case) → version_at v ≡ Ok tt → origin_at (codes "kernel") k ≡ Ok case.kernel → origin_at (codes "interface") i ≡ Ok case.interface → body_at (record { modules = []; threads = [] }) body ≡ Ok (record { modules = case.modules; threads = case.threads }) → case_at (v ∷ k ∷ i ∷ body) ≡ Ok case
unfolding case_at next_at
case_in v k i body case a b c d = rw (a, b, c, d) refl

-- what is in the grammar is read
pub is_read : (ss : List Statement) (case : Case) → IsCase ss case → case_at ss ≡ Ok case
is_read ss case h =
    ap case_at h.whole
    ∙ case_in h.version h.kernel h.interface h.body case (version_read h.version h.version_has)
    (ap (origin_at (codes "kernel")) (is_left h.kernel _ h.kernel_has) ∙ kernel_in h.kernel.row case.kernel)
    (ap (origin_at (codes "interface")) (is_left h.interface _ h.interface_has) ∙ interface_in h.interface.row case.interface)
    (body_read (record { modules = []; threads = [] }) h.body (record { modules = case.modules; threads = case.threads }) h.body_stands)

same_err : (e f : Fault) (r : Result Case Fault) → r ≡ Err e → r ≡ Err f → e ≡ f
same_err e f r h k = cc

pub ok_or_err : (a : Case) (f : Fault) (r : Result Case Fault) → r ≡ Ok a → r ≡ Err f → ⊥
ok_or_err a f r h k = cc

-- a text is one case, or has one first fault
pub one_value : (text : List ℕ) (a b : Case) → SaysCase text a → SaysCase text b → a ≡ b
one_value text a b h k = same_ok a b _ (is_read (statements_of text) a h) (is_read (statements_of text) b k)

pub one_fault : (text : List ℕ) (e f : CaseFault) → FirstCaseFault text e → FirstCaseFault text f → e ≡ f
one_fault text e f h k =
    let same : h.0 ≡ k.0 = same_err h.0 k.0 (case_at (statements_of text)) h.1 k.1 in
    h.2 ∙ ap answered same ∙ sym k.2

pub not_both : (text : List ℕ) (a : Case) (f : CaseFault) → SaysCase text a → FirstCaseFault text f → ⊥
not_both text a f h k = ok_or_err a k.0 (case_at (statements_of text)) (is_read (statements_of text) a h) k.1

-- some text is a case, or has a first fault
either_by : (text : List ℕ) (r : Result Case Fault) → case_at (statements_of text) ≡ r → ((a : Case) × SaysCase text a) ⊎ ((f : CaseFault) × FirstCaseFault text f)
either_by text (Ok a) e = inl (a, read_is (statements_of text) a e)
either_by text (Err f) e = inr (answered f, (f, e, refl))

pub either : (text : List ℕ) → ((a : Case) × SaysCase text a) ⊎ ((f : CaseFault) × FirstCaseFault text f)
either text = either_by text (case_at (statements_of text)) refl

-- the answers of the reader
met_as : (text : List ℕ) (f : Fault) → case_at (statements_of text) ≡ Err f → FirstCaseFault text (answered f)
met_as text f h = (f, h, refl)

fails_as : (text : List ℕ) (kind : FaultKind) (line : ℕ) (what : List ℕ) → FirstCaseFault text (fault_of kind line what) → CaseFails text (fault_of kind line what)
fails_as text kinds.Lexical line what h = h
fails_as text kinds.Statement line what h = h
fails_as text kinds.Unknown line what h = h
fails_as text kinds.Twice line what h = h
fails_as text kinds.Range line what h = h
fails_as text kinds.Limit line what h = h

pub answers : (text : List ℕ) (e : ReadError) → Fails e (case_at (statements_of text)) → CaseFails text (answer e)
answers text errors.Memory h = tt
answers text (errors.Fault f) h = fails_as text f.kind f.line f.what (met_as text f h)
