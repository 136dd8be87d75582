-- A generated text is its case.
use Rattle.std.proofs.Common.{◌≡◌, ◌∙◌, inl, inr, ℕ, zero, suc, ◌+◌, ◌*◌, ◌^◌, ◌<◌, ◌≤◌, Bool, true, false, cond, List, [], ◌∷◌, ◌++◌, length, refl, sym, ap, subst, arith, append_assoc}
use Rattle.std.specs.Prelude.{◌==◌, ◌%◌, filter, flat_map, codes, if◌then◌else◌}
use Rattle.std.specs.List.{range_with_len}
use Rattle.std.proofs.lemmas.List.{append-nil, length-append}
use Rattle.std.proofs.lemmas.List.Sums.{sum_by-cons}
use Rattle.lx_words.specs.Text.{decimal_text}
use Rattle.lx_words.specs.TextLaws.{NumberTexts}
use Rattle.lx_generate.specs.Generated.{call_line, case_text, head_lines, line_in, thread_lines}
use Rattle.lx_script.specs.declared.case.CaseCall.{CaseCall}
use Rattle.lx_script.specs.Case.{call_count, fuel_sum, thread_fuel}
use Rattle.lx_script.specs.Lines.{Statement, statements_from, statements_of}
use Rattle.lx_script.specs.Reading.{Draft, with_call}
use Rattle.lx_script.specs.Grammar.{StandAll, Stands}
use Rattle.lx_script.proofs.Cutting.{all_said}
use Rattle.lx_generated_laws.specs.Cases.{CasesAreSaid, call_of, calls_from, first_row, generated_modules, numbers_in, row_behind, thread_calls}
use Rattle.lx_generated_laws.proofs.Lines.{statement, line_first}
use Rattle.lx_generated_laws.proofs.Calls.{argument_said, call_first, call_words, fuel_said, target_said, target_words}
use Rattle.lx_generated_laws.proofs.Counts.{AreBelow, all_numbers, count_from, count_last, fuel_from, fuel_last, fuel_more, numbers_below}

-- The statements of calls.

abbrev call_statements : ℕ → ℕ → List ℕ → List Statement
call_statements n row [] = []
call_statements n row (j ∷ js) = statement row (call_words j (3 * j + n)) ∷ call_statements n (row + 1) js

-- the lines of a thread are those of the calls that it has
pub kept_lines : (n thread : ℕ) (js : List ℕ) → flat_map (line_in n thread) js ≡ flat_map (call_line n) (filter (λ j. j % 4 == thread) js)
kept_lines n thread [] = refl
kept_lines n thread (j ∷ js) = by (j % 4 == thread) (kept_lines n thread js)
  where
    others : List ℕ
    others = filter (λ k. k % 4 == thread) js

    by : (b : Bool) → flat_map (line_in n thread) js ≡ flat_map (call_line n) others → (if b then call_line n j else []) ++ flat_map (line_in n thread) js ≡ flat_map (call_line n) (cond b (j ∷ others) others)
    by true e = ap (λ t. call_line n j ++ t) e
    by false e = e

-- Calls in a thread.

abbrev draft : List (List CaseCall) → Draft
draft threads = record { modules = generated_modules; threads = threads }

with_last : (done : List (List CaseCall)) (last : List CaseCall) (c : CaseCall) → with_call c (done ++ last ∷ []) ≡ done ++ (last ++ c ∷ []) ∷ []
with_last [] last c = refl
with_last (x ∷ []) last c = refl
with_last (x ∷ y ∷ done) last c = ap (λ ts. x ∷ ts) (with_last (y ∷ done) last c)

some_last : (done : List (List CaseCall)) (last : List CaseCall) → 0 < length (done ++ last ∷ [])
some_last done last = omega (arith, length-append done (last ∷ []))

module _ (texts : NumberTexts) where
  calls_read : (n row : ℕ) (js : List ℕ) (rest : List ℕ) → statements_from row (flat_map (call_line n) js ++ rest) ≡ call_statements n row js ++ statements_from (row + length js) rest
  calls_read n row [] rest = ap (λ r. statements_from r rest) (omega arith)
  calls_read n row (j ∷ js) rest =
      let next : row + 1 + length js ≡ row + length (j ∷ js) = omega arith in
      ap (statements_from row) (append_assoc (call_line n j) (flat_map (call_line n) js) rest)
      ∙ call_first texts n row j (flat_map (call_line n) js ++ rest)
      ∙ ap (λ ss. statement row (call_words j (3 * j + n)) ∷ ss) (calls_read n (row + 1) js rest ∙ ap (λ r. call_statements n (row + 1) js ++ statements_from r rest) next)

  -- the statement of a thread, and those of its calls
  thread_read : (n thread row : ℕ) (rest : List ℕ) → statements_from row (thread_lines n thread ++ rest) ≡ statement row (codes "thread" ∷ []) ∷ (call_statements n (row + 1) (numbers_in n thread) ++ statements_from (row + 1 + length (numbers_in n thread)) rest)
  unfolding thread_lines
  thread_read n thread row rest =
      line_first row (codes "thread") (flat_map (line_in n thread) (range_with_len 0 n) ++ rest) refl
      ∙ ap (λ t. statement row (codes "thread" ∷ []) ∷ statements_from (row + 1) (t ++ rest)) (kept_lines n thread (range_with_len 0 n))
      ∙ ap (λ ss. statement row (codes "thread" ∷ []) ∷ ss) (calls_read n (row + 1) (numbers_in n thread) rest)

  call_stands : (n row j : ℕ) (done : List (List CaseCall)) (last : List CaseCall) → 3 * j + n < 2 ^ 64 → call_count (done ++ last ∷ []) < 4096 → fuel_sum (done ++ last ∷ []) + 100 ≤ 1048576
      → Stands (draft (done ++ last ∷ [])) (statement row (call_words j (3 * j + n))) (draft (done ++ (last ++ call_of n row j ∷ []) ∷ []))
  call_stands n row j done last small calls fuel = inr (inr (record {
    target = target_words j;
    arguments = decimal_text (3 * j + n) ∷ [];
    fuel = codes "100";
    call = call_of n row j;
    has = (refl, refl);
    some_thread = some_last done last;
    room = calls;
    target_is = target_said row j;
    arguments_are = (argument_said texts (codes "gen" ∷ []) row (3 * j + n) small, tt);
    fuel_is = fuel_said row;
    fuel_fits = fuel;
    line_is = refl;
    is = ap draft (sym (with_last done last (call_of n row j)));
  }))

  calls_stand : (n row : ℕ) (js : List ℕ) (done : List (List CaseCall)) (last : List CaseCall) (more : List Statement) (new : Draft)
      → n ≤ 4096 → AreBelow n js → call_count (done ++ last ∷ []) + length js ≤ 4096 → fuel_sum (done ++ last ∷ []) + 100 * length js ≤ 1048576
      → StandAll (draft (done ++ (last ++ calls_from n row js) ∷ [])) more new → StandAll (draft (done ++ last ∷ [])) (call_statements n row js ++ more) new
  calls_stand n row [] done last more new few below calls fuel h = subst (λ l. StandAll (draft (done ++ l ∷ [])) more new) (append-nil last) h
  calls_stand n row (j ∷ js) done last more new few below calls fuel h =
      let c : CaseCall = call_of n row j in (
        draft (done ++ (last ++ c ∷ []) ∷ []),
        call_stands n row j done last (omega (arith, few, below.0)) (omega (arith, calls)) (omega (arith, fuel)),
        calls_stand n (row + 1) js done (last ++ c ∷ []) more new few below.1 (omega (arith, calls, count_last done last, count_last done (last ++ c ∷ []), length-append last (c ∷ []))) (omega (arith, fuel, fuel_last done last, fuel_last done (last ++ c ∷ []), fuel_more last c))
            (subst (λ l. StandAll (draft (done ++ l ∷ [])) more new) (sym (append_assoc last (c ∷ []) (calls_from n (row + 1) js))) h),
      )

  -- a thread behind others
  thread_stands : (n row : ℕ) (js : List ℕ) (done : List (List CaseCall)) (more : List Statement) (new : Draft)
      → length done < 16 → n ≤ 4096 → AreBelow n js → call_count done + length js ≤ 4096 → fuel_sum done + 100 * length js ≤ 1048576
      → StandAll (draft (done ++ calls_from n (row + 1) js ∷ [])) more new → StandAll (draft done) (statement row (codes "thread" ∷ []) ∷ (call_statements n (row + 1) js ++ more)) new
  thread_stands n row js done more new room few below calls fuel h = (
    draft (done ++ [] ∷ []),
    inr (inl (record { has = (refl, refl); room = room; is = refl })),
    calls_stand n (row + 1) js done [] more new few below (omega (arith, calls, count_last done [])) (omega (arith, fuel, fuel_last done [])) h,
  )

  -- The text.

  abbrev thread : ℕ → Statement
  thread row = statement row (codes "thread" ∷ [])

  abbrev version : Statement
  version = statement 1 (codes "lxfi" ∷ codes "case" ∷ codes "1" ∷ [])

  abbrev kernel : Statement
  kernel = statement 2 (codes "kernel" ∷ codes "builtin" ∷ [])

  abbrev interface : Statement
  interface = statement 3 (codes "interface" ∷ codes "builtin" ∷ [])

  abbrev one_module : Statement
  one_module = statement 4 (codes "module" ∷ codes "gen" ∷ codes "gen.ll" ∷ [])

  -- the line of the word `thread` of a thread
  abbrev row_of : ℕ → ℕ → ℕ
  row_of n zero = 5
  row_of n (suc t) = row_behind n t (first_row n t)

  -- the statements of a thread before others
  abbrev in_thread : ℕ → ℕ → List Statement → List Statement
  in_thread n t more = thread (row_of n t) ∷ (call_statements n (first_row n t) (numbers_in n t) ++ more)

  threads_read : (n : ℕ) → statements_from 5 (thread_lines n 0 ++ (thread_lines n 1 ++ (thread_lines n 2 ++ thread_lines n 3))) ≡ in_thread n 0 (in_thread n 1 (in_thread n 2 (in_thread n 3 [])))
  threads_read n =
      let last : statements_from (row_of n 3) (thread_lines n 3) ≡ in_thread n 3 [] =
      ap (statements_from (row_of n 3)) (sym (append-nil (thread_lines n 3))) ∙ thread_read n 3 (row_of n 3) [] ∙ ap (in_thread n 3) (all_said (row_behind n 3 (first_row n 3)) [] refl)
      in
      thread_read n 0 5 (thread_lines n 1 ++ (thread_lines n 2 ++ thread_lines n 3))
      ∙ ap (in_thread n 0) (thread_read n 1 (row_of n 1) (thread_lines n 2 ++ thread_lines n 3) ∙ ap (in_thread n 1) (thread_read n 2 (row_of n 2) (thread_lines n 3) ∙ ap (in_thread n 2) last))

  text_read : (n : ℕ) → statements_of (case_text n) ≡ version ∷ kernel ∷ interface ∷ one_module ∷ in_thread n 0 (in_thread n 1 (in_thread n 2 (in_thread n 3 [])))
  unfolding head_lines
  text_read n =
      let rest : List ℕ = thread_lines n 0 ++ (thread_lines n 1 ++ (thread_lines n 2 ++ thread_lines n 3)) in
      let fourth : List ℕ = codes "module gen gen.ll" ++ 10 ∷ rest in
      let third : List ℕ = codes "interface builtin" ++ 10 ∷ fourth in
      line_first 1 (codes "lxfi case 1") (codes "kernel builtin" ++ 10 ∷ third) refl
      ∙ ap (λ ss. version ∷ ss) (line_first 2 (codes "kernel builtin") third refl
      ∙ ap (λ ss. kernel ∷ ss) (line_first 3 (codes "interface builtin") fourth refl
      ∙ ap (λ ss. interface ∷ ss) (line_first 4 (codes "module gen gen.ll") rest refl ∙ ap (λ ss. one_module ∷ ss) (threads_read n))))

  threads_stand : (n : ℕ) → n ≤ 4096 → StandAll (draft []) (in_thread n 0 (in_thread n 1 (in_thread n 2 (in_thread n 3 [])))) (draft (thread_calls n 0 ∷ thread_calls n 1 ∷ thread_calls n 2 ∷ thread_calls n 3 ∷ []))
  threads_stand n few =
      let all = all_numbers n in
      let calls : ℕ → List CaseCall = thread_calls n in
      let new : Draft = draft (calls 0 ∷ calls 1 ∷ calls 2 ∷ calls 3 ∷ []) in
      let count0 = count_from n (first_row n 0) (numbers_in n 0) in
      let fuel0 = fuel_from n (first_row n 0) (numbers_in n 0) in
      let count1 = count_from n (first_row n 1) (numbers_in n 1) in
      let fuel1 = fuel_from n (first_row n 1) (numbers_in n 1) in
      let count2 = count_from n (first_row n 2) (numbers_in n 2) in
      let fuel2 = fuel_from n (first_row n 2) (numbers_in n 2) in
      thread_stands n 5 (numbers_in n 0) [] (in_thread n 1 (in_thread n 2 (in_thread n 3 []))) new (omega arith) few (numbers_below n 0) (omega (arith, all, few)) (omega (arith, all, few))
      (thread_stands n (row_of n 1) (numbers_in n 1) (calls 0 ∷ []) (in_thread n 2 (in_thread n 3 [])) new (omega arith) few (numbers_below n 1)
      (omega (arith, all, few, count0, sum_by-cons length (calls 0) [])) (omega (arith, all, few, fuel0, sum_by-cons thread_fuel (calls 0) []))
      (thread_stands n (row_of n 2) (numbers_in n 2) (calls 0 ∷ calls 1 ∷ []) (in_thread n 3 []) new (omega arith) few (numbers_below n 2)
      (omega (arith, all, few, count0, count1, sum_by-cons length (calls 0) (calls 1 ∷ []), sum_by-cons length (calls 1) [])) (omega (arith, all, few, fuel0, fuel1, sum_by-cons thread_fuel (calls 0) (calls 1 ∷ []), sum_by-cons thread_fuel (calls 1) []))
      (thread_stands n (row_of n 3) (numbers_in n 3) (calls 0 ∷ calls 1 ∷ calls 2 ∷ []) [] new (omega arith) few (numbers_below n 3)
      (omega (arith, all, few, count0, count1, count2, sum_by-cons length (calls 0) (calls 1 ∷ calls 2 ∷ []), sum_by-cons length (calls 1) (calls 2 ∷ []), sum_by-cons length (calls 2) [])) (omega (arith, all, few, fuel0, fuel1, fuel2, sum_by-cons thread_fuel (calls 0) (calls 1 ∷ calls 2 ∷ []), sum_by-cons thread_fuel (calls 1) (calls 2 ∷ []), sum_by-cons thread_fuel (calls 2) [])) refl)))

  pub cases_are_said : CasesAreSaid
  cases_are_said n few = record {
    version = version;
    kernel = kernel;
    interface = interface;
    body = one_module ∷ in_thread n 0 (in_thread n 1 (in_thread n 2 (in_thread n 3 [])));
    whole = text_read n;
    version_has = (refl, refl);
    kernel_has = (refl, refl);
    interface_has = (refl, refl);
    body_stands = (
      draft [],
      inl (record { name = codes "gen"; file = codes "gen.ll"; has = (refl, refl); no_thread = refl; room = omega arith; named = refl; first = refl; is = refl }),
      threads_stand n few,
    );
  }
