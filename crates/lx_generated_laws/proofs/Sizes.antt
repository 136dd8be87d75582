-- How long a generated text is.
use Rattle.std.proofs.Common.{◌≡◌, ◌∙◌, ℕ, zero, suc, ◌+◌, ◌*◌, ◌≤◌, Bool, true, false, List, [], ◌∷◌, ◌++◌, length, refl, ap, arith}
use Rattle.std.specs.Prelude.{◌==◌, ◌%◌, ◌/◌, codes, flat_map, nat_lt, if◌then◌else◌}
use Rattle.std.specs.List.{range_with_len}
use Rattle.std.proofs.lemmas.List.{length-append}
use Rattle.lx_words.specs.Text.{digit, digits_to}
use Rattle.lx_generate.specs.Generated.{call_line, callee, case_text, head_lines, line_in, module_text, number_words, thread_lines}
use Rattle.lx_generated_laws.specs.Cases.{numbers_in}
use Rattle.lx_generated_laws.proofs.Cases.{kept_lines}
use Rattle.lx_generated_laws.proofs.Counts.{all_numbers}

digits_within : (base k n : ℕ) → length (digits_to base k n) ≤ k
digits_within base zero n = omega arith
digits_within base (suc k) n = by (nat_lt n base) (digits_within base k (n / base))
  where
    by : (b : Bool) → length (digits_to base k (n / base)) ≤ k → length {A = ℕ} (elim b [ true ↦ digit n ∷ [] | false ↦ digits_to base k (n / base) ++ digit (n % base) ∷ [] ]) ≤ suc k
    by true h = omega arith
    by false h = omega (arith, h, length-append (digits_to base k (n / base)) (digit (n % base) ∷ []))

callee_within : (j : ℕ) → length (callee j) ≤ 5
unfolding callee
callee_within j = by (j % 10 == 9)
  where
    by : (b : Bool) → length (if b then codes "stray" else codes "work") ≤ 5
    by true = omega arith
    by false = omega arith

number_within : (k : ℕ) → length (number_words k) ≤ 40
unfolding number_words
number_within k = omega (arith, digits_within 10 39 k)

four_parts : (a b c d : List ℕ) → length (a ++ b ++ c ++ d) ≡ length a + length b + length c + length d
four_parts a b c d = length-append (a ++ b ++ c) d ∙ omega (arith, length-append (a ++ b) c, length-append a b)

line_within : (n j : ℕ) → length (call_line n j) ≤ 64
line_within n j =
    let whole : length (call_line n j) ≡ 9 + length (callee j) + length (number_words (3 * j + n)) + 10 = four_parts (codes "call gen:") (callee j) (number_words (3 * j + n)) (codes " fuel 100\n") in
    omega (arith, whole, callee_within j, number_within (3 * j + n))

lines_within : (n : ℕ) (js : List ℕ) → length (flat_map (call_line n) js) ≤ 64 * length js
lines_within n [] = omega arith
lines_within n (j ∷ js) = omega (arith, length-append (call_line n j) (flat_map (call_line n) js), line_within n j, lines_within n js)

thread_within : (n thread : ℕ) → length (thread_lines n thread) ≤ 7 + 64 * length (numbers_in n thread)
unfolding thread_lines
thread_within n thread =
    let lines : length (flat_map (line_in n thread) (range_with_len 0 n)) ≡ length (flat_map (call_line n) (numbers_in n thread)) = ap length (kept_lines n thread (range_with_len 0 n)) in
    omega (arith, length-append (codes "thread\n") (flat_map (line_in n thread) (range_with_len 0 n)), lines, lines_within n (numbers_in n thread))

head_size : length head_lines ≡ 63
unfolding head_lines
head_size = refl

pub case_within : (n : ℕ) → n ≤ 4096 → length (case_text n) ≤ 1048576
case_within n few =
    omega (
      arith,
      few,
      all_numbers n,
      head_size,
      length-append head_lines (thread_lines n 0 ++ (thread_lines n 1 ++ (thread_lines n 2 ++ thread_lines n 3))),
      length-append (thread_lines n 0) (thread_lines n 1 ++ (thread_lines n 2 ++ thread_lines n 3)),
      length-append (thread_lines n 1) (thread_lines n 2 ++ thread_lines n 3),
      length-append (thread_lines n 2) (thread_lines n 3),
      thread_within n 0,
      thread_within n 1,
      thread_within n 2,
      thread_within n 3,
    )

module_size : length module_text ≡ 286
unfolding module_text
module_size = refl

pub module_within : length module_text ≤ 1048576
module_within = omega (arith, module_size)
