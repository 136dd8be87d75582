-- What one word of a schedule says.
use Rattle.std.specs.Prelude.{ℕ, ◌+◌, ◌^◌, List, take, drop, Bool, ◌&&◌, ◌==◌, nat_lt, Result, Ok, Err, if◌then◌else◌, slice_index}
use Rattle.std.specs.List.{prefix_len}
use Rattle.lx_words.specs.Lexemes.{is_digit, some_all}
use Rattle.lx_words.specs.Text.{decimal_value}
use Rattle.lx_script.specs.declared.fault.FaultKind.{FaultKind}
use Rattle.lx_script.specs.declared.fault.FaultKind.TheVariants.{Statement, Range}

-- what is wrong with a word: the kind of fault, and the bytes that it names
abbrev pub Wrong : Type 0
Wrong = FaultKind × List ℕ

-- `T*N`: the digits at the front, and what stands behind the byte after them
abbrev pub thread_text : List ℕ → List ℕ
thread_text word = take (prefix_len is_digit word) word

abbrev pub count_text : List ℕ → List ℕ
count_text word = drop (prefix_len is_digit word + 1) word

abbrev pub has_run_form : List ℕ → Bool
has_run_form word = nat_lt 0 (prefix_len is_digit word) && slice_index word (prefix_len is_digit word) == 42 && some_all is_digit (count_text word)

-- a number of 32 bits, or the number as the fault names it
abbrev pub number_says : List ℕ → Result ℕ Wrong
number_says digits = if nat_lt (decimal_value digits) (2 ^ 32) then Ok (decimal_value digits) else Err (Range, digits)

-- the same, and 0 is out of range too
abbrev pub count_says : List ℕ → Result ℕ Wrong
count_says digits = if decimal_value digits == 0 then Err (Range, digits) else number_says digits

-- two numbers, or what is wrong with the first of them that is wrong
abbrev pub both : Result ℕ Wrong → Result ℕ Wrong → Result (ℕ × ℕ) Wrong
both (Err e) count = Err e
both (Ok thread) (Err e) = Err e
both (Ok thread) (Ok count) = Ok (thread, count)

-- the thread and the count of a word
unfoldable pub run_says : List ℕ → Result (ℕ × ℕ) Wrong
run_says word = if has_run_form word then both (number_says (thread_text word)) (count_says (count_text word)) else Err (Statement, word)
