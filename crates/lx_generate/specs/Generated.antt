-- The texts of a generated case.
use Rattle.std.specs.Prelude.{ℕ, ◌+◌, ◌*◌, ◌%◌, ◌==◌, List, [], ◌∷◌, ◌++◌, codes, flat_map, if◌then◌else◌}
use Rattle.std.specs.List.{range_with_len}
use Rattle.lx_generate.specs.Lines.{text_of}
use Rattle.lx_words.specs.Text.{decimal_text}

-- the module's text: `work` uses a block of its own, and `stray` stores where the kernel's globals stand
unfoldable pub module_text : List ℕ
module_text = text_of (
    codes "declare ptr @kmalloc(i64)" ∷
    codes "declare void @kfree(ptr)" ∷
    codes "define i64 @work(i64 %n) {" ∷
    codes "%p = call ptr @kmalloc(i64 16)" ∷
    codes "store i64 %n, ptr %p" ∷
    codes "%v = load i64, ptr %p" ∷
    codes "call void @kfree(ptr %p)" ∷
    codes "ret i64 %v" ∷
    codes "}" ∷
    codes "define i64 @stray(i64 %n) {" ∷
    codes "%p = inttoptr i64 16777216 to ptr" ∷
    codes "store i64 %n, ptr %p" ∷
    codes "ret i64 %n" ∷
    codes "}" ∷
    [])

-- each tenth call strays
unfoldable pub callee : ℕ → List ℕ
callee j = if j % 10 == 9 then codes "stray" else codes "work"

abbrev pub callee_words : ℕ → List ℕ
callee_words j = codes "call gen:" ++ callee j

unfoldable pub number_words : ℕ → List ℕ
number_words n = codes " " ++ decimal_text n

-- the line of call j of n
abbrev pub call_line : ℕ → ℕ → List ℕ
call_line n j = callee_words j ++ number_words (3 * j + n) ++ codes " fuel 100\n"

-- the line of call j of n in a thread, where it stands in that one
abbrev pub line_in : ℕ → ℕ → ℕ → List ℕ
line_in n thread j = if j % 4 == thread then call_line n j else []

-- a thread, and its calls in order
unfoldable pub thread_lines : ℕ → ℕ → List ℕ
thread_lines n thread = codes "thread\n" ++ flat_map (line_in n thread) (range_with_len 0 n)

-- the lines above the threads
unfoldable pub head_lines : List ℕ
head_lines = codes "lxfi case 1\nkernel builtin\ninterface builtin\nmodule gen gen.ll\n"

-- the case of n calls: call j stands in thread j mod 4
abbrev pub case_text : ℕ → List ℕ
case_text n = head_lines ++ (thread_lines n 0 ++ (thread_lines n 1 ++ (thread_lines n 2 ++ thread_lines n 3)))
