use Rattle.std.proofs.Common.{◌≤◌, ◌+◌, length, drop, arith, length-drop}
use Rattle.std.proofs.lemmas.List.{get_or-drop}
use Rattle.lx_memory.proofs.NumberLemmas.{number_bound}
use Rattle.lx_memory.proofs.numbers.number.Goals as goal

pub overflow_mul-number : goal.overflow_mul-number
overflow_mul-number c =
    let rest = drop c.loop-left.left c.args.bytes.now in
    let short : length rest ≤ 7 = omega (arith, length-drop c.loop-left.left c.args.bytes.now) in
    let below = number_bound rest 7 (λ i. let fits = c.type_inv.bytes (c.loop-left.left + i) in rw (get_or-drop c.loop-left.left c.args.bytes.now i 0) (omega arith)) short in
    omega arith

pub overflow_add-number : goal.overflow_add-number
overflow_add-number c =
    let rest = drop c.loop-left.left c.args.bytes.now in
    let short : length rest ≤ 7 = omega (arith, length-drop c.loop-left.left c.args.bytes.now) in
    let below = number_bound rest 7 (λ i. let fits = c.type_inv.bytes (c.loop-left.left + i) in rw (get_or-drop c.loop-left.left c.args.bytes.now i 0) (omega arith)) short in
    omega arith
