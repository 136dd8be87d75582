-- Lists beside each other, and a wrapper's lines beside those that are wanted.
use Rattle.std.proofs.Common.{◌≡◌, ◌≢◌, ◌∙◌, ℕ, zero, suc, ◌+◌, ◌-◌, ◌<◌, ◌≤◌, Bool, true, false, ◌&&◌, Option, Some, None, List, [], ◌∷◌, ◌++◌, length, get_or, map, drop, nat_eq, cond, refl, sym, ap, arith}
use Rattle.std.specs.Prelude.{bytes_eq, flat_map, option_map, slice_get}
use Rattle.std.specs.Option.{option_or}
use Rattle.std.proofs.lemmas.List.{drop_all, length-append}
use Rattle.std.proofs.lemmas.Bool.Decides.{nat_tests}
use Rattle.lx_words.proofs.Tests.{and_false, one_first, more_onto, zero_more}
use Rattle.lx_words.proofs.Options.{option_or_assoc}
use Rattle.lx_words.proofs.Lists.{rest_at}
use Rattle.lx_ir.specs.Lawful.{same_scalar}
use Rattle.lx_ir.specs.declared.module.Block.{Block}
use Rattle.lx_ir.specs.declared.module.Parameter.{Parameter}
use Rattle.lx_ir.specs.declared.instr.Argument.{Argument}
use Rattle.lx_ir.specs.declared.instr.Instr.{Instr}
use Rattle.lx_image_texts.specs.ImageFaults.{different_from, same_argument, same_arguments, same_line, same_names, same_params, wrapper_fault}
use Rattle.lx_image_check.specs.Compared.{line_fault, lines_fault}

-- arguments

pub arguments_step : (xs ys : List Argument) (i : ℕ) (x y : Argument) → i < length xs → i < length ys → x ≡ get_or xs i x → y ≡ get_or ys i y → same_arguments (drop i xs) (drop i ys) ≡ (same_argument x y && same_arguments (drop (i + 1) xs) (drop (i + 1) ys))
arguments_step xs ys i x y h g d e =
    let a = rest_at xs i x h d in
    let b = rest_at ys i y g e in
    λ k. same_arguments (a k) (b k)

pub arguments_end : (xs ys : List Argument) (i : ℕ) → length xs ≤ i → length ys ≤ i → same_arguments (drop i xs) (drop i ys) ≡ true
arguments_end xs ys i h g =
    let a = drop_all i xs h in
    let b = drop_all i ys g in
    λ k. same_arguments (a k) (b k)

pub arguments_length : (xs ys : List Argument) → length xs ≢ length ys → same_arguments xs ys ≡ false
arguments_length [] [] h = absurd (h refl)
arguments_length [] (y ∷ ys) h = refl
arguments_length (x ∷ xs) [] h = refl
arguments_length (x ∷ xs) (y ∷ ys) h = ap (λ b. same_argument x y && b) (arguments_length xs ys (λ e. h (ap suc e))) ∙ and_false (same_argument x y)

-- parameters

pub params_step : (xs ys : List Parameter) (i : ℕ) (x y : Parameter) → i < length xs → i < length ys → x ≡ get_or xs i x → y ≡ get_or ys i y → same_params (drop i xs) (drop i ys) ≡ (bytes_eq x.name y.name && same_scalar x.ty y.ty && same_params (drop (i + 1) xs) (drop (i + 1) ys))
params_step xs ys i x y h g d e =
    let a = rest_at xs i x h d in
    let b = rest_at ys i y g e in
    λ k. same_params (a k) (b k)

pub params_end : (xs ys : List Parameter) (i : ℕ) → length xs ≤ i → length ys ≤ i → same_params (drop i xs) (drop i ys) ≡ true
params_end xs ys i h g =
    let a = drop_all i xs h in
    let b = drop_all i ys g in
    λ k. same_params (a k) (b k)

pub params_length : (xs ys : List Parameter) → length xs ≢ length ys → same_params xs ys ≡ false
params_length [] [] h = absurd (h refl)
params_length [] (y ∷ ys) h = refl
params_length (x ∷ xs) [] h = refl
params_length (x ∷ xs) (y ∷ ys) h =
    ap (λ b. bytes_eq x.name y.name && same_scalar x.ty y.ty && b) (params_length xs ys (λ e. h (ap suc e))) ∙ and_false (bytes_eq x.name y.name && same_scalar x.ty y.ty)

-- names

pub names_step : (xs ys : List (List ℕ)) (i : ℕ) (x y : List ℕ) → i < length xs → i < length ys → x ≡ get_or xs i x → y ≡ get_or ys i y → same_names (drop i xs) (drop i ys) ≡ (bytes_eq x y && same_names (drop (i + 1) xs) (drop (i + 1) ys))
names_step xs ys i x y h g d e =
    let a = rest_at xs i x h d in
    let b = rest_at ys i y g e in
    λ k. same_names (a k) (b k)

pub names_end : (xs ys : List (List ℕ)) (i : ℕ) → length xs ≤ i → length ys ≤ i → same_names (drop i xs) (drop i ys) ≡ true
names_end xs ys i h g =
    let a = drop_all i xs h in
    let b = drop_all i ys g in
    λ k. same_names (a k) (b k)

pub names_length : (xs ys : List (List ℕ)) → length xs ≢ length ys → same_names xs ys ≡ false
names_length [] [] h = absurd (h refl)
names_length [] (y ∷ ys) h = refl
names_length (x ∷ xs) [] h = refl
names_length (x ∷ xs) (y ∷ ys) h = ap (λ b. bytes_eq x y && b) (names_length xs ys (λ e. h (ap suc e))) ∙ and_false (bytes_eq x y)

-- blocks by their names

pub labels_step : (xs ys : List Block) (i : ℕ) (x y : Block) → i < length xs → i < length ys → x ≡ get_or xs i x → y ≡ get_or ys i y
    → same_names (map (λ b. b.name) (drop i xs)) (map (λ b. b.name) (drop i ys)) ≡ (bytes_eq x.name y.name && same_names (map (λ b. b.name) (drop (i + 1) xs)) (map (λ b. b.name) (drop (i + 1) ys)))
labels_step xs ys i x y h g d e =
    let a = rest_at xs i x h d in
    let b = rest_at ys i y g e in
    λ k. same_names (map (λ (b : Block). b.name) (a k)) (map (λ (b : Block). b.name) (b k))

pub labels_end : (xs ys : List Block) (i : ℕ) → length xs ≤ i → length ys ≤ i → same_names (map (λ b. b.name) (drop i xs)) (map (λ b. b.name) (drop i ys)) ≡ true
labels_end xs ys i h g =
    let a = drop_all i xs h in
    let b = drop_all i ys g in
    λ k. same_names (map (λ (b : Block). b.name) (a k)) (map (λ (b : Block). b.name) (b k))

pub labels_length : (xs ys : List Block) → length xs ≢ length ys → same_names (map (λ b. b.name) xs) (map (λ b. b.name) ys) ≡ false
labels_length [] [] h = absurd (h refl)
labels_length [] (y ∷ ys) h = refl
labels_length (x ∷ xs) [] h = refl
labels_length (x ∷ xs) (y ∷ ys) h = ap (λ b. bytes_eq x.name y.name && b) (labels_length xs ys (λ e. h (ap suc e))) ∙ and_false (bytes_eq x.name y.name)

-- so many instructions in blocks

taken_off : (left n rest : ℕ) → n ≤ left → nat_eq left (n + rest) ≡ nat_eq (left - n) rest
taken_off left n rest g = grind (arith, nat_tests, g)

too_many : (left n rest : ℕ) → left < n → nat_eq left (n + rest) ≡ false
too_many left n rest g = grind (arith, nat_tests, g)

counted : (left : ℕ) (bs : List Block) (k : ℕ) (b : Block) → k < length bs → b ≡ get_or bs k b
    → nat_eq left (length (flat_map (λ c. c.instrs) (drop k bs))) ≡ nat_eq left (length b.instrs + length (flat_map (λ c. c.instrs) (drop (k + 1) bs)))
counted left bs k b h e =
    ap (λ (ys : List Block). nat_eq left (length (flat_map (λ (c : Block). c.instrs) ys))) (rest_at bs k b h e)
    ∙ ap (nat_eq left) (length-append b.instrs (flat_map (λ (c : Block). c.instrs) (drop (k + 1) bs)))

pub count_step : (left : ℕ) (bs : List Block) (k : ℕ) (b : Block) → k < length bs → b ≡ get_or bs k b → length b.instrs ≤ left
    → nat_eq left (length (flat_map (λ c. c.instrs) (drop k bs))) ≡ nat_eq (left - length b.instrs) (length (flat_map (λ c. c.instrs) (drop (k + 1) bs)))
count_step left bs k b h e g =
    counted left bs k b h e ∙ taken_off left (length b.instrs) (length (flat_map (λ (c : Block). c.instrs) (drop (k + 1) bs))) g

pub count_past : (left : ℕ) (bs : List Block) (k : ℕ) (b : Block) → k < length bs → b ≡ get_or bs k b → left < length b.instrs → nat_eq left (length (flat_map (λ c. c.instrs) (drop k bs))) ≡ false
count_past left bs k b h e g = counted left bs k b h e ∙ too_many left (length b.instrs) (length (flat_map (λ (c : Block). c.instrs) (drop (k + 1) bs))) g

pub count_end : (left : ℕ) (bs : List Block) (k : ℕ) → length bs ≤ k → nat_eq left (length (flat_map (λ c. c.instrs) (drop k bs))) ≡ nat_eq left 0
count_end left bs k h = ap (λ (ys : List Block). nat_eq left (length (flat_map (λ (c : Block). c.instrs) ys))) (drop_all k bs h)

-- lines

step_if : (b : Bool) (name : List ℕ) (place : ℕ) (w i : Instr) (ws is : List Instr) → same_line w.op i.op ≡ b
    → lines_fault name place (w ∷ ws) (i ∷ is) ≡ option_or (line_fault name place (Some w) i) (lines_fault name (suc place) ws is)
step_if true name place w i ws is e =
    ap (λ (c : Bool). option_map (λ (d : ℕ × ℕ). wrapper_fault d.1 name d.0) (cond c (different_from (suc place) ws is) (Some (place, i.line)))) e
    ∙ sym (ap (λ (c : Bool). option_or (cond c None (Some (wrapper_fault i.line name place))) (lines_fault name (suc place) ws is)) e)
step_if false name place w i ws is e =
    ap (λ (c : Bool). option_map (λ (d : ℕ × ℕ). wrapper_fault d.1 name d.0) (cond c (different_from (suc place) ws is) (Some (place, i.line)))) e
    ∙ sym (ap (λ (c : Bool). option_or (cond c None (Some (wrapper_fault i.line name place))) (lines_fault name (suc place) ws is)) e)

at_place : (name : List ℕ) (place p : ℕ) (ws : List Instr) (i : Instr) (is : List Instr)
    → lines_fault name place (drop p ws) (i ∷ is) ≡ option_or (line_fault name place (slice_get ws p) i) (lines_fault name (suc place) (drop (suc p) ws) is)
at_place name place zero [] i is = refl
at_place name place (suc p) [] i is = refl
at_place name place zero (w ∷ ws) i is = step_if (same_line w.op i.op) name place w i ws is refl
at_place name place (suc p) (w ∷ ws) i is = at_place name place p ws i is

pub lines_step : (name : List ℕ) (place : ℕ) (ws is : List Instr) (k : ℕ) (i : Instr) → k < length is → i ≡ get_or is k i
    → lines_fault name place (drop place ws) (drop k is) ≡ option_or (line_fault name place (slice_get ws place) i) (lines_fault name (1 + place) (drop (1 + place) ws) (drop (k + 1) is))
lines_step name place ws is k i h e =
    ap (lines_fault name place (drop place ws)) (rest_at is k i h e)
    ∙ at_place name place place ws i (drop (k + 1) is)
    ∙ ap (λ (n : ℕ). option_or (line_fault name place (slice_get ws place) i) (lines_fault name n (drop n ws) (drop (k + 1) is))) (one_first place)

pub lines_end : (name : List ℕ) (place : ℕ) (ws is : List Instr) (k : ℕ) → length is ≤ k → lines_fault name place ws (drop k is) ≡ None
lines_end name place ws is k h = ap (lines_fault name place ws) (drop_all k is h)

joined : (name : List ℕ) (place : ℕ) (ws is rest : List Instr)
    → lines_fault name place (drop place ws) (is ++ rest) ≡ option_or (lines_fault name place (drop place ws) is) (lines_fault name (length is + place) (drop (length is + place) ws) rest)
joined name place ws [] rest = ap (λ (n : ℕ). lines_fault name n (drop n ws) rest) (zero_more place)
joined name place ws (i ∷ is) rest =
    let first = line_fault name place (slice_get ws place) i in
    at_place name place place ws i (is ++ rest)
    ∙ ap (option_or first) (joined name (suc place) ws is rest)
    ∙ ap (λ (n : ℕ). option_or first (option_or (lines_fault name (suc place) (drop (suc place) ws) is) (lines_fault name n (drop n ws) rest))) (more_onto (length is) place)
    ∙ option_or_assoc first (lines_fault name (suc place) (drop (suc place) ws) is) (lines_fault name (suc (length is) + place) (drop (suc (length is) + place) ws) rest)
    ∙ ap (λ x. option_or x (lines_fault name (suc (length is) + place) (drop (suc (length is) + place) ws) rest)) (sym (at_place name place place ws i is))

pub blocks_step : (name : List ℕ) (place : ℕ) (ws : List Instr) (bs : List Block) (k : ℕ) (b : Block) → k < length bs → b ≡ get_or bs k b
    → lines_fault name place (drop place ws) (flat_map (λ c. c.instrs) (drop k bs)) ≡ option_or (lines_fault name place (drop place ws) b.instrs) (lines_fault name (length b.instrs + place) (drop (length b.instrs + place) ws) (flat_map (λ c. c.instrs) (drop (k + 1) bs)))
blocks_step name place ws bs k b h e =
    ap (λ (ys : List Block). lines_fault name place (drop place ws) (flat_map (λ (c : Block). c.instrs) ys)) (rest_at bs k b h e)
    ∙ joined name place ws b.instrs (flat_map (λ (c : Block). c.instrs) (drop (k + 1) bs))

pub blocks_end : (name : List ℕ) (place : ℕ) (ws : List Instr) (bs : List Block) (k : ℕ) → length bs ≤ k → lines_fault name place ws (flat_map (λ c. c.instrs) (drop k bs)) ≡ None
blocks_end name place ws bs k h = ap (λ (ys : List Block). lines_fault name place ws (flat_map (λ (c : Block). c.instrs) ys)) (drop_all k bs h)

-- a pass that goes on has the faults of the rest
pub passed : {B : Type 0} (x rest y : Option B) → y ≡ option_or x rest → x ≡ None → y ≡ rest
passed x rest y e h = e ∙ ap (λ z. option_or z rest) h
