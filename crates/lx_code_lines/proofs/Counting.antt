-- How many instructions of a text are left from a place on.
use Rattle.std.proofs.Common.{◌≡◌, ◌∙◌, refl, sym, ap, ℕ, ◌+◌, ◌-◌, ◌≤◌, ◌<◌, Bool, true, false, not, ◌&&◌, cond, Option, Some, None, List, [], ◌∷◌, length, map, drop, get_or, arith}
use Rattle.std.specs.Prelude.{count_by, nat_le, slice_get, option_map, option_and_then}
use Rattle.std.proofs.Math.ListN.{drop_of_length-le}
use Rattle.std.proofs.lemmas.List.{drop-map}
use Rattle.std.proofs.lemmas.List.Recursion.{is_count_by}
use Rattle.std.proofs.lemmas.List.Sums.{sum_by-cons}
use Rattle.std.proofs.lemmas.Option.{slice_get_past}
use Rattle.lx_words.proofs.Tests.{one_first}
use Rattle.lx_words.proofs.Lists.{rest_at, none_past}
use Rattle.lx_ir.specs.declared.instr.Instr.{Instr}
use Rattle.lx_ir.specs.declared.instr.Op.{Op}
use Rattle.lx_image_texts.specs.Marks.{is_mark, without_marks}
use Rattle.lx_model.specs.Effect.{is_phi, without_phis}
use Rattle.lx_image_code.proofs.Filled.{Each}
use Rattle.lx_image_steps.specs.Standing.{rest_from}
use Rattle.lx_code_lines.specs.Lines.{is_counted, left_from, line_left, HasPlaceLines}

-- an instruction of a block that is counted
abbrev pub counted : Bool → Instr → Bool
counted arrived i = is_counted arrived i.op

-- what is left of a list without its phis, where a jump led to it
abbrev rest_of : Bool → List Op → List Op
rest_of true os = without_phis os
rest_of false os = os

rest_from_is : (arrived : Bool) (place : ℕ) (os : List Op) → rest_from arrived place os ≡ rest_of arrived (drop place os)
rest_from_is true place os = refl
rest_from_is false place os = refl

marks_step : (m : Bool) (o : Op) (os : List Op) → length (cond (not m) (o ∷ os) os) ≡ cond (not m && true) (1 + length os) (length os)
marks_step true o os = refl
marks_step false o os = one_first (length os)

no_more : (b : Bool) (x y : ℕ) → y ≡ cond (b && false) x y
no_more true x y = refl
no_more false x y = refl

phis_step : (phi : Bool) (o : Op) (os : List Op) →
    length (without_marks (cond (not phi) (o ∷ os) os)) ≡ cond (not (is_mark o) && not phi) (1 + length (without_marks os)) (length (without_marks os))
phis_step true o os = no_more (not (is_mark o)) (1 + length (without_marks os)) (length (without_marks os))
phis_step false o os = marks_step (is_mark o) o (without_marks os)

abbrev left_of : Bool → List Instr → ℕ
left_of arrived is = length (without_marks (rest_of arrived (map (λ i. i.op) is)))

none_left : (arrived : Bool) → left_of arrived [] ≡ 0
none_left true = refl
none_left false = refl

counted_step : (arrived : Bool) (i : Instr) (is : List Instr) → left_of arrived (i ∷ is) ≡ cond (counted arrived i) (1 + left_of arrived is) (left_of arrived is)
counted_step true i is = phis_step (is_phi i.op) i.op (without_phis (map (λ i. i.op) is))
counted_step false i is = marks_step (is_mark i.op) i.op (without_marks (map (λ i. i.op) is))

pub left_is : (arrived : Bool) (is : List Instr) (place : ℕ) → left_from arrived is place ≡ count_by (counted arrived) (drop place is)
left_is arrived is place =
    ap (λ os. length (without_marks os)) (rest_from_is arrived place (map (λ i. i.op) is))
    ∙ ap (λ os. length (without_marks (rest_of arrived os))) (drop-map (λ (i : Instr). i.op) place is)
    ∙ is_count_by (left_of arrived) (counted arrived) (none_left arrived) (counted_step arrived) (drop place is)

-- with the next instruction
pub left_with : (arrived : Bool) (is : List Instr) (k : ℕ) (i : Instr) → k < length is → i ≡ get_or is k i →
    count_by (counted arrived) (drop k is) ≡ cond (counted arrived i) 1 0 + count_by (counted arrived) (drop (k + 1) is)
left_with arrived is k i below at =
    ap (count_by (counted arrived)) (rest_at is k i below at) ∙ sum_by-cons (λ i. cond (counted arrived i) 1 0) i (drop (k + 1) is)

behind_by : (b : Bool) (n left : ℕ) → left ≡ cond b 1 0 + n → left - cond b 1 0 ≡ n
behind_by true n left e = omega (arith, e)
behind_by false n left e = omega (arith, e)

-- behind a counted instruction one less is left
pub behind : (arrived : Bool) (is : List Instr) (k : ℕ) (i : Instr) (left : ℕ) → k < length is → i ≡ get_or is k i → left ≡ count_by (counted arrived) (drop k is) →
    left - cond (counted arrived i) 1 0 ≡ count_by (counted arrived) (drop (k + 1) is)
behind arrived is k i left below at e = behind_by (counted arrived i) (count_by (counted arrived) (drop (k + 1) is)) left (e ∙ left_with arrived is k i below at)

-- where none is left there is no line

pub none_if : (b : Bool) (o : Option Instr) → o ≡ None → cond b o None ≡ None
none_if true o e = e
none_if false o e = refl

pub no_line : (text : List Instr) → line_left text 0 ≡ None
no_line text = ap (λ (o : Option Instr). option_map (λ i. i.line) o) (none_if (nat_le 0 (length text)) (slice_get text (length text - 0)) (slice_get_past text (length text - 0) (omega arith)))

-- the list that a loop has filled

abbrev pub IsLineOf : Bool → List Instr → List Instr → ℕ → Option ℕ → Type 0
IsLineOf arrived is text k line = line ≡ line_left text (count_by (counted arrived) (drop k is))

filled_by : (arrived : Bool) (is text : List Instr) (lines : List (Option ℕ)) → length lines ≡ length is → Each (IsLineOf arrived is text) lines → (k : ℕ) (found : Option (Option ℕ)) → slice_get lines k ≡ found →
    option_and_then (λ line. line) found ≡ line_left text (count_by (counted arrived) (drop k is))
filled_by arrived is text lines count each k (Some line) e = each k line e
filled_by arrived is text lines count each k None e =
    let past : length lines ≤ k = none_past lines k e in
    sym (ap (λ (js : List Instr). line_left text (count_by (counted arrived) js)) (drop_of_length-le is (omega (arith, past, count))) ∙ no_line text)

pub filled : (arrived : Bool) (is text : List Instr) (lines : List (Option ℕ)) → length lines ≡ length is → Each (IsLineOf arrived is text) lines → HasPlaceLines arrived is text lines
filled arrived is text lines count each place =
    filled_by arrived is text lines count each place (slice_get lines place) refl ∙ ap (line_left text) (sym (left_is arrived is place))
