-- Words of which one is an option are no command.
use Rattle.std.proofs.Common.{◌≡◌, ◌∙◌, ℕ, nat_eq, nat_le, Bool, true, false, not, ◌&&◌, List, [], ◌∷◌, codes, Option, Some, None, option_map, if◌then◌else◌, refl, ap}
use Rattle.std.specs.List.{list_all}
use Rattle.std.specs.Str.{bytes_eq}
use Rattle.std.specs.Cmp.{unsigned_Decides}
use Rattle.std.proofs.lemmas.Slice.Eq.{bytes_eq-Decides}
use Rattle.lx_words.specs.Text.{decimal_value}
use Rattle.lx_words.proofs.Tests.{and_false, clash}
use Rattle.lx_cli.specs.Words.{Command, Run, Replay, Instrument, Check, Generate, Surface, Why, begins_well, is_name, is_number, if_words, count_of, command_of}

on : (b : Bool) → not (b && true) ≡ false → b ≡ true
on true dashed = refl
on false dashed = absurd (cc)

no_count : (b n : Bool) (k : ℕ) → b ≡ false → (if b && n then Some k else None) ≡ None
no_count b n k no_b = rw no_b refl

no_number : (word : List ℕ) → is_name word ≡ false → count_of word ≡ None
no_number [] dashed = absurd (cc)
no_number (x ∷ xs) dashed =
    let is : x ≡ 45 = (unsigned_Decides x 45).0 (on (nat_eq x 45) dashed) in
    ap (λ y. count_of (y ∷ xs)) is ∙ no_count (is_number (45 ∷ xs)) (nat_le (decimal_value (45 ∷ xs)) 4096) (decimal_value (45 ∷ xs)) (and_false (begins_well (45 ∷ xs)))

-- the name of a command is no option
named : (name word : List ℕ) → is_name name ≡ true → bytes_eq word name ≡ true → is_name word ≡ true
named name word plain is = ap is_name ((bytes_eq-Decides word name).0 is) ∙ plain

and_true : (a b : Bool) → a ≡ true → (a && b) ≡ b
and_true a b is = ap (λ x. x && b) is

one_off : (r g s w a : Bool) (x : Option ℕ) (c d : Command) → (r ≡ true → w ≡ true) → (g ≡ true → w ≡ true) → (s ≡ true → w ≡ true) → (a ≡ false → x ≡ None) → (w && (a && true)) ≡ false
    → (if r then if_words a c else (if g then option_map Generate x else (if s then if_words a d else None))) ≡ None
one_off true g s w true x c d run generate surface none off = absurd (clash (w && (true && true)) (and_true w (true && true) (run refl)) off)
one_off true g s w false x c d run generate surface none off = refl
one_off false true s w true x c d run generate surface none off = absurd (clash (w && (true && true)) (and_true w (true && true) (generate refl)) off)
one_off false true s w false x c d run generate surface none off = ap (option_map Generate) (none refl)
one_off false false true w true x c d run generate surface none off = absurd (clash (w && (true && true)) (and_true w (true && true) (surface refl)) off)
one_off false false true w false x c d run generate surface none off = refl
one_off false false false w a x c d run generate surface none off = refl

two_off : (p i y w a b : Bool) (c d e : Command) → (p ≡ true → w ≡ true) → (i ≡ true → w ≡ true) → (y ≡ true → w ≡ true) → (w && (a && (b && true))) ≡ false
    → (if a && b then (if p then Some c else (if i then Some d else if_words y e)) else None) ≡ None
two_off p i y w false b c d e replay instrument why off = refl
two_off p i y w true false c d e replay instrument why off = refl
two_off true i y w true true c d e replay instrument why off = absurd (clash (w && (true && (true && true))) (and_true w (true && (true && true)) (replay refl)) off)
two_off false true y w true true c d e replay instrument why off = absurd (clash (w && (true && (true && true))) (and_true w (true && (true && true)) (instrument refl)) off)
two_off false false true w true true c d e replay instrument why off = absurd (clash (w && (true && (true && true))) (and_true w (true && (true && true)) (why refl)) off)
two_off false false false w true true c d e replay instrument why off = refl

three_off : (k w a b d : Bool) (c : Command) → (k ≡ true → w ≡ true) → (w && (a && (b && (d && true)))) ≡ false → if_words (k && (a && (b && d))) c ≡ None
three_off false w a b d c check off = refl
three_off true w false b d c check off = refl
three_off true w true false d c check off = refl
three_off true w true true false c check off = refl
three_off true w true true true c check off = absurd (clash (w && (true && (true && (true && true)))) (and_true w (true && (true && (true && true))) (check refl)) off)

pub none_with_option : (words : List (List ℕ)) → list_all is_name words ≡ false → command_of words ≡ None
none_with_option [] off = refl
none_with_option (w ∷ []) off = refl
none_with_option (w ∷ a ∷ []) off =
    one_off (bytes_eq w (codes "run")) (bytes_eq w (codes "generate")) (bytes_eq w (codes "surface")) (is_name w) (is_name a) (count_of a) (Run a) (Surface a)
    (named (codes "run") w refl) (named (codes "generate") w refl) (named (codes "surface") w refl) (no_number a) off
none_with_option (w ∷ a ∷ b ∷ []) off =
    two_off (bytes_eq w (codes "replay")) (bytes_eq w (codes "instrument")) (bytes_eq w (codes "why")) (is_name w) (is_name a) (is_name b) (Replay a b) (Instrument a b) (Why a b)
    (named (codes "replay") w refl) (named (codes "instrument") w refl) (named (codes "why") w refl) off
none_with_option (w ∷ a ∷ b ∷ c ∷ []) off =
    three_off (bytes_eq w (codes "check")) (is_name w) (is_name a) (is_name b) (is_name c) (Check a b c) (named (codes "check") w refl) off
none_with_option (w ∷ a ∷ b ∷ c ∷ d ∷ rest) off = refl
