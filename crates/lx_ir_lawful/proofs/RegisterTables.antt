-- What the names of registers stand for in tables.
use Rattle.std.proofs.Common.{◌≡◌, ℕ, zero, suc, ◌+◌, ◌<◌, ◌≤◌, Bool, true, false, Option, Some, List, length, slice_get, nat_lt, refl, sym, ap, ◌∙◌, subst, arith}
use Rattle.std.specs.Option.{option_flatten}
use Rattle.std.proofs.lemmas.Bool.{ltb-true}
use Rattle.std.proofs.lemmas.Option.{slice_get_past}
use Rattle.lx_words.proofs.Tests.{not_less}
use Rattle.lx_ir_terms.specs.Context.{Context, entry, nothing, register_or, register_number}
use Rattle.lx_ir_tables.specs.Numbering.{numbering, number_named, numbers_from, table_of, own_numbers}
use Rattle.lx_ir_lawful.specs.Alike.{knowing_registers, AlikeRegisters}

-- a context that knows no names but those of registers, each of which stands for the number of its name
abbrev pub unknown : List (List ℕ) → Context
unknown names = knowing_registers names (own_numbers 0 (length names))

pub own_at : (s c i : ℕ) → i < c → slice_get (own_numbers s c) i ≡ Some (Some (s + i))
own_at s zero i lt = absurd (omega arith)
own_at s (suc c) zero lt = let e : s ≡ s + 0 = omega arith in ap (λ n. Some (Some n)) e
own_at s (suc c) (suc i) lt =
    let e : suc s + i ≡ s + suc i = omega arith in
    own_at (suc s) c i (omega arith) ∙ ap (λ n. Some (Some n)) e

length_own : (s c : ℕ) → length (own_numbers s c) ≡ c
length_own s zero = refl
length_own s (suc c) = ap suc (length_own (suc s) c)

pub entry_from : (s c i : ℕ) (things : List (Option ℕ)) → i < c → slice_get (numbers_from s c things) i ≡ Some (number_named things (s + i))
entry_from s zero i things lt = absurd (omega arith)
entry_from s (suc c) zero things lt = let here : s ≡ s + 0 = omega arith in ap (λ n. Some (number_named things n)) here
entry_from s (suc c) (suc i) things lt =
    let here : suc s + i ≡ s + suc i = omega arith in
    entry_from (suc s) c i things (omega arith) ∙ ap (λ n. Some (number_named things n)) here

-- the register of a name is its number among the things of the table
pub register_is : (c : Context) (count n : ℕ) (things : List (Option ℕ)) → c.registers ≡ table_of (numbering count things) → n < count → register_number c n ≡ register_or (number_named things n)
register_is c count n things e lt =
    let here : 0 + n ≡ n = omega arith in
    ap (λ t. register_or (entry t n)) e ∙ ap (λ o. register_or (option_flatten o)) (entry_from 0 count n things lt) ∙ ap (λ k. register_or (number_named things k)) here

pub own_is : (names : List (List ℕ)) (n : ℕ) → n < length names → register_number (unknown names) n ≡ n
own_is names n lt =
    let here : 0 + n ≡ n = omega arith in
    ap (λ o. register_or (option_flatten o)) (own_at 0 (length names) n lt) ∙ here

own_name_by : (names : List (List ℕ)) (b : Bool) (n s : ℕ) → nat_lt n (length names) ≡ b → length names ≤ nothing → register_number (unknown names) n ≡ s → s < length names → n ≡ s
own_name_by names true n s e few g lt = sym (own_is names n (ltb-true n (length names) e)) ∙ g
own_name_by names false n s e few g lt =
    let past : length (own_numbers 0 (length names)) ≤ n = subst (λ l. l ≤ n) (sym (length_own 0 (length names))) (not_less n (length names) e) in
    let none : register_number (unknown names) n ≡ nothing = ap (λ o. register_or (option_flatten o)) (slice_get_past (own_numbers 0 (length names)) n past) in
    let it : nothing ≡ s = sym none ∙ g in
    absurd (omega (arith, it, few, lt))

-- a register of a name of the table is that name's, by both contexts
pub alike_register : (names : List (List ℕ)) (c : Context) (r s : ℕ) → length names ≤ nothing → AlikeRegisters c (unknown names) r s → s < length names → register_number c s ≡ r
alike_register names c r s few (n, e, g) lt =
    let same : n ≡ s = own_name_by names (nat_lt n (length names)) n s refl few g lt in
    ap (register_number c) (sym same) ∙ e
