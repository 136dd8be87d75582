-- One act more, and one piece more.
use Rattle.std.proofs.Common.{◌≡◌, ◌∙◌, refl, sym, ap, ℕ, zero, suc, ◌+◌, ◌-◌, ◌<◌, ◌≤◌, Bool, true, false, List, [], ◌∷◌, length, drop, reverse, take, get_or, arith}
use Rattle.std.proofs.lemmas.List.{drop_more, length-reverse, length-take-le}
use Rattle.lx_caps.specs.declared.Act.{Act}
use Rattle.lx_caps.specs.declared.Act.TheVariants.{Grant, Strip, Zero, Loan, Lend, Shut, ShutAll}
use Rattle.lx_caps.specs.History.{each_byte, reaches}
use Rattle.lx_caps.specs.Owners.{endings}
use Rattle.lx_certificates.specs.declared.givers.Sought.{Sought}
use Rattle.lx_certificates.specs.Givers.{touches, said, ends_with, found, giver_among, nth_atom, given_by_first}
use Rattle.lx_caps.proofs.Items.{reverse_take_more}
use Rattle.lx_caps.proofs.Tests.{chosen}

ends_one : (act : Act) (acts : List Act) → endings (act ∷ acts) ≡ ends_with act (endings acts)
ends_one (Grant q c) acts = refl
ends_one (Strip c) acts = refl
ends_one (Zero at size) acts = refl
ends_one (Loan t) acts = refl
ends_one (Lend t q c) acts = refl
ends_one (Shut t n) acts = refl
ends_one (ShutAll t) acts = refl

ends_more : (acts : List Act) (i : ℕ) (d : Act) → i < length acts → ends_with (get_or acts i d) (endings (drop (i + 1) acts)) ≡ endings (drop i acts)
ends_more acts i d below = sym (ap endings (drop_more acts i d below) ∙ ends_one (get_or acts i d) (drop (i + 1) acts))

length-reverse-take : {A : Type 0} (xs : List A) (i : ℕ) → i ≤ length xs → length (reverse (take i xs)) ≡ i
length-reverse-take xs i le = length-reverse (take i xs) ∙ length-take-le i xs le

-- what one act more says
pub one_act : (acts : List Act) (s : Sought) (i : ℕ) (d : Act) (k : ℕ) (touched : Bool) → i < length acts → touches (reaches s.who) (get_or acts i d) (nth_atom s.cap k) ≡ touched →
    given_by_first acts s k (i + 1) ≡ found (said s.gifts (get_or acts i d) touched (endings (drop (i + 1) acts)) (reverse (take i acts))) i (given_by_first acts s k i)
one_act acts s i d k touched below is =
    ap (λ h. giver_among s.gifts (reaches s.who) (endings (drop (i + 1) acts)) h (nth_atom s.cap k)) (reverse_take_more acts i d below)
    ∙ ap (λ b. found (said s.gifts (get_or acts i d) b (endings (drop (i + 1) acts)) (reverse (take i acts))) (length (reverse (take i acts)))
    (giver_among s.gifts (reaches s.who) (ends_with (get_or acts i d) (endings (drop (i + 1) acts))) (reverse (take i acts)) (nth_atom s.cap k))) is
    ∙ ap (λ n. found (said s.gifts (get_or acts i d) touched (endings (drop (i + 1) acts)) (reverse (take i acts))) n
    (giver_among s.gifts (reaches s.who) (ends_with (get_or acts i d) (endings (drop (i + 1) acts))) (reverse (take i acts)) (nth_atom s.cap k))) (length-reverse-take acts i (omega (arith, below)))
    ∙ ap (λ ends. found (said s.gifts (get_or acts i d) touched (endings (drop (i + 1) acts)) (reverse (take i acts))) i
    (giver_among s.gifts (reaches s.who) ends (reverse (take i acts)) (nth_atom s.cap k))) (ends_more acts i d below)

failing : (b rest : Bool) → b ≡ false → elim b [ false ↦ false | true ↦ rest ] ≡ false
failing true rest is = cc
failing false rest is = refl

-- where the first ones pass, the others are left
pub passes_by : (p : ℕ → Bool) (m at total next n : ℕ) → total ≡ m + n → next ≡ at + m → ((k : ℕ) → at ≤ k → k < next → p k ≡ true) → each_byte p at total ≡ each_byte p next n
passes_by p zero at total next n all to each = (let e : total ≡ n = omega (arith, all) in let f : at ≡ next = omega (arith, to) in ap (λ t. each_byte p at t) e ∙ ap (λ a. each_byte p a n) f)
passes_by p (suc m) at total next n all to each =
    let e : total ≡ suc (m + n) = omega (arith, all) in
    ap (λ t. each_byte p at t) e ∙ chosen (p at) (each_byte p (suc at) (m + n)) (each at (omega arith) (omega (arith, to)))
    ∙ passes_by p m (suc at) (m + n) next n refl (omega (arith, to)) (λ k low high. each k (omega (arith, low)) high)

-- a piece that passes leaves the rest
pub piece_passes : (p : ℕ → Bool) (at next end : ℕ) → at < next → next ≤ end → ((k : ℕ) → at ≤ k → k < next → p k ≡ true) → each_byte p at (end - at) ≡ each_byte p next (end - next)
piece_passes p at next end more bound each = passes_by p (next - at) at (end - at) next (end - next) (omega (arith, more, bound)) (omega (arith, more)) each

-- one that does not ends it
pub piece_fails : (p : ℕ → Bool) (at n : ℕ) → 0 < n → p at ≡ false → each_byte p at n ≡ false
piece_fails p at zero some is = absurd (omega (arith, some))
piece_fails p at (suc n) some is = failing (p at) (each_byte p (suc at) n) is
