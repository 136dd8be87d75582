-- Runs of bits, and of the atoms that have them.
use Rattle.std.proofs.Common.{◌≡◌, ◌∙◌, refl, sym, ap, subst, ℕ, ◌+◌, ◌-◌, ◌/◌, ◌%◌, ◌<◌, ◌≤◌, Bool, true, false, ◌&&◌, nat_eq, nat_le, nat_lt, Option, Some, None, List, arith}
use Rattle.std.proofs.lemmas.Bool.Decides.{nat_tests}
use Rattle.std.proofs.lemmas.Bool.{and_parts}
use Rattle.lx_caps.specs.declared.Principal.{Principal}
use Rattle.lx_caps.specs.declared.Atom.{Atom}
use Rattle.lx_caps.specs.declared.Atom.TheVariants as atom
use Rattle.lx_caps.specs.declared.Cap.{Cap}
use Rattle.lx_caps.specs.declared.Cap.TheVariants as cap
use Rattle.lx_caps.specs.Loans.{none_end}
use Rattle.lx_caps.specs.History.{History, reaches}
use Rattle.lx_caps.specs.Order.{IsFirst}
use Rattle.lx_certificates.specs.declared.givers.Gifts.{Gifts}
use Rattle.lx_certificates.specs.Givers.{giver, count_of, nth_atom}
use Rattle.lx_cap_lists.specs.Atoms.{part_atom}
use Rattle.lx_cap_nodes.specs.Bits.{is_set}
use Rattle.lx_cap_lists.specs.Tables.{bit_of}
use Rattle.lx_cap_nodes.specs.Pieces.{part_list}
use Rattle.lx_act_index.specs.declared.table.Table.{Table}
use Rattle.lx_act_index.specs.declared.threads.Thread.{Thread}
use Rattle.lx_act_index.specs.Lines.{line_giver}
use Rattle.lx_act_index.specs.Threads.{is_open}
use Rattle.lx_act_index.specs.Table.{shown, line_of}
use Rattle.lx_act_index.specs.Index.{Shows}
use Rattle.lx_act_index.specs.Runs.{byte_or_end}
use Rattle.lx_act_index.specs.Standing.{IsFar, IsFrom}

-- bits before the first that is set
first_only : (a b : Bool) → b ≡ true → (a && b) ≡ false → a ≡ false
first_only a true is out = by a out
  where
    by : (a : Bool) → (a && true) ≡ false → a ≡ false
    by true out = out
    by false out = refl
first_only a false is out = absurd cc

unset : (bits mask from k : ℕ) → ((i : ℕ) → i < 64 → is_set bits i ≡ (is_set mask i && nat_le from i)) → k < 64 → from ≤ k → part_atom 0 bits (atom.Byte k) ≡ false → is_set mask k ≡ false
unset bits mask from k above lt le out =
    let part : nat_eq 0 (k / 64) ≡ true = grind (arith, nat_tests, lt) in
    let place : k % 64 ≡ k = omega (arith, lt) in
    let bit : is_set bits k ≡ false = sym (ap (is_set bits) place) ∙ (sym (ap (λ (t : Bool). t && is_set bits (k % 64)) part) ∙ out) in
    first_only (is_set mask k) (nat_le from k) (grind (arith, nat_tests, le)) (sym (above k lt) ∙ bit)

pub record IsNext (mask from next : ℕ) : Type 0 where
  pub low : from ≤ next
  pub bound : next ≤ 64
  pub none : (k : ℕ) → from ≤ k → k < next → is_set mask k ≡ false

pub next_from : (o : Option Atom) (bits mask from : ℕ) → IsFirst (part_atom 0 bits) o → ((i : ℕ) → i < 64 → is_set bits i ≡ (is_set mask i && nat_le from i)) → from ≤ 64 → IsNext mask from (byte_or_end o)
next_from None bits mask from first above within = record {
  low = within;
  bound = omega arith;
  none = λ k le lt. unset bits mask from k above lt le (first (atom.Byte k));
}
next_from (Some (atom.Byte b)) bits mask from first above within =
    let has = and_parts (nat_eq 0 (b / 64)) (is_set bits (b % 64)) first.0 in
    let small : b < 64 = grind (arith, nat_tests, has.0) in
    let place : b % 64 ≡ b = omega (arith, small) in
    let behind = and_parts (is_set mask b) (nat_le from b) (sym (above b small) ∙ (sym (ap (is_set bits) place) ∙ has.1)) in
    let low : from ≤ b = (let h = behind.1 in grind (arith, nat_tests, h)) in
    record {
      low = low;
      bound = omega (arith, small);
      none = λ k le lt. unset bits mask from k above (omega (arith, lt, small)) le (first.1 (atom.Byte k) (grind (arith, nat_tests, lt)));
    }
next_from (Some (atom.Call a)) bits mask from first above within = absurd (let no = first.0 in cc)
next_from (Some (atom.Ref t a)) bits mask from first above within = absurd (let no = first.0 in cc)

pub in_whole : (k : ℕ) → k < 64 → (nat_le 0 k && nat_lt k 64) ≡ true
in_whole k lt = grind (arith, nat_tests, lt)

-- the atoms of a run
pub run_given : (h : History) (t : Table) (threads : List Thread) (gifts : Gifts) (who : Principal) (first x : Atom) (k : ℕ) (act : Option ℕ) → Shows t threads h → IsFrom first k x
    → line_giver gifts (reaches who) (is_open none_end threads) (bit_of first + k) (line_of t first) ≡ act → giver gifts h who x ≡ act
run_given h t threads gifts who (atom.Byte b) x k act shows is run =
    let says : ℕ → Option ℕ → Option ℕ = λ bit place. line_giver gifts (reaches who) (is_open none_end threads) bit (shown t.lines.items place) in
    let near = is.1 in
    let part : (b + k) / 64 ≡ b / 64 = omega (arith, near) in
    let bit : (b + k) % 64 ≡ b % 64 + k = omega (arith, near) in
    ap (giver gifts h who) is.0
    ∙ (sym ((shows.lines (atom.Byte (b + k))).giver gifts (reaches who) none_end)
    ∙ (ap (λ i. says i (part_list ((b + k) / 64))) bit
    ∙ (ap (λ p. says (b % 64 + k) (part_list p)) part ∙ run)))
run_given h t threads gifts who (atom.Call a) x k act shows is run =
    let none : 0 ≡ 0 + k = (let z = is.1 in omega (arith, z)) in
    ap (giver gifts h who) is.0
    ∙ (sym ((shows.lines (atom.Call a)).giver gifts (reaches who) none_end)
    ∙ (ap (λ i. line_giver gifts (reaches who) (is_open none_end threads) i (line_of t (atom.Call a))) none ∙ run))
run_given h t threads gifts who (atom.Ref u a) x k act shows is run =
    let none : 0 ≡ 0 + k = (let z = is.1 in omega (arith, z)) in
    ap (giver gifts h who) is.0
    ∙ (sym ((shows.lines (atom.Ref u a)).giver gifts (reaches who) none_end)
    ∙ (ap (λ i. line_giver gifts (reaches who) (is_open none_end threads) i (line_of t (atom.Ref u a))) none ∙ run))

-- an atom lies at itself
pub from_itself : (x : Atom) → IsFrom x 0 x
from_itself (atom.Byte b) = (ap atom.Byte (omega arith), omega arith)
from_itself (atom.Call a) = (refl, refl)
from_itself (atom.Ref t a) = (refl, refl)

-- the atoms of a capability by their places
from_by : (c : Cap) (from k end : ℕ) → from ≤ k → k < count_of c → bit_of (nth_atom c from) + end ≤ 64 → k < from + end → IsFrom (nth_atom c from) (k - from) (nth_atom c k)
from_by (cap.Write at size) from k end le within near lt = (ap atom.Byte (omega (arith, le)), omega (arith, le, near, lt))
from_by (cap.Call a) from k end le within near lt = (refl, omega (arith, within))
from_by (cap.Ref t a) from k end le within near lt = (refl, omega (arith, within))

pub from_place : (c : Cap) (from k end : ℕ) (x : Atom) → x ≡ nth_atom c from → from ≤ k → k < count_of c → bit_of x + end ≤ 64 → k < from + end → IsFrom x (k - from) (nth_atom c k)
from_place c from k end x is le within near lt =
    subst (λ y. IsFrom y (k - from) (nth_atom c k)) (sym is) (from_by c from k end le within (subst (λ y. bit_of y + end ≤ 64) is near) lt)

pub far_behind : (c : Cap) (from k : ℕ) → from ≤ k → IsFar (nth_atom c from) → IsFar (nth_atom c k)
far_behind (cap.Write at size) from k le far = omega (arith, le, far)
far_behind (cap.Call a) from k le far = far
far_behind (cap.Ref t a) from k le far = far
