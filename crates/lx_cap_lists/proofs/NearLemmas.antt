-- The next byte that is owned, in the part of the last one or in the next part.
use Rattle.std.proofs.Common.{◌≡◌, ℕ, ◌+◌, ◌/◌, ◌%◌, ◌<◌, ◌≤◌, Bool, true, false, ◌&&◌, nat_eq, nat_lt, nat_le, List, Some, None, refl, sym, ap, ◌∙◌, arith, eqb-true}
use Rattle.std.proofs.lemmas.Bool.Decides.{nat_tests}
use Rattle.std.proofs.lemmas.Bool.{and_right, and_parts, and_from}
use Rattle.lx_words.proofs.Tests.{both_turned}
use Rattle.lx_caps.specs.declared.Principal.{Principal}
use Rattle.lx_caps.specs.declared.Atom.{Atom}
use Rattle.lx_caps.specs.declared.Atom.TheVariants as atom
use Rattle.lx_caps.specs.Order.{is_before, is_behind, IsFirst}
use Rattle.lx_cap_nodes.specs.Words.{nodes_at}
use Rattle.lx_cap_lists.specs.declared.entry.Entry.{Entry}
use Rattle.lx_cap_lists.specs.Atoms.{part_atom}
use Rattle.lx_cap_nodes.specs.Bits.{is_set}
use Rattle.lx_cap_lists.specs.Entries.{bit_among}
use Rattle.lx_cap_lists.specs.Holders.{held_by}
use Rattle.lx_cap_lists.specs.Owned.{owned_from}
use Rattle.lx_cap_lists.specs.Tables.{Key, place_of, bit_of, shown_at}
use Rattle.lx_cap_nodes.specs.Pieces.{part_list}

module _ (places : List (List (ℕ × Entry))) (who : Principal) (part from : ℕ) where
  -- the bits of a part from one on are what is owned there
  pub part_is : (place all bits : ℕ) → part_list part ≡ Some place → ((k : ℕ) → is_set all k ≡ bit_among (held_by who) (nodes_at places place) k) → ((k : ℕ) → k < 64 → is_set bits k ≡ (is_set all k && nat_le from k))
      → (x : Atom) → part_atom part bits x ≡ owned_from places who part from x
  part_is place all bits at has_all above (atom.Byte b) =
      (elim (nat_eq part (b / 64)) as (λ t. nat_eq part (b / 64) ≡ t → (t && is_set bits (b % 64)) ≡ (t && (nat_le from (b % 64) && shown_at places (part_list (b / 64)) (held_by who) (b % 64)))) [
        | true ↦ λ e.
            let list : part_list (b / 64) ≡ Some place = ap part_list (sym (eqb-true part (b / 64) e)) ∙ at in
            above (b % 64) (omega arith)
            ∙ (ap (λ t. t && nat_le from (b % 64)) (has_all (b % 64))
            ∙ (both_turned (bit_among (held_by who) (nodes_at places place) (b % 64)) (nat_le from (b % 64))
            ∙ ap (λ o. nat_le from (b % 64) && shown_at places o (held_by who) (b % 64)) (sym list)))
        | false ↦ λ e. refl
      ]) refl
  part_is place all bits at has_all above (atom.Call a) = refl
  part_is place all bits at has_all above (atom.Ref t a) = refl

  pub none_there : part_list part ≡ None → (x : Atom) → owned_from places who part from x ≡ false
  none_there none (atom.Byte b) =
      (elim (nat_eq part (b / 64)) as (λ t. nat_eq part (b / 64) ≡ t → (t && (nat_le from (b % 64) && shown_at places (part_list (b / 64)) (held_by who) (b % 64))) ≡ false) [
        | true ↦ λ e.
            let list : part_list (b / 64) ≡ None = ap part_list (sym (eqb-true part (b / 64) e)) ∙ none in
            and_right (nat_le from (b % 64)) (shown_at places (part_list (b / 64)) (held_by who) (b % 64)) (ap (λ o. shown_at places o (held_by who) (b % 64)) list)
        | false ↦ λ e. refl
      ]) refl
  none_there none (atom.Call a) = refl
  none_there none (atom.Ref t a) = refl

module _ (places : List (List (ℕ × Entry))) (who : Principal) (atoms : List Key) (last : ℕ) where
  abbrev owned : Atom → Bool
  owned x = shown_at places (place_of atoms x) (held_by who) (bit_of x)

  abbrev wanted : Atom → Bool
  wanted x = is_behind (Some (atom.Byte last)) x && owned x

  -- a byte that is not owned there is not owned
  not_owned : (part from c : ℕ) → owned_from places who part from (atom.Byte c) ≡ false → nat_eq part (c / 64) ≡ true → nat_le from (c % 64) ≡ true → owned (atom.Byte c) ≡ false
  not_owned part from c out here high =
      ap (λ t. t && owned (atom.Byte c)) (sym high) ∙ (ap (λ t. t && (nat_le from (c % 64) && owned (atom.Byte c))) (sym here) ∙ out)

  none_before : (a : ℕ) → ((c : ℕ) → c < a → last < c → owned (atom.Byte c) ≡ false) → (y : Atom) → is_before y (atom.Byte a) ≡ true → wanted y ≡ false
  none_before a out (atom.Byte c) is =
      (elim (nat_lt last c) as (λ t. nat_lt last c ≡ t → (t && owned (atom.Byte c)) ≡ false) [
        | true ↦ λ e. out c (grind (arith, nat_tests, is)) (grind (arith, nat_tests, e))
        | false ↦ λ e. refl
      ]) refl
  none_before a out (atom.Call b) is = absurd (cc)
  none_before a out (atom.Ref t b) is = absurd (cc)

  -- the next byte lies in the part of the last one
  pub found_here : (x : Atom) → IsFirst (owned_from places who (last / 64) (last % 64 + 1)) (Some x) → IsFirst wanted (Some x)
  found_here (atom.Byte a) first =
      let both = and_parts (nat_eq (last / 64) (a / 64)) (nat_le (last % 64 + 1) (a % 64) && owned (atom.Byte a)) first.0 in
      let more = and_parts (nat_le (last % 64 + 1) (a % 64)) (owned (atom.Byte a)) both.1 in
      let here : last / 64 ≡ a / 64 = eqb-true (last / 64) (a / 64) both.0 in
      let high : last % 64 + 1 ≤ a % 64 = grind (arith, nat_tests, more) in (
        and_from (nat_lt last a) (owned (atom.Byte a)) (grind (arith, nat_tests, here, high)) more.1,
        none_before a (λ c less behind.
            not_owned (last / 64) (last % 64 + 1) c (first.1 (atom.Byte c) (grind (arith, nat_tests, less))) (grind (arith, nat_tests, less, behind, here)) (grind (arith, nat_tests, less, behind, here))),
      )
  found_here (atom.Call a) first = absurd (let e = first.0 in cc)
  found_here (atom.Ref t a) first = absurd (let e = first.0 in cc)

  -- or in the next one
  pub found_next : (x : Atom) → IsFirst (owned_from places who (last / 64) (last % 64 + 1)) None → IsFirst (owned_from places who (last / 64 + 1) 0) (Some x) → IsFirst wanted (Some x)
  found_next (atom.Byte a) none first =
      let both = and_parts (nat_eq (last / 64 + 1) (a / 64)) (nat_le 0 (a % 64) && owned (atom.Byte a)) first.0 in
      let more = and_parts (nat_le 0 (a % 64)) (owned (atom.Byte a)) both.1 in
      let here : last / 64 + 1 ≡ a / 64 = eqb-true (last / 64 + 1) (a / 64) both.0 in (
        and_from (nat_lt last a) (owned (atom.Byte a)) (grind (arith, nat_tests, here)) more.1,
        none_before a (λ c less behind. by c less behind here (nat_eq (last / 64) (c / 64)) refl),
      )
    where
      by : (c : ℕ) → c < a → last < c → last / 64 + 1 ≡ a / 64 → (t : Bool) → nat_eq (last / 64) (c / 64) ≡ t → owned (atom.Byte c) ≡ false
      by c less behind here true e = not_owned (last / 64) (last % 64 + 1) c (none (atom.Byte c)) e (grind (arith, nat_tests, behind, e))
      by c less behind here false e = not_owned (last / 64 + 1) 0 c (first.1 (atom.Byte c) (grind (arith, nat_tests, less))) (grind (arith, nat_tests, less, behind, here, e)) (grind (arith, nat_tests))
  found_next (atom.Call a) none first = absurd (let e = first.0 in cc)
  found_next (atom.Ref t a) none first = absurd (let e = first.0 in cc)
