use Rattle.std.proofs.Common.{◌≡◌, ◌<◌, ◌+◌, ◌*◌, ◌/◌, ◌%◌, nat_eq, true, false, Bool, ℕ, Some, sym, ap, ◌∙◌, arith, eqb-true}
use Rattle.std.proofs.lemmas.Bool.{and_parts, and_from}
use Rattle.lx_words.proofs.Tests.{eq_self}
use Rattle.lx_cap_lists.specs.Holders.{counts}
use Rattle.lx_caps.specs.Regions.{covers}
use Rattle.lx_cap_nodes.specs.Bits.{is_set}
use Rattle.lx_cap_nodes.specs.Words.{nodes_at}
use Rattle.lx_cap_lists.specs.Entries.{HasBits, bit_among}
use Rattle.lx_cap_lists.specs.Tables.{shown_at, HoldsPart}
use Rattle.lx_cap_nodes.specs.Pieces.{part_list}
use Rattle.lx_cap_nodes.proofs.PartLists.{piece_bit}
use Rattle.lx_cap_lists.proofs.HeldLemmas.{some_byte}
use Rattle.lx_cap_tables.proofs.held.holds_part.Goals as goal
use Rattle.lx_caps.proofs.Tests.{byte_of}

pub returns-in-Some : goal.returns-in-Some
returns-in-Some c =
    let at = c.args.at in
    let size = c.args.size in
    let part = c.args.part in
    let places = c.args.pool.now.places in
    let p : ℕ → Bool = λ b. shown_at places (part_list (b / 64)) (counts c.args.in_reach) (b % 64) in
    let here : part_list part ≡ Some c.in-Some.place = sym c.list_of_part.ensures ∙ c.in-Some.is in
    let bits = c.piece_bits.result in
    (elim c.has_bits.result as (λ t. HasBits (counts c.args.in_reach) (nodes_at places c.in-Some.place) bits t → HoldsPart p at size part t) [
      | true ↦ λ all b cov is.
          let list : part_list (b / 64) ≡ Some c.in-Some.place = ap part_list (sym (eqb-true part (b / 64) is)) ∙ here in
          let below : b % 64 < 64 = omega arith in
          let bit : is_set bits (b % 64) ≡ true =
          piece_bit c.piece_of.result part at size b (is_set bits (b % 64)) c.piece_of.ensures.of_the_part (c.piece_of.ensures.bytes b) is (c.piece_bits.ensures (b % 64) below)
          ∙ and_from (covers at size b) (nat_eq part (b / 64)) cov is in
          ap (λ o. shown_at places o (counts c.args.in_reach) (b % 64)) list ∙ all (b % 64) below bit
      | false ↦ λ lack.
          let k = lack.0 in
          let b = part * 64 + k in
          let of = byte_of part k lack.1 in
          let is : nat_eq part (b / 64) ≡ true = ap (nat_eq part) of.0 ∙ eq_self part in
          let bit = piece_bit c.piece_of.result part at size b (is_set bits (b % 64)) c.piece_of.ensures.of_the_part (c.piece_of.ensures.bytes b) is (c.piece_bits.ensures (b % 64) (omega arith)) in
          let cov = (and_parts (covers at size b) (nat_eq part (b / 64)) (sym bit ∙ (ap (is_set bits) of.1 ∙ lack.2))).0 in
          (b, cov, ap (λ o. shown_at places o (counts c.args.in_reach) (b % 64)) (ap part_list of.0 ∙ here) ∙ (ap (bit_among (counts c.args.in_reach) (nodes_at places c.in-Some.place)) of.1 ∙ lack.3))
    ]) c.has_bits.ensures

pub returns-in-None : goal.returns-in-None
returns-in-None c =
    let b = some_byte c.args.at c.args.size c.args.part c.requires.low c.requires.high c.requires.some in
    (b.0, b.1, ap (λ o. shown_at c.args.pool.now.places o (counts c.args.in_reach) (b.0 % 64)) (ap part_list b.2 ∙ (sym c.list_of_part.ensures ∙ c.in-None.is)))
