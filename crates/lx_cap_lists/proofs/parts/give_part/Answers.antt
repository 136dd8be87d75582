use Rattle.std.proofs.Common.{◌≡◌, ◌≢◌, ◌<◌, ◌/◌, ◌%◌, ◌^◌, ◌||◌, ◌&&◌, nat_eq, nat_le, nat_lt, true, false, Bool, Some, refl, sym, ap, ◌∙◌, subst, arith, eqb-true}
use Rattle.std.proofs.lemmas.Bool.Decides.{nat_tests}
use Rattle.lx_caps.specs.Regions.{covers}
use Rattle.lx_cap_nodes.specs.Words.{nodes_at}
use Rattle.lx_cap_nodes.specs.Bits.{is_set}
use Rattle.lx_cap_lists.specs.Entries.{bit_among}
use Rattle.lx_cap_nodes.specs.Pieces.{part_list}
use Rattle.lx_cap_lists.specs.Kept.{FitsParts, IsMask}
use Rattle.lx_cap_nodes.proofs.PartLists.{one_part, list_below, piece_bit}
use Rattle.lx_cap_lists.proofs.NodeLemmas.{width_part, high_none}
use Rattle.lx_cap_lists.proofs.parts.give_part.Goals as goal
use Rattle.lx_caps.proofs.Tests.{ne_from_test, not_given}

pub returns-in-Some-clause-bytes : goal.returns-in-Some-clause-bytes
returns-in-Some-clause-bytes c b l is among =
    let at = c.args.at in
    let size = c.args.size in
    let part = c.args.part in
    let here : part_list part ≡ Some c.in-Some.place = sym c.list_of_part.ensures ∙ c.in-Some.is in
    let old = c.args.pool.now.places in
    let new = c.give.new.pool.places in
    (elim (nat_eq part (b / 64)) as (λ t. nat_eq part (b / 64) ≡ t → bit_among among (nodes_at new l) (b % 64) ≡ ((among c.args.to && (covers at size b && t)) || bit_among among (nodes_at old l) (b % 64))) [
      | true ↦ λ e.
          let same : part ≡ b / 64 = eqb-true part (b / 64) e in
          let list : c.in-Some.place ≡ l = (let two : part_list part ≡ Some l = ap part_list same ∙ is in cc) in
          let below : b % 64 < 64 = omega arith in
          let bit = piece_bit c.piece_of.result part at size b (is_set c.piece_bits.result (b % 64)) c.piece_of.ensures.of_the_part (c.piece_of.ensures.bytes b) e (c.piece_bits.ensures (b % 64) below) in
          subst (λ k. bit_among among (nodes_at new k) (b % 64) ≡ ((among c.args.to && (covers at size b && true)) || bit_among among (nodes_at old k) (b % 64))) list
          (c.give.ensures.here among (b % 64)
          ∙ ap (λ (t : Bool). (among c.args.to && t) || bit_among among (nodes_at old c.in-Some.place) (b % 64)) (bit ∙ ap (λ (t : Bool). covers at size b && t) e))
      | false ↦ λ e.
          let ne : l ≢ c.in-Some.place = λ same. ne_from_test part (b / 64) e (one_part part (b / 64) l (here ∙ ap Some (sym same)) is) in
          ap (λ es. bit_among among es (b % 64)) (c.give.ensures.others l ne) ∙ not_given (among c.args.to) (covers at size b) false (bit_among among (nodes_at old l) (b % 64)) refl
    ]) refl

pub returns-in-Some-clause-kept : goal.returns-in-Some-clause-kept
unfolding FitsParts
returns-in-Some-clause-kept c = λ p r fits all. c.give.ensures.kept p r (fits c.args.part c.in-Some.place c.piece_bits.result (sym c.list_of_part.ensures ∙ c.in-Some.is)) all

pub returns-in-Some-clause-nodes : goal.returns-in-Some-clause-nodes
returns-in-Some-clause-nodes c =
    let piece = c.piece_of.result in
    let from = c.piece_of.ensures.from in
    let to = c.piece_of.ensures.to in
    let below : piece.from < 64 = omega (arith, from, to) in
    let yes : (nat_le piece.from piece.from && nat_lt piece.from piece.to) ≡ true = grind (arith, nat_tests, from) in
    let low : c.in-Some.place < 0xc000 = list_below c.args.part c.in-Some.place (sym c.list_of_part.ensures ∙ c.in-Some.is) in
    let small : c.piece_bits.result < 2 ^ 64 = omega arith in
    let mask : IsMask 64 c.piece_bits.result =
    record { bit = piece.from; within = below; set = c.piece_bits.ensures piece.from below ∙ yes; none = λ k h. high_none c.piece_bits.result k small h } in
    c.give.ensures.nodes (subst (λ w. IsMask w c.piece_bits.result) (sym (width_part c.in-Some.place low)) mask)
