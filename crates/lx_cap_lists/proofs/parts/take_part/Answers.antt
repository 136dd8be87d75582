use Rattle.std.proofs.Common.{◌≡◌, ◌≢◌, ◌<◌, ◌/◌, ◌%◌, ◌^◌, ◌&&◌, not, nat_eq, true, false, Bool, Some, refl, sym, ap, ◌∙◌, subst, arith, eqb-true}
use Rattle.lx_caps.specs.Regions.{covers}
use Rattle.lx_cap_nodes.specs.Words.{nodes_at}
use Rattle.lx_cap_nodes.specs.Bits.{is_set}
use Rattle.lx_cap_lists.specs.Entries.{bit_among}
use Rattle.lx_cap_nodes.specs.Pieces.{part_list}
use Rattle.lx_cap_lists.specs.Kept.{AreNodes, width_of}
use Rattle.lx_cap_lists.proofs.NodeLemmas.{nodes_at_one, nodes_cut}
use Rattle.lx_cap_lists.proofs.BitLemmas.{bit_cut}
use Rattle.lx_cap_lists.proofs.PartLemmas.{not_taken}
use Rattle.lx_cap_nodes.proofs.PartLists.{one_part, piece_bit}
use Rattle.lx_cap_lists.proofs.parts.take_part.Goals as goal
use Rattle.lx_caps.proofs.Tests.{ne_from_test}

pub returns-in-Some-clause-bytes : goal.returns-in-Some-clause-bytes
returns-in-Some-clause-bytes g c b l is among =
    let at = c.args.at in
    let size = c.args.size in
    let part = c.args.part in
    let here : part_list part ≡ Some c.in-Some.place = sym c.list_of_part.ensures ∙ c.in-Some.is in
    let old = c.args.pool.now.places in
    let new = c.take.new.pool.places in
    (elim (nat_eq part (b / 64)) as (λ t. nat_eq part (b / 64) ≡ t → bit_among among (nodes_at new l) (b % 64) ≡ (bit_among among (nodes_at old l) (b % 64) && not (covers at size b && t))) [
      | true ↦ λ e.
          let same : part ≡ b / 64 = eqb-true part (b / 64) e in
          let list : c.in-Some.place ≡ l = (let two : part_list part ≡ Some l = ap part_list same ∙ is in cc) in
          let below : b % 64 < 64 = omega arith in
          let fits : c.piece_bits.result < 2 ^ 64 = omega arith in
          let bit = piece_bit c.piece_of.result part at size b (is_set c.piece_bits.result (b % 64)) c.piece_of.ensures.of_the_part (c.piece_of.ensures.bytes b) e (c.piece_bits.ensures (b % 64) below) in
          subst (λ k. bit_among among (nodes_at new k) (b % 64) ≡ (bit_among among (nodes_at old k) (b % 64) && not (covers at size b && true))) list
          (ap (λ es. bit_among among es (b % 64)) c.take.ensures.here
          ∙ (bit_cut among c.piece_bits.result (b % 64) (nodes_at old c.in-Some.place) fits below
          ∙ ap (λ (t : Bool). bit_among among (nodes_at old c.in-Some.place) (b % 64) && not t) (bit ∙ ap (λ (t : Bool). covers at size b && t) e)))
      | false ↦ λ e.
          let ne : l ≢ c.in-Some.place = λ same. ne_from_test part (b / 64) e (one_part part (b / 64) l (here ∙ ap Some (sym same)) is) in
          ap (λ es. bit_among among es (b % 64)) (c.take.ensures.others l ne) ∙ not_taken (bit_among among (nodes_at old l) (b % 64)) (covers at size b) false refl
    ]) refl

pub returns-in-Some-clause-nodes : goal.returns-in-Some-clause-nodes
returns-in-Some-clause-nodes g c =
    nodes_at_one c.args.pool.now.places c.take.new.pool.places c.in-Some.place
    (λ all. subst (AreNodes (width_of c.in-Some.place)) (sym c.take.ensures.here) (nodes_cut (width_of c.in-Some.place) c.piece_bits.result (nodes_at c.args.pool.now.places c.in-Some.place) all)) c.take.ensures.others
