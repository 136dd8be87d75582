use Rattle.std.proofs.Common.{sym, ap, ◌∙◌, arith}
use Rattle.lx_cap_lists.specs.Holders.{counts}
use Rattle.lx_cap_lists.specs.Tables.{shown_at}
use Rattle.lx_cap_nodes.specs.Words.{nodes_at}
use Rattle.lx_cap_lists.proofs.PlacesWithin.{behind_within}
use Rattle.lx_cap_tables.proofs.AtomLemmas.{first_bit}
use Rattle.lx_cap_tables.proofs.held.holds_atom.Goals as goal

pub has_bits-requires : goal.has_bits-requires
has_bits-requires c = let h = behind_within c.args.atoms.now.keys c.args.key c.in-Some.place (sym c.list_of_key.ensures ∙ c.in-Some.is) in let r = c.requires.lists in omega (arith, h, r)

pub returns-in-Some : goal.returns-in-Some
returns-in-Some c =
    first_bit (counts c.args.in_reach) (nodes_at c.args.pool.now.places c.in-Some.place) c.has_bits.result c.has_bits.ensures
    ∙ ap (λ o. shown_at c.args.pool.now.places o (counts c.args.in_reach) 0) (sym c.in-Some.is ∙ c.list_of_key.ensures)
