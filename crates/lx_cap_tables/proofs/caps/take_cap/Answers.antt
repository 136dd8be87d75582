use Rattle.lx_cap_tables.proofs.AtomLemmas.{call_taken, ref_taken}
use Rattle.lx_cap_tables.proofs.caps.take_cap.Goals as goal

pub returns-in-Call-clause-shows : goal.returns-in-Call-clause-shows
returns-in-Call-clause-shows g c =
    rw c.in-Call.is (call_taken c.args.pool.now.places c.take_atom.new.pool.places c.args.atoms.now.keys c.in-Call.at (rw c.call_key.ensures at c.take_atom.ensures.here) (rw c.call_key.ensures at c.take_atom.ensures.others))

pub returns-in-Ref-clause-shows : goal.returns-in-Ref-clause-shows
returns-in-Ref-clause-shows g c =
    rw c.in-Ref.is (ref_taken c.args.pool.now.places c.take_atom-in-Ref.new.pool.places c.args.atoms.now.keys c.in-Ref.ty c.in-Ref.at (rw c.ref_key.ensures at c.take_atom-in-Ref.ensures.here) (rw c.ref_key.ensures at c.take_atom-in-Ref.ensures.others))
