use Rattle.std.proofs.Common.{◌≡◌, ◌≢◌, ◌||◌, Bool, ℕ, List, Some, sym, ap, ◌∙◌, subst}
use Rattle.lx_cap_nodes.specs.Words.{nodes_at}
use Rattle.lx_cap_lists.specs.Entries.{bit_among}
use Rattle.lx_cap_lists.specs.Tables.{Key, place_in, behind_parts}
use Rattle.lx_cap_lists.specs.declared.entry.Spot.TheVariants as spot
use Rattle.lx_cap_lists.specs.Kept.{FitsSpots}
use Rattle.lx_cap_lists.proofs.KeptLemmas.{parts_from_spots}
use Rattle.lx_cap_tables.proofs.AtomLemmas.{empty_given, call_given, ref_given, still_found}
use Rattle.lx_cap_lists.specs.declared.holder.Holder.{Holder}
use Rattle.lx_cap_tables.proofs.caps.give_cap.Goals as goal

pub returns-in-Call-clause-shows : goal.returns-in-Call-clause-shows
returns-in-Call-clause-shows c =
    let atoms = c.args.atoms.now.keys in
    let keys = c.give_atom.ensures.keys in
    rw (c.in-Call.is, keys) (call_given c.args.pool.now.places c.give_atom.new.pool.places atoms c.call_key.result c.args.to c.requires.empty
    (subst (λ (ks : List Key). (l : ℕ) → behind_parts (place_in ks c.call_key.result) ≡ Some l → (among : Holder → Bool) → bit_among among (nodes_at c.give_atom.new.pool.places l) 0 ≡ (among c.args.to || bit_among among (nodes_at c.args.pool.now.places l) 0)) keys c.give_atom.ensures.here)
    (subst (λ (ks : List Key). (l : ℕ) → behind_parts (place_in ks c.call_key.result) ≢ Some l → nodes_at c.give_atom.new.pool.places l ≡ nodes_at c.args.pool.now.places l) keys c.give_atom.ensures.others)
    c.in-Call.at c.call_key.ensures)

pub returns-in-Call-clause-empty : goal.returns-in-Call-clause-empty
returns-in-Call-clause-empty c =
    let atoms = c.args.atoms.now.keys in
    let keys = c.give_atom.ensures.keys in
    rw keys (empty_given c.args.pool.now.places c.give_atom.new.pool.places atoms c.call_key.result c.args.to c.requires.empty
    (subst (λ (ks : List Key). (l : ℕ) → behind_parts (place_in ks c.call_key.result) ≡ Some l → (among : Holder → Bool) → bit_among among (nodes_at c.give_atom.new.pool.places l) 0 ≡ (among c.args.to || bit_among among (nodes_at c.args.pool.now.places l) 0)) keys c.give_atom.ensures.here)
    (subst (λ (ks : List Key). (l : ℕ) → behind_parts (place_in ks c.call_key.result) ≢ Some l → nodes_at c.give_atom.new.pool.places l ≡ nodes_at c.args.pool.now.places l) keys c.give_atom.ensures.others))

pub returns-in-Ref-clause-shows : goal.returns-in-Ref-clause-shows
returns-in-Ref-clause-shows c =
    let atoms = c.args.atoms.now.keys in
    let keys = c.give_atom-in-Ref.ensures.keys in
    rw (c.in-Ref.is, keys) (ref_given c.args.pool.now.places c.give_atom-in-Ref.new.pool.places atoms c.ref_key.result c.args.to c.requires.empty
    (subst (λ (ks : List Key). (l : ℕ) → behind_parts (place_in ks c.ref_key.result) ≡ Some l → (among : Holder → Bool) → bit_among among (nodes_at c.give_atom-in-Ref.new.pool.places l) 0 ≡ (among c.args.to || bit_among among (nodes_at c.args.pool.now.places l) 0)) keys c.give_atom-in-Ref.ensures.here)
    (subst (λ (ks : List Key). (l : ℕ) → behind_parts (place_in ks c.ref_key.result) ≢ Some l → nodes_at c.give_atom-in-Ref.new.pool.places l ≡ nodes_at c.args.pool.now.places l) keys c.give_atom-in-Ref.ensures.others)
    c.in-Ref.ty c.in-Ref.at c.ref_key.ensures)

pub returns-in-Ref-clause-empty : goal.returns-in-Ref-clause-empty
returns-in-Ref-clause-empty c =
    let atoms = c.args.atoms.now.keys in
    let keys = c.give_atom-in-Ref.ensures.keys in
    rw keys (empty_given c.args.pool.now.places c.give_atom-in-Ref.new.pool.places atoms c.ref_key.result c.args.to c.requires.empty
    (subst (λ (ks : List Key). (l : ℕ) → behind_parts (place_in ks c.ref_key.result) ≡ Some l → (among : Holder → Bool) → bit_among among (nodes_at c.give_atom-in-Ref.new.pool.places l) 0 ≡ (among c.args.to || bit_among among (nodes_at c.args.pool.now.places l) 0)) keys c.give_atom-in-Ref.ensures.here)
    (subst (λ (ks : List Key). (l : ℕ) → behind_parts (place_in ks c.ref_key.result) ≢ Some l → nodes_at c.give_atom-in-Ref.new.pool.places l ≡ nodes_at c.args.pool.now.places l) keys c.give_atom-in-Ref.ensures.others))

pub returns-then-size-gt0-clause-kept : goal.returns-then-size-gt0-clause-kept
returns-then-size-gt0-clause-kept c = λ p r fits all. c.give_range.ensures.kept p r (parts_from_spots p c.args.atoms.now.keys c.args.to c.args.owner fits) all

pub returns-in-Call-clause-kept : goal.returns-in-Call-clause-kept
unfolding FitsSpots
returns-in-Call-clause-kept c = λ p r fits all.
    c.give_atom.ensures.kept p r (λ l is. fits (spot.Call c.in-Call.at) l 1 (ap (λ k. behind_parts (place_in c.give_atom.new.atoms.keys k)) (sym c.call_key.ensures) ∙ is)) all

pub returns-in-Ref-clause-kept : goal.returns-in-Ref-clause-kept
unfolding FitsSpots
returns-in-Ref-clause-kept c = λ p r fits all.
    c.give_atom-in-Ref.ensures.kept p r (λ l is. fits (spot.Ref c.in-Ref.ty c.in-Ref.at) l 1 (ap (λ k. behind_parts (place_in c.give_atom-in-Ref.new.atoms.keys k)) (sym c.ref_key.ensures) ∙ is)) all

pub returns-in-Call-clause-found : goal.returns-in-Call-clause-found
returns-in-Call-clause-found c = λ x j at. ap (λ ks. place_in ks x) c.give_atom.ensures.keys ∙ still_found c.args.atoms.now.keys c.call_key.result x j at

pub returns-in-Ref-clause-found : goal.returns-in-Ref-clause-found
returns-in-Ref-clause-found c = λ x j at. ap (λ ks. place_in ks x) c.give_atom-in-Ref.ensures.keys ∙ still_found c.args.atoms.now.keys c.ref_key.result x j at
