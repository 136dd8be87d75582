-- The atoms of a run were given alike, and nobody gave those outside of the address space.
use Rattle.std.proofs.Common.{◌≡◌, ◌∙◌, ◌-◌, sym, subst, arith}
use Rattle.lx_certificates.specs.Givers.{nth_atom}
use Rattle.lx_act_index.specs.Standing.{IsAtom}
use Rattle.lx_act_index.proofs.MakeLemmas.{far_none}
use Rattle.lx_act_index.proofs.RunLemmas.{far_behind, from_place}
use Rattle.lx_act_index.proofs.make.next_piece.Goals as goal

pub returns-in-Some-clause-alike : goal.returns-in-Some-clause-alike
returns-in-Some-clause-alike c = λ h stands k low high.
    let s = c.args.sought in
    let from = c.args.from in
    let run = c.run_of-run.ensures in
    let is : c.in-Some.atom ≡ nth_atom s.cap from = subst (IsAtom s.cap from) c.in-Some.is c.atom_of.ensures in
    let least = c.min.ensures in
    let within = c.requires.within in
    let some = c.requires.some in
    run.alike h stands (k - from) (omega (arith, low, high, least)) (nth_atom s.cap k)
    (from_place s.cap from k c.run_of-run.result.end c.in-Some.atom is low (omega (arith, high, least, within, some)) run.within (omega (arith, high, least)))
    ∙ sym c.number_in.ensures

pub returns-in-None-clause-alike : goal.returns-in-None-clause-alike
returns-in-None-clause-alike c = λ h stands k low high.
    let s = c.args.sought in
    let i = c.args.index.now in
    far_none h i.table i.threads.items s.gifts s.who (nth_atom s.cap k) stands.shows (far_behind s.cap c.args.from k low (subst (IsAtom s.cap c.args.from) c.in-None.is c.atom_of.ensures))
