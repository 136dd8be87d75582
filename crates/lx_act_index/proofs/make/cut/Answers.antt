-- One part more, and in the end all atoms are cut.
use Rattle.std.proofs.Common.{arith, subst}
use Rattle.std.proofs.lemmas.Bool.Decides.{nat_tests}
use Rattle.lx_certificates.specs.Givers.{count_of, first_of, given}
use Rattle.lx_certificates.specs.Making.{IsNextPart}
use Rattle.lx_certificates.proofs.Making.{one_cut_more, all_cut, each_before}
use Rattle.lx_act_index.specs.Standing.{MovesOn}
use Rattle.lx_act_index.proofs.make.cut.Goals as goal

pub loop-at-preserved : goal.loop-at-preserved
loop-at-preserved c =
    let s = c.args.sought in
    let moves = subst (MovesOn c.loop-at.at (count_of s.cap)) c.in-Some.is c.in_ok-end.ensures.moves in
    record {
      within = moves.1;
      cuts = λ h stands.
          let part = subst (IsNextPart h s c.loop-at.at c.loop-at.parts c.push_part.new.parts) c.in-Some.is (c.in_ok-end.ensures.next h stands) in
          one_cut_more h s c.loop-at.parts c.push_part.new.parts c.loop-at.at c.in-Some.end part.0 (c.loop-at.invariant.cuts h stands) part.2 part.1;
    }

pub returns-in-None : goal.returns-in-None
returns-in-None c = λ h stands.
    let s = c.args.sought in
    let out = subst (IsNextPart h s c.loop-at.at c.loop-at.parts c.push_part.new.parts) c.in-None.is (c.in_ok-end.ensures.next h stands) in (
      grind (arith, nat_tests, c.loop-at-test.true, c.count_of-count.ensures),
      each_before (given h s) (first_of s.cap) (count_of s.cap) c.loop-at.parts c.loop-at.at (c.loop-at.invariant.cuts h stands),
      out.1,
    )

pub returns : goal.returns
returns c = λ h stands.
    let s = c.args.sought in
    all_cut (given h s) (first_of s.cap) (count_of s.cap) c.loop-at.parts c.loop-at.at (c.loop-at.invariant.cuts h stands) (grind (arith, nat_tests, c.loop-at-test.false, c.count_of-count.ensures))
