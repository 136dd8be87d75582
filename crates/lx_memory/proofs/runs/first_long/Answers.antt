use Rattle.std.proofs.Common.{◌≡◌, ◌*◌, ◌-◌, refl, arith}
use Rattle.lx_memory.specs.Runs.{places}
use Rattle.lx_memory.proofs.Places.{places_are}
use Rattle.lx_memory.proofs.Trees.{at-most, next-level, leaves-below, left-short, with-left, right-long, first-leaf}
use Rattle.lx_memory.proofs.runs.first_long.Goals as goal

pub returns-then-nodes-count : goal.returns-then-nodes-count
returns-then-nodes-count c = leaves-below c.args.nodes.now c.args.count c.requires.all c.if-nodes-count.true

pub loop-level-init : goal.loop-level-init
loop-level-init c = record {
  power = (16, refl);
  from = omega arith;
  to = omega arith;
  long = c.if-nodes-count.false;
  short = λ x low high. absurd (omega (arith, low, high));
}

pub bounds-nodes-node : goal.bounds-nodes-node
bounds-nodes-node c =
    let it = c.loop-level.invariant in
    let to = it.to in
    let most = at-most (c.loop-level.level * 2) (next-level c.loop-level.level it.power c.loop-level-test.true) in
    omega (arith, to, most, c.requires.len, places_are)

pub loop-level-preserved-then-nodes-node : goal.loop-level-preserved-then-nodes-node
loop-level-preserved-then-nodes-node c =
    let it = c.loop-level.invariant in
    let from = it.from in
    let to = it.to in
    let next = next-level c.loop-level.level it.power c.loop-level-test.true in
    let most = at-most (c.loop-level.level * 2) next in record {
      power = next;
      from = omega (arith, from);
      to = omega (arith, to);
      long = right-long c.args.nodes.now c.args.count c.loop-level.node c.requires.all (omega (arith, from, to)) (omega (arith, to, most, places_are)) it.long c.if-nodes-node.true;
      short =
          with-left c.args.nodes.now c.args.count c.loop-level.level c.loop-level.node
          (left-short c.args.nodes.now c.args.count c.loop-level.level c.loop-level.node c.requires.all (omega (arith, from, to)) (omega (arith, to, most, places_are)) it.short)
          c.if-nodes-node.true;
    }

pub loop-level-preserved : goal.loop-level-preserved
loop-level-preserved c =
    let it = c.loop-level.invariant in
    let from = it.from in
    let to = it.to in
    let next = next-level c.loop-level.level it.power c.loop-level-test.true in
    let most = at-most (c.loop-level.level * 2) next in record {
      power = next;
      from = omega (arith, from);
      to = omega (arith, to);
      long = c.if-nodes-node.false;
      short = left-short c.args.nodes.now c.args.count c.loop-level.level c.loop-level.node c.requires.all (omega (arith, from, to)) (omega (arith, to, most, places_are)) it.short;
    }

pub returns : goal.returns
returns c =
    let it = c.loop-level.invariant in
    let to = it.to in
    let over = c.loop-level-test.false in
    let most = at-most c.loop-level.level it.power in
    let top : c.loop-level.level ≡ places = omega (arith, over, most, places_are) in
    let found = first-leaf c.args.nodes.now c.args.count c.loop-level.level c.loop-level.node top it.from it.long it.short (c.loop-level.node - 65536) (omega (arith, places_are)) in
    (omega (arith, to, top, places_are), found.0, found.1)
