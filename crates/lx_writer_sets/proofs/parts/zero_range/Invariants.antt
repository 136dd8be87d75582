-- The bytes of the parts so far are forgotten, but for those that their writers own.
use Rattle.std.proofs.Common.{◌≡◌, ℕ, ◌+◌, ◌/◌, ◌≤◌, not, ◌&&◌, ◌||◌, true}
use Rattle.lx_caps.specs.declared.Principal.{Principal}
use Rattle.lx_caps.specs.declared.Atom.TheVariants.{Byte}
use Rattle.lx_caps.specs.History.{History, owns}
use Rattle.lx_writer_sets.specs.Nodes.{is_ready}
use Rattle.lx_writer_sets.specs.Sets.{is_recorded}
use Rattle.lx_cap_nodes.proofs.Ranges.{covered}
use Rattle.lx_writer_sets.proofs.parts.zero_range.Given as goal

abbrev pub invariant-loop-part : goal.invariant-loop-part
invariant-loop-part g l = record {
  low : l.at / 64 ≤ l.part;
  high : l.part ≤ (l.at + l.size + 63) / 64;
  ready : is_ready l.fn.parts ≡ true → is_ready l.parts ≡ true;
  kept : (h : History) → g.C.CapStore.stands l.caps h → (b : ℕ) (q : Principal)
      → is_recorded l.parts.lists b q ≡ (is_recorded l.fn.parts.lists b q && (not (covered l.at l.size l.part b) || owns h q (Byte b)));
  room : l.fn.parts.spare ≤ l.parts.spare;
}
