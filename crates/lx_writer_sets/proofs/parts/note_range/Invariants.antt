-- The bytes of the parts so far are noted.
use Rattle.std.proofs.Common.{◌≡◌, ℕ, ◌+◌, ◌-◌, ◌/◌, ◌≤◌, ◌&&◌, ◌||◌, true}
use Rattle.lx_caps.specs.declared.Principal.{Principal}
use Rattle.lx_caps.specs.History.{same_principal}
use Rattle.lx_writer_sets.specs.Nodes.{is_ready}
use Rattle.lx_writer_sets.specs.Sets.{is_recorded}
use Rattle.lx_cap_nodes.proofs.Ranges.{covered}
use Rattle.lx_writer_sets.proofs.parts.note_range.Given as goal

abbrev pub invariant-loop-part : goal.invariant-loop-part
invariant-loop-part g l = record {
  low : l.at / 64 ≤ l.part;
  high : l.part ≤ (l.at + l.size + 63) / 64;
  ready : is_ready l.parts ≡ true;
  noted : (b : ℕ) (q : Principal) → is_recorded l.parts.lists b q ≡ ((same_principal q l.who && covered l.at l.size l.part b) || is_recorded l.fn.parts.lists b q);
  room : l.fn.parts.spare ≤ l.parts.spare + (l.part - l.at / 64);
  cost : l.steps ≤ l.fn.steps + (l.part - l.at / 64);
}
