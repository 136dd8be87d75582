use Rattle.std.proofs.Common.{◌≡◌, All, length}
use Rattle.lx_words.specs.Cuts.{IsWithin}
use Rattle.lx_annot_read.specs.Draft.{IsTabled}
use Rattle.lx_annot_read.specs.Interfaces.{empty}
use Rattle.lx_annot_read.specs.Texts.{body_at}
use Rattle.lx_annot_read.proofs.Bodies.{Going}
use Rattle.lx_annot_read.proofs.text.body.Given as goal

abbrev pub invariant-loop-first : goal.invariant-loop-first
invariant-loop-first l = record {
  so_far : Going l.text l.stop l.fn.version l.draft.interface l.rest (body_at l.text l.stop l.fn.version (length l.fn.tokens) empty l.fn.tokens);
  version : l.draft.version ≡ l.fn.version;
  tabled : IsTabled l.draft;
  within : All (IsWithin l.text) l.rest;
}

abbrev pub decreases-loop-first : goal.decreases-loop-first
decreases-loop-first l = length l.rest
