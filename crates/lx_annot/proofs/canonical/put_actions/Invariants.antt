use Rattle.std.proofs.Common.{◌≡◌, map, drop}
use Rattle.lx_annot.specs.Canonical.{action_text, call_text}
use Rattle.lx_annot.specs.Parts.{joined}
use Rattle.lx_annot.proofs.canonical.put_actions.Given as goal

abbrev pub invariant-loop-action : goal.invariant-loop-action
invariant-loop-action l =
    joined l.out.items (map (λ x. call_text l.word (action_text l.i x)) (drop l.action-index l.actions)) ≡ joined l.fn.out.items (map (λ x. call_text l.word (action_text l.i x)) l.actions)
