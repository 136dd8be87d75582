use Rattle.std.proofs.Common.{◌∙◌, ap, cond, List, ℕ, Some, bytes_eq}
use Rattle.std.proofs.lemmas.Map.Text.{hash_map_updates_str}
use Rattle.lx_slot_sums.specs.Classes.{at_text}
use Rattle.lx_slot_sums.proofs.classes.put_text.Goals as goal

pub returns : goal.returns
returns c = λ bytes.
    hash_map_updates_str c.as_slice.result.now c.args.places.now c.insert.new.self (Some c.args.place) c.in_ok-insert.ensures.updates bytes
    ∙ ap (λ (text : List ℕ). cond (bytes_eq text bytes) (Some c.args.place) (at_text c.args.places.now.entries bytes)) c.as_slice.ensures
