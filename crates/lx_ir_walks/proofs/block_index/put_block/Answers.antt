use Rattle.std.proofs.Common.{◌∙◌, ap, cond, List, ℕ, Some}
use Rattle.std.specs.Prelude.{bytes_eq}
use Rattle.std.proofs.lemmas.Map.Text.{hash_map_updates_str}
use Rattle.lx_ir_walks.specs.Names.{at_name}
use Rattle.lx_ir_walks.proofs.block_index.put_block.Goals as goal

pub returns : goal.returns
returns c = λ name.
    hash_map_updates_str c.as_slice.result.now c.args.numbers.now c.insert.new.self (Some c.args.number) c.in_ok-insert.ensures.updates name
    ∙ ap (λ (bytes : List ℕ). cond (bytes_eq bytes name) (Some c.args.number) (at_name c.args.numbers.now.entries name)) c.as_slice.ensures
