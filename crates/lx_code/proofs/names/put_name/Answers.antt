use Rattle.std.proofs.Common.{◌∙◌, ap, cond, List, ℕ, Some}
use Rattle.std.specs.Prelude.{bytes_eq}
use Rattle.lx_code.specs.Firsts.{at_name}
use Rattle.lx_code.proofs.Copied.{updated}
use Rattle.lx_code.proofs.names.put_name.Goals as goal

pub returns : goal.returns
returns c = λ other.
    updated (λ k. k.items) c.in_ok-bytes.bytes.items c.args.names.now c.insert.new.self (Some c.args.place) c.in_ok-insert.ensures.updates other
    ∙ ap (λ (bytes : List ℕ). cond (bytes_eq bytes other) (Some c.args.place) (at_name c.args.names.now.entries other)) c.in_ok-bytes.ensures.items
