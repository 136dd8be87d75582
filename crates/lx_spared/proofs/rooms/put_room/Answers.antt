use Rattle.std.proofs.Common.{ap, ◌∙◌, nat_eq}
use Rattle.std.specs.Prelude.{unwrap_or}
use Rattle.std.specs.Map.{lookup}
use Rattle.lx_spared.proofs.Stacked.{put_is}
use Rattle.lx_spared.proofs.rooms.put_room.Goals as goal

pub returns : goal.returns
returns c = λ r.
    ap (λ o. unwrap_or o 0) (c.in_ok-insert.ensures.updates.0 r)
    ∙ put_is (nat_eq c.args.register r) c.args.room (lookup (nat_eq r) c.args.rooms.now.entries)
