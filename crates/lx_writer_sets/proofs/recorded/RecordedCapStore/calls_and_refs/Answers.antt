-- Zeros change nothing that is owned.
use Rattle.std.proofs.Common.{◌&&◌, None}
use Rattle.lx_caps.specs.History.{owns, without_zeros}
use Rattle.lx_caps.specs.Order.{is_call_or_ref}
use Rattle.lx_caps.proofs.InOrder.{all_behind-same}
use Rattle.lx_writer_sets.proofs.recorded.RecordedCapStore.calls_and_refs.Goals as goal

pub returns : goal.returns
returns g c = λ h is.
    all_behind-same (λ x. is_call_or_ref x && owns (without_zeros h) c.args.who x) (λ x. is_call_or_ref x && owns h c.args.who x) None c.in_ok-atoms.atoms.items
    (λ x j. is_call_or_ref x && c.history_laws.ensures.zeros_aside h c.args.who x j) (c.in_ok-atoms.ensures (without_zeros h) is.owned)
