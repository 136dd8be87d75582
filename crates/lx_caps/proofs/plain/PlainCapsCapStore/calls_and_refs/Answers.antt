use Rattle.std.proofs.Common.{◌&&◌, None, ap, sym, ◌∙◌, reverse}
use Rattle.lx_caps.specs.History.{owns}
use Rattle.lx_caps.specs.Order.{is_call_or_ref, stands_in}
use Rattle.lx_caps.proofs.InOrder.{all_behind-same}
use Rattle.lx_caps.proofs.plain.PlainCapsCapStore.calls_and_refs.Goals as goal

pub returns : goal.returns
returns c = λ h is.
    all_behind-same (λ x. stands_in x c.in_ok-found.found.items) (λ x. is_call_or_ref x && owns h c.args.who x) None c.in_ok-listed.listed.items
    (λ x. c.in_ok-found.ensures x ∙ ap (λ hs. is_call_or_ref x && owns hs c.args.who x) (ap reverse c.as_slice.ensures ∙ sym is)) c.in_ok-listed.ensures
