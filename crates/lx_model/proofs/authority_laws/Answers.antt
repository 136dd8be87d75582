-- The laws are lemmas.
use Rattle.lx_model.proofs.Authority as authority
use Rattle.lx_model.proofs.authority_laws.Goals as goal

pub returns : goal.returns
returns c =
    record {
      stored = authority.stored;
      filled = authority.filled;
      copied = authority.copied;
      store_refused = authority.store_refused;
      fill_refused = authority.fill_refused;
      copy_refused = authority.copy_refused;
      entered = authority.entered;
      call_refused = authority.call_refused;
      by_slot = authority.by_slot;
      slot_annotated = authority.slot_annotated;
      stopped = authority.stopped;
      stripped = authority.stripped;
      others = authority.others;
    }
