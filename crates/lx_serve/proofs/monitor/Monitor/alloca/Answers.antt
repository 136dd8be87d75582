-- The bytes are zeroed, taken from everyone, and given.
use Rattle.std.proofs.Common.{rules, refl}
use Rattle.lx_serve.proofs.monitor.Monitor.alloca.Goals as goal

pub returns-clause-tries : goal.returns-clause-tries
returns-clause-tries g c = λ p s k.
    let b = c.make_more_room.ensures.stays p s k in (
      search rules,
      record {
        reply = refl;
        state = record {
          memory = c.fill.ensures s.memory b.memory;
          blocks = b.blocks;
          names = b.names;
          history = c.give.ensures.grants _ (c.strip.ensures.appends _ b.history);
          notes = b.notes;
          sources = b.sources;
          texts = b.texts;
        };
      },
    )
