-- Where there is room, only what takes memory and is neither refused nor trapped lacks it.
use Rattle.std.proofs.lemmas.Result.{err_from_is_err_and}
use Rattle.lx_words.proofs.Tests.{never}
use Rattle.lx_serve.proofs.part.SharedPartPart.serve.Goals as goal

pub returns-in_err-reply-clause-lacks : goal.returns-in_err-reply-clause-lacks
returns-in_err-reply-clause-lacks g c =
    let p = err_from_is_err_and c.from_residual.result c.from_residual.ensures.1 in
    rw p.1 (λ journal store. (never _ (λ plain. c.in_err-reply.ensures.no_memory plain journal store), c.in_err-reply.ensures.undecided journal store))
