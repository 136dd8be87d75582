use Rattle.std.proofs.Common.{Some, ◌∙◌, ap, sym, arith}
use Rattle.lx_cap_lists.specs.Tables.{same_key, place_in}
use Rattle.lx_cap_lists.proofs.KeyLemmas.{found_last, same_self}
use Rattle.lx_cap_lists.proofs.keys.place_for.Goals as goal

pub returns-in-None-clause-place : goal.returns-in-None-clause-place
returns-in-None-clause-place c =
    let none = c.place_in.ensures in
    ap (λ ks. place_in ks c.args.key) c.add.ensures.keys
    ∙ (found_last (same_key c.args.key) 0 c.args.keys.now.keys c.args.key (sym c.place_in.ensures ∙ c.in-None.is) (same_self c.args.key)
    ∙ ap Some (let n = c.len-i.ensures.len in omega (arith, n)))
