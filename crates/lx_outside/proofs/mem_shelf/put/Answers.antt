use Rattle.std.proofs.Common.{sym}
use Rattle.std.proofs.lemmas.List.Quantifiers.{position-Some}
use Rattle.lx_outside.proofs.FileLemmas.{has_name, placed, kept, still_differ, misses_none, added, others_stay, differ_with}
use Rattle.lx_outside.proofs.mem_shelf.put.Goals as goal

pub returns-in-Some-clause-put : goal.returns-in-Some-clause-put
returns-in-Some-clause-put c =
    let at = rw (c.as_slice.ensures, c.as_str.ensures) at c.in-Some.ensures in
    let first = position-Some (has_name c.args.file.name) c.args.files.now c.in-Some.place c.args.file (sym at) in
    rw c.replace.ensures.placed (placed c.args.files.now c.args.file c.in-Some.place first.0 first.2)

pub returns-in-Some-clause-others : goal.returns-in-Some-clause-others
returns-in-Some-clause-others c = λ other differ.
    let at = rw (c.as_slice.ensures, c.as_str.ensures) at c.in-Some.ensures in
    let first = position-Some (has_name c.args.file.name) c.args.files.now c.in-Some.place c.args.file (sym at) in
    rw c.replace.ensures.placed (kept c.args.files.now c.args.file c.in-Some.place other first.0 first.1 differ)

pub returns-in-Some-clause-names_differ : goal.returns-in-Some-clause-names_differ
returns-in-Some-clause-names_differ c =
    let at = rw (c.as_slice.ensures, c.as_str.ensures) at c.in-Some.ensures in
    let first = position-Some (has_name c.args.file.name) c.args.files.now c.in-Some.place c.args.file (sym at) in
    rw c.replace.ensures.placed (still_differ c.args.files.now c.args.file c.in-Some.place first.0 first.1 first.2 c.requires)

pub returns-in_ok-push-in-None-clause-put : goal.returns-in_ok-push-in-None-clause-put
returns-in_ok-push-in-None-clause-put c =
    let at = rw (c.as_slice.ensures, c.as_str.ensures) at c.in-None.ensures in
    rw c.in_ok-push-in-None.ensures.ok (added c.args.files.now c.args.file (misses_none c.args.files.now c.args.file.name (sym at)))

pub returns-in_ok-push-in-None-clause-others : goal.returns-in_ok-push-in-None-clause-others
returns-in_ok-push-in-None-clause-others c = λ other differ.
    rw c.in_ok-push-in-None.ensures.ok (others_stay c.args.files.now c.args.file other differ)

pub returns-in_ok-push-in-None-clause-names_differ :
    goal.returns-in_ok-push-in-None-clause-names_differ
returns-in_ok-push-in-None-clause-names_differ c =
    let at = rw (c.as_slice.ensures, c.as_str.ensures) at c.in-None.ensures in
    rw c.in_ok-push-in-None.ensures.ok (differ_with c.args.files.now c.args.file (misses_none c.args.files.now c.args.file.name (sym at)) c.requires)
