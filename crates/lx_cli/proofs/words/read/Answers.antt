use Rattle.std.proofs.Common.{◌≡◌, ◌∙◌, ap, sym, subst}
use Rattle.clap.specs.Words.{App, HasKind, app_of, fault_of, is_simple, is_simple_and_free, subcommand_of}
use Rattle.lx_cli.specs.Words.{texts}
use Rattle.lx_cli.specs.Matched.{command_found}
use Rattle.lx_cli.specs.Tree.{tree_app}
use Rattle.lx_cli.proofs.Said.{read_err, read_ok, tree_free, tree_simple}
use Rattle.lx_cli.proofs.words.read.Goals as goal

pub returns-in-Ok : goal.returns-in-Ok
returns-in-Ok c =
    let app_is : app_of c.in_ok-tree.tree ≡ tree_app = c.in_ok-tree.ensures in
    let free = c.in-Ok.ensures.kinds (ap is_simple_and_free app_is ∙ tree_free) in
    let found = (c.in-Ok.ensures.matches (ap is_simple app_is ∙ tree_simple)).1 in
    c.command_found.ensures ∙ ap command_found (found ∙ ap (λ (a : App). subcommand_of a (texts c.args.words.now)) app_is)
    ∙ sym (read_ok (texts c.args.words.now) c.requires (sym (ap (λ (a : App). fault_of a (texts c.args.words.now)) app_is) ∙ free))

pub returns : goal.returns
returns c =
    let app_is : app_of c.in_ok-tree.tree ≡ tree_app = c.in_ok-tree.ensures in
    let has = c.in-Err.ensures.kinds (ap is_simple_and_free app_is ∙ tree_free) in
    sym (read_err (texts c.args.words.now) c.in-Err.error c.requires
    (subst (λ (a : App). HasKind (fault_of a (texts c.args.words.now)) c.in-Err.error) app_is has)
    (λ memory. c.in_default.not-OutOfMemory (c.kind.ensures ∙ memory)))
