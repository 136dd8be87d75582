use Rattle.std.proofs.Common.{◌≡◌, ◌∙◌, rules, true, false, string_bytes, sym}
use Rattle.std.specs.List.{list_all}
use Rattle.std.proofs.lemmas.List.Folds.{list_all-map}
use Rattle.lx_cli.specs.Words.{is_name, texts}
use Rattle.lx_cli.proofs.Options.{none_with_option}
use Rattle.lx_cli.proofs.words.command_of.Goals as goal

pub returns-then-not-are_names : goal.returns-then-not-are_names
returns-then-not-are_names c =
    let was : c.are_names.result ≡ false = search rules in
    let off : list_all is_name (texts c.args.words.now) ≡ false = list_all-map is_name string_bytes c.args.words.now ∙ sym c.are_names.ensures ∙ was in
    sym (none_with_option (texts c.args.words.now) off)

pub read-requires : goal.read-requires
read-requires c =
    let was : c.are_names.result ≡ true = search rules in
    list_all-map is_name string_bytes c.args.words.now ∙ sym c.are_names.ensures ∙ was
