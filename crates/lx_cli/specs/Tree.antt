-- The commands as the parser of words knows them.
use Rattle.std.specs.Prelude.{◌≡◌, true, false, codes}
use Rattle.clap.specs.Words.{App, Rule, Text, app_of, new_app, new_rule, with_rule, with_subcommand}
use Rattle.clap.specs.declared.builder.command.Command.{Command}
use Rattle.clap.specs.declared.builder.command.Command.TheViews.{out-Command as fields_of}

-- a word that has to be there
abbrev pub word_rule : Text → Rule
word_rule name = record (new_rule name) { required = true }

-- a command with one, two and three words behind its name

abbrev pub one_word : Text → Text → App
one_word name first = with_rule (new_app name) (word_rule first)

abbrev pub two_words : Text → Text → Text → App
two_words name first second = with_rule (one_word name first) (word_rule second)

abbrev pub three_words : Text → Text → Text → Text → App
three_words name first second third = with_rule (two_words name first second) (word_rule third)

-- the seven commands

abbrev pub run_app : App
run_app = one_word (codes "run") (codes "case")

abbrev pub replay_app : App
replay_app = two_words (codes "replay") (codes "case") (codes "schedule")

abbrev pub instrument_app : App
instrument_app = two_words (codes "instrument") (codes "case") (codes "module")

abbrev pub check_app : App
check_app = three_words (codes "check") (codes "case") (codes "module") (codes "image")

abbrev pub generate_app : App
generate_app = one_word (codes "generate") (codes "count")

abbrev pub surface_app : App
surface_app = one_word (codes "surface") (codes "case")

abbrev pub why_app : App
why_app = two_words (codes "why") (codes "case") (codes "schedule")

-- the program without its commands: it has no word of its own, no help and no version
abbrev pub top_app : App
top_app = record (new_app (codes "lxfi")) {
  top = record (new_app (codes "lxfi")).top {
    no_binary_name = true;
    disable_help_flag = true;
    disable_help_subcommand = true;
    disable_version_flag = true;
    subcommand_required = true;
  };
}

-- the program and its seven commands
abbrev pub tree_app : App
tree_app =
    with_subcommand (with_subcommand (with_subcommand (with_subcommand (with_subcommand (with_subcommand (with_subcommand top_app run_app.top) replay_app.top) instrument_app.top)
    check_app.top) generate_app.top) surface_app.top) why_app.top

-- the command is the one that is wanted, and stands below no other
pub record IsLeaf (a : App) (c : Command) : Type 0 where
  pub app : app_of c ≡ a
  pub local : (fields_of c).has_globals ≡ false
