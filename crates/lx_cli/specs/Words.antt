-- The words, and the command that they say.
use Rattle.std.specs.Prelude.{ℕ, Bool, true, false, not, nat_le, ◌==◌, ◌&&◌, List, [], ◌∷◌, codes, map, take, string_bytes, String, Option, Some, None, option_map, if◌then◌else◌}
use Rattle.std.specs.List.{list_all}
use Rattle.std.specs.Str.{bytes_eq}
use Rattle.std.specs.declared.alloc.Global.{Global}
use Rattle.lx_words.specs.Lexemes.{is_digit}
use Rattle.lx_words.specs.Text.{decimal_value}
use Rattle.lx_cli.specs.declared.words.Command.{Command as Words}
use Rattle.lx_cli.specs.declared.words.Command.TheVariants as words

-- the words as texts
abbrev pub texts : List (String Global) → List (List ℕ)
texts words = map string_bytes words

-- a command: it names its case, and a schedule and an image by their files, and a module by its name in the case; or it says how many calls
-- a case is to have that is generated
pub data Command : Type 0 where
  Run : (case : List ℕ) → Command
  Replay : (case : List ℕ) → (schedule : List ℕ) → Command
  Instrument : (case : List ℕ) → (part : List ℕ) → Command
  Check : (case : List ℕ) → (part : List ℕ) → (image : List ℕ) → Command
  Generate : (count : ℕ) → Command
  Surface : (case : List ℕ) → Command
  Why : (case : List ℕ) → (schedule : List ℕ) → Command

-- what the words of a command say
abbrev pub said : Words → Command
said (words.Run case) = Run case.now
said (words.Replay case schedule) = Replay case.now schedule.now
said (words.Instrument case part) = Instrument case.now part.now
said (words.Check case part image) = Check case.now part.now image.now
said (words.Generate count) = Generate count
said (words.Surface case) = Surface case.now
said (words.Why case schedule) = Why case.now schedule.now

-- a word that is no option
abbrev pub is_name : List ℕ → Bool
is_name word = not (bytes_eq (take 1 word) (codes "-"))

-- the command, where the words are one
abbrev pub if_words : Bool → Command → Option Command
if_words b c = if b then Some c else None

-- a number begins with 0 only where it is 0
abbrev pub begins_well : List ℕ → Bool
begins_well [] = false
begins_well (d ∷ []) = true
begins_well (d ∷ e ∷ ds) = not (d == 48)

-- a number in decimal
abbrev pub is_number : List ℕ → Bool
is_number word = begins_well word && list_all is_digit word

-- the number of calls that a word says, at most 4,096
abbrev pub count_of : List ℕ → Option ℕ
count_of word = if is_number word && nat_le (decimal_value word) 4096 then Some (decimal_value word) else None

abbrev pub one_name : List ℕ → List ℕ → Option Command
one_name word second =
    if bytes_eq word (codes "run")
    then if_words (is_name second) (Run second)
    else (if bytes_eq word (codes "generate") then option_map Generate (count_of second)
    else (if bytes_eq word (codes "surface") then if_words (is_name second) (Surface second) else None))

abbrev pub two_names : List ℕ → List ℕ → List ℕ → Option Command
two_names word case second =
    if bytes_eq word (codes "replay") then Some (Replay case second)
    else (if bytes_eq word (codes "instrument") then Some (Instrument case second)
    else if_words (bytes_eq word (codes "why")) (Why case second))

-- `run CASE`, `replay CASE SCHEDULE`, `instrument CASE MODULE`, `check CASE MODULE IMAGE`, `generate N`, `surface CASE` and
-- `why CASE SCHEDULE`, where no word begins with `-`
abbrev pub command_of : List (List ℕ) → Option Command
command_of (word ∷ second ∷ []) = one_name word second
command_of (word ∷ case ∷ second ∷ []) = if is_name case && is_name second then two_names word case second else None
command_of (word ∷ case ∷ part ∷ image ∷ []) =
    if_words (bytes_eq word (codes "check") && (is_name case && (is_name part && is_name image))) (Check case part image)
command_of _ = None
