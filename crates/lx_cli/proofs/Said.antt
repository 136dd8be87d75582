-- What the parser makes of the words is the command that they say.
use Rattle.std.proofs.Common.{◌≡◌, ◌⊎◌, inl, inr, ◌∙◌, Bool, true, false, ◌&&◌, ◌||◌, List, [], ◌∷◌, codes, Option, Some, None, is_some, option_map, find, fold, if◌then◌else◌, subst, refl, sym, ap, ap₂}
use Rattle.std.specs.List.{list_all}
use Rattle.std.specs.Str.{bytes_eq}
use Rattle.std.proofs.lemmas.Slice.Eq.{bytes_eq-Decides}
use Rattle.std.proofs.lemmas.Bool.{and_parts}
use Rattle.clap.specs.Values.{kind_of}
use Rattle.clap.specs.Walk.{Names, Text, Walk, idle, answers_to, subcommand_met, nothing_held, walk_from, walk, walked, finished, settled, rows_after}
use Rattle.clap.specs.Simple.{App, Shape, built, entered, is_simple, names_of, subcommand_of}
use Rattle.clap.specs.Kinds.{HasKind, Kinds, or_else}
use Rattle.clap.specs.Faults.{walk_fault, settle_fault, defaults_fault, check_fault, level_fault, entered_fault, fault_of, is_simple_and_free}
use Rattle.clap.specs.declared.error.Error.{Error}
use Rattle.clap.specs.declared.error.kind.ErrorKind.{ErrorKind}
use Rattle.clap.specs.declared.error.kind.ErrorKind.TheVariants as kind
use Rattle.clap.proofs.OnLiterals.{clap_on_literals}
use Rattle.clap.proofs.WalkLemmas.{walk_stopped}
use Rattle.clap.proofs.FaultLemmas.{stopped_fault}
use Rattle.lx_cli.specs.Words.{Command, Run, Replay, Instrument, Check, Generate, Surface, Why, is_name, if_words, count_of, command_of}
use Rattle.lx_cli.specs.Matched.{command_found}
use Rattle.lx_cli.specs.Tree.{check_app, generate_app, instrument_app, replay_app, run_app, surface_app, tree_app, why_app}
use Rattle.lx_cli.proofs.Named.{stray}
use Rattle.lx_cli.proofs.Leaves.{Reads, same_if, leaf, run_reads, replay_reads, instrument_reads, check_reads, generate_reads, surface_reads, why_reads}

abbrev top : Shape
top = (built tree_app).top

abbrev names : Names
names = names_of (built tree_app)

-- the faults of a whole parse, by where its walk ends and the walk's own
abbrev whole : Walk → Kinds → Kinds
whole w kinds = or_else kinds (or_else (entered_fault (built tree_app) w.stopped)
    (or_else (settle_fault top.rules top.args_override_self w.held)
    (or_else (defaults_fault (settled top.rules w.held).rows top.rules)
    (check_fault top (finished top.rules w.held) (is_some (entered (built tree_app) w.stopped))))))

-- ---- a command by its name

abbrev Enters : Text → Shape → List Text → Type 0
Enters name s rest = (fault_of tree_app (name ∷ rest) ≡ or_else (level_fault s [] nothing_held rest false []) [])
    × (subcommand_of tree_app (name ∷ rest) ≡ Some (name, rows_after s.rules [] rest))

-- where the walk stands behind a name, with these words of its command
abbrev stopped : Text → List Text → Walk
stopped name seen = record (walk_from nothing_held) { stopped = Some (name, seen) }

-- it leaves the words behind the name to the command
enters : (name : Text) (s : Shape) (rest : List Text)
    → fault_of tree_app (name ∷ rest) ≡ whole (fold (walked top.rules names) (stopped name []) rest) (walk_fault top names (stopped name []) rest)
    → whole (stopped name rest) [] ≡ or_else (level_fault s [] nothing_held rest false []) []
    → subcommand_of tree_app (name ∷ rest) ≡ entered (built tree_app) (fold (walked top.rules names) (stopped name []) rest).stopped
    → entered (built tree_app) (Some (name, rest)) ≡ Some (name, rows_after s.rules [] rest) → Enters name s rest
enters name s rest begins leaves goes finds =
    let stops = walk_stopped top.rules names (walk_from nothing_held) name [] rest in (
      begins ∙ ap₂ whole (sym stops) (stopped_fault top names (walk_from nothing_held) (name, []) rest) ∙ leaves,
      goes ∙ ap (λ (w : Walk). entered (built tree_app) w.stopped) (sym stops) ∙ finds,
    )

-- the parser takes the words, and they are the command that it finds; or it refuses them, and they are none
abbrev pub IsRead : List Text → Type 0
IsRead words = ((fault_of tree_app words ≡ []) × (command_of words ≡ command_found (subcommand_of tree_app words)))
    ⊎ (((k : ErrorKind) × (ks : Kinds) × (fault_of tree_app words ≡ k ∷ ks)) × (command_of words ≡ None))

read_by : (name : Text) (s : Shape) (rest : List Text) → Enters name s rest → Reads name s rest → IsRead (name ∷ rest)
read_by name s rest enters (inl (free, is)) = inl (enters.0 ∙ ap (λ (kinds : Kinds). or_else kinds []) free, is ∙ sym (ap command_found enters.1))
read_by name s rest enters (inr ((k, ks, fails), none)) = inr ((k, ks, enters.0 ∙ ap (λ (kinds : Kinds). or_else kinds []) fails), none)

-- ---- no command's name

turned : (xs ys : Text) (b : Bool) → bytes_eq xs ys ≡ b → bytes_eq ys xs ≡ false → b ≡ false
turned xs ys true is apart =
    let same : xs ≡ ys = (bytes_eq-Decides xs ys).0 is in
    let back : bytes_eq ys xs ≡ true = (bytes_eq-Decides ys xs).1 (sym same) in
    absurd (cc)
turned xs ys false is apart = refl

apart : (name word : Text) → bytes_eq word name ≡ false → answers_to word (name, []) ≡ false
apart name word is = ap (λ b. b || false) (turned name word (bytes_eq name word) refl is)

none_found : (p : Text × List Text → Bool) → p (codes "run", []) ≡ false → p (codes "replay", []) ≡ false → p (codes "instrument", []) ≡ false
    → p (codes "check", []) ≡ false → p (codes "generate", []) ≡ false → p (codes "surface", []) ≡ false → p (codes "why", []) ≡ false → option_map (λ (s : Text × List Text). s.0) (find p names) ≡ None
none_found p a b c d e f g = rw (a, b, c, d, e, f, g) refl

one_none : (r g s : Bool) (x y z : Option Command) → r ≡ false → g ≡ false → s ≡ false → (if r then x else (if g then y else (if s then z else None))) ≡ None
one_none r g s x y z no_r no_g no_s = rw (no_r, no_g, no_s) refl

two_none : (n p i y : Bool) (c d e : Command) → p ≡ false → i ≡ false → y ≡ false → (if n then (if p then Some c else (if i then Some d else if_words y e)) else None) ≡ None
two_none n p i y c d e no_p no_i no_y = rw (no_p, no_i, no_y) (same_if n)

three_none : (k n : Bool) (c : Command) → k ≡ false → if_words (k && n) c ≡ None
three_none k n c no_k = rw no_k refl

-- the word names no command
record Unnamed (word : Text) : Type 0 where
  run : bytes_eq word (codes "run") ≡ false
  replay : bytes_eq word (codes "replay") ≡ false
  instrument : bytes_eq word (codes "instrument") ≡ false
  check : bytes_eq word (codes "check") ≡ false
  generate : bytes_eq word (codes "generate") ≡ false
  surface : bytes_eq word (codes "surface") ≡ false
  why : bytes_eq word (codes "why") ≡ false

none_said : (word : Text) (rest : List Text) → Unnamed word → command_of (word ∷ rest) ≡ None
none_said word [] un = refl
none_said word (a ∷ []) un =
    one_none (bytes_eq word (codes "run")) (bytes_eq word (codes "generate")) (bytes_eq word (codes "surface"))
    (if_words (is_name a) (Run a)) (option_map Generate (count_of a)) (if_words (is_name a) (Surface a)) un.run un.generate un.surface
none_said word (a ∷ b ∷ []) un =
    two_none (is_name a && is_name b) (bytes_eq word (codes "replay")) (bytes_eq word (codes "instrument")) (bytes_eq word (codes "why")) (Replay a b) (Instrument a b) (Why a b) un.replay un.instrument un.why
none_said word (a ∷ b ∷ c ∷ []) un = three_none (bytes_eq word (codes "check")) (is_name a && (is_name b && is_name c)) (Check a b c) un.check
none_said word (a ∷ b ∷ c ∷ d ∷ rest) un = refl

unnamed : (word : Text) (rest : List Text) → list_all is_name (word ∷ rest) ≡ true → Unnamed word → IsRead (word ∷ rest)
unfolding clap_on_literals
unnamed word rest named un =
    let none : subcommand_met names idle word ≡ None =
    none_found (answers_to word) (apart (codes "run") word un.run) (apart (codes "replay") word un.replay) (apart (codes "instrument") word un.instrument)
    (apart (codes "check") word un.check) (apart (codes "generate") word un.generate) (apart (codes "surface") word un.surface) (apart (codes "why") word un.why) in
    let fault : walk_fault top names (walk_from nothing_held) (word ∷ rest) ≡ kind.UnknownArgument ∷ kind.InvalidSubcommand ∷ [] =
    stray top names 1 nothing_held word rest (and_parts (is_name word) (list_all is_name rest) named).0 none in
    inr ((kind.UnknownArgument, kind.InvalidSubcommand ∷ [], ap (λ (kinds : Kinds). whole (walk top.rules names nothing_held (word ∷ rest)) kinds) fault), none_said word rest un)

-- ---- all words

-- a word is a command's name, or it is not
known : (word : Text) (rest : List Text) → list_all is_name (word ∷ rest) ≡ true → (name : Text) (a : App) → Enters name (leaf a) rest → (list_all is_name rest ≡ true → Reads name (leaf a) rest)
    → (bytes_eq word name ≡ false → IsRead (word ∷ rest)) → IsRead (word ∷ rest)
known word rest named name a enters reads otherwise = on (bytes_eq word name) refl where
  on : (b : Bool) → bytes_eq word name ≡ b → IsRead (word ∷ rest)
  on true is =
      let read = read_by name (leaf a) rest enters (reads (and_parts (is_name word) (list_all is_name rest) named).1) in
      subst (λ (w : Text). IsRead (w ∷ rest)) (sym ((bytes_eq-Decides word name).0 is)) read
  on false is = otherwise is

pub is_read : (words : List Text) → list_all is_name words ≡ true → IsRead words
unfolding clap_on_literals
is_read [] named = inr ((kind.MissingSubcommand, [], refl), refl)
is_read (word ∷ rest) named =
    known word rest named (codes "run") run_app (enters (codes "run") (leaf run_app) rest refl refl refl refl) (run_reads rest) (λ run.
    known word rest named (codes "replay") replay_app (enters (codes "replay") (leaf replay_app) rest refl refl refl refl) (replay_reads rest) (λ replay.
    known word rest named (codes "instrument") instrument_app (enters (codes "instrument") (leaf instrument_app) rest refl refl refl refl) (instrument_reads rest) (λ instrument.
    known word rest named (codes "check") check_app (enters (codes "check") (leaf check_app) rest refl refl refl refl) (check_reads rest) (λ check.
    known word rest named (codes "generate") generate_app (enters (codes "generate") (leaf generate_app) rest refl refl refl refl) (generate_reads rest) (λ generate.
    known word rest named (codes "surface") surface_app (enters (codes "surface") (leaf surface_app) rest refl refl refl refl) (surface_reads rest) (λ surface.
    known word rest named (codes "why") why_app (enters (codes "why") (leaf why_app) rest refl refl refl refl) (why_reads rest) (λ why.
    unnamed word rest named (record { run = run; replay = replay; instrument = instrument; check = check; generate = generate; surface = surface; why = why }))))))))

-- ---- both outcomes of the parser

pub read_ok : (words : List Text) → list_all is_name words ≡ true → fault_of tree_app words ≡ [] → command_of words ≡ command_found (subcommand_of tree_app words)
read_ok words named free = on (is_read words named) where
  on : IsRead words → command_of words ≡ command_found (subcommand_of tree_app words)
  on (inl read) = read.1
  on (inr ((k, ks, fails), none)) = let bad : k ∷ ks ≡ [] = sym fails ∙ free in absurd (cc)

pub read_err : (words : List Text) (e : Error) → list_all is_name words ≡ true → HasKind (fault_of tree_app words) e → (kind_of e ≡ kind.OutOfMemory → ⊥) → command_of words ≡ None
read_err words e named has other = on (is_read words named) where
  on : IsRead words → command_of words ≡ None
  on (inl read) = absurd (elim (subst (λ (kinds : Kinds). HasKind kinds e) read.0 has) [
    | inl memory ↦ other memory
    | inr absent ↦ absent
  ])
  on (inr (fails, none)) = none

-- `is_simple` of the commands, which the parser's contracts ask for
pub tree_simple : is_simple tree_app ≡ true
tree_simple = refl

pub tree_free : is_simple_and_free tree_app ≡ true
tree_free = refl
