-- What the parser makes of the words behind the name of a command.
use Rattle.std.proofs.Common.{◌≡◌, ◌⊎◌, inl, inr, ◌∙◌, ℕ, Bool, true, false, ◌&&◌, List, [], ◌∷◌, codes, Option, Some, None, if◌then◌else◌, refl, sym, ap, ap₂}
use Rattle.std.specs.List.{list_all}
use Rattle.std.specs.Str.{bytes_eq}
use Rattle.std.proofs.lemmas.Bool.{and_parts, and_from}
use Rattle.clap.specs.Walk.{Held, Row, Text, Walk, value, arg_by_index, to_positional, nothing_held, walk_from, walk, walked, finished, settled, rows_after}
use Rattle.clap.specs.Simple.{App, Shape, built_leaf, inherited}
use Rattle.clap.specs.Kinds.{Kinds, or_else}
use Rattle.clap.specs.Faults.{step_fault, walk_fault, settle_fault, defaults_fault, check_fault, level_fault}
use Rattle.clap.specs.declared.error.kind.ErrorKind.{ErrorKind}
use Rattle.clap.specs.declared.error.kind.ErrorKind.TheVariants as kind
use Rattle.clap.proofs.OnLiterals.{clap_on_literals}
use Rattle.lx_cli.specs.Words.{Command, Run, Check, Surface, is_name, if_words, one_name, two_names, command_of}
use Rattle.lx_cli.specs.Matched.{command_by}
use Rattle.lx_cli.specs.Tree.{check_app, generate_app, instrument_app, replay_app, run_app, surface_app, top_app, why_app}
use Rattle.lx_cli.proofs.Named.{Walks, at, fault_more, stray, walks_end, walks_more}

-- a command as the parser builds it
abbrev pub leaf : App → Shape
leaf a = built_leaf (inherited top_app.top a.top)

-- what follows a walk that has no fault
abbrev after : Shape → Held → Kinds
after s h = or_else (settle_fault s.rules s.args_override_self h)
    (or_else (defaults_fault (settled s.rules h).rows s.rules) (check_fault s (finished s.rules h) false))

-- the words are refused
abbrev pub Fails : Shape → List Text → Type 0
Fails s words = (k : ErrorKind) × (ks : Kinds) × (level_fault s [] nothing_held words false [] ≡ k ∷ ks)

-- the words are taken, with these rows
abbrev pub Takes : Shape → List Text → List Row → Type 0
Takes s words rows = (level_fault s [] nothing_held words false [] ≡ []) × (rows_after s.rules [] words ≡ rows)

level_is : (s : Shape) (words : List Text) (end : Walk) → Walks s (walk_from nothing_held) words end
    → level_fault s [] nothing_held words false [] ≡ after s end.held
level_is s words end walks = ap₂ (λ (kinds : Kinds) (w : Walk). or_else kinds (after s w.held)) walks.fault walks.end_is

level_fails : (s : Shape) (words : List Text) (k : ErrorKind) (ks : Kinds) → walk_fault s [] (walk_from nothing_held) words ≡ k ∷ ks → Fails s words
level_fails s words k ks is = (k, ks, ap (λ (kinds : Kinds). or_else kinds (after s (walk s.rules [] nothing_held words).held)) is)

takes : (s : Shape) (words : List Text) (end : Walk) (rows : List Row) → Walks s (walk_from nothing_held) words end
    → after s end.held ≡ [] → finished s.rules end.held ≡ rows → Takes s words rows
takes s words end rows walks free is = (level_is s words end walks ∙ free, ap (λ (w : Walk). finished s.rules w.held) walks.end_is ∙ is)

lacks : (s : Shape) (words : List Text) (end : Walk) (k : ErrorKind) (ks : Kinds) → Walks s (walk_from nothing_held) words end
    → after s end.held ≡ k ∷ ks → Fails s words
lacks s words end k ks walks is = (k, ks, level_is s words end walks ∙ is)

-- where the walk stands after a first, a second and a third word

module _ (s : Shape) where
  abbrev held_1 : Text → Held
  held_1 a = (to_positional s.rules (arg_by_index s.rules 1) a (at 1 nothing_held) nothing_held).held

  abbrev held_2 : Text → Text → Held
  held_2 a b = (to_positional s.rules (arg_by_index s.rules 2) b (at 2 (held_1 a)) (held_1 a)).held

  abbrev held_3 : Text → Text → Text → Held
  held_3 a b c = (to_positional s.rules (arg_by_index s.rules 3) c (at 3 (held_2 a b)) (held_2 a b)).held

  abbrev First : Type 0
  First = (step_fault s 1 nothing_held value ≡ []) × ((a : Text) → to_positional s.rules (arg_by_index s.rules 1) a (at 1 nothing_held) nothing_held ≡ at 2 (held_1 a))

  abbrev Second : Type 0
  Second = (a : Text) → (step_fault s 2 (held_1 a) value ≡ [])
      × ((b : Text) → to_positional s.rules (arg_by_index s.rules 2) b (at 2 (held_1 a)) (held_1 a) ≡ at 3 (held_2 a b))

  abbrev Third : Type 0
  Third = (a b : Text) → (step_fault s 3 (held_2 a b) value ≡ [])
      × ((c : Text) → to_positional s.rules (arg_by_index s.rules 3) c (at 3 (held_2 a b)) (held_2 a b) ≡ at 4 (held_3 a b c))

  walks_1 : First → (a : Text) (rest : List Text) (end : Walk) → is_name a ≡ true → Walks s (at 2 (held_1 a)) rest end → Walks s (at 1 nothing_held) (a ∷ rest) end
  walks_1 first a rest end named walks = walks_more s 1 nothing_held (at 2 (held_1 a)) a rest end named first.0 (first.1 a) walks

  walks_2 : Second → (a b : Text) (rest : List Text) (end : Walk) → is_name b ≡ true → Walks s (at 3 (held_2 a b)) rest end → Walks s (at 2 (held_1 a)) (b ∷ rest) end
  walks_2 second a b rest end named walks = walks_more s 2 (held_1 a) (at 3 (held_2 a b)) b rest end named (second a).0 ((second a).1 b) walks

  walks_3 : Third → (a b c : Text) (rest : List Text) (end : Walk) → is_name c ≡ true → Walks s (at 4 (held_3 a b c)) rest end → Walks s (at 3 (held_2 a b)) (c ∷ rest) end
  walks_3 third a b c rest end named walks = walks_more s 3 (held_2 a b) (at 4 (held_3 a b c)) c rest end named (third a b).0 ((third a b).1 c) walks

  fault_1 : First → (a : Text) (rest : List Text) → is_name a ≡ true → walk_fault s [] (at 1 nothing_held) (a ∷ rest) ≡ walk_fault s [] (at 2 (held_1 a)) rest
  fault_1 first a rest named = fault_more s 1 nothing_held (at 2 (held_1 a)) a rest named first.0 (first.1 a)

  fault_2 : Second → (a b : Text) (rest : List Text) → is_name b ≡ true → walk_fault s [] (at 2 (held_1 a)) (b ∷ rest) ≡ walk_fault s [] (at 3 (held_2 a b)) rest
  fault_2 second a b rest named = fault_more s 2 (held_1 a) (at 3 (held_2 a b)) b rest named (second a).0 ((second a).1 b)

  fault_3 : Third → (a b c : Text) (rest : List Text) → is_name c ≡ true → walk_fault s [] (at 3 (held_2 a b)) (c ∷ rest) ≡ walk_fault s [] (at 4 (held_3 a b c)) rest
  fault_3 third a b c rest named = fault_more s 3 (held_2 a b) (at 4 (held_3 a b c)) c rest named (third a b).0 ((third a b).1 c)

  -- what each number of words comes to

  none_given : (k : ErrorKind) → after s nothing_held ≡ k ∷ [] → Fails s []
  none_given k is = lacks s [] (at 1 nothing_held) k [] (walks_end s (at 1 nothing_held)) is

  one_given : First → (a : Text) → is_name a ≡ true → Walks s (at 1 nothing_held) (a ∷ []) (at 2 (held_1 a))
  one_given first a na = walks_1 first a [] (at 2 (held_1 a)) na (walks_end s (at 2 (held_1 a)))

  two_given : First → Second → (a b : Text) → is_name a ≡ true → is_name b ≡ true → Walks s (at 1 nothing_held) (a ∷ b ∷ []) (at 3 (held_2 a b))
  two_given first second a b na nb = walks_1 first a (b ∷ []) (at 3 (held_2 a b)) na (walks_2 second a b [] (at 3 (held_2 a b)) nb (walks_end s (at 3 (held_2 a b))))

  three_given : First → Second → Third → (a b c : Text) → is_name a ≡ true → is_name b ≡ true → is_name c ≡ true
      → Walks s (at 1 nothing_held) (a ∷ b ∷ c ∷ []) (at 4 (held_3 a b c))
  three_given first second third a b c na nb nc =
      walks_1 first a (b ∷ c ∷ []) (at 4 (held_3 a b c)) na (walks_2 second a b (c ∷ []) (at 4 (held_3 a b c)) nb
      (walks_3 third a b c [] (at 4 (held_3 a b c)) nc (walks_end s (at 4 (held_3 a b c)))))

-- ---- what is read of the words

abbrev pub Reads : Text → Shape → List Text → Type 0
Reads name s rest = ((level_fault s [] nothing_held rest false [] ≡ []) × (command_of (name ∷ rest) ≡ command_by name (rows_after s.rules [] rest)))
    ⊎ (Fails s rest × (command_of (name ∷ rest) ≡ None))

pub same_if : (b : Bool) → ◌≡◌ {A = Option Command} (if b then None else None) None
same_if true = refl
same_if false = refl

pub if_named : (b : Bool) (x : Option Command) → b ≡ true → ◌≡◌ {A = Option Command} (if b then x else None) x
if_named true x is = refl
if_named false x is = absurd (cc)

abbrev missing : ErrorKind
missing = kind.MissingRequiredArgument

-- ---- by the number of words that it takes

module _ (name : Text) (s : Shape) (none : after s nothing_held ≡ missing ∷ []) (first : First s) where
  abbrev unknown : Kinds
  unknown = kind.UnknownArgument ∷ []

  -- where no word more has a place
  one_over : (h : Held) (position : ℕ) (words rest : List Text) (b : Text) → is_name b ≡ true → walk_fault s [] (walk_from nothing_held) words ≡ walk_fault s [] (at position h) (b ∷ rest)
      → step_fault s position h value ≡ unknown → Fails s words
  one_over h position words rest b named comes over =
      level_fails s words kind.UnknownArgument []
      (comes ∙ stray s [] position h b rest named refl ∙ ap (λ (kinds : Kinds). or_else kinds (walk_fault s [] (walked s.rules [] (at position h) b) rest)) over)

  -- a command of one word
  pub one_reads : ((a : Text) → after s (held_1 s a) ≡ []) → ((a : Text) → step_fault s 2 (held_1 s a) value ≡ unknown)
      → ((a : Text) → is_name a ≡ true → command_of (name ∷ a ∷ []) ≡ command_by name (finished s.rules (held_1 s a)))
      → ((a b : Text) → two_names name a b ≡ None) → bytes_eq name (codes "check") ≡ false
      → (rest : List Text) → list_all is_name rest ≡ true → Reads name s rest
  one_reads free over said two three [] named = inr (none_given s missing none, refl)
  one_reads free over said two three (a ∷ []) named =
      let na = and_parts (is_name a) (list_all is_name []) named in
      let taken = takes s (a ∷ []) (at 2 (held_1 s a)) (finished s.rules (held_1 s a)) (one_given s first a na.0) (free a) refl in
      inl (taken.0, said a na.0 ∙ sym (ap (command_by name) taken.1))
  one_reads free over said two three (a ∷ b ∷ rest) named =
      let na = and_parts (is_name a) (list_all is_name (b ∷ rest)) named in
      let nb = and_parts (is_name b) (list_all is_name rest) na.1 in
      inr (one_over (held_1 s a) 2 (a ∷ b ∷ rest) rest b nb.0 (fault_1 s first a (b ∷ rest) na.0) (over a), more rest)
    where
      more : (behind : List Text) → command_of (name ∷ a ∷ b ∷ behind) ≡ None
      more [] = ap (λ (o : Option Command). if is_name a && is_name b then o else None) (two a b) ∙ same_if (is_name a && is_name b)
      more (c ∷ []) = ap (λ (k : Bool). if_words (k && (is_name a && (is_name b && is_name c))) (Check a b c)) three
      more (c ∷ d ∷ rest) = refl

  -- and one of two
  pub two_reads : Second s → ((a : Text) → after s (held_1 s a) ≡ missing ∷ []) → ((a : Text) → one_name name a ≡ None) → ((a b : Text) → after s (held_2 s a b) ≡ []) → ((a b : Text) → step_fault s 3 (held_2 s a b) value ≡ unknown)
      → ((a b : Text) → two_names name a b ≡ command_by name (finished s.rules (held_2 s a b))) → bytes_eq name (codes "check") ≡ false
      → (rest : List Text) → list_all is_name rest ≡ true → Reads name s rest
  two_reads second lone no_one free over said three [] named = inr (none_given s missing none, refl)
  two_reads second lone no_one free over said three (a ∷ []) named =
      let na = and_parts (is_name a) (list_all is_name []) named in
      inr (lacks s (a ∷ []) (at 2 (held_1 s a)) missing [] (one_given s first a na.0) (lone a), no_one a)
  two_reads second lone no_one free over said three (a ∷ b ∷ []) named =
      let na = and_parts (is_name a) (list_all is_name (b ∷ [])) named in
      let nb = and_parts (is_name b) (list_all is_name []) na.1 in
      let taken = takes s (a ∷ b ∷ []) (at 3 (held_2 s a b)) (finished s.rules (held_2 s a b)) (two_given s first second a b na.0 nb.0) (free a b) refl in
      inl (taken.0, if_named (is_name a && is_name b) (two_names name a b) (and_from (is_name a) (is_name b) na.0 nb.0) ∙ said a b ∙ sym (ap (command_by name) taken.1))
  two_reads second lone no_one free over said three (a ∷ b ∷ c ∷ rest) named =
      let na = and_parts (is_name a) (list_all is_name (b ∷ c ∷ rest)) named in
      let nb = and_parts (is_name b) (list_all is_name (c ∷ rest)) na.1 in
      let nc = and_parts (is_name c) (list_all is_name rest) nb.1 in
      inr (one_over (held_2 s a b) 3 (a ∷ b ∷ c ∷ rest) rest c nc.0 (fault_1 s first a (b ∷ c ∷ rest) na.0 ∙ fault_2 s second a b (c ∷ rest) nb.0) (over a b), more rest)
    where
      more : (behind : List Text) → command_of (name ∷ a ∷ b ∷ c ∷ behind) ≡ None
      more [] = ap (λ (k : Bool). if_words (k && (is_name a && (is_name b && is_name c))) (Check a b c)) three
      more (d ∷ rest) = refl

-- ---- the seven commands

pub run_reads : (rest : List Text) → list_all is_name rest ≡ true → Reads (codes "run") (leaf run_app) rest
unfolding clap_on_literals
run_reads = one_reads (codes "run") (leaf run_app) refl (refl, λ a. refl) (λ a. refl) (λ a. refl) (λ a named. if_named (is_name a) (Some (Run a)) named) (λ a b. refl) refl

pub replay_reads : (rest : List Text) → list_all is_name rest ≡ true → Reads (codes "replay") (leaf replay_app) rest
unfolding clap_on_literals
replay_reads = two_reads (codes "replay") (leaf replay_app) refl (refl, λ a. refl) (λ a. (refl, λ b. refl)) (λ a. refl) (λ a. refl) (λ a b. refl) (λ a b. refl) (λ a b. refl) refl

pub instrument_reads : (rest : List Text) → list_all is_name rest ≡ true → Reads (codes "instrument") (leaf instrument_app) rest
unfolding clap_on_literals
instrument_reads = two_reads (codes "instrument") (leaf instrument_app) refl (refl, λ a. refl) (λ a. (refl, λ b. refl)) (λ a. refl) (λ a. refl) (λ a b. refl) (λ a b. refl) (λ a b. refl) refl

check_more : (a b c d : Text) (rest : List Text) → command_of (codes "check" ∷ a ∷ b ∷ c ∷ d ∷ rest) ≡ None
check_more a b c d rest = refl

pub check_reads : (rest : List Text) → list_all is_name rest ≡ true → Reads (codes "check") (leaf check_app) rest
unfolding clap_on_literals
check_reads [] named = inr (none_given (leaf check_app) missing refl, refl)
check_reads (a ∷ []) named =
    let na = and_parts (is_name a) (list_all is_name ([])) named in
    inr (lacks (leaf check_app) (a ∷ []) (at 2 (held_1 (leaf check_app) a)) missing [] (one_given (leaf check_app) (refl, λ a. refl) a na.0) refl, refl)
check_reads (a ∷ b ∷ []) named =
    let na = and_parts (is_name a) (list_all is_name (b ∷ [])) named in
    let nb = and_parts (is_name b) (list_all is_name ([])) na.1 in
    inr (lacks (leaf check_app) (a ∷ b ∷ []) (at 3 (held_2 (leaf check_app) a b)) missing [] (two_given (leaf check_app) (refl, λ a. refl) (λ a. (refl, λ b. refl)) a b na.0 nb.0) refl, same_if (is_name a && is_name b))
check_reads (a ∷ b ∷ c ∷ []) named =
    let na = and_parts (is_name a) (list_all is_name (b ∷ c ∷ [])) named in
    let nb = and_parts (is_name b) (list_all is_name (c ∷ [])) na.1 in
    let nc = and_parts (is_name c) (list_all is_name ([])) nb.1 in
    let taken = (takes (leaf check_app) (a ∷ b ∷ c ∷ []) (at 4 (held_3 (leaf check_app) a b c)) (finished (leaf check_app).rules (held_3 (leaf check_app) a b c)) (three_given (leaf check_app) (refl, λ a. refl) (λ a. (refl, λ b. refl)) (λ a b. (refl, λ c. refl)) a b c na.0 nb.0 nc.0) refl refl) in
    inl (taken.0, if_named (is_name a && (is_name b && is_name c)) (Some (Check a b c)) (and_from (is_name a) (is_name b && is_name c) na.0 (and_from (is_name b) (is_name c) nb.0 nc.0)) ∙ sym (ap (command_by (codes "check")) taken.1))
check_reads (a ∷ b ∷ c ∷ d ∷ rest) named =
    let na = and_parts (is_name a) (list_all is_name (b ∷ c ∷ d ∷ rest)) named in
    let nb = and_parts (is_name b) (list_all is_name (c ∷ d ∷ rest)) na.1 in
    let nc = and_parts (is_name c) (list_all is_name (d ∷ rest)) nb.1 in
    let nd = and_parts (is_name d) (list_all is_name (rest)) nc.1 in
    inr (level_fails (leaf check_app) (a ∷ b ∷ c ∷ d ∷ rest) kind.UnknownArgument [] (fault_1 (leaf check_app) (refl, λ a. refl) a (b ∷ c ∷ d ∷ rest) na.0 ∙ fault_2 (leaf check_app) (λ a. (refl, λ b. refl)) a b (c ∷ d ∷ rest) nb.0 ∙ fault_3 (leaf check_app) (λ a b. (refl, λ c. refl)) a b c (d ∷ rest) nc.0 ∙ stray (leaf check_app) [] 4 (held_3 (leaf check_app) a b c) d rest nd.0 refl), check_more a b c d rest)

pub generate_reads : (rest : List Text) → list_all is_name rest ≡ true → Reads (codes "generate") (leaf generate_app) rest
unfolding clap_on_literals
generate_reads = one_reads (codes "generate") (leaf generate_app) refl (refl, λ a. refl) (λ a. refl) (λ a. refl) (λ a named. refl) (λ a b. refl) refl

pub surface_reads : (rest : List Text) → list_all is_name rest ≡ true → Reads (codes "surface") (leaf surface_app) rest
unfolding clap_on_literals
surface_reads = one_reads (codes "surface") (leaf surface_app) refl (refl, λ a. refl) (λ a. refl) (λ a. refl) (λ a named. if_named (is_name a) (Some (Surface a)) named) (λ a b. refl) refl

pub why_reads : (rest : List Text) → list_all is_name rest ≡ true → Reads (codes "why") (leaf why_app) rest
unfolding clap_on_literals
why_reads = two_reads (codes "why") (leaf why_app) refl (refl, λ a. refl) (λ a. (refl, λ b. refl)) (λ a. refl) (λ a. refl) (λ a b. refl) (λ a b. refl) (λ a b. refl) refl
