-- What the parser makes of a word that is no option.
use Rattle.std.proofs.Common.{◌≡◌, ◌∙◌, ℕ, nat_eq, Bool, true, false, not, ◌&&◌, List, [], ◌∷◌, Option, None, fold, refl, ap, ap₂}
use Rattle.clap.specs.Walk.{Held, Names, Rule, Step, Text, Walk, idle, value, subcommand_met, subcommand_or_other, walked, after_step, to_positional, arg_by_index}
use Rattle.clap.specs.Simple.{Shape}
use Rattle.clap.specs.Kinds.{Kinds, or_else}
use Rattle.clap.specs.Faults.{other_fault, turn_fault, step_fault, walk_fault}
use Rattle.lx_cli.specs.Words.{is_name}

off : (b : Bool) → not (b && true) ≡ true → b ≡ false
off true named = absurd (cc)
off false named = refl

not_hyphen : (x : ℕ) (xs : Text) → is_name (x ∷ xs) ≡ true → nat_eq x 45 ≡ false
not_hyphen x xs named = off (nat_eq x 45) named

other_plain : (c : List Rule) (position : ℕ) (word : Text) (h : Held) → is_name word ≡ true → subcommand_or_other c None idle position word h ≡ (h, value)
other_plain c position [] h named = refl
other_plain c position (x ∷ xs) h named = let e = not_hyphen x xs named in rw (e, e) refl

no_fault : (s : Shape) (word : Text) (h : Held) → is_name word ≡ true → other_fault s None word h ≡ []
no_fault s [] h named = refl
no_fault s (x ∷ xs) h named = let e = not_hyphen x xs named in rw (e, e) refl

-- where a walk stands at this position
abbrev pub at : ℕ → Held → Walk
at position h = record { held = h; waiting = idle; position = position; is_trailing = false; stopped = None }

pub turn_plain : (s : Shape) (names : Names) (position : ℕ) (h : Held) (word : Text) → is_name word ≡ true → subcommand_met names idle word ≡ None
    → turn_fault s names (at position h) word ≡ step_fault s position h value
turn_plain s names position h word named none =
    ap₂ (λ (kinds : Kinds) (met : Held × Step). or_else kinds (step_fault s position met.0 met.1))
    (ap (λ (o : Option Text). other_fault s o word h) none ∙ no_fault s word h named)
    (ap (λ (o : Option Text). subcommand_or_other s.rules o idle position word h) none ∙ other_plain s.rules position word h named)

pub walked_plain : (c : List Rule) (position : ℕ) (h : Held) (word : Text) → is_name word ≡ true
    → walked c [] (at position h) word ≡ to_positional c (arg_by_index c position) word (at position h) h
unfolding walked
walked_plain c position h word named =
    ap (λ (met : Held × Step). after_step c word (at position h) met.0 met.1) (other_plain c position word h named)

-- a walk over words ends here, with no fault
pub record Walks (s : Shape) (w : Walk) (words : List Text) (end : Walk) : Type 0 where
  pub fault : walk_fault s [] w words ≡ []
  pub end_is : fold (walked s.rules []) w words ≡ end

pub walks_end : (s : Shape) (w : Walk) → Walks s w [] w
unfolding walk_fault
walks_end s w = record { fault = refl; end_is = refl }

-- one more word is taken
pub fault_more : (s : Shape) (position : ℕ) (h : Held) (w : Walk) (word : Text) (rest : List Text) → is_name word ≡ true
    → step_fault s position h value ≡ [] → to_positional s.rules (arg_by_index s.rules position) word (at position h) h ≡ w
    → walk_fault s [] (at position h) (word ∷ rest) ≡ walk_fault s [] w rest
unfolding walk_fault
fault_more s position h w word rest named free next =
    ap₂ (λ (kinds : Kinds) (v : Walk). or_else kinds (walk_fault s [] v rest))
    (turn_plain s [] position h word named refl ∙ free) (walked_plain s.rules position h word named ∙ next)

pub walks_more : (s : Shape) (position : ℕ) (h : Held) (w : Walk) (word : Text) (rest : List Text) (end : Walk) → is_name word ≡ true
    → step_fault s position h value ≡ [] → to_positional s.rules (arg_by_index s.rules position) word (at position h) h ≡ w
    → Walks s w rest end → Walks s (at position h) (word ∷ rest) end
walks_more s position h w word rest end named free next walks = record {
  fault = fault_more s position h w word rest named free next ∙ walks.fault;
  end_is = ap (λ (v : Walk). fold (walked s.rules []) v rest) (walked_plain s.rules position h word named ∙ next) ∙ walks.end_is;
}

-- a word has no place
pub stray : (s : Shape) (names : Names) (position : ℕ) (h : Held) (word : Text) (rest : List Text) → is_name word ≡ true → subcommand_met names idle word ≡ None
    → walk_fault s names (at position h) (word ∷ rest) ≡ or_else (step_fault s position h value) (walk_fault s names (walked s.rules names (at position h) word) rest)
unfolding walk_fault
stray s names position h word rest named none =
    ap (λ (kinds : Kinds). or_else kinds (walk_fault s names (walked s.rules names (at position h) word) rest)) (turn_plain s names position h word named none)
