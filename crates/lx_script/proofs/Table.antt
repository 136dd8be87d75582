-- The table of modules, as the list of modules.
use Rattle.std.proofs.Common.{◌≡◌, ℕ, ◌+◌, ◌≤◌, List, [], ◌∷◌, ◌++◌, length, map, Bool, true, false, cond, Some, None, refl, sym, ap, ◌∙◌, arith, append_assoc, Bor}
use Rattle.std.specs.Prelude.{nat_lt, not, is_some, position, bytes_eq}
use Rattle.std.specs.List.{prefix_len, position_or_len}
use Rattle.std.specs.Map.{keys_of}
use Rattle.std.proofs.lemmas.Bool.{cond-true, cond-false, ltb-false}
use Rattle.indexmap.specs.IndexMap.{insert_entry}
use Rattle.lx_script.specs.declared.case.CaseModule.{CaseModule}
use Rattle.lx_script.specs.Reading.{names_of}

abbrev pub Entry : Type 0
Entry = Bor (List ℕ) × Bor (List ℕ)

abbrev pub module_in : Entry → CaseModule
module_in e = record { name = e.0.now; file = e.1.now }

abbrev pub modules_in : List Entry → List CaseModule
modules_in es = map module_in es

abbrev has_key : List ℕ → Bor (List ℕ) → Bool
has_key name key = bytes_eq name key.now

same_prefix : (name : List ℕ) (es : List Entry) → prefix_len (λ k. not (has_key name k)) (keys_of es) ≡ prefix_len (λ n. not (bytes_eq name n)) (names_of (modules_in es))
same_prefix name [] = refl
same_prefix name (e ∷ es) = ap (λ n. cond (not (bytes_eq name e.0.now)) (1 + n) 0) (same_prefix name es)

same_length : (es : List Entry) → length (keys_of es) ≡ length (names_of (modules_in es))
same_length [] = refl
same_length (e ∷ es) = omega (arith, same_length es)

pub same_position : (name : List ℕ) (es : List Entry) → position (has_key name) (keys_of es) ≡ position (bytes_eq name) (names_of (modules_in es))
same_position name es = rw (same_prefix name es, same_length es) refl

-- a name that no module has
is_there : (b : Bool) (n : ℕ) → is_some (cond b (Some n) None) ≡ b
is_there true n = refl
is_there false n = refl

all_pass_by : (p : List ℕ → Bool) (key : Bor (List ℕ)) (value : Bor (List ℕ)) (e : Entry) (es : List Entry) (v : Bool) → bytes_eq key.now e.0.now ≡ v → length (names_of (modules_in (e ∷ es))) ≤ prefix_len (λ n. not (bytes_eq key.now n)) (names_of (modules_in (e ∷ es))) → (length (names_of (modules_in es)) ≤ prefix_len (λ n. not (bytes_eq key.now n)) (names_of (modules_in es)) → insert_entry (λ x y. bytes_eq x.now y.now) es key value ≡ es ++ (key, value) ∷ []) → insert_entry (λ x y. bytes_eq x.now y.now) (e ∷ es) key value ≡ e ∷ (es ++ (key, value) ∷ [])
all_pass_by p key value e es true same h rest =
    let none : prefix_len (λ n. not (bytes_eq key.now n)) (names_of (modules_in (e ∷ es))) ≡ 0 = cond-false (not (bytes_eq key.now e.0.now)) _ _ (ap not same) in
    absurd (omega (arith, h, none))
all_pass_by p key value e es false same h rest =
    let more : prefix_len (λ n. not (bytes_eq key.now n)) (names_of (modules_in (e ∷ es))) ≡ 1 + prefix_len (λ n. not (bytes_eq key.now n)) (names_of (modules_in es)) = cond-true (not (bytes_eq key.now e.0.now)) _ _ (ap not same) ∙ omega arith in
    cond-false (bytes_eq key.now e.0.now) _ _ same ∙ ap (λ l. e ∷ l) (rest (omega (arith, h, more)))

all_pass : (key value : Bor (List ℕ)) (es : List Entry) → length (names_of (modules_in es)) ≤ prefix_len (λ n. not (bytes_eq key.now n)) (names_of (modules_in es)) → insert_entry (λ x y. bytes_eq x.now y.now) es key value ≡ es ++ (key, value) ∷ []
all_pass key value [] h = refl
all_pass key value (e ∷ es) h = all_pass_by (bytes_eq key.now) key value e es (bytes_eq key.now e.0.now) refl h (all_pass key value es)

modules_more : (es : List Entry) (e : Entry) → modules_in (es ++ e ∷ []) ≡ modules_in es ++ module_in e ∷ []
modules_more [] e = refl
modules_more (x ∷ es) e = ap (λ l. module_in x ∷ l) (modules_more es e)

pub added : (key value : Bor (List ℕ)) (es new : List Entry) → is_some (position (bytes_eq key.now) (names_of (modules_in es))) ≡ false → new ≡ insert_entry (λ x y. bytes_eq x.now y.now) es key value → modules_in new ≡ modules_in es ++ record { name = key.now; file = value.now } ∷ []
added key value es new absent e =
    let names = names_of (modules_in es) in
    let at = position_or_len (bytes_eq key.now) names in
    let past : nat_lt at (length names) ≡ false = sym (is_there (nat_lt at (length names)) at) ∙ absent in
    ap modules_in (e ∙ all_pass key value es (ltb-false at (length names) past)) ∙ modules_more es (key, value)

-- a module more on the list
pub list_more : (list new : List CaseModule) (rest after : List Entry) (e : Entry) (all : List CaseModule) → list ++ modules_in rest ≡ all → rest ≡ e ∷ after → new ≡ list ++ module_in e ∷ [] → new ++ modules_in after ≡ all
list_more list new rest after e all h r n = ap (λ l. l ++ modules_in after) n ∙ append_assoc list (module_in e ∷ []) (modules_in after) ∙ ap (λ t. list ++ modules_in t) (sym r) ∙ h
