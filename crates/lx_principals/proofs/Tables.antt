-- A table of names, as the list of the acts that gave them.
use Rattle.std.proofs.Common.{◌≡◌, ◌∙◌, refl, sym, ap, ℕ, Bool, true, false, ◌&&◌, nat_eq, cond, Option, Some, None, List, [], ◌∷◌, ◌++◌, map, reverse, if◌then◌else◌, arith}
use Rattle.std.specs.List.{IsDistinct, AllByRecursion}
use Rattle.std.specs.Map.{keys_of, lookup}
use Rattle.std.proofs.lemmas.Bool.{cond-false}
use Rattle.std.proofs.lemmas.Bool.Decides.{nat_tests}
use Rattle.std.proofs.lemmas.List.{map-append, reverse-append}
use Rattle.indexmap.specs.IndexMap.{insert_entry}
use Rattle.lx_caps.specs.declared.Naming.{Naming}
use Rattle.lx_caps.specs.Names.{Namings, named}
use Rattle.lx_principals.specs.Kept.{Entry, same_pair, naming, namings}

last_by : (e : Entry) (es : List Entry) (x : ℕ × ℕ) (v : ℕ) (b : Bool) → b ≡ same_pair x e.0 → cond b (Some e.1) (lookup (same_pair x) es) ≡ None
    → (lookup (same_pair x) es ≡ None → insert_entry same_pair es x v ≡ es ++ (x, v) ∷ [])
    → cond b ((e.0, v) ∷ es) (e ∷ insert_entry same_pair es x v) ≡ e ∷ (es ++ (x, v) ∷ [])
last_by e es x v true is none rest = absurd cc
last_by e es x v false is none rest = ap (λ l. e ∷ l) (rest none)

-- a new key goes to the end
pub goes_last : (es : List Entry) (x : ℕ × ℕ) (v : ℕ) → lookup (same_pair x) es ≡ None → insert_entry same_pair es x v ≡ es ++ (x, v) ∷ []
goes_last [] x v none = refl
goes_last (e ∷ es) x v none = last_by e es x v (same_pair x e.0) refl none (goes_last es x v)

-- the act of an entry more is the newest
pub namings_more : (es : List Entry) (e : Entry) → namings (es ++ e ∷ []) ≡ naming e ∷ namings es
namings_more es e = ap reverse (map-append naming es (e ∷ [])) ∙ reverse-append (map naming es) (naming e ∷ [])

namings_first : (e : Entry) (es : List Entry) → namings (e ∷ es) ≡ namings es ++ naming e ∷ []
namings_first e es = reverse-append (naming e ∷ []) (map naming es)

-- the newer answer, or else the older one
abbrev newer : Option ℕ → Option ℕ → Option ℕ
newer (Some k) old = Some k
newer None old = old

newer_by : (b : Bool) (k : ℕ) (x y : Option ℕ) → (if b then Some k else newer x y) ≡ newer (if b then Some k else x) y
newer_by true k x y = refl
newer_by false k x y = refl

named_behind : (acts : Namings) (act : Naming) (m v : ℕ) → named (acts ++ act ∷ []) m v ≡ newer (named acts m v) (if nat_eq act.«module» m && nat_eq act.value v then Some act.instance else None)
named_behind [] act m v = refl
named_behind (a ∷ acts) act m v =
    ap (λ (o : Option ℕ). if nat_eq a.«module» m && nat_eq a.value v then Some a.instance else o) (named_behind acts act m v)
    ∙ newer_by (nat_eq a.«module» m && nat_eq a.value v) a.instance (named acts m v) _

turned : (a b c d : ℕ) → (nat_eq a b && nat_eq c d) ≡ (nat_eq b a && nat_eq d c)
turned a b c d = grind (arith, nat_tests)

same_as : (x y z : ℕ × ℕ) → same_pair x y ≡ true → same_pair y z ≡ false → same_pair x z ≡ false
same_as x y z e f = grind (arith, nat_tests)

-- what differs from each key is not found
absent : (es : List Entry) (x y : ℕ × ℕ) → same_pair x y ≡ true → AllByRecursion (λ z. same_pair y z ≡ false) (keys_of es) → lookup (same_pair x) es ≡ None
absent [] x y e all = refl
absent (f ∷ es) x y e all = cond-false (same_pair x f.0) (Some f.1) (lookup (same_pair x) es) (same_as x y f.0 e all.0) ∙ absent es x y e all.1

found_by : (b : Bool) (k : ℕ) (old new : Option ℕ) → (b ≡ true → old ≡ None) → newer old (if b then Some k else None) ≡ cond b (Some k) old
found_by true k (Some j) new none = absurd (let e : Some j ≡ None = none refl in cc)
found_by true k None new none = refl
found_by false k (Some j) new none = refl
found_by false k None new none = refl

distinct_parts : (e : Entry) (es : List Entry) → IsDistinct same_pair (keys_of (e ∷ es)) → AllByRecursion (λ y. same_pair e.0 y ≡ false) (keys_of es) × IsDistinct same_pair (keys_of es)
unfolding IsDistinct
distinct_parts e es d = d

-- what the table finds is what the newest act names
pub found : (es : List Entry) (m v : ℕ) → IsDistinct same_pair (keys_of es) → lookup (same_pair (m, v)) es ≡ named (namings es) m v
found [] m v d = refl
found (e ∷ es) m v d =
    let parts = distinct_parts e es d in
    let rest = found es m v parts.1 in
    sym (ap (λ (acts : Namings). named acts m v) (namings_first e es)
    ∙ named_behind (namings es) (naming e) m v
    ∙ ap (λ (o : Option ℕ). newer o (if nat_eq e.0.0 m && nat_eq e.0.1 v then Some e.1 else None)) (sym rest)
    ∙ ap (λ (b : Bool). newer (lookup (same_pair (m, v)) es) (if b then Some e.1 else None)) (turned e.0.0 m e.0.1 v)
    ∙ found_by (same_pair (m, v) e.0) e.1 (lookup (same_pair (m, v)) es) None (λ is. absent es (m, v) e.0 is parts.0))
