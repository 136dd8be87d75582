-- What stands under a name after a file is replaced or added.
use Rattle.std.proofs.Common.{◌≡◌, ◌≢◌, ◌+◌, ◌<◌, ◌≤◌, ℕ, zero, suc, Bool, true, false, not, cond, List, [], ◌∷◌, ◌++◌, length, get_or, set, Option, Some, None, is_none, position, ltb, arith, refl, sym, ◌∙◌, ap}
use Rattle.std.specs.List.{position_or_len}
use Rattle.std.specs.Str.{bytes_eq}
use Rattle.std.proofs.lemmas.Slice.Eq.{bytes_eq-Decides}
use Rattle.std.proofs.lemmas.Bool.{ltb-false, false_from_ne_true, false≢true, and_parts, and_from}
use Rattle.lx_words.proofs.Options.{failed}
use Rattle.lx_words.proofs.Lists.{bytes_itself}
use Rattle.lx_outside.specs.declared.file_text.FileText.{FileText}
use Rattle.lx_outside.specs.Files.{file_at, names_differ}

-- the file has this name
abbrev pub has_name : List ℕ → FileText → Bool
has_name name file = bytes_eq file.name name

other_name : (name other : List ℕ) → other ≢ name → bytes_eq name other ≡ false
other_name name other differ =
    false_from_ne_true _ (λ same. differ (sym ((bytes_eq-Decides name other).0 same)))

-- names that are not found equal differ
apart : (name other : List ℕ) → bytes_eq name other ≡ false → name ≢ other
apart name other h same = false≢true (sym h ∙ (bytes_eq-Decides name other).1 same)

-- a look-up that misses the first file goes on behind it
missed : (hit : Bool) (bytes : List ℕ) (rest : Option (List ℕ)) (n size : ℕ) → (size ≤ n → rest ≡ None) → suc size ≤ cond (not hit) (1 + n) 0 → cond hit (Some bytes) rest ≡ None
missed true bytes rest n size more h = absurd (omega arith)
missed false bytes rest n size more h = more (omega arith)

-- where the first place of the name is past the end, nothing stands under it
misses : (files : List FileText) (name : List ℕ) → length files ≤ position_or_len (has_name name) files → file_at files name ≡ None
misses [] name h = refl
misses (file ∷ files) name h =
    missed (has_name name file) file.bytes (file_at files name) (position_or_len (has_name name) files) (length files) (misses files name) h

-- where no file has the name, nothing stands under it
pub misses_none : (files : List FileText) (name : List ℕ) → position (has_name name) files ≡ None → file_at files name ≡ None
misses_none files name h =
    let n = position_or_len (has_name name) files in
    misses files name (ltb-false n (length files) (failed (ltb n (length files)) n h))

-- a look-up that gives nothing missed the first file
passed : (hit : Bool) (bytes : List ℕ) (rest : Option (List ℕ)) → cond hit (Some bytes) rest ≡ None → (hit ≡ false) × (rest ≡ None)
passed true bytes rest h = cc
passed false bytes rest h = (refl, h)

-- the new file is found in the place of the first of its name
pub placed : (files : List FileText) (file : FileText) (i : ℕ) → i < length files → ((k : ℕ) → k < i → has_name file.name (get_or files k file) ≡ false) → file_at (set files i file) file.name ≡ Some file.bytes
placed [] file i within before = absurd (omega arith)
placed (first ∷ files) file zero within before = rw (bytes_itself file.name) refl
placed (first ∷ files) file (suc i) within before =
    rw (before 0 (omega arith)) (placed files file i (omega arith) (λ k below. before (suc k) (omega arith)))

-- what stands under the other names stays
pub kept : (files : List FileText) (file : FileText) (i : ℕ) (other : List ℕ) → i < length files → has_name file.name (get_or files i file) ≡ true → other ≢ file.name → file_at (set files i file) other ≡ file_at files other
kept [] file i other within same differ = refl
kept (first ∷ files) file zero other within same differ =
    let name = (bytes_eq-Decides first.name file.name).0 same in
    let new = other_name file.name other differ in
    let old = other_name first.name other (λ e. differ (e ∙ name)) in
    rw (new, old) refl
kept (first ∷ files) file (suc i) other within same differ =
    ap (λ rest. cond (bytes_eq first.name other) (Some first.bytes) rest) (kept files file i other (omega arith) same differ)

-- each name still stands once
pub still_differ : (files : List FileText) (file : FileText) (i : ℕ) → i < length files → has_name file.name (get_or files i file) ≡ true → ((k : ℕ) → k < i → has_name file.name (get_or files k file) ≡ false) → names_differ files ≡ true → names_differ (set files i file) ≡ true
still_differ [] file i within same before differ = refl
still_differ (first ∷ files) file zero within same before differ =
    let name = (bytes_eq-Decides first.name file.name).0 same in
    let parts = and_parts _ _ differ in
    and_from _ _ (ap (λ n. is_none (file_at files n)) (sym name) ∙ parts.0) parts.1
still_differ (first ∷ files) file (suc i) within same before differ =
    let parts = and_parts _ _ differ in
    and_from _ _ (ap is_none (kept files file i first.name (omega arith) same (apart _ _ (before 0 (omega arith)))) ∙ parts.0) (still_differ files file i (omega arith) same (λ k below. before (suc k) (omega arith)) parts.1)

-- a new name is found at the end
pub added : (files : List FileText) (file : FileText) → file_at files file.name ≡ None → file_at (files ++ file ∷ []) file.name ≡ Some file.bytes
added [] file lacks = rw (bytes_itself file.name) refl
added (first ∷ files) file lacks =
    let past = passed (has_name file.name first) first.bytes (file_at files file.name) lacks in
    rw past.0 (added files file past.1)

-- what stands under the other names stays
pub others_stay : (files : List FileText) (file : FileText) (other : List ℕ) → other ≢ file.name → file_at (files ++ file ∷ []) other ≡ file_at files other
others_stay [] file other differ = rw (other_name file.name other differ) refl
others_stay (first ∷ files) file other differ =
    ap (λ rest. cond (bytes_eq first.name other) (Some first.bytes) rest) (others_stay files file other differ)

-- each name still stands once
pub differ_with : (files : List FileText) (file : FileText) → file_at files file.name ≡ None → names_differ files ≡ true → names_differ (files ++ file ∷ []) ≡ true
differ_with [] file lacks differ = refl
differ_with (first ∷ files) file lacks differ =
    let past = passed _ _ _ lacks in
    let parts = and_parts _ _ differ in
    and_from _ _ (ap is_none (others_stay files file first.name (apart _ _ past.0)) ∙ parts.0) (differ_with files file past.1 parts.1)
