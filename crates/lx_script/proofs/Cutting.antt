-- A text is cut at its first line, and a line at its first word.
use Rattle.std.proofs.Common.{◌≡◌, ℕ, suc, ◌+◌, ◌-◌, List, [], ◌∷◌, ◌++◌, length, take, drop, map, Bool, true, false, cond, Option, Some, None, refl, sym, ap, ◌∙◌, arith}
use Rattle.std.specs.Prelude.{◌==◌, nat_lt, nat_le, not, filter, if◌then◌else◌, slice_get}
use Rattle.std.proofs.Math.Seq.{take-length}
use Rattle.std.proofs.lemmas.List.{length-take-le}
use Rattle.std.proofs.lemmas.List.Sums.{prefix_len-le-length}
use Rattle.lx_script.proofs.Fronts.{back_ends}
use Rattle.std.specs.List.{prefix_len, slice_split, onto_first}
use Rattle.std.proofs.lemmas.Bool.{cond-true, cond-false, and_parts, eqb-true, eqb-false, leb-true, lt-ltb}
use Rattle.std.proofs.lemmas.List.Splits.{slice_split-cons_yes, slice_split-cons_no}
use Rattle.lx_words.specs.Lexemes.{is_within}
use Rattle.lx_script.specs.Lines.{Line, Statement, is_allowed, front_of, stop_of, numbered, lines_from, words_of, statement_text, statement_of, says_something, statements_from}
use Rattle.lx_script.specs.LineParts.{is_space, is_letter, said}

abbrev pub line : ℕ → List ℕ → Option ℕ → Line
line row text stop = record { row = row; text = text; stop = stop }

-- the lines of a text whose first line and rest are known
abbrev pub cut_lines : ℕ → List ℕ → List ℕ → List Line
cut_lines row front [] = line row front None ∷ []
cut_lines row front (b ∷ bs) = if b == 10 then line row front None ∷ lines_from (row + 1) bs else line row front (Some b) ∷ []

-- a byte more at the front of the first line
abbrev onto_line : ℕ → List Line → List Line
onto_line b [] = []
onto_line b (l ∷ ls) = line l.row (b ∷ l.text) l.stop ∷ ls

prefix_yes : (p : ℕ → Bool) (x : ℕ) (xs : List ℕ) → p x ≡ true → prefix_len p (x ∷ xs) ≡ suc (prefix_len p xs)
prefix_yes p x xs e = cond-true (p x) _ _ e ∙ omega arith

prefix_no : (p : ℕ → Bool) (x : ℕ) (xs : List ℕ) → p x ≡ false → prefix_len p (x ∷ xs) ≡ 0
prefix_no p x xs e = cond-false (p x) _ _ e

some_part_of : (x : ℕ) (v : Bool) (parts : List (List ℕ)) → (part : List ℕ) × (more : List (List ℕ)) × (cond v ([] ∷ parts) (onto_first x parts) ≡ part ∷ more)
some_part_of x true parts = ([], parts, refl)
some_part_of x false [] = (x ∷ [], [], refl)
some_part_of x false (p ∷ ps) = (x ∷ p, ps, refl)

some_part : (p : ℕ → Bool) (xs : List ℕ) → (part : List ℕ) × (more : List (List ℕ)) × (slice_split p xs ≡ part ∷ more)
some_part p [] = ([], [], refl)
some_part p (x ∷ xs) = some_part_of x (p x) (slice_split p xs)

-- a byte more in the first line
numbered_onto : (row : ℕ) (stop : Option ℕ) (b : ℕ) (part : List ℕ) (more : List (List ℕ)) → numbered row stop (onto_first b (part ∷ more)) ≡ onto_line b (numbered row stop (part ∷ more))
numbered_onto row stop b part [] = refl
numbered_onto row stop b part (m ∷ more) = refl

cut_onto_by : (row : ℕ) (b : ℕ) (front : List ℕ) (c : ℕ) (cs : List ℕ) (v : Bool) → onto_line b (cond v (line row front None ∷ lines_from (row + 1) cs) (line row front (Some c) ∷ [])) ≡ cond v (line row (b ∷ front) None ∷ lines_from (row + 1) cs) (line row (b ∷ front) (Some c) ∷ [])
cut_onto_by row b front c cs true = refl
cut_onto_by row b front c cs false = refl

cut_onto : (row : ℕ) (b : ℕ) (front behind : List ℕ) → onto_line b (cut_lines row front behind) ≡ cut_lines row (b ∷ front) behind
cut_onto row b front [] = refl
cut_onto row b front (c ∷ cs) = cut_onto_by row b front c cs (c == 10)

abbrev is_printed : ℕ → Bool
is_printed b = is_within 32 126 b

abbrev is_feed : ℕ → Bool
is_feed b = b == 10

-- a printed byte is no line feed
no_feed : (b : ℕ) (v : Bool) → is_printed b ≡ true → is_feed b ≡ v → v ≡ false
no_feed b false p e = refl
no_feed b true p e = absurd (omega (arith, eqb-true b 10 e, leb-true 32 b ((and_parts (nat_le 32 b) (nat_le b 126) p).0)))

abbrev CutsRight : ℕ → List ℕ → Type 0
CutsRight row text = lines_from row text ≡ cut_lines row (take (prefix_len is_printed text) text) (drop (prefix_len is_printed text) text)

printed_more : (row : ℕ) (b : ℕ) (bs : List ℕ) → is_printed b ≡ true → CutsRight row bs → CutsRight row (b ∷ bs)
printed_more row b bs p h =
    let feed : is_feed b ≡ false = no_feed b (is_feed b) p refl in
    let allowed : is_allowed b ≡ true = rw (feed, p) refl in
    let part = some_part is_feed (front_of bs) in
    let n = prefix_len is_allowed bs in
    let m = prefix_len is_printed bs in
    let count : prefix_len is_allowed (b ∷ bs) ≡ suc n = prefix_yes is_allowed b bs allowed in
    let whole : lines_from row (b ∷ bs) ≡ numbered row (stop_of bs) (slice_split is_feed (b ∷ front_of bs)) = rw count refl in
    let split : slice_split is_feed (b ∷ front_of bs) ≡ onto_first b (slice_split is_feed (front_of bs)) = slice_split-cons_no is_feed b (front_of bs) feed in
    let one : numbered row (stop_of bs) (onto_first b (slice_split is_feed (front_of bs))) ≡ onto_line b (lines_from row bs) =
    ap (λ ps. numbered row (stop_of bs) (onto_first b ps)) part.2 ∙ numbered_onto row (stop_of bs) b part.0 part.1 ∙ ap (λ ps. onto_line b (numbered row (stop_of bs) ps)) (sym part.2) in
    let printed : prefix_len is_printed (b ∷ bs) ≡ suc m = prefix_yes is_printed b bs p in
    let end : cut_lines row (b ∷ take m bs) (drop m bs) ≡ cut_lines row (take (prefix_len is_printed (b ∷ bs)) (b ∷ bs)) (drop (prefix_len is_printed (b ∷ bs)) (b ∷ bs)) = rw printed refl in
    whole ∙ ap (numbered row (stop_of bs)) split ∙ one ∙ ap (onto_line b) h ∙ cut_onto row b (take m bs) (drop m bs) ∙ end

feed_first : (row : ℕ) (b : ℕ) (bs : List ℕ) → is_printed b ≡ false → is_feed b ≡ true → CutsRight row (b ∷ bs)
feed_first row b bs p feed =
    let allowed : is_allowed b ≡ true = rw feed refl in
    let part = some_part is_feed (front_of bs) in
    let count : prefix_len is_allowed (b ∷ bs) ≡ suc (prefix_len is_allowed bs) = prefix_yes is_allowed b bs allowed in
    let whole : lines_from row (b ∷ bs) ≡ numbered row (stop_of bs) (slice_split is_feed (b ∷ front_of bs)) = rw count refl in
    let split : slice_split is_feed (b ∷ front_of bs) ≡ [] ∷ slice_split is_feed (front_of bs) = slice_split-cons_yes is_feed b (front_of bs) feed in
    let one : numbered row (stop_of bs) ([] ∷ slice_split is_feed (front_of bs)) ≡ line row [] None ∷ lines_from (row + 1) bs =
    ap (λ ps. numbered row (stop_of bs) ([] ∷ ps)) part.2 ∙ ap (λ ps. line row [] None ∷ numbered (row + 1) (stop_of bs) ps) (sym part.2) in
    let none : prefix_len is_printed (b ∷ bs) ≡ 0 = prefix_no is_printed b bs p in
    let end : line row [] None ∷ lines_from (row + 1) bs ≡ cut_lines row (take (prefix_len is_printed (b ∷ bs)) (b ∷ bs)) (drop (prefix_len is_printed (b ∷ bs)) (b ∷ bs)) = rw (none, feed) refl in
    whole ∙ ap (numbered row (stop_of bs)) split ∙ one ∙ end

stop_first : (row : ℕ) (b : ℕ) (bs : List ℕ) → is_printed b ≡ false → is_feed b ≡ false → CutsRight row (b ∷ bs)
stop_first row b bs p feed =
    let allowed : is_allowed b ≡ false = rw (feed, p) refl in
    let count : prefix_len is_allowed (b ∷ bs) ≡ 0 = prefix_no is_allowed b bs allowed in
    let none : prefix_len is_printed (b ∷ bs) ≡ 0 = prefix_no is_printed b bs p in
    let whole : lines_from row (b ∷ bs) ≡ line row [] (Some b) ∷ [] = rw count refl in
    let end : line row [] (Some b) ∷ [] ≡ cut_lines row (take (prefix_len is_printed (b ∷ bs)) (b ∷ bs)) (drop (prefix_len is_printed (b ∷ bs)) (b ∷ bs)) = rw (none, feed) refl in
    whole ∙ end

first_byte : (row : ℕ) (b : ℕ) (bs : List ℕ) (v w : Bool) → is_printed b ≡ v → is_feed b ≡ w → CutsRight row bs → CutsRight row (b ∷ bs)
first_byte row b bs true w p f h = printed_more row b bs p h
first_byte row b bs false true p f h = feed_first row b bs p f
first_byte row b bs false false p f h = stop_first row b bs p f

cuts_right : (row : ℕ) (text : List ℕ) → CutsRight row text
cuts_right row [] = refl
cuts_right row (b ∷ bs) = first_byte row b bs (is_printed b) (is_feed b) refl refl (cuts_right row bs)

-- a line before others
front_said_by : (s : Statement) (others : List Statement) (v : Bool) → cond v (s ∷ others) others ≡ cond v (s ∷ []) [] ++ others
front_said_by s others true = refl
front_said_by s others false = refl

front_said : (l : Line) (ls : List Line) → filter says_something (map statement_of (l ∷ ls)) ≡ said (statement_of l) ++ filter says_something (map statement_of ls)
front_said l ls = front_said_by (statement_of l) (filter says_something (map statement_of ls)) (says_something (statement_of l))

nothing_left : (row : ℕ) → statements_from row [] ≡ []
unfolding statements_from
nothing_left row = refl

abbrev said_line : ℕ → List ℕ → Option ℕ → Statement
said_line row text stop = record { row = row; words = words_of (statement_text text); stop = stop }

-- the statement in the first line, by what stands behind the line
pub ends_with_text : (row n : ℕ) (text front behind : List ℕ) → n ≡ prefix_len is_printed text → front ≡ take n text → behind ≡ drop n text → behind ≡ [] → statements_from row text ≡ said (said_line row front None) ++ statements_from row behind
unfolding statements_from
ends_with_text row n text front behind e f b none =
    let cut : lines_from row text ≡ cut_lines row front behind = rw (f, b, e) (cuts_right row text) in
    let one : lines_from row text ≡ line row front None ∷ [] = cut ∙ ap (cut_lines row front) none in
    ap (λ ls. filter says_something (map statement_of ls)) one ∙ front_said (line row front None) [] ∙ ap (λ t. said (said_line row front None) ++ statements_from row t) (sym none)

pub ends_with_feed : (row n : ℕ) (text front behind : List ℕ) (rest : List ℕ) → n ≡ prefix_len is_printed text → front ≡ take n text → behind ≡ drop n text → behind ≡ 10 ∷ rest → statements_from row text ≡ said (said_line row front None) ++ statements_from (row + 1) rest
unfolding statements_from
ends_with_feed row n text front behind rest e f b feed =
    let cut : lines_from row text ≡ cut_lines row front behind = rw (f, b, e) (cuts_right row text) in
    let one : lines_from row text ≡ line row front None ∷ lines_from (row + 1) rest = cut ∙ ap (cut_lines row front) feed in
    ap (λ ls. filter says_something (map statement_of ls)) one ∙ front_said (line row front None) (lines_from (row + 1) rest)

pub ends_with_byte : (row n : ℕ) (text front behind : List ℕ) (byte : ℕ) (rest : List ℕ) → n ≡ prefix_len is_printed text → front ≡ take n text → behind ≡ drop n text → behind ≡ byte ∷ rest → is_feed byte ≡ false → statements_from row text ≡ said (said_line row front (Some byte)) ++ statements_from row []
unfolding statements_from
ends_with_byte row n text front behind byte rest e f b h other =
    let cut : lines_from row text ≡ cut_lines row front behind = rw (f, b, e) (cuts_right row text) in
    let one : lines_from row text ≡ line row front (Some byte) ∷ [] = cut ∙ ap (cut_lines row front) h ∙ cond-false (byte == 10) _ _ other in
    ap (λ ls. filter says_something (map statement_of ls)) one ∙ front_said (line row front (Some byte)) []

pub none_first : (xs : List ℕ) → None ≡ slice_get xs 0 → xs ≡ []
none_first [] e = refl
none_first (x ∷ xs) e = cc

-- all but the first byte
tail_is : (x : ℕ) (xs : List ℕ) → take (length (x ∷ xs) - 1) xs ≡ xs
tail_is x xs = let n : length (x ∷ xs) - 1 ≡ length xs = omega arith in ap (λ m. take m xs) n ∙ take-length xs

pub first_and_tail : (xs : List ℕ) (b : ℕ) → Some b ≡ slice_get xs 0 → xs ≡ b ∷ take (length xs - 1) (drop 1 xs)
first_and_tail [] b e = cc
first_and_tail (x ∷ xs) b e = let same : x ≡ b = cc in ap (λ y. y ∷ xs) same ∙ ap (λ ys. b ∷ ys) (sym (tail_is x xs))

-- a space before words
spaced : (b : ℕ) (bs : List ℕ) → is_space b ≡ true → words_of (b ∷ bs) ≡ words_of bs
spaced b bs e = ap (filter (λ w. nat_lt 0 (length w))) (slice_split-cons_yes is_space b bs e)

skipped_by : (b : ℕ) (bs : List ℕ) (v : Bool) → is_space b ≡ v → words_of bs ≡ words_of (drop (prefix_len is_space bs) bs) → words_of (b ∷ bs) ≡ words_of (drop (prefix_len is_space (b ∷ bs)) (b ∷ bs))
skipped_by b bs true e h = spaced b bs e ∙ h ∙ rw (prefix_yes is_space b bs e) refl
skipped_by b bs false e h = rw (prefix_no is_space b bs e) refl

skipped : (text : List ℕ) → words_of text ≡ words_of (drop (prefix_len is_space text) text)
skipped [] = refl
skipped (b ∷ bs) = skipped_by b bs (is_space b) refl (skipped bs)

-- the parts behind the first space
abbrev behind_parts : List ℕ → List (List ℕ)
behind_parts [] = []
behind_parts (c ∷ cs) = slice_split is_space cs

letter : (b : ℕ) (v : Bool) → is_space b ≡ v → is_letter b ≡ not v
letter b v e = ap not e

front_part_by : (b : ℕ) (bs : List ℕ) (v : Bool) → is_space b ≡ v → slice_split is_space bs ≡ take (prefix_len is_letter bs) bs ∷ behind_parts (drop (prefix_len is_letter bs) bs) → slice_split is_space (b ∷ bs) ≡ take (prefix_len is_letter (b ∷ bs)) (b ∷ bs) ∷ behind_parts (drop (prefix_len is_letter (b ∷ bs)) (b ∷ bs))
front_part_by b bs true e h = slice_split-cons_yes is_space b bs e ∙ rw (prefix_no is_letter b bs (letter b true e)) refl
front_part_by b bs false e h = slice_split-cons_no is_space b bs e ∙ ap (onto_first b) h ∙ rw (prefix_yes is_letter b bs (letter b false e)) refl

front_part : (text : List ℕ) → slice_split is_space text ≡ take (prefix_len is_letter text) text ∷ behind_parts (drop (prefix_len is_letter text) text)
front_part [] = refl
front_part (b ∷ bs) = front_part_by b bs (is_space b) refl (front_part bs)

-- what stands behind a word begins with a space
behind_words_by : (c : ℕ) (cs : List ℕ) (v : Bool) → is_space c ≡ v → prefix_len is_letter (c ∷ cs) ≡ 0 → filter (λ w. nat_lt 0 (length w)) (behind_parts (c ∷ cs)) ≡ words_of (c ∷ cs)
behind_words_by c cs true e h = sym (spaced c cs e)
behind_words_by c cs false e h = let more : prefix_len is_letter (c ∷ cs) ≡ suc (prefix_len is_letter cs) = prefix_yes is_letter c cs (letter c false e) in absurd (omega arith)

behind_words : (text : List ℕ) → prefix_len is_letter text ≡ 0 → filter (λ w. nat_lt 0 (length w)) (behind_parts text) ≡ words_of text
behind_words [] h = refl
behind_words (c ∷ cs) h = behind_words_by c cs (is_space c) refl h

pub first_word : (text rest word behind : List ℕ) (m n : ℕ) → m ≡ prefix_len is_space text → rest ≡ drop m text → n ≡ prefix_len is_letter rest → word ≡ take n rest → behind ≡ drop n rest → (length word == 0) ≡ false → words_of text ≡ word ∷ words_of behind
first_word text rest word behind m n em er en ew eb some =
    let whole : words_of text ≡ words_of rest = rw (er, em) (skipped text) in
    let parts : slice_split is_space rest ≡ word ∷ behind_parts behind = rw (ew, eb, en) (front_part rest) in
    let ends : prefix_len is_letter behind ≡ 0 = rw (eb, en) (back_ends is_letter rest) in
    let long : nat_lt 0 (length word) ≡ true = lt-ltb 0 (length word) (omega (arith, eqb-false (length word) 0 some)) in
    whole ∙ ap (filter (λ w. nat_lt 0 (length w))) parts ∙ cond-true (nat_lt 0 (length word)) _ _ long ∙ ap (λ ws. word ∷ ws) (behind_words behind ends)

nothing_by : (c : ℕ) (cs : List ℕ) (v : Bool) → is_space c ≡ v → prefix_len is_space (c ∷ cs) ≡ 0 → prefix_len is_letter (c ∷ cs) ≡ 0 → ⊥
nothing_by c cs true e s l = let more : prefix_len is_space (c ∷ cs) ≡ suc (prefix_len is_space cs) = prefix_yes is_space c cs e in omega arith
nothing_by c cs false e s l = let more : prefix_len is_letter (c ∷ cs) ≡ suc (prefix_len is_letter cs) = prefix_yes is_letter c cs (letter c false e) in omega arith

nothing : (rest : List ℕ) → prefix_len is_space rest ≡ 0 → prefix_len is_letter rest ≡ 0 → rest ≡ []
nothing [] s l = refl
nothing (c ∷ cs) s l = absurd (nothing_by c cs (is_space c) refl s l)

pub no_word_left : (text rest word : List ℕ) (m n : ℕ) → m ≡ prefix_len is_space text → rest ≡ drop m text → n ≡ prefix_len is_letter rest → word ≡ take n rest → (length word == 0) ≡ true → words_of text ≡ []
no_word_left text rest word m n em er en ew none =
    let whole : words_of text ≡ words_of rest = rw (er, em) (skipped text) in
    let short : length word ≡ 0 = eqb-true (length word) 0 none in
    let count : length (take n rest) ≡ n = length-take-le n rest (omega (arith, en, prefix_len-le-length is_letter rest)) in
    let zero_letters : prefix_len is_letter rest ≡ 0 = omega (arith, en, count, short, ap length ew) in
    let spaces : prefix_len is_space rest ≡ 0 = rw (er, em) (back_ends is_space text) in
    whole ∙ ap words_of (nothing rest spaces zero_letters)

pub all_said : (row : ℕ) (text : List ℕ) → (length text == 0) ≡ true → statements_from row text ≡ []
all_said row [] e = nothing_left row
all_said row (b ∷ bs) e = absurd (omega (arith, eqb-true (length (b ∷ bs)) 0 e))
