-- A text falls into words in one way, and words say one schedule.
use Rattle.std.proofs.Common.{◌≡◌, ℕ, ◌+◌, ◌<◌, ◌≤◌, List, [], ◌∷◌, ◌++◌, length, take, Bool, true, false, Ok, ◌⊎◌, inl, inr, refl, sym, ap, ◌∙◌, subst, arith, append_assoc}
use Rattle.std.specs.Prelude.{replicate, ◌==◌, nat_le}
use Rattle.std.specs.List.{list_all, prefix_len}
use Rattle.std.proofs.lemmas.Bool.{cond-true, cond-false, and_parts, or_cases, eqb-true, leb-true}
use Rattle.std.proofs.lemmas.List.{append-nil, take_at, append_cancel_left, length-append, length-replicate}
use Rattle.lx_words.specs.Text.{hex_text}
use Rattle.lx_script.specs.Faults.{fault_met, answered}
use Rattle.lx_script.specs.Words.{Word, Passes, HasWord, HasNoWord, is_blank, is_printable, feeds}
use Rattle.lx_script.specs.Runs.{Wrong, run_says}
use Rattle.lx_script.specs.declared.fault.Fault.{Fault}
use Rattle.lx_script.specs.declared.fault.CaseFault.{CaseFault}
use Rattle.lx_script.specs.declared.fault.FaultKind.TheVariants.{Lexical}
use Rattle.lx_script.specs.Schedule.{Says, Spells, IsHead, IsWrong, IsPast, FailsAtWord, FirstFault, FirstScheduleFault, Reads, schedule_word, most_entries}

-- the bytes that pass are as many as the front of the text has
front_len : (p : ℕ → Bool) (f b : List ℕ) → list_all p f ≡ true → prefix_len p b ≡ 0 → prefix_len p (f ++ b) ≡ length f
front_len p [] b h e = e
front_len p (x ∷ f) b h e =
    let parts = and_parts (p x) (list_all p f) h in
    cond-true (p x) _ _ parts.0 ∙ omega (arith, front_len p f b parts.1 e)

one_front : (p : ℕ → Bool) (t f b g c : List ℕ) → t ≡ f ++ b → t ≡ g ++ c → list_all p f ≡ true → list_all p g ≡ true → prefix_len p b ≡ 0 → prefix_len p c ≡ 0 → (f ≡ g) × (b ≡ c)
one_front p t f b g c e h pf pg eb ec =
    let n : length f ≡ length g = sym (front_len p f b pf eb) ∙ ap (prefix_len p) (sym e ∙ h) ∙ front_len p g c pg ec in
    let x : take (length f) t ≡ f = ap (take (length f)) e ∙ take_at f b (length f) refl in
    let y : take (length g) t ≡ g = ap (take (length g)) h ∙ take_at g c (length g) refl in
    let same : f ≡ g = sym x ∙ ap (λ m. take m t) n ∙ y in
    (same, append_cancel_left f b c (sym e ∙ h ∙ ap (λ w. w ++ c) (sym same)))

-- a word begins with no blank
no_both : (b : ℕ) → is_printable b ≡ true → ((b == 32) ≡ true) ⊎ ((b == 10) ≡ true) → ⊥
no_both b p (inl e) = omega (arith, eqb-true b 32 e, leb-true 33 b ((and_parts (nat_le 33 b) (nat_le b 126) p).0))
no_both b p (inr e) = omega (arith, eqb-true b 10 e, leb-true 33 b ((and_parts (nat_le 33 b) (nat_le b 126) p).0))

not_blank : (b : ℕ) (v : Bool) → is_printable b ≡ true → is_blank b ≡ v → v ≡ false
not_blank b false p e = refl
not_blank b true p e = absurd (no_both b p (or_cases (b == 32) (b == 10) e))

word_starts : (w after : List ℕ) → 0 < length w → list_all is_printable w ≡ true → prefix_len is_blank (w ++ after) ≡ 0
word_starts [] after lt p = absurd (omega arith)
word_starts (b ∷ w) after lt p = cond-false (is_blank b) _ _ (not_blank b (is_blank b) ((and_parts (is_printable b) (list_all is_printable w) p).0) refl)

one_word : (text : List ℕ) (line : ℕ) (w v : Word) (after after' : List ℕ) → HasWord text line w after → HasWord text line v after' → (w.bytes ≡ v.bytes) × (w.line ≡ v.line) × (after ≡ after')
one_word text line w v after after' h k =
    let blanks = one_front is_blank text h.blanks (w.bytes ++ after) k.blanks (v.bytes ++ after') (h.whole ∙ append_assoc h.blanks w.bytes after) (k.whole ∙ append_assoc k.blanks v.bytes after') h.blank k.blank (word_starts w.bytes after h.some h.printable) (word_starts v.bytes after' k.some k.printable) in
    let words = one_front is_printable (w.bytes ++ after) w.bytes after v.bytes after' refl blanks.1 h.printable k.printable h.longest k.longest in
    (words.0, h.row ∙ ap (λ b. line + feeds b) blanks.0 ∙ sym k.row, words.1)

prefix_some : (p : ℕ → Bool) (w after : List ℕ) → 0 < length w → list_all p w ≡ true → prefix_len p (w ++ after) ≡ 0 → ⊥
prefix_some p [] after lt h e = absurd (omega arith)
prefix_some p (b ∷ w) after lt h e = let k : prefix_len p (b ∷ (w ++ after)) ≡ 1 + prefix_len p (w ++ after) = cond-true (p b) _ _ ((and_parts (p b) (list_all p w) h).0) in absurd (omega arith)

word_or_none : (text : List ℕ) (line row : ℕ) (w : Word) (after rest : List ℕ) → HasWord text line w after → HasNoWord text line rest row → ⊥
word_or_none text line row w after rest h k =
    let blanks = one_front is_blank text h.blanks (w.bytes ++ after) k.blanks rest (h.whole ∙ append_assoc h.blanks w.bytes after) k.whole h.blank k.blank (word_starts w.bytes after h.some h.printable) k.no_blank in
    prefix_some is_printable w.bytes after h.some h.printable (ap (prefix_len is_printable) blanks.1 ∙ k.no_word)

abbrev make_word : List ℕ → ℕ → Word
make_word b l = record { bytes = b; line = l }

equal_words : (w v : Word) → w.bytes ≡ v.bytes → w.line ≡ v.line → w ≡ v
equal_words w v e f = ap (λ b. make_word b w.line) e ∙ ap (make_word v.bytes) f

-- whole texts
all_words : (text : List ℕ) (line : ℕ) (ws vs : List Word) (r s e f : List ℕ) (m n k l : ℕ) → Passes text line ws r m → HasNoWord r m e k → Passes text line vs s n → HasNoWord s n f l → (ws ≡ vs) × (e ≡ f) × (k ≡ l)
all_words text line [] [] r s e f m n k l p h q g =
    let g' = subst (λ t. HasNoWord t n f l) (sym q.0 ∙ p.0) g in
    let fronts = one_front is_blank r h.blanks e g'.blanks f h.whole g'.whole h.blank g'.blank h.no_blank g'.no_blank in
    (refl, fronts.1, h.counted ∙ ap (λ n. n + feeds h.blanks) (sym p.1 ∙ q.1) ∙ ap (λ b. n + feeds b) fronts.0 ∙ sym g'.counted)
all_words text line [] (v ∷ vs) r s e f m n k l p h q g = absurd (word_or_none text line k v q.0 e q.1 (subst (λ t. HasNoWord t line e k) (sym p.0) (subst (λ x. HasNoWord r x e k) (sym p.1) h)))
all_words text line (w ∷ ws) [] r s e f m n k l p h q g = absurd (word_or_none text line l w p.0 f p.1 (subst (λ t. HasNoWord t line f l) (sym q.0) (subst (λ x. HasNoWord s x f l) (sym q.1) g)))
all_words text line (w ∷ ws) (v ∷ vs) r s e f m n k l p h q g =
    let one = one_word text line w v p.0 q.0 p.1 q.1 in
    let others = all_words p.0 w.line ws vs r s e f m n k l p.2 h (subst (λ t. Passes t w.line vs s n) (sym one.2) (subst (λ x. Passes q.0 x vs s n) (sym one.1) q.2)) g in
    (ap (λ x. x ∷ ws) (equal_words w v one.0 one.1) ∙ ap (λ xs. v ∷ xs) others.0, others.1, others.2)

one_saying : (ws : List Word) (a b : List ℕ) → Says ws a → Says ws b → a ≡ b
one_saying [] a b s t = s ∙ sym t
one_saying (w ∷ ws) a b s t =
    let run : s.0 ≡ t.0 = cc (s.2, t.2) in
    let others = one_saying ws s.1 t.1 s.4 t.4 in
    s.3 ∙ ap (λ (r : ℕ × ℕ). replicate r.1 r.0 ++ s.1) run ∙ ap (λ o. replicate t.0.1 t.0.0 ++ o) others ∙ sym t.3

no_run : (w : List ℕ) (run : ℕ × ℕ) → w ≡ schedule_word → run_says w ≡ Ok run → ⊥
unfolding run_says
no_run w run e h = let k : run_says schedule_word ≡ Ok run = ap run_says (sym e) ∙ h in cc (k)

one_spelling : (g runs h others : List Word) (a b : List ℕ) → g ++ runs ≡ h ++ others → IsHead g → IsHead h → Says runs a → Says others b → a ≡ b
one_spelling [] runs [] others a b e x y s t = one_saying runs a b s (subst (λ r. Says r b) (sym e) t)
one_spelling [] runs (w ∷ []) others a b e x y s t = let s' = subst (λ r. Says r a) e s in absurd (no_run w.bytes s'.0 y s'.2)
one_spelling (w ∷ []) runs [] others a b e x y s t = let t' = subst (λ r. Says r b) (sym e) t in absurd (no_run w.bytes t'.0 x t'.2)
one_spelling (w ∷ []) runs (v ∷ []) others a b e x y s t = let same : runs ≡ others = cc in one_saying others a b (subst (λ r. Says r a) same s) t
one_spelling (w ∷ u ∷ g) runs h others a b e x y s t = absurd x
one_spelling [] runs (w ∷ u ∷ h) others a b e x y s t = absurd y
one_spelling (v ∷ []) runs (w ∷ u ∷ h) others a b e x y s t = absurd y

pub one_value : (text a b : List ℕ) → Reads text a → Reads text b → a ≡ b
one_value text a b r s =
    let same = all_words text 1 r.0 s.0 r.2.0 s.2.0 [] [] r.2.1 s.2.1 r.1 s.1 r.2.2 r.2.3 s.2.2 s.2.3 in
    one_spelling r.3.head r.3.runs s.3.head s.3.runs a b (sym r.3.whole ∙ same.0 ∙ s.3.whole) r.3.is_head s.3.is_head r.3.says s.3.says

-- a whole text has the words that any way into it passes
extends : (text : List ℕ) (line : ℕ) (ws vs : List Word) (r s e : List ℕ) (m n k : ℕ) → Passes text line ws r m → HasNoWord r m e k → Passes text line vs s n → (others : List Word) × (ws ≡ vs ++ others)
extends text line ws [] r s e m n k p h q = (ws, refl)
extends text line [] (v ∷ vs) r s e m n k p h q = absurd (word_or_none text line k v q.0 e q.1 (subst (λ t. HasNoWord t line e k) (sym p.0) (subst (λ x. HasNoWord r x e k) (sym p.1) h)))
extends text line (w ∷ ws) (v ∷ vs) r s e m n k p h q =
    let one = one_word text line w v p.0 q.0 p.1 q.1 in
    let rest = extends p.0 w.line ws vs r s e m n k p.2 h (subst (λ t. Passes t w.line vs s n) (sym one.2) (subst (λ x. Passes q.0 x vs s n) (sym one.1) q.2)) in
    (rest.0, ap (λ x. x ∷ ws) (equal_words w v one.0 one.1) ∙ ap (λ xs. v ∷ xs) rest.1)

says_split : (xs : List Word) (w : Word) (ys : List Word) (a e : List ℕ) → Says (xs ++ w ∷ ys) a → Says xs e → (run : ℕ × ℕ) × (run_says w.bytes ≡ Ok run) × (length e + run.1 ≤ length a)
says_split [] w ys a e s t =
    let whole : length a ≡ s.0.1 + length s.1 = ap length s.3 ∙ length-append (replicate s.0.1 s.0.0) s.1 ∙ ap (λ n. n + length s.1) (length-replicate s.0.1 s.0.0) in
    let none : length e ≡ 0 = ap length t in
    (s.0, s.2, omega (arith, whole, none))
says_split (x ∷ xs) w ys a e s t =
    let run : s.0 ≡ t.0 = cc (s.2, t.2) in
    let rest = says_split xs w ys s.1 t.1 s.4 t.4 in
    let whole : length a ≡ s.0.1 + length s.1 = ap length s.3 ∙ length-append (replicate s.0.1 s.0.0) s.1 ∙ ap (λ n. n + length s.1) (length-replicate s.0.1 s.0.0) in
    let part : length e ≡ t.0.1 + length t.1 = ap length t.3 ∙ length-append (replicate t.0.1 t.0.0) t.1 ∙ ap (λ n. n + length t.1) (length-replicate t.0.1 t.0.0) in
    let same : s.0.1 ≡ t.0.1 = ap (λ (r : ℕ × ℕ). r.1) run in
    (rest.0, rest.1, omega (arith, whole, part, same, rest.2))

abbrev Faulty : List Word → Word → List ℕ → Fault → Type 0
Faulty before w e f = IsWrong before w f ⊎ IsPast (length e) w f

clash : (before : List Word) (w : Word) (e : List ℕ) (f : Fault) (run : ℕ × ℕ) → run_says w.bytes ≡ Ok run → length e + run.1 ≤ most_entries → Faulty before w e f → ⊥
clash before w e f run is le (inl x) = cc (is, x.is)
clash before w e f run is le (inr x) = let same : run ≡ x.run = cc (is, x.is) in let count : run.1 ≡ x.run.1 = ap (λ (r : ℕ × ℕ). r.1) same in omega (arith, le, x.past, count)

at_head : (w : Word) (e : List ℕ) (f : Fault) (before : List Word) → before ≡ [] → w.bytes ≡ schedule_word → Faulty before w e f → ⊥
at_head w e f before none head (inl x) = x.no_head none head
at_head w e f before none head (inr x) = no_run w.bytes x.run head x.is

inside : (runs xs : List Word) (w : Word) (ys before : List Word) (a e : List ℕ) (f : Fault) → runs ≡ xs ++ w ∷ ys → Says runs a → Says xs e → length a ≤ most_entries → Faulty before w e f → ⊥
inside runs xs w ys before a e f h s t le x =
    let r = says_split xs w ys a e (subst (λ r. Says r a) h s) t in
    clash before w e f r.0 r.1 (omega (arith, r.2, le)) x

headed : (v : Word) (runs xs : List Word) (w : Word) (ys : List Word) (e : List ℕ) (f : Fault) → v ∷ runs ≡ xs ++ w ∷ ys → v.bytes ≡ schedule_word → Says xs e → Faulty xs w e f → ⊥
headed v runs [] w ys e f h head t x = let same : v ≡ w = cc in at_head w e f [] refl (ap (λ (u : Word). u.bytes) (sym same) ∙ head) x
headed v runs (u ∷ xs) w ys e f h head t x = let same : v ≡ u = cc in no_run u.bytes t.0 (ap (λ (z : Word). z.bytes) (sym same) ∙ head) t.2

no_fault : (g runs k xs : List Word) (w : Word) (ys : List Word) (a e : List ℕ) (f : Fault) → g ++ runs ≡ (k ++ xs) ++ w ∷ ys → IsHead g → IsHead k → Says runs a → Says xs e → length a ≤ most_entries → Faulty (k ++ xs) w e f → ⊥
no_fault [] runs [] xs w ys a e f h x y s t le z = inside runs xs w ys xs a e f h s t le z
no_fault [] runs (v ∷ []) xs w ys a e f h x y s t le z = let s' = subst (λ r. Says r a) h s in no_run v.bytes s'.0 y s'.2
no_fault (v ∷ []) runs [] xs w ys a e f h x y s t le z = headed v runs xs w ys e f h x t z
no_fault (v ∷ []) runs (u ∷ []) xs w ys a e f h x y s t le z = let rest : runs ≡ xs ++ w ∷ ys = cc in inside runs xs w ys (u ∷ xs) a e f rest s t le z
no_fault (v ∷ u ∷ g) runs k xs w ys a e f h x y s t le z = x
no_fault [] runs (v ∷ u ∷ k) xs w ys a e f h x y s t le z = y
no_fault (q ∷ []) runs (v ∷ u ∷ k) xs w ys a e f h x y s t le z = y

-- what is a schedule up to its end has no word at fault
unbroken : (text : List ℕ) (words : List Word) (after rest entries : List ℕ) (line row : ℕ) (f : Fault) → Passes text 1 words after line → HasNoWord after line rest row → Spells words entries → FailsAtWord text f → ⊥
unbroken text words after rest entries line row f p h s x =
    let more = extends text 1 words (x.before ++ x.word ∷ []) after x.rest rest line x.line row p h x.words in
    let whole : s.head ++ s.runs ≡ (x.fine.head ++ x.fine.runs) ++ x.word ∷ more.0 = sym s.whole ∙ more.1 ∙ append_assoc x.before (x.word ∷ []) more.0 ∙ ap (λ b. b ++ x.word ∷ more.0) x.fine.whole in
    no_fault s.head s.runs x.fine.head x.fine.runs x.word more.0 entries x.entries f whole s.is_head x.fine.is_head s.says x.fine.says s.room (subst (λ b. Faulty b x.word x.entries f) x.fine.whole x.fault_at)

not_first_fault : (text a : List ℕ) (f : Fault) → Reads text a → FirstFault text f → ⊥
not_first_fault text a f r (inl x) = unbroken text r.0 r.2.0 [] a r.2.1 r.1 f r.2.2 r.2.3 r.3 x
not_first_fault text a f r (inr x) =
    let same = all_words text 1 r.0 x.0 r.2.0 x.5.0 [] (x.2 ∷ x.3) r.2.1 x.5.1 r.1 x.4 r.2.2 r.2.3 x.5.2 x.5.3 in cc (same.1)

-- of two ways into a text one goes on where the other ends
abbrev GoesOn : List Word → List Word → Type 0
GoesOn ws vs = (others : List Word) × (ws ≡ vs ++ others)

abbrev longer : (w v : Word) (ws vs : List Word) → w ≡ v → GoesOn ws vs ⊎ GoesOn vs ws → GoesOn (w ∷ ws) (v ∷ vs) ⊎ GoesOn (v ∷ vs) (w ∷ ws)
longer w v ws vs e (inl g) = inl (g.0, ap (λ x. x ∷ ws) e ∙ ap (λ xs. v ∷ xs) g.1)
longer w v ws vs e (inr g) = inr (g.0, ap (λ x. x ∷ vs) (sym e) ∙ ap (λ xs. w ∷ xs) g.1)

along : (text : List ℕ) (line : ℕ) (ws vs : List Word) (r s : List ℕ) (m n : ℕ) → Passes text line ws r m → Passes text line vs s n → GoesOn ws vs ⊎ GoesOn vs ws
along text line [] vs r s m n p q = inr (vs, refl)
along text line (w ∷ ws) [] r s m n p q = inl (w ∷ ws, refl)
along text line (w ∷ ws) (v ∷ vs) r s m n p q =
    let one = one_word text line w v p.0 q.0 p.1 q.1 in
    longer w v ws vs (equal_words w v one.0 one.1) (along p.0 w.line ws vs r s m n p.2 (subst (λ t. Passes t w.line vs s n) (sym one.2) (subst (λ x. Passes q.0 x vs s n) (sym one.1) q.2)))

-- the last of some words, and those before it
same_last : (a b : List Word) (w v : Word) → a ++ w ∷ [] ≡ b ++ v ∷ [] → (a ≡ b) × (w ≡ v)
same_last [] [] w v e = (refl, cc)
same_last [] (y ∷ []) w v e = cc
same_last [] (y ∷ z ∷ b) w v e = cc
same_last (x ∷ []) [] w v e = cc
same_last (x ∷ z ∷ a) [] w v e = cc
same_last (x ∷ a) (y ∷ b) w v e =
    let head : x ≡ y = cc in
    let rest : a ++ w ∷ [] ≡ b ++ v ∷ [] = cc in
    let same = same_last a b w v rest in
    (ap (λ z. z ∷ a) head ∙ ap (λ zs. y ∷ zs) same.0, same.1)

before_last : (a b : List Word) (w v o : Word) (os : List Word) → a ++ w ∷ [] ≡ (b ++ v ∷ []) ++ o ∷ os → (zs : List Word) × (a ≡ b ++ v ∷ zs)
before_last [] [] w v o os e = cc
before_last [] (y ∷ []) w v o os e = cc
before_last [] (y ∷ z ∷ b) w v o os e = cc
before_last (x ∷ a) [] w v o os e = (a, cc)
before_last (x ∷ a) (y ∷ b) w v o os e =
    let head : x ≡ y = cc in
    let rest : a ++ w ∷ [] ≡ (b ++ v ∷ []) ++ o ∷ os = cc in
    let inner = before_last a b w v o os rest in
    (inner.0, ap (λ z. z ∷ a) head ∙ ap (λ zs. y ∷ zs) inner.1)

-- one word has one fault
one_kind : (before : List Word) (w : Word) (entries : List ℕ) (e f : Fault) → Faulty before w entries e → Faulty before w entries f → e ≡ f
one_kind before w entries e f (inl x) (inl y) =
    let same : x.wrong ≡ y.wrong = cc (x.is, y.is) in
    x.fault_is ∙ ap (λ (g : Wrong). fault_met g.0 w.line g.1) same ∙ sym y.fault_is
one_kind before w entries e f (inl x) (inr y) = cc (x.is, y.is)
one_kind before w entries e f (inr x) (inl y) = cc (x.is, y.is)
one_kind before w entries e f (inr x) (inr y) = x.fault_is ∙ sym y.fault_is

-- a word at fault does not stand before another
not_earlier : (text : List ℕ) (e f : Fault) (x : FailsAtWord text e) (y : FailsAtWord text f) (zs : List Word) → x.before ≡ y.before ++ y.word ∷ zs → ⊥
not_earlier text e f x y zs h =
    let whole : x.fine.head ++ x.fine.runs ≡ (y.fine.head ++ y.fine.runs) ++ y.word ∷ zs = sym x.fine.whole ∙ h ∙ ap (λ b. b ++ y.word ∷ zs) y.fine.whole in
    no_fault x.fine.head x.fine.runs y.fine.head y.fine.runs y.word zs x.entries y.entries f whole x.fine.is_head y.fine.is_head x.fine.says y.fine.says x.fine.room (subst (λ b. Faulty b y.word y.entries f) y.fine.whole y.fault_at)

at_one_word : (text : List ℕ) (e f : Fault) (x : FailsAtWord text e) (y : FailsAtWord text f) → (x.before ≡ y.before) × (x.word ≡ y.word) → e ≡ f
at_one_word text e f x y same =
    let spelt : x.fine.head ++ x.fine.runs ≡ y.fine.head ++ y.fine.runs = sym x.fine.whole ∙ same.0 ∙ y.fine.whole in
    let entries : x.entries ≡ y.entries = one_spelling x.fine.head x.fine.runs y.fine.head y.fine.runs x.entries y.entries spelt x.fine.is_head y.fine.is_head x.fine.says y.fine.says in
    let at_y : Faulty y.before y.word y.entries e = subst (λ n. Faulty y.before y.word n e) entries (subst (λ w. Faulty y.before w x.entries e) same.1 (subst (λ b. Faulty b x.word x.entries e) same.0 x.fault_at)) in
    one_kind y.before y.word y.entries e f at_y y.fault_at

ordered : (text : List ℕ) (e f : Fault) (x : FailsAtWord text e) (y : FailsAtWord text f) (others : List Word) → x.before ++ x.word ∷ [] ≡ (y.before ++ y.word ∷ []) ++ others → e ≡ f
ordered text e f x y [] h = at_one_word text e f x y (same_last x.before y.before x.word y.word (h ∙ append-nil (y.before ++ y.word ∷ [])))
ordered text e f x y (o ∷ os) h = let inner = before_last x.before y.before x.word y.word o os h in absurd (not_earlier text e f x y inner.0 inner.1)

either_order : (text : List ℕ) (e f : Fault) (x : FailsAtWord text e) (y : FailsAtWord text f) → GoesOn (x.before ++ x.word ∷ []) (y.before ++ y.word ∷ []) ⊎ GoesOn (y.before ++ y.word ∷ []) (x.before ++ x.word ∷ []) → e ≡ f
either_order text e f x y (inl g) = ordered text e f x y g.0 g.1
either_order text e f x y (inr g) = sym (ordered text f e y x g.0 g.1)

one_first_fault : (text : List ℕ) (e f : Fault) → FirstFault text e → FirstFault text f → e ≡ f
one_first_fault text e f (inl x) (inl y) = either_order text e f x y (along text 1 (x.before ++ x.word ∷ []) (y.before ++ y.word ∷ []) x.rest y.rest x.line y.line x.words y.words)
one_first_fault text e f (inl x) (inr y) = absurd (unbroken text y.0 y.5.0 (y.2 ∷ y.3) y.1 y.5.1 y.4 e y.5.2 y.5.3 y.6 x)
one_first_fault text e f (inr x) (inl y) = absurd (unbroken text x.0 x.5.0 (x.2 ∷ x.3) x.1 x.5.1 x.4 f x.5.2 x.5.3 x.6 y)
one_first_fault text e f (inr x) (inr y) =
    let same = all_words text 1 x.0 y.0 x.5.0 y.5.0 (x.2 ∷ x.3) (y.2 ∷ y.3) x.5.1 y.5.1 x.4 y.4 x.5.2 x.5.3 y.5.2 y.5.3 in
    let byte : x.2 ≡ y.2 = cc (same.1) in
    x.7 ∙ ap (λ l. fault_met Lexical l (hex_text x.2)) same.2 ∙ ap (λ b. fault_met Lexical y.4 (hex_text b)) byte ∙ sym y.7

pub one_fault : (text : List ℕ) (e f : CaseFault) → FirstScheduleFault text e → FirstScheduleFault text f → e ≡ f
one_fault text e f h k = h.2 ∙ ap answered (one_first_fault text h.0 k.0 h.1 k.1) ∙ sym k.2

pub not_both : (text a : List ℕ) (f : CaseFault) → Reads text a → FirstScheduleFault text f → ⊥
not_both text a f h k = not_first_fault text a k.0 h k.1
