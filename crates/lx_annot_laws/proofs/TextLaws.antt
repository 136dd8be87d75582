-- Whole texts: reading and the grammar agree.
use Rattle.std.proofs.Common.{◌≡◌, ℕ, zero, suc, ◌+◌, ◌-◌, ◌≤◌, ◌<◌, min, Bool, true, false, Option, Some, None, List, [], ◌∷◌, ◌++◌, length, take, drop, Result, Ok, Err, refl, sym, ap, ◌∙◌, subst, bytes_eq, codes, arith}
use Rattle.std.specs.Prelude.{if◌then◌else◌, ◌||◌}
use Rattle.std.proofs.lemmas.List.{length-append, length-map, length-take, map-append, take-map, take-take, take_at, drop_at, take-append-drop}
use Rattle.lx_words.specs.declared.token.TokenRule.TheVariants as rules
use Rattle.lx_words.specs.declared.token.Token.{Token}
use Rattle.lx_words.specs.declared.token.Stop.{Stop}
use Rattle.lx_words.specs.Cuts.{OneWay, Scans}
use Rattle.lx_annot.specs.declared.interface.Interface.{Interface}
use Rattle.lx_annot_expressions.specs.Tokens.{Tok, tok_of, toks_of, most_tokens}
use Rattle.lx_annot_expressions.specs.Reading.{Read, refused, behind, has, next_at}
use Rattle.lx_annot_expressions.specs.Grammar.{Part, Is, ◌then◌}
use Rattle.lx_annot_expressions.specs.Laws.{Reads, Finds}
use Rattle.lx_annot_expressions.proofs.Parts.{ok_same as read_same, bind_reads, bind_finds, next_reads, next_finds, next_token, Joint}
use Rattle.lx_annot_terms.specs.Clauses.{begins_clause}
use Rattle.lx_annot_terms.proofs.ListReads.{other_text}
use Rattle.lx_annot_read.specs.declared.fault.Met.{Met}
use Rattle.lx_annot_read.specs.declared.fault.InterfaceFault.{InterfaceFault}
use Rattle.lx_annot_read.specs.Faults.{lexical, answered}
use Rattle.lx_annot_read.specs.declared.head.Version.{Version}
use Rattle.lx_annot_read.specs.declared.head.Version.TheVariants as versions
use Rattle.lx_annot_read.specs.Head.{version_at, head_at}
use Rattle.lx_annot_read.specs.Interfaces.{empty, statement_at}
use Rattle.lx_annot_read.specs.Texts.{window, rest_behind, seen, limited, first_at, next_at as next_statement_at, ◌and_then◌, body_at, ended, interface_at, SaysInterface, FirstInterfaceFault}
use Rattle.lx_annot_laws.specs.Statements.{Statement, OfReftype, OfIterator, OfSlot, OfField, OfExport, IsStatement, IsInLine, with_statement, Stands, AreStatements, number_of_version, IsHead, IsInterface}
use Rattle.lx_annot_laws.proofs.StatementLaws.{statement_read, statement_found}
use Rattle.lx_annot_laws.proofs.Walked.{no_word}

-- Answers.

abbrev pub Answer : Type 0 → Type 0
Answer A = Result A Met

pub and_ok : {A B : Type 0} (r : Answer A) (f : A → Answer B) (y : B) → (r and_then f) ≡ Ok y → (x : A) × (r ≡ Ok x) × (f x ≡ Ok y)
and_ok (Ok x) f y e = (x, refl, e)
and_ok (Err d) f y e = cc

pub ok_same : {A : Type 0} (x y : A) (r : Answer A) → r ≡ Ok x → r ≡ Ok y → x ≡ y
ok_same x y (Ok z) p q = let a : z ≡ x = cc in let b : z ≡ y = cc in sym a ∙ b
ok_same x y (Err d) p q = cc

pub err_same : {A : Type 0} (d e : Met) (r : Answer A) → r ≡ Err d → r ≡ Err e → d ≡ e
err_same d e (Ok z) p q = cc
err_same d e (Err f) p q = let a : f ≡ d = cc in let b : f ≡ e = cc in sym a ∙ b

pub apart : {A : Type 0} (x : A) (d : Met) (r : Answer A) → r ≡ Ok x → r ≡ Err d → ⊥
apart x d (Ok z) p q = cc
apart x d (Err f) p q = cc

-- The next tokens.

pub front_window : (n : ℕ) (front back : List Token) → length front ≤ n → take n (front ++ back) ≡ front ++ take (n - length front) back
front_window n [] back le = let e : n ≡ n - 0 = omega arith in ap (λ k. take k back) e
front_window zero (t ∷ front) back le = absurd (omega (arith, le))
front_window (suc n) (t ∷ front) back le =
    let e : n - length front ≡ suc n - suc (length front) = omega arith in
    ap (λ y. t ∷ y) (front_window n front back (omega (arith, le))) ∙ ap (λ k. t ∷ (front ++ take k back)) e

module _ (text : List ℕ) (stop : Option Stop) where
  abbrev pub room : List Token → ℕ
  room front = most_tokens - length front

  -- what stands behind a front, as far as it is looked at
  abbrev pub further : List Token → List Token → List Tok
  further front back = toks_of text (take (room front) back)

  seen_front : (front back : List Token) → length front ≤ most_tokens → seen text (front ++ back) ≡ toks_of text front ++ further front back
  seen_front front back le = ap (toks_of text) (front_window most_tokens front back le) ∙ map-append (tok_of text) front (take (room front) back)

  rest_front : (front back : List Token) → length front ≤ most_tokens → rest_behind (front ++ back) (further front back) ≡ back
  rest_front front back le =
      let a : length (window (front ++ back)) ≡ length (front ++ take (room front) back) = ap length (front_window most_tokens front back le) in
      let b : length (front ++ take (room front) back) ≡ length front + length (take (room front) back) = length-append front (take (room front) back) in
      let c : length (further front back) ≡ length (take (room front) back) = length-map (take (room front) back) (tok_of text) in
      let d : length (window (front ++ back)) - length (further front back) ≡ length front = omega (arith, a, b, c) in
      ap (λ k. drop k (front ++ back)) d ∙ drop_at front back (length front) refl

  -- what is read of a front of the tokens leaves those behind it
  pub limited_read : {A : Type 0} (read : List Tok → Read A) (x : A) (front back : List Token) → length front ≤ most_tokens → read (toks_of text front ++ further front back) ≡ Ok (x, further front back) → limited text stop (front ++ back) (read (seen text (front ++ back))) ≡ Ok (x, back)
  limited_read read x front back le e =
      ap (λ ts. limited text stop (front ++ back) (read ts)) (seen_front front back le) ∙ ap (limited text stop (front ++ back)) e ∙ ap (λ r. Ok (x, r)) (rest_front front back le)

  pub limited_ok : {A : Type 0} (tokens : List Token) (x : A) (rest : List Token) (r : Read A) → limited text stop tokens r ≡ Ok (x, rest) → (us : List Tok) × (r ≡ Ok (x, us)) × (rest_behind tokens us ≡ rest)
  limited_ok {A} tokens x rest (Ok p) e =
      let k = ok_same {A = A × List Token} (p.0, rest_behind tokens p.1) (x, rest) (Ok (p.0, rest_behind tokens p.1)) refl e in
      (p.1, ap (λ (q : A × List Token). Ok (q.0, p.1)) k, ap (λ (q : A × List Token). q.1) k)
  limited_ok tokens x rest (Err f) e = cc

  -- a front of the tokens that is this
  pub record Front (part : Part) (tokens rest : List Token) : Type 0 where
    pub front : List Token
    pub short : length front ≤ most_tokens
    pub is : part (toks_of text front)
    pub whole : tokens ≡ front ++ rest

  pub front_found : (part : Part) (tokens : List Token) (us ts : List Tok) → part ts → seen text tokens ≡ ts ++ us → Front part tokens (rest_behind tokens us)
  front_found part tokens us ts p e =
      let a : length (seen text tokens) ≡ length (window tokens) = length-map (window tokens) (tok_of text) in
      let b : length (seen text tokens) ≡ length ts + length us = ap length e ∙ length-append ts us in
      let c : length (window tokens) ≡ min most_tokens (length tokens) = length-take most_tokens tokens in
      let d : length (take (length ts) tokens) ≡ min (length ts) (length tokens) = length-take (length ts) tokens in
      let le : length ts ≤ most_tokens = omega (arith, a, b, c) in
      let count : length ts ≡ length (window tokens) - length us = omega (arith, a, b) in
      let same : toks_of text (take (length ts) tokens) ≡ ts =
      ap (toks_of text) (sym (take-take (length ts) most_tokens tokens le)) ∙ sym (take-map (tok_of text) (length ts) (window tokens)) ∙ ap (take (length ts)) e ∙ take_at ts us (length ts) refl in
      record {
        front = take (length ts) tokens;
        short = omega (arith, d, le);
        is = subst part (sym same) p;
        whole = sym (take-append-drop (length ts) tokens) ∙ ap (λ k. take (length ts) tokens ++ drop k tokens) count;
      }

-- Where a statement begins.

first_has : (text : List ℕ) (q : Part) (u : Tok) (us : List Tok) → (Is text then q) (u ∷ us) → has text (u ∷ us) ≡ true
first_has text q u us (f, b, (t, h, g), p, w) = subst (λ x. has text x ≡ true) (sym (w ∙ ap (λ x. x ++ b) g)) h

none_begins : (a b c : Bool) → a ≡ false → b ≡ false → c ≡ false → a || b || c ≡ false
none_begins false false false p q r = refl
none_begins true b c p q r = cc
none_begins false true c p q r = cc
none_begins false false true p q r = cc

no_clause_word : (text : List ℕ) (ts : List Tok) → bytes_eq text (codes "principal") ≡ false → bytes_eq text (codes "pre") ≡ false → bytes_eq text (codes "post") ≡ false → has text ts ≡ true → begins_clause ts ≡ false
no_clause_word text ts a b c h =
    none_begins (has (codes "principal") ts) (has (codes "pre") ts) (has (codes "post") ts) (other_text text (codes "principal") ts h a) (other_text text (codes "pre") ts h b) (other_text text (codes "post") ts h c)

-- a statement begins with no clause
statement_begins : (v : Version) (i : Interface) (s : Statement) (u : Tok) (us : List Tok) → IsStatement v i s (u ∷ us) → begins_clause (u ∷ us) ≡ false
statement_begins v i (OfReftype x) u us is = no_clause_word (codes "reftype") (u ∷ us) refl refl refl (first_has (codes "reftype") _ u us is)
statement_begins v i (OfIterator x) u us is = no_clause_word (codes "iterator") (u ∷ us) refl refl refl (first_has (codes "iterator") _ u us is)
statement_begins v i (OfSlot x) u us is = no_clause_word (codes "slot") (u ∷ us) refl refl refl (first_has (codes "slot") _ u us is)
statement_begins v i (OfField x) u us is = no_clause_word (codes "field") (u ∷ us) refl refl refl (first_has (codes "field") _ u us is)
statement_begins v i (OfExport x) u us is = no_clause_word (codes "export") (u ∷ us) refl refl refl (first_has (codes "export") _ u us is)

-- and has a token
statement_some : (v : Version) (i : Interface) (s : Statement) → IsStatement v i s [] → ⊥
statement_some v i (OfReftype x) is = no_word (codes "reftype") _ is
statement_some v i (OfIterator x) is = no_word (codes "iterator") _ is
statement_some v i (OfSlot x) is = no_word (codes "slot") _ is
statement_some v i (OfField x) is = no_word (codes "field") _ is
statement_some v i (OfExport x) is = no_word (codes "export") _ is

-- The first line.

abbrev version_by : List Tok → Bool → Bool → Read Version
version_by ts a b =
    if a then Ok (versions.One, behind ts)
    else if b then Ok (versions.Two, behind ts)
    else refused ts

version_read : (v : Version) → Reads version_at v (Is (number_of_version v))
version_read versions.One ts us (t, h, g) =
    subst (λ x. version_at (x ++ us) ≡ Ok (versions.One, us)) (sym g) (ap (λ a. version_by (t ∷ us) a (has (codes "2") (t ∷ us))) h)
version_read versions.Two ts us (t, h, g) =
    let no : has (codes "1") (t ∷ us) ≡ false = other_text (codes "2") (codes "1") (t ∷ us) h refl in
    subst (λ x. version_at (x ++ us) ≡ Ok (versions.Two, us)) (sym g)
    (ap (λ a. version_by (t ∷ us) a (has (codes "2") (t ∷ us))) no ∙ ap (version_by (t ∷ us) false) h)

version_step : (ts us : List Tok) (v : Version) (a b : Bool) → has (codes "1") ts ≡ a → has (codes "2") ts ≡ b → version_by ts a b ≡ Ok (v, us) → (front : List Tok) × Is (number_of_version v) front × (ts ≡ front ++ us)
version_step ts us v true b ha hb r =
    let k = read_same versions.One v (behind ts) us r in
    let n = next_token (codes "1") ts ha in
    (n.token ∷ [], subst (λ z. Is (number_of_version z) (n.token ∷ [])) k.0 (n.token, n.is, refl), n.whole ∙ ap (λ x. n.token ∷ x) k.1)
version_step ts us v false true ha hb r =
    let k = read_same versions.Two v (behind ts) us r in
    let n = next_token (codes "2") ts hb in
    (n.token ∷ [], subst (λ z. Is (number_of_version z) (n.token ∷ [])) k.0 (n.token, n.is, refl), n.whole ∙ ap (λ x. n.token ∷ x) k.1)
version_step ts us v false false ha hb r = cc

version_found : Finds version_at (λ v. Is (number_of_version v))
version_found ts us v r = version_step ts us v (has (codes "1") ts) (has (codes "2") ts) refl refl r

head_read : (v : Version) → Reads head_at v (IsHead v)
unfolding head_at
head_read v = bind_reads (next_at (codes "interface")) (λ w. version_at w.1) tt v _ _ (next_reads (codes "interface")) (version_read v)

head_length : (v : Version) (ts : List Tok) → IsHead v ts → length ts ≡ 2
head_length v ts (f, b, (t, h, g), (u, k, l), w) = ap length (w ∙ ap (λ x. x ++ b) g ∙ ap (λ x. t ∷ x) l)

abbrev HeadParts : Version → Part
HeadParts = Joint (λ (w : Unit {0}). Is (codes "interface")) (λ w. λ (x : Version). Is (number_of_version x))

head_part : (v : Version) (ts : List Tok) → HeadParts v ts → IsHead v ts
head_part v ts (w, is) = is

head_found : Finds head_at HeadParts
unfolding head_at
head_found =
    bind_finds (next_at (codes "interface")) (λ w. version_at w.1) (λ (w : Unit {0}). Is (codes "interface")) (λ w. λ (x : Version). Is (number_of_version x)) (next_finds (codes "interface")) (λ w. version_found)

module _ (text : List ℕ) (v : Version) where
  abbrev Says : Interface → List Statement → Interface → List Token → Type 0
  Says i ss j tokens = AreStatements text v i ss j tokens

  taken_none : (k : ℕ) (back : List Token) → back ≡ [] → begins_clause (toks_of text (take k back)) ≡ false
  taken_none zero back e = refl
  taken_none (suc k) back e = subst (λ x. begins_clause (toks_of text (take (suc k) x)) ≡ false) (sym e) refl

  taken_first : (k : ℕ) (i : Interface) (s : Statement) (t : Token) (more : List Token) → IsStatement v i s (toks_of text (t ∷ more)) → (back rest : List Token) → back ≡ (t ∷ more) ++ rest → begins_clause (toks_of text (take k back)) ≡ false
  taken_first zero i s t more is back rest e = refl
  taken_first (suc k) i s t more is back rest e =
      subst (λ x. begins_clause (toks_of text (take (suc k) x)) ≡ false) (sym e) (statement_begins v i s (tok_of text t) (toks_of text more) is)

  -- no clause stands where statements begin, or nothing does
  taken : (k : ℕ) (i j : Interface) (ss : List Statement) (back : List Token) → Says i ss j back → begins_clause (toks_of text (take k back)) ≡ false
  taken k i j [] back (same, e) = taken_none k back e
  taken k i j (s ∷ ss) back (front, rest, stands, are, e) =
      taken_first k i s stands.first stands.more (subst (λ x. IsStatement v i s (toks_of text x)) stands.whole stands.is) back rest (e ∙ ap (λ x. x ++ rest) stands.whole)

  -- Statements are read.

  one_read : (i j : Interface) (s : Statement) (ss : List Statement) (front back : List Token) (t : Token) → Stands text v i s front → Says (with_statement i s) ss j back → IsInLine t.line s → next_statement_at text None v t.line i (front ++ back) ≡ Ok (with_statement i s, back)
  unfolding next_statement_at
  one_read i j s ss front back t stands are line =
      limited_read text None (statement_at v t.line i) (with_statement i s) front back stands.short
      (statement_read v i t.line s (toks_of text front) (further text None front back) (taken (room text None front) (with_statement i s) j ss back are) line stands.is)

  step : (n : ℕ) (i j : Interface) (t : Token) (more rest : List Token) → next_statement_at text None v t.line i (t ∷ more) ≡ Ok (j, rest) → body_at text None v (suc n) i (t ∷ more) ≡ body_at text None v n j rest
  unfolding body_at
  step n i j t more rest h = rw h refl

  at_end : (n : ℕ) (i : Interface) → body_at text None v n i [] ≡ Ok i
  unfolding body_at
  at_end zero i = refl
  at_end (suc n) i = refl

  body_read : (n : ℕ) (i j : Interface) (ss : List Statement) (tokens : List Token) → length tokens ≤ n → Says i ss j tokens → body_at text None v n i tokens ≡ Ok j
  body_read n i j [] tokens le (same, e) = ap (body_at text None v n i) e ∙ at_end n i ∙ ap Ok same
  body_read zero i j (s ∷ ss) tokens le (front, back, stands, are, e) =
      let size : length tokens ≡ suc (length (stands.more ++ back)) = ap length (e ∙ ap (λ x. x ++ back) stands.whole) in
      absurd (omega (arith, size, le))
  body_read (suc n) i j (s ∷ ss) tokens le (front, back, stands, are, e) =
      let all : front ++ back ≡ stands.first ∷ (stands.more ++ back) = ap (λ x. x ++ back) stands.whole in
      let size : length tokens ≡ suc (length (stands.more ++ back)) = ap length (e ∙ all) in
      let more : length (stands.more ++ back) ≡ length stands.more + length back = length-append stands.more back in
      let one = one_read i j s ss front back stands.first stands are stands.line in
      ap (body_at text None v (suc n) i) (e ∙ all)
      ∙ step n i (with_statement i s) stands.first (stands.more ++ back) back (subst (λ x. next_statement_at text None v stands.first.line i x ≡ Ok (with_statement i s, back)) all one)
      ∙ body_read n (with_statement i s) j ss back (omega (arith, size, more, le)) are

  first_read : (head body : List Token) → IsHead v (toks_of text head) → first_at text None (head ++ body) ≡ Ok (v, body)
  unfolding first_at
  first_read head body is =
      let a : length (toks_of text head) ≡ length head = length-map head (tok_of text) in
      let b = head_length v (toks_of text head) is in
      let le : length head ≤ most_tokens = omega (arith, a, b) in
      limited_read text None head_at v head body le (head_read v (toks_of text head) (further text None head body) is)

  all_read : (tokens body : List Token) (i : Interface) → first_at text None tokens ≡ Ok (v, body) → body_at text None v (length body) empty body ≡ Ok i → interface_at text None tokens ≡ Ok i
  unfolding interface_at
  all_read tokens body i f e = rw (f, e) refl

  -- Statements are found.

  line_of_first : (t u : Token) (s : Statement) (ts us : List Token) → t ∷ ts ≡ u ∷ us → IsInLine t.line s → IsInLine u.line s
  line_of_first t u s ts us e h = let same : t ≡ u = cc in subst (λ (x : Token). IsInLine x.line s) same h

  -- a statement, and the tokens behind it
  record FoundNext (i j : Interface) (t : Token) (tokens rest : List Token) : Type 0 where
    statement : Statement
    front : List Token
    stands : Stands text v i statement front
    made : j ≡ with_statement i statement
    whole : tokens ≡ front ++ rest
    shorter : length rest < length tokens

  stands_by : (i : Interface) (s : Statement) (t : Token) (more front rest : List Token) → t ∷ more ≡ front ++ rest → length front ≤ most_tokens → IsInLine t.line s → IsStatement v i s (toks_of text front) → Stands text v i s front
  stands_by i s t more [] rest e short line is = absurd (statement_some v i s is)
  stands_by i s t more (u ∷ us) rest e short line is =
      record { first = u; more = us; whole = refl; short = short; line = line_of_first t u s more (us ++ rest) e line; is = is }

  next_found : (i j : Interface) (t : Token) (more rest : List Token) → next_statement_at text None v t.line i (t ∷ more) ≡ Ok (j, rest) → FoundNext i j t (t ∷ more) rest
  unfolding next_statement_at
  next_found i j t more rest e =
      let tokens = t ∷ more in
      let (us, r, same) = limited_ok text None tokens j rest (statement_at v t.line i (seen text tokens)) e in
      let f = statement_found v i t.line j (seen text tokens) us r in
      let w = front_found text None (IsStatement v i f.statement) tokens us f.front f.is f.whole in
      let whole : tokens ≡ w.front ++ rest = w.whole ∙ ap (λ x. w.front ++ x) same in
      let stands = stands_by i f.statement t more w.front rest whole w.short f.in_line w.is in
      let size : length tokens ≡ length w.front + length rest = ap length whole ∙ length-append w.front rest in
      let some : length w.front ≡ suc (length stands.more) = ap length stands.whole in
      record { statement = f.statement; front = w.front; stands = stands; made = f.made; whole = whole; shorter = omega (arith, size, some) }

  body_found : (n : ℕ) (i j : Interface) (tokens : List Token) → length tokens ≤ n → body_at text None v n i tokens ≡ Ok j → (ss : List Statement) × Says i ss j tokens
  unfolding body_at
  body_found zero i j [] le e = ([], (ok_same i j (Ok i) refl e, refl))
  body_found zero i j (t ∷ more) le e = absurd (omega (arith, le))
  body_found (suc n) i j [] le e = ([], (ok_same i j (Ok i) refl e, refl))
  body_found (suc n) i j (t ∷ more) le e =
      let x = and_ok (next_statement_at text None v t.line i (t ∷ more)) (λ k. body_at text None v n k.0 k.1) j e in
      let f = next_found i x.0.0 t more x.0.1 x.1 in
      let s = f.shorter in
      let m = body_found n x.0.0 j x.0.1 (omega (arith, s, le)) x.2 in
      (f.statement ∷ m.0, (f.front, x.0.1, f.stands, subst (λ k. Says k m.0 j x.0.1) f.made m.1, f.whole))

  first_found : (tokens body : List Token) → first_at text None tokens ≡ Ok (v, body) → Front text None (IsHead v) tokens body
  unfolding first_at
  first_found tokens body e =
      let (us, r, same) = limited_ok text None tokens v body (head_at (seen text tokens)) e in
      let h = head_found (seen text tokens) us v r in
      subst (Front text None (IsHead v) tokens) same (front_found text None (IsHead v) tokens us h.0 (head_part v h.0 h.1) h.2)

module _ (text : List ℕ) where
  -- a text that is an interface is read as it
  pub interface_read : (i : Interface) → IsInterface text i → SaysInterface text i
  interface_read i is =
      (is.tokens, None, is.scans, all_read text is.version is.tokens is.body i (ap (first_at text None) is.whole ∙ first_read text is.version is.head is.body is.begins) (body_read text is.version (length is.body) empty i is.statements is.body (omega arith) is.are))

  record Parted (stop : Option Stop) (tokens : List Token) (i : Interface) : Type 0 where
    no_stop : stop ≡ None
    version : Version
    body : List Token
    head_is : first_at text None tokens ≡ Ok (version, body)
    body_is : body_at text None version (length body) empty body ≡ Ok i

  parted : (stop : Option Stop) (tokens : List Token) (i : Interface) → interface_at text stop tokens ≡ Ok i → Parted stop tokens i
  unfolding interface_at
  parted (Some s) tokens i e =
      let h = and_ok (first_at text (Some s) tokens) (λ h. body_at text (Some s) h.0 (length h.1) empty h.1 and_then λ k. ended (Some s) k) i e in
      let b = and_ok (body_at text (Some s) h.0.0 (length h.0.1) empty h.0.1) (λ k. ended (Some s) k) i h.2 in
      absurd (apart i (lexical s) (Err (lexical s)) b.2 refl)
  parted None tokens i e =
      let h = and_ok (first_at text None tokens) (λ h. body_at text None h.0 (length h.1) empty h.1 and_then λ k. ended None k) i e in
      let b = and_ok (body_at text None h.0.0 (length h.0.1) empty h.0.1) (λ k. ended None k) i h.2 in
      record { no_stop = refl; version = h.0.0; body = h.0.1; head_is = h.1; body_is = b.1 ∙ ap Ok (ok_same b.0 i (Ok b.0) refl b.2) }

  -- what is read of a text is an interface that it is
  pub interface_found : (i : Interface) → SaysInterface text i → IsInterface text i
  interface_found i (tokens, stop, scans, e) =
      let p = parted stop tokens i e in
      let h = first_found text p.version tokens p.body p.head_is in
      let b = body_found text p.version (length p.body) empty i p.body (omega arith) p.body_is in
      record {
        version = p.version;
        tokens = tokens;
        scans = subst (Scans rules.Interface text tokens) p.no_stop scans;
        head = h.front;
        body = p.body;
        whole = h.whole;
        begins = h.is;
        statements = b.0;
        are = b.1;
      }

  -- One answer.

  scan_one : OneWay rules.Interface text → (a b : List Token) (s t : Option Stop) → Scans rules.Interface text a s → Scans rules.Interface text b t → (a ≡ b) × (s ≡ t)
  scan_one one a b None None p q = (one.whole a b p q, refl)
  scan_one one a b None (Some t) p q = absurd (one.apart a b t p q)
  scan_one one a b (Some s) None p q = absurd (one.apart b a s q p)
  scan_one one a b (Some s) (Some t) p q = let k = one.stop a b s t p q in (k.0, ap Some k.1)

  pub one_interface : OneWay rules.Interface text → (i j : Interface) → SaysInterface text i → SaysInterface text j → i ≡ j
  one_interface one i j (a, s, p, e) (b, t, q, f) =
      let k = scan_one one a b s t p q in
      ok_same i j (interface_at text t b) (ap (interface_at text t) (sym k.0) ∙ ap (λ r. interface_at text r a) (sym k.1) ∙ e) f

  pub one_fault : OneWay rules.Interface text → (e f : InterfaceFault) → FirstInterfaceFault text e → FirstInterfaceFault text f → e ≡ f
  one_fault one e f (a, s, d, p, g, x) (b, t, m, q, h, y) =
      let k = scan_one one a b s t p q in
      x ∙ ap answered (err_same d m (interface_at text t b) (ap (interface_at text t) (sym k.0) ∙ ap (λ r. interface_at text r a) (sym k.1) ∙ g) h) ∙ sym y

  pub not_both : OneWay rules.Interface text → (i : Interface) (f : InterfaceFault) → SaysInterface text i → FirstInterfaceFault text f → ⊥
  not_both one i f (a, s, p, e) (b, t, m, q, h, y) =
      let k = scan_one one a b s t p q in
      apart i m (interface_at text t b) (ap (interface_at text t) (sym k.0) ∙ ap (λ r. interface_at text r a) (sym k.1) ∙ e) h
