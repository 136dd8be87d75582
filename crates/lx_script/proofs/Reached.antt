-- How far a schedule is read.
use Rattle.std.proofs.Common.{◌≡◌, ℕ, List, [], ◌∷◌, ◌++◌, length, drop, get_or, Bool, true, false, Ok, inl, inr, refl, sym, ap, ◌∙◌, subst, arith, append_assoc}
use Rattle.std.specs.Prelude.{replicate, ◌==◌}
use Rattle.std.proofs.lemmas.List.{append-nil, length-append, length-replicate}
use Rattle.lx_script.specs.declared.fault.Fault.{Fault}
use Rattle.lx_script.specs.declared.fault.ReadError.{ReadError}
use Rattle.lx_script.specs.declared.fault.ReadError.TheVariants as errors
use Rattle.lx_script.specs.declared.fault.FaultKind.TheVariants.{Lexical}
use Rattle.lx_words.specs.Text.{hex_text}
use Rattle.lx_script.specs.Faults.{fault_met, IsMet}
use Rattle.lx_script.specs.Words.{Word, Passes, HasWord, HasNoWord}
use Rattle.lx_script.specs.Runs.{run_says}
use Rattle.lx_script.specs.Schedule.{RefusesBy, Says, Spells, Adds, Refuses, Fails, FirstFault, Reads}

pub record Reached (text entries rest : List ℕ) (row : ℕ) (first : Bool) : Type 0 where
  pub words : List Word
  pub passed : Passes text 1 words rest row
  pub spells : Spells words entries
  pub none : first ≡ true → words ≡ []
  pub begun : words ≡ [] → first ≡ true

pub start : (text : List ℕ) → Reached text [] text 1 true
start text = record {
  words = [];
  passed = (refl, refl);
  spells = record { head = []; runs = []; whole = refl; is_head = tt; says = refl; room = omega arith };
  none = λ _. refl;
  begun = λ _. refl;
}

-- one word more
pass_more : (text : List ℕ) (line : ℕ) (ws : List Word) (rest : List ℕ) (row : ℕ) (w : Word) (after : List ℕ) → Passes text line ws rest row → HasWord rest row w after → Passes text line (ws ++ w ∷ []) after w.line
pass_more text line [] rest row w after p h = (after, subst (λ t. HasWord t line w after) (sym p.0) (subst (λ n. HasWord rest n w after) (sym p.1) h), (refl, refl))
pass_more text line (v ∷ ws) rest row w after p h = (p.0, p.1, pass_more p.0 v.line ws rest row w after p.2 h)

says_more : (ws : List Word) (w : Word) (old : List ℕ) (run : ℕ × ℕ) → Says ws old → run_says w.bytes ≡ Ok run → Says (ws ++ w ∷ []) (old ++ replicate run.1 run.0)
says_more [] w old run s e = (run, [], e, ap (λ o. o ++ replicate run.1 run.0) s ∙ sym (append-nil (replicate run.1 run.0)), refl)
says_more (v ∷ ws) w old run s e = (s.0, s.1 ++ replicate run.1 run.0, s.2, ap (λ o. o ++ replicate run.1 run.0) s.3 ∙ append_assoc (replicate s.0.1 s.0.0) s.1 (replicate run.1 run.0), says_more ws w s.1 run s.4 e)

nothing_said : (head runs : List Word) (old : List ℕ) → [] ≡ head ++ runs → Says runs old → old ≡ []
nothing_said [] [] old e s = s
nothing_said [] (w ∷ ws) old e s = cc
nothing_said (w ∷ ws) runs old e s = cc

spells_more : (words : List Word) (w : Word) (old new : List ℕ) (first : Bool) → Spells words old → (first ≡ true → words ≡ []) → Adds first w.bytes old new → Spells (words ++ w ∷ []) new
spells_more words w old new first s none (inl a) =
    let empty : words ≡ [] = none a.0 in
    let nothing : new ≡ [] = a.2 ∙ nothing_said s.head s.runs old (sym empty ∙ s.whole) s.says in
    record {
      head = w ∷ [];
      runs = [];
      whole = ap (λ ws. ws ++ w ∷ []) empty;
      is_head = a.1;
      says = nothing;
      room = rw nothing (omega arith);
    }
spells_more words w old new first s none (inr a) = record {
  head = s.head;
  runs = s.runs ++ w ∷ [];
  whole = ap (λ ws. ws ++ w ∷ []) s.whole ∙ append_assoc s.head s.runs (w ∷ []);
  is_head = s.is_head;
  says = subst (λ n. Says (s.runs ++ w ∷ []) n) (sym a.2) (says_more s.runs w old a.0 s.says a.1);
  room = rw (a.2, length-append old (replicate a.0.1 a.0.0), length-replicate a.0.1 a.0.0) a.3;
}

never : (w : Word) (words : List Word) → words ++ w ∷ [] ≡ [] → ⊥
never w [] e = cc
never w (v ∷ vs) e = cc

pub one_more : (text rest after old new bytes : List ℕ) (row line : ℕ) (first : Bool) → Reached text old rest row first → HasWord rest row (record { bytes = bytes; line = line }) after → Adds first bytes old new → Reached text new after line false
one_more text rest after old new bytes row line first r h a =
    let w : Word = record { bytes = bytes; line = line } in
    record {
      words = r.words ++ w ∷ [];
      passed = pass_more text 1 r.words rest row w after r.passed h;
      spells = spells_more r.words w old new first r.spells r.none a;
      none = λ e. cc;
      begun = λ e. absurd (never w r.words e);
    }

-- a word that is refused is the first fault
refused_at : (text rest after old bytes : List ℕ) (row line : ℕ) (first : Bool) (e : Fault) → Reached text old rest row first → HasWord rest row (record { bytes = bytes; line = line }) after → RefusesBy first bytes line (length old) e → FirstFault text e
refused_at text rest after old bytes row line first e r h at =
    let w : Word = record { bytes = bytes; line = line } in
    inl (record {
      before = r.words;
      word = w;
      entries = old;
      rest = after;
      line = line;
      words = pass_more text 1 r.words rest row w after r.passed h;
      fine = r.spells;
      fault_at = elim at [
        | inl x ↦ inl (record { wrong = x.0; is = x.1; no_head = λ none same. x.2 (r.begun none) same; fault_is = x.3 })
        | inr x ↦ inr (record { run = x.0; is = x.1; past = x.2; fault_is = x.3 })
      ];
    })

pub refused : (text rest after old bytes : List ℕ) (row line : ℕ) (first : Bool) (e : ReadError) → Reached text old rest row first → HasWord rest row (record { bytes = bytes; line = line }) after → Refuses first bytes line (length old) e → Fails text e
refused text rest after old bytes row line first errors.Memory r h f = tt
refused text rest after old bytes row line first (errors.Fault e) r h f = refused_at text rest after old bytes row line first e r h f

-- the words are all
pub finished : (text rest end entries : List ℕ) (row line : ℕ) (first : Bool) → Reached text entries rest row first → HasNoWord rest row end line → end ≡ [] → Reads text entries
finished text rest end entries row line first r h e = (r.words, line, (rest, row, r.passed, subst (λ t. HasNoWord rest row t line) e h), r.spells)

-- a byte stands in no word
stopped_at : (text rest end entries : List ℕ) (row line : ℕ) (first : Bool) (byte : ℕ) (more : List ℕ) (e : Fault) → Reached text entries rest row first → HasNoWord rest row end line → end ≡ byte ∷ more → e ≡ fault_met Lexical line (hex_text byte) → FirstFault text e
stopped_at text rest end entries row line first byte more fault r h e f = inr (r.words, entries, byte, more, line, (rest, row, r.passed, subst (λ t. HasNoWord rest row t line) e h), r.spells, f)

pub stopped : (text rest end entries : List ℕ) (row line : ℕ) (first : Bool) (byte : ℕ) (more : List ℕ) (e : ReadError) → Reached text entries rest row first → HasNoWord rest row end line → end ≡ byte ∷ more → IsMet Lexical line (hex_text byte) e → Fails text e
stopped text rest end entries row line first byte more errors.Memory r h e f = tt
stopped text rest end entries row line first byte more (errors.Fault fault) r h e f = stopped_at text rest end entries row line first byte more fault r h e f

pub head_and_rest : (xs : List ℕ) → (length xs == 0) ≡ false → xs ≡ get_or xs 0 0 ∷ drop 1 xs
head_and_rest [] e = cc
head_and_rest (x ∷ xs) e = refl
