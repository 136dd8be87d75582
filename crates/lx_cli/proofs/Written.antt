-- What was written for an answer.
use Rattle.std.proofs.Common.{◌≡◌, ◌⊎◌, inl, inr, ◌∙◌, sym, ap, subst, refl, arith, ℕ, ◌<◌, true, false, List, [], ◌∷◌, ◌++◌, length, take, Option, Some, None, Result}
use Rattle.lx_outside.specs.declared.file_text.FileText.{FileText}
use Rattle.lx_input.specs.Files.InputStop.{InputStop}
use Rattle.lx_input.specs.declared.input.Input.{Input}
use Rattle.lx_cli.specs.Answer.{usage_line, accepted_line}
use Rattle.lx_cli.specs.Command.{Command, CommandTurn, ComesTo, UntoldTurn, command_of}
use Rattle.lx_cli.specs.declared.answer.Answer.{Answer}
use Rattle.lx_cli.specs.declared.answer.Answer.TheVariants as answer
use Rattle.lx_cli.specs.Rows.{RowText, Wrote, FellShort, Headline, answer_text, status_of}
use Rattle.lx_cli.specs.Told.{TellsInput}

-- what is told of a command's files is told of the words'
pub by_words : (words : List (List ℕ)) (files : List FileText) (c : Command) (a : Answer) → command_of words ≡ Some c
    → TellsInput (Some c) (CommandTurn files (Some c)) a → TellsInput (command_of words) (ComesTo words files) a
by_words words files c a command is = subst (λ (o : Option Command). TellsInput o (λ (r : Result Input InputStop). CommandTurn files o r) a) (sym command) is

-- so is what is told of files that no shelf tells
pub untold_by_words : (words before now : List (List ℕ)) (c : Command) (a : Answer) → command_of words ≡ Some c
    → TellsInput (Some c) (UntoldTurn (Some c) before now) a → TellsInput (command_of words) (UntoldTurn (command_of words) before now) a
untold_by_words words before now c a command is = subst (λ (o : Option Command). TellsInput o (UntoldTurn o before now) a) (sym command) is

-- The shelf's faults are `before` and `now`, and the sink told `told` and tells `new`.
module _ (words : List (List ℕ)) (turn : Result Input InputStop → Type 0) (before : List (List ℕ)) (told : List ℕ) (new : Option (List ℕ)) where
  module _ (none : command_of words ≡ None) where
    pub usage_wrote : (status : ℕ) → status ≡ 2 → new ≡ Some (told ++ usage_line) → Wrote words turn before before told new status
    usage_wrote status is gained =
        let row : Wrote words turn before before told new 2 = record { text = usage_line; row = (none, refl); gained = gained } in
        subst (λ (s : ℕ). Wrote words turn before before told new s) (sym is) row

    pub usage_short : (n : ℕ) × (n < length usage_line) × (new ≡ Some (told ++ take n usage_line)) → FellShort words turn before before told new
    usage_short part = record { status = 2; text = usage_line; row = (none, refl); part = part }

  module _ (now : List (List ℕ)) (a : Answer) (is : TellsInput (command_of words) turn a) (grew : (file : List ℕ) → a ≡ answer.Unread file → now ≡ before ++ file ∷ []) where
    row_of : RowText words turn before now (status_of a) (answer_text a)
    row_of = row a is grew where
      row : (b : Answer) → TellsInput (command_of words) turn b → ((file : List ℕ) → b ≡ answer.Unread file → now ≡ before ++ file ∷ [])
          → RowText words turn before now (status_of b) (answer_text b)
      row (answer.Fault f) is grew = (f, is, refl)
      row (answer.Unread file) is grew = (file, is, grew file refl, refl)
      row (answer.Broken entry) is grew = (is.0, entry, is.1, is.2, refl)
      row (answer.Report text true) is grew = is
      row (answer.Report text false) is grew = is
      row (answer.Text text) is grew = is
      row answer.Accepted is grew = is
      row (answer.Refused f) is grew = (is.0, f, is.1, is.2, refl)

    pub answer_wrote : (status : ℕ) (text : List ℕ) → status ≡ status_of a → text ≡ answer_text a → new ≡ Some (told ++ text) → Wrote words turn before now told new status
    answer_wrote status text is text_is gained =
        let row : Wrote words turn before now told new (status_of a) = record { text = answer_text a; row = row_of; gained = rw (← text_is) gained } in
        subst (λ (s : ℕ). Wrote words turn before now told new s) (sym is) row

    pub answer_short : (text : List ℕ) → text ≡ answer_text a → (n : ℕ) × (n < length text) × (new ≡ Some (told ++ take n text)) → FellShort words turn before now told new
    answer_short text text_is part = record {
      status = status_of a;
      text = answer_text a;
      row = row_of;
      part = subst (λ (t : List ℕ). (n : ℕ) × (n < length t) × (new ≡ Some (told ++ take n t))) text_is part;
    }

module _ (words : List (List ℕ)) (files : List FileText) (told : List ℕ) (new : Option (List ℕ)) (a : Answer) (is : TellsInput (command_of words) (ComesTo words files) a) where
  pub answer_headline : (result : ℕ) (text : List ℕ) → (result ≡ 0) ⊎ (result ≡ 1) → result ≡ status_of a → text ≡ answer_text a → new ≡ Some (told ++ text) → Headline words files told new result
  answer_headline result text which status text_is gained = on a is which status (gained ∙ ap (λ (t : List ℕ). Some (told ++ t)) text_is)
    where
      other : {X : Type 0} (k : ℕ) → (result ≡ 0) ⊎ (result ≡ 1) → result ≡ k → 1 < k → X
      other k (inl zero_is) k_is more = absurd (omega (arith, zero_is, k_is, more))
      other k (inr one_is) k_is more = absurd (omega (arith, one_is, k_is, more))

      on : (b : Answer) → TellsInput (command_of words) (ComesTo words files) b → (result ≡ 0) ⊎ (result ≡ 1) → result ≡ status_of b → new ≡ Some (told ++ answer_text b) → Headline words files told new result
      on (answer.Fault f) is which same gained = other 3 which same (omega arith)
      on (answer.Unread file) is which same gained = other 4 which same (omega arith)
      on (answer.Broken entry) is which same gained = other 7 which same (omega arith)
      on (answer.Report text true) is which same gained = record { input = is.0; read = is.1; text = text; returned = true; report = is.2; is_status = same; gained = gained }
      on (answer.Report text false) is which same gained = record { input = is.0; read = is.1; text = text; returned = false; report = is.2; is_status = same; gained = gained }
      on (answer.Text text) is which same gained = record { input = is.0; read = is.1; text = text; returned = true; report = is.2; is_status = same; gained = gained }
      on answer.Accepted is which same gained = record { input = is.0; read = is.1; text = accepted_line; returned = true; report = is.2; is_status = same; gained = gained }
      on (answer.Refused f) is which same gained = other 8 which same (omega arith)
