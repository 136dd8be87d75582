-- Events are told one by one.
use Rattle.std.proofs.Common.{◌≡◌, ◌∙◌, ℕ, ◌+◌, ◌<◌, ◌≤◌, List, ◌∷◌, ◌++◌, length, drop, get_or, sym, ap}
use Rattle.std.specs.BTreeMap.{BTreeMap}
use Rattle.std.proofs.lemmas.List.{at_drop_more, at_drop_all, append_assoc, append-nil}
use Rattle.lx_annot.specs.Canonical.{Text}
use Rattle.lx_model.specs.declared.program.Program.{Program}
use Rattle.lx_model.specs.declared.account.InstanceName.{InstanceName}
use Rattle.lx_trace_text.specs.declared.blocks.Block.{Block}
use Rattle.lx_trace_text.specs.declared.Traced.{Traced}
use Rattle.lx_trace_text.specs.Blocks.{Holds, known_after}
use Rattle.lx_trace_text.specs.Telling.{Tells}
use Rattle.lx_trace_text.specs.Text.{event_line, event_lines}

-- the text so far, and the lines of the further events by what is known behind those so far, are `whole`
pub record Telling (p : Program) (names : List InstanceName) (n : ℕ) (rest : List Traced) (m : BTreeMap ℕ Block) (text whole : Text) : Type 0 where
  pub known : List Block
  pub holds : Holds known m
  pub same : text ++ event_lines p names known n rest ≡ whole

pub told_more : (p : Program) (names : List InstanceName) (es : List Traced) (n : ℕ) (e : Traced) (old new : BTreeMap ℕ Block) (text longer whole : Text) → n < length es → e ≡ get_or es n e
    → Telling p names n (drop n es) old text whole → ((bs : List Block) → Holds bs old → Tells p names bs n e text longer new) → Telling p names (n + 1) (drop (n + 1) es) new longer whole
told_more p names es n e old new text longer whole l is g h =
    let t : Tells p names g.known n e text longer new = h g.known g.holds in
    let rest : Text = event_lines p names (known_after g.known n e) (n + 1) (drop (n + 1) es) in
    record {
      known = known_after g.known n e;
      holds = t.known;
      same =
          ap (λ (x : Text). x ++ rest) t.text
          ∙ append_assoc text (event_line p names g.known n e) rest
          ∙ ap (λ (x : Traced). text ++ event_lines p names g.known n (x ∷ drop (n + 1) es)) is
          ∙ sym (at_drop_more (λ (xs : List Traced). text ++ event_lines p names g.known n xs) es n e l)
          ∙ g.same;
    }

pub told_all : (p : Program) (names : List InstanceName) (es : List Traced) (n : ℕ) (m : BTreeMap ℕ Block) (text whole : Text) → length es ≤ n → Telling p names n (drop n es) m text whole → text ≡ whole
told_all p names es n m text whole l g =
    sym (append-nil text) ∙ sym (at_drop_all (λ (xs : List Traced). text ++ event_lines p names g.known n xs) es n l) ∙ g.same
