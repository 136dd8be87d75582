-- Texts of prototypes: a token at which the first reading stops cannot stand there.
use Rattle.std.proofs.Common.{◌≡◌, ◌⊎◌, ℕ, zero, suc, Option, Some, None, List, [], ◌∷◌, length, Result, Err, refl, sym, ap, ◌∙◌, subst}
use Rattle.lx_words.specs.declared.token.TokenRule.TheVariants as rules
use Rattle.lx_words.specs.declared.token.Token.{Token}
use Rattle.lx_words.specs.declared.token.Stop.{Stop}
use Rattle.lx_words.specs.Lexemes.{lexeme_behind}
use Rattle.lx_annot.specs.declared.interface.Interface.{Interface}
use Rattle.lx_annot_read.specs.declared.fault.Met.{Met}
use Rattle.lx_annot_read.specs.Faults.{lexical, met_at_end}
use Rattle.lx_annot_read.specs.Texts.{seen, limited, ◌and_then◌, ended}
use Rattle.lx_annot_laws.proofs.Local.{Local}
use Rattle.lx_annot_laws.proofs.Limited.{AllTidy, HasWords, IsSpoken, IsEnded, ok_met, same_met, lexical_other, ended_by}
use Rattle.lx_annot_laws.proofs.Whole.{Stopped, loop, whole_at, whole_halts}
use Rattle.lx_annot_laws.proofs.Alike.{alike_local}
use Rattle.lx_annot_laws.proofs.Refused.{stand_nowhere}
use Rattle.lx_cproto.specs.Statements.{Declared, nothing, step_at}
use Rattle.lx_cproto.specs.Texts.{head_at, first_at, more_at, body_at, end_by, end_at, interface_at}
use Rattle.lx_annot_laws.specs.PrototypeGrammarLaws.{NotBoth}
use Rattle.lx_annot_laws.specs.Declarations.{ArePrototypes}
use Rattle.lx_annot_laws.specs.PrototypeRefusedLaws.{RefusedPrototypeTokensStandNowhere}
use Rattle.lx_annot_laws.proofs.PrototypeStatements.{head_plain}
use Rattle.lx_annot_laws.proofs.Outside.{step_plain, step_hungry}
use Rattle.lx_annot_laws.proofs.PrototypeAlike.{SameDeclared, declared_same, step_same}
use Rattle.lx_annot_laws.proofs.Texts.{then_alike}

step_local : (l m : ℕ) (d e : Declared) → SameDeclared d e → Local SameDeclared (step_at l d) (step_at m e)
step_local l m d e same = alike_local SameDeclared (step_at l d) (step_at m e) (step_plain l d) (step_same d e same l m)

-- The reading of a text as such a loop.

body_is : (text : List ℕ) (stop : Option Stop) (n : ℕ) (d : Declared) (tokens : List Token) → body_at text stop n d tokens ≡ loop step_at text stop n d tokens
unfolding body_at more_at
body_is text stop zero d tokens = refl
body_is text stop (suc n) d [] = refl
body_is text stop (suc n) d (t ∷ ts) =
    then_alike (limited text stop (t ∷ ts) (step_at t.line d (seen text (t ∷ ts)))) (λ x. body_at text stop n x.0 x.1) (λ x. loop step_at text stop n x.0 x.1) (λ x. body_is text stop n x.0 x.1)

abbrev text_at : List ℕ → Option Stop → List Token → Result Interface Met
text_at text stop tokens = whole_at head_at head_plain (λ h. step_at) SameDeclared declared_same (λ h. step_local) (λ h. step_hungry) nothing end_at text stop tokens

text_is : (text : List ℕ) (stop : Option Stop) (tokens : List Token) → interface_at text stop tokens ≡ text_at text stop tokens
unfolding interface_at first_at
text_is text stop tokens =
    then_alike (limited text stop tokens (head_at (seen text tokens))) (λ h. body_at text stop (length h.1) nothing h.1 and_then λ d. end_at tokens stop d) (λ h. loop step_at text stop (length h.1) nothing h.1 and_then λ d. end_at tokens stop d)
    (λ h. ap (λ (r : Result Declared Met). r and_then λ d. end_at tokens stop d) (body_is text stop (length h.1) nothing h.1))

ended_none : (stop : Option Stop) (tokens : List Token) (i : Interface) (met : Met) → IsSpoken met → ended stop i ≡ Err met → IsEnded stop tokens met
ended_none None tokens i met kind e = absurd (ok_met i met e)
ended_none (Some s) tokens i met kind e = absurd (lexical_other s met (same_met {A = Interface} (lexical s) met e) kind)

finished_by : (inside : Option (List ℕ)) (tokens : List Token) (stop : Option Stop) (i : Interface) (met : Met) → IsSpoken met → end_by inside tokens stop i ≡ Err met → IsEnded stop tokens met
finished_by None tokens stop i met kind e = ended_none stop tokens i met kind e
finished_by (Some name) tokens stop i met kind e = ended_by stop tokens met kind (same_met {A = Interface} (met_at_end tokens stop) met e)

finished : (tokens : List Token) (stop : Option Stop) (d : Declared) (met : Met) → IsSpoken met → end_at tokens stop d ≡ Err met → IsEnded stop tokens met
finished tokens stop d met kind e = finished_by d.inside tokens stop d.interface met kind e

words : HasWords rules.Prototype
unfolding lexeme_behind
words = (refl, refl)

text_halts : (text : List ℕ) (stop : Option Stop) (tokens : List Token) → AllTidy text tokens → (met : Met) → IsSpoken met → interface_at text stop tokens ≡ Err met → Stopped text tokens met (λ other stop' others found. interface_at other stop' others ≡ Err found) ⊎ IsEnded stop tokens met
text_halts text stop tokens tidy met kind e =
    subst (λ (read : List ℕ → Option Stop → List Token → Result Interface Met). Stopped text tokens met (λ other stop' others found. read other stop' others ≡ Err found) ⊎ IsEnded stop tokens met) (sym (λ k x y z. text_is x y z k))
    (whole_halts head_at head_plain (λ h. step_at) SameDeclared declared_same (λ h. step_local) (λ h. step_hungry) nothing end_at finished text stop tokens tidy met kind (sym (text_is text stop tokens) ∙ e))

pub stands_nowhere : NotBoth → RefusedPrototypeTokensStandNowhere
stands_nowhere apart = stand_nowhere rules.Prototype words interface_at ArePrototypes apart text_halts
