-- Interface texts: a token at which the first reading stops cannot stand there.
use Rattle.std.proofs.Common.{◌≡◌, ◌⊎◌, ℕ, zero, suc, Option, Some, None, List, [], ◌∷◌, length, Result, Ok, Err, refl, sym, ap, ◌∙◌, subst}
use Rattle.lx_words.specs.declared.token.TokenRule.TheVariants as rules
use Rattle.lx_words.specs.declared.token.Token.{Token}
use Rattle.lx_words.specs.declared.token.Stop.{Stop}
use Rattle.lx_words.specs.Lexemes.{lexeme_behind}
use Rattle.lx_annot.specs.declared.interface.Interface.{Interface}
use Rattle.lx_annot_read.specs.declared.fault.Met.{Met}
use Rattle.lx_annot_read.specs.declared.head.Version.{Version}
use Rattle.lx_annot_read.specs.Faults.{lexical}
use Rattle.lx_annot_read.specs.Head.{head_at}
use Rattle.lx_annot_read.specs.Interfaces.{empty, statement_at}
use Rattle.lx_annot_read.specs.Texts.{seen, limited, first_at, next_at, ◌and_then◌, body_at, ended, interface_at}
use Rattle.lx_annot_read.proofs.Aside.{Same as SameAside, statement_same}
use Rattle.lx_annot_laws.specs.GrammarLaws.{NotBoth}
use Rattle.lx_annot_laws.specs.Statements.{IsInterface}
use Rattle.lx_annot_laws.specs.RefusedLaws.{RefusedTokensStandNowhere}
use Rattle.lx_annot_laws.proofs.Local.{Local}
use Rattle.lx_annot_laws.proofs.Alike.{alike_local, interface_alike}
use Rattle.lx_annot_laws.proofs.Statements.{head_plain, statement_plain, statement_hungry}
use Rattle.lx_annot_laws.proofs.Limited.{AllTidy, HasWords, IsSpoken, IsEnded, ok_met, same_met, lexical_other}
use Rattle.lx_annot_laws.proofs.Whole.{Stopped, loop, whole_at, whole_halts}
use Rattle.lx_annot_laws.proofs.Refused.{stand_nowhere}

-- Statements behind interfaces that differ in lines alone.

statement_local : (v : Version) (l m : ℕ) (i j : Interface) → SameAside i j → Local SameAside (statement_at v l i) (statement_at v m j)
statement_local v l m i j same =
    alike_local SameAside (statement_at v l i) (statement_at v m j) (statement_plain v l i) (λ ts. interface_alike (statement_at v l i ts) (statement_at v m j ts) (statement_same v l m i j ts same))

-- The reading of a text as such a loop.

pub then_alike : {A B : Type 0} (r : Result A Met) (f g : A → Result B Met) → ((x : A) → f x ≡ g x) → (r and_then f) ≡ (r and_then g)
then_alike (Ok x) f g h = h x
then_alike (Err d) f g h = refl

body_is : (text : List ℕ) (stop : Option Stop) (v : Version) (n : ℕ) (i : Interface) (tokens : List Token) → body_at text stop v n i tokens ≡ loop (statement_at v) text stop n i tokens
unfolding body_at next_at
body_is text stop v zero i tokens = refl
body_is text stop v (suc n) i [] = refl
body_is text stop v (suc n) i (t ∷ ts) =
    then_alike (limited text stop (t ∷ ts) (statement_at v t.line i (seen text (t ∷ ts)))) (λ x. body_at text stop v n x.0 x.1) (λ x. loop (statement_at v) text stop n x.0 x.1) (λ x. body_is text stop v n x.0 x.1)

abbrev finish : List Token → Option Stop → Interface → Result Interface Met
finish tokens stop i = ended stop i

abbrev text_at : List ℕ → Option Stop → List Token → Result Interface Met
text_at text stop tokens = whole_at head_at head_plain statement_at SameAside (λ i. refl) statement_local statement_hungry empty finish text stop tokens

text_is : (text : List ℕ) (stop : Option Stop) (tokens : List Token) → interface_at text stop tokens ≡ text_at text stop tokens
unfolding interface_at first_at
text_is text stop tokens =
    then_alike (limited text stop tokens (head_at (seen text tokens))) (λ h. body_at text stop h.0 (length h.1) empty h.1 and_then λ i. ended stop i) (λ h. loop (statement_at h.0) text stop (length h.1) empty h.1 and_then λ i. finish tokens stop i)
    (λ h. ap (λ (r : Result Interface Met). r and_then λ i. ended stop i) (body_is text stop h.0 (length h.1) empty h.1))

finished : (tokens : List Token) (stop : Option Stop) (i : Interface) (met : Met) → IsSpoken met → finish tokens stop i ≡ Err met → IsEnded stop tokens met
finished tokens None i met kind e = absurd (ok_met i met e)
finished tokens (Some s) i met kind e = absurd (lexical_other s met (same_met {A = Interface} (lexical s) met e) kind)

words : HasWords rules.Interface
unfolding lexeme_behind
words = (refl, refl)

pub text_halts : (text : List ℕ) (stop : Option Stop) (tokens : List Token) → AllTidy text tokens → (met : Met) → IsSpoken met → interface_at text stop tokens ≡ Err met → Stopped text tokens met (λ other stop' others found. interface_at other stop' others ≡ Err found) ⊎ IsEnded stop tokens met
text_halts text stop tokens tidy met kind e =
    subst (λ (read : List ℕ → Option Stop → List Token → Result Interface Met). Stopped text tokens met (λ other stop' others found. read other stop' others ≡ Err found) ⊎ IsEnded stop tokens met) (sym (λ k x y z. text_is x y z k))
    (whole_halts head_at head_plain statement_at SameAside (λ i. refl) statement_local statement_hungry empty finish finished text stop tokens tidy met kind (sym (text_is text stop tokens) ∙ e))

pub stands_nowhere : NotBoth → RefusedTokensStandNowhere
stands_nowhere apart = stand_nowhere rules.Interface words interface_at IsInterface apart text_halts
