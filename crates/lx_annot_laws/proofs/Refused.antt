-- From the reading of a dialect, which stops again at the same token, to its law.
use Rattle.std.proofs.Common.{◌≡◌, ◌⊎◌, inl, inr, ℕ, true, Option, List, [], ◌∷◌, ◌++◌, Result, Err, refl, sym, ap, ◌∙◌, subst}
use Rattle.lx_words.specs.declared.token.TokenRule.{TokenRule}
use Rattle.lx_words.specs.declared.token.Token.{Token}
use Rattle.lx_words.specs.declared.token.Stop.{Stop}
use Rattle.lx_words.specs.Cuts.{Scans}
use Rattle.lx_annot.specs.declared.interface.Interface.{Interface}
use Rattle.lx_annot_expressions.specs.Tokens.{toks_of}
use Rattle.lx_annot_read.specs.declared.fault.Met.{Met}
use Rattle.lx_annot_read.specs.declared.fault.InterfaceFault.{InterfaceFault}
use Rattle.lx_annot_read.specs.Faults.{answered}
use Rattle.lx_annot_laws.specs.RefusedLaws.{is_refused, UpTo, refusal, IsRefused, IsEnd, RefusedStandNowhere}
use Rattle.lx_annot_laws.proofs.Limited.{AllTidy, HasWords, scanned_tidy, refused_at, IsSpoken, IsEnded}
use Rattle.lx_annot_laws.proofs.Whole.{Stopped}

module _ (rule : TokenRule) (words : HasWords rule) (interface_at : List ℕ → Option Stop → List Token → Result Interface Met) (IsText : List ℕ → Interface → Type 0) where
  -- what is met first in the text that cannot stand there
  abbrev pub FirstFault : List ℕ → InterfaceFault → Type 0
  FirstFault text fault = (tokens : List Token) × (stop : Option Stop) × (met : Met) × Scans rule text tokens stop × (interface_at text stop tokens ≡ Err met) × (fault ≡ answered met)

  abbrev pub Again : List ℕ → Option Stop → List Token → Met → Type 0
  Again other stop others met = interface_at other stop others ≡ Err met

  module _ (apart : (text : List ℕ) (i : Interface) (f : InterfaceFault) → IsText text i → FirstFault text f → ⊥) (text : List ℕ) (fault : InterfaceFault) where
    stopped : (tokens : List Token) (stop : Option Stop) (met : Met) → Scans rule text tokens stop → fault ≡ answered met → Stopped text tokens met Again → IsRefused rule FirstFault IsText text fault
    stopped tokens stop met scans says s =
        let again : (other : List ℕ) (token : Token) → UpTo rule other token (toks_of text (s.before ++ s.token ∷ [])) → FirstFault other (refusal met.kind other token) =
        (λ other token up. (up.before ++ token ∷ up.more, up.stop, refused_at met.kind other token, up.scans, s.again other up.stop up.before token up.more (sym up.same), refl)) in
        record {
          kind = met.kind;
          token = s.token;
          front = toks_of text (s.before ++ s.token ∷ []);
          there = record { before = s.before; more = s.more; stop = stop; scans = subst (λ ts. Scans rule text ts stop) s.whole scans; same = refl };
          is = says ∙ ap answered s.is;
          nowhere = record { again = again; none = λ other token up i is. apart other i (refusal met.kind other token) is (again other token up) };
        }

    at_end : (tokens : List Token) (stop : Option Stop) (met : Met) → Scans rule text tokens stop → fault ≡ answered met → IsEnded stop tokens met → IsEnd rule text fault
    at_end tokens stop met scans says (none, is) = (tokens, subst (Scans rule text tokens) none scans, says ∙ ap answered is)

    refused_or_end : (tokens : List Token) (stop : Option Stop) (met : Met) → Scans rule text tokens stop → fault ≡ answered met → Stopped text tokens met Again ⊎ IsEnded stop tokens met → IsRefused rule FirstFault IsText text fault ⊎ IsEnd rule text fault
    refused_or_end tokens stop met scans says (inl s) = inl (stopped tokens stop met scans says s)
    refused_or_end tokens stop met scans says (inr e) = inr (at_end tokens stop met scans says e)

    refused : ((text : List ℕ) (stop : Option Stop) (tokens : List Token) → AllTidy text tokens → (met : Met) → IsSpoken met → interface_at text stop tokens ≡ Err met → Stopped text tokens met Again ⊎ IsEnded stop tokens met) → is_refused fault ≡ true → FirstFault text fault → IsRefused rule FirstFault IsText text fault ⊎ IsEnd rule text fault
    refused halts spoken (tokens, stop, met, scans, e, says) =
        refused_or_end tokens stop met scans says
        (halts text stop tokens (scanned_tidy rule words text tokens stop scans) met (sym (ap is_refused says) ∙ spoken) e)

  pub stand_nowhere : ((text : List ℕ) (i : Interface) (f : InterfaceFault) → IsText text i → FirstFault text f → ⊥) → ((text : List ℕ) (stop : Option Stop) (tokens : List Token) → AllTidy text tokens → (met : Met) → IsSpoken met → interface_at text stop tokens ≡ Err met → Stopped text tokens met Again ⊎ IsEnded stop tokens met)
      → RefusedStandNowhere rule FirstFault IsText
  stand_nowhere apart halts text fault spoken first = refused apart text fault halts spoken first
