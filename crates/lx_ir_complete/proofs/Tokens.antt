-- Each text has tokens as the grammar of IR text sees them.
use Rattle.std.proofs.Common.{◌≡◌, ℕ, zero, suc, Bool, true, false, List, [], ◌∷◌, ◌++◌, length, refl, Option, Some, None, is_some, slice_get, fold}
use Rattle.std.specs.Prelude.{if◌then◌else◌}
use Rattle.std.specs.List.{AllZip, AllByRecursion}
use Rattle.lx_words.specs.declared.token.TokenRule.TheVariants.{Ir}
use Rattle.lx_words.specs.declared.token.Token.{Token}
use Rattle.lx_words.specs.declared.token.Stop.{Stop}
use Rattle.lx_words.specs.Cuts.{bytes_of, Scans}
use Rattle.lx_words.proofs.Lists.{at_end}
use Rattle.lx_ir_tokens.specs.declared.token.Tok.{Tok}
use Rattle.lx_ir_tokens.specs.declared.read.IrTokens.{IrTokens}
use Rattle.lx_ir_tokens.specs.Lines.{kept_tokens, last_line}
use Rattle.lx_ir_tokens.specs.Names.{number_of}
use Rattle.lx_ir_tokens.specs.Said.{kind_of}
use Rattle.lx_ir_tokens.specs.Reading.{said_at, with_said, names_of, StandsFor, IsTokOf, ReadsAs}
use Rattle.lx_ir_lawful.proofs.NameNumbers.{named}
use Rattle.lx_ir_complete.proofs.Cutting.{text_is_scanned}

-- Names that stand in a table stay in it.

-- a number stands for the name
abbrev Named : List (List ℕ) → Option (List ℕ) → Type 0
Named names said = (n : ℕ) × StandsFor names n said

front_stays : (names more : List (List ℕ)) (n : ℕ) (name : List ℕ) → slice_get names n ≡ Some name → slice_get (names ++ more) n ≡ Some name
front_stays [] more n name h = cc
front_stays (x ∷ xs) more zero name h = h
front_stays (x ∷ xs) more (suc n) name h = front_stays xs more n name h

stays_if : (there : Bool) (names : List (List ℕ)) (new : List ℕ) (said : Option (List ℕ)) → Named names said → Named (if there then names else names ++ new ∷ []) said
stays_if true names new said h = h
stays_if false names new None h = h
stays_if false names new (Some name) (n, at) = (n, front_stays names (new ∷ []) n name at)

stays : (names : List (List ℕ)) (more said : Option (List ℕ)) → Named names said → Named (with_said names more) said
stays names None said h = h
stays names (Some new) said h = stays_if (is_some (number_of names new)) names new said h

-- A name that is put into a table stands in it.

there_by : (names : List (List ℕ)) (new : List ℕ) (o : Option ℕ) → number_of names new ≡ o → Named (if is_some o then names else names ++ new ∷ []) (Some new)
there_by names new (Some n) e = (n, named names new n e)
there_by names new None e = (length names, at_end names new)

there : (names : List (List ℕ)) (said : Option (List ℕ)) → Named (with_said names said) said
there names None = (0, refl)
there names (Some new) = there_by names new (number_of names new) refl

-- The tokens of places, one after the other.

module _ (text : List ℕ) where
  -- the table once these places are seen
  abbrev table : List (List ℕ) → List Token → List (List ℕ)
  table names places = fold (λ ns t. with_said ns (said_at text t)) names places

  table_keeps : (places : List Token) (names : List (List ℕ)) (said : Option (List ℕ)) → Named names said → Named (table names places) said
  table_keeps [] names said h = h
  table_keeps (t ∷ ts) names said h = table_keeps ts (with_said names (said_at text t)) said (stays names (said_at text t) said h)

  places_named : (places : List Token) (names : List (List ℕ)) → AllByRecursion (λ t. Named (table names places) (said_at text t)) places
  places_named [] names = tt
  places_named (t ∷ ts) names = (table_keeps ts (with_said names (said_at text t)) (said_at text t) (there names (said_at text t)), places_named ts (with_said names (said_at text t)))

  -- places whose names stand in a table are tokens
  abbrev AreToks : List (List ℕ) → List Token → Type 0
  AreToks names places = (toks : List Tok) × AllZip (IsTokOf text names) places toks

  toks_of : (names : List (List ℕ)) (places : List Token) → AllByRecursion (λ t. Named names (said_at text t)) places → AreToks names places
  toks_of names [] h = ([], tt)
  toks_of names (t ∷ ts) h =
      let rest = toks_of names ts h.1 in
      let tok : Tok = record { kind = kind_of t.kind (bytes_of text t); name = h.0.0 } in
      (tok ∷ rest.0, (record { kind = refl; name = h.0.1 }, rest.1))

  read_by : (tokens : List Token) (stop : Option Stop) → Scans Ir text tokens stop → (ir : IrTokens) × ReadsAs text ir
  read_by tokens stop scans =
      let places : List Token = kept_tokens text tokens in
      let names : List (List ℕ) = names_of text places in
      let toks = toks_of names places (places_named places []) in
      let ir : IrTokens = record { toks = toks.0; places = places; names = names; stop = stop; last_line = last_line tokens } in
      (ir, record { tokens = tokens; scans = scans; places = refl; names = refl; toks = toks.1; last_line = refl })

pub text_has_tokens : (text : List ℕ) → (ir : IrTokens) × ReadsAs text ir
text_has_tokens text = let s = text_is_scanned Ir text in read_by text s.0 s.1 s.2
