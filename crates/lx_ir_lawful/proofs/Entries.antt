-- The thing that a table of names tells has this name.
use Rattle.std.proofs.Common.{◌≡◌, ℕ, zero, suc, ◌+◌, ◌<◌, Bool, true, false, List, [], ◌∷◌, length, map, slice_get, Option, Some, None, refl, sym, ap, ◌∙◌, subst, arith}
use Rattle.std.specs.Prelude.{if◌then◌else◌}
use Rattle.std.specs.Option.{option_flatten}
use Rattle.std.specs.List.{list_all}
use Rattle.std.proofs.lemmas.Bool.{and_parts, eqb-true}
use Rattle.std.proofs.lemmas.Option.{same_Some}
use Rattle.lx_ir.specs.declared.module.Symbol.{Symbol}
use Rattle.lx_ir.specs.declared.module.Symbol.TheVariants as symbol
use Rattle.lx_ir.specs.Text.{name_at}
use Rattle.lx_ir_tokens.specs.Names.{number_of}
use Rattle.lx_ir_lawful.proofs.NameNumbers.{named}
use Rattle.lx_ir_terms.specs.Context.{entry}
use Rattle.lx_ir_tables.specs.Numbering.{has_name, number_from, number_named, numbers_from, table_of, symbol_by, symbols_by}
use Rattle.lx_ir_lawful.specs.NamedThings.{named_things}

-- Tables.

table_entry : (s c i : ℕ) (things : List (Option ℕ)) (o : Option ℕ) → slice_get (numbers_from s c things) i ≡ Some o → o ≡ number_named things (s + i)
table_entry s zero i things o e = absurd (cc e)
table_entry s (suc c) zero things o e = let here : s ≡ s + 0 = omega arith in sym (same_Some (number_named things s) o e) ∙ ap (number_named things) here
table_entry s (suc c) (suc i) things o e = let here : suc s + i ≡ s + suc i = omega arith in table_entry (suc s) c i things o e ∙ ap (number_named things) here

abbrev TwoEntries : List (Option ℕ) → List (Option ℕ) → ℕ → Option Symbol → Type 0
TwoEntries gs fs i o = (g : Option ℕ) × (f : Option ℕ) × (slice_get gs i ≡ Some g) × (slice_get fs i ≡ Some f) × (symbol_by g f ≡ o)

two_entries : (gs fs : List (Option ℕ)) (i : ℕ) (o : Option Symbol) → slice_get (symbols_by gs fs) i ≡ Some o → TwoEntries gs fs i o
two_entries [] [] i o e = absurd (cc e)
two_entries [] (f ∷ fs) i o e = absurd (cc e)
two_entries (g ∷ gs) [] i o e = absurd (cc e)
two_entries (g ∷ gs) (f ∷ fs) zero o e = (g, f, refl, refl, same_Some (symbol_by g f) o e)
two_entries (g ∷ gs) (f ∷ fs) (suc i) o e = two_entries gs fs i o e

flat : (o : Option (Option Symbol)) (s : Symbol) → option_flatten o ≡ Some s → o ≡ Some (Some s)
flat None s e = absurd (cc e)
flat (Some None) s e = absurd (cc e)
flat (Some (Some x)) s e = ap (λ y. Some (Some y)) (same_Some x s e)

-- Names.

module _ (names : List (List ℕ)) where
  -- the thing at a place, numbered from j on, has the name n
  abbrev Placed : List (List ℕ) → ℕ → ℕ → ℕ → Type 0
  Placed said j n k = (i : ℕ) × (k ≡ j + i) × (i < length said) × (slice_get names n ≡ Some (name_at said i))

  named_is : (n : ℕ) (o : Option ℕ) → has_name n o ≡ true → o ≡ Some n
  named_is n None e = absurd (cc e)
  named_is n (Some m) e = ap (λ v. Some v) (eqb-true m n e)

  placed_by : (b : Bool) (w : List ℕ) (ws : List (List ℕ)) (j n k : ℕ) → has_name n (number_of names w) ≡ b → (number_from (suc j) (map (number_of names) ws) n ≡ Some k → Placed ws (suc j) n k)
      → (if b then Some j else number_from (suc j) (map (number_of names) ws) n) ≡ Some k → Placed (w ∷ ws) j n k
  placed_by true w ws j n k here rest e =
      let same : j ≡ k = same_Some j k e in
      (0, omega (arith, same), omega arith, named names w n (named_is n (number_of names w) here))
  placed_by false w ws j n k here rest e =
      let (i, place, less, at) = rest e in
      (suc i, omega (arith, place), omega (arith, less), at)

  placed : (said : List (List ℕ)) (j n k : ℕ) → number_from j (map (number_of names) said) n ≡ Some k → Placed said j n k
  placed [] j n k e = absurd (cc e)
  placed (w ∷ ws) j n k e = placed_by (has_name n (number_of names w)) w ws j n k refl (placed ws (suc j) n k) e

  -- the thing has a place among those of its kind, and this name
  abbrev pub StandsIn : List (List ℕ) → ℕ → ℕ → Type 0
  StandsIn said n k = (k < length said) × (slice_get names n ≡ Some (name_at said k))

  stands : (said : List (List ℕ)) (n k : ℕ) (o : Option ℕ) → slice_get (table_of (named_things names said)) n ≡ Some o → o ≡ Some k → StandsIn said n k
  stands said n k o e some =
      let here : 0 + n ≡ n = omega arith in
      let number : number_from 0 (map (number_of names) said) n ≡ Some k = sym (table_entry 0 (length names) n (map (number_of names) said) o e ∙ ap (number_named (map (number_of names) said)) here) ∙ some in
      let (i, place, less, at) = placed said 0 n k number in
      let same : i ≡ k = omega (arith, place) in
      (omega (arith, same, less), at ∙ ap (λ j. Some (name_at said j)) same)

  abbrev pub IsPlaced : List (List ℕ) → List (List ℕ) → ℕ → Symbol → Type 0
  IsPlaced gs fs n (symbol.Global k) = StandsIn gs n k
  IsPlaced gs fs n (symbol.Function k) = StandsIn fs n k

  by_two : (gs fs : List (List ℕ)) (n : ℕ) (s : Symbol) (g f : Option ℕ) → slice_get (table_of (named_things names gs)) n ≡ Some g → slice_get (table_of (named_things names fs)) n ≡ Some f → symbol_by g f ≡ Some s → IsPlaced gs fs n s
  by_two gs fs n s (Some k) f a b e = subst (IsPlaced gs fs n) (same_Some (symbol.Global k) s e) (stands gs n k (Some k) a refl)
  by_two gs fs n s None (Some k) a b e = subst (IsPlaced gs fs n) (same_Some (symbol.Function k) s e) (stands fs n k (Some k) b refl)
  by_two gs fs n s None None a b e = absurd (cc e)

  pub is_placed : (gs fs : List (List ℕ)) (n : ℕ) (s : Symbol) → entry (symbols_by (table_of (named_things names gs)) (table_of (named_things names fs))) n ≡ Some s → IsPlaced gs fs n s
  is_placed gs fs n s e =
      let (g, f, a, b, by) = two_entries (table_of (named_things names gs)) (table_of (named_things names fs)) n (Some s) (flat (slice_get (symbols_by (table_of (named_things names gs)) (table_of (named_things names fs))) n) s e) in
      by_two gs fs n s g f a b by

-- what holds of each name holds of that at a place
pub at_place : (p : List ℕ → Bool) (said : List (List ℕ)) (k : ℕ) → list_all p said ≡ true → k < length said → p (name_at said k) ≡ true
at_place p [] k h less = absurd (omega (arith, less))
at_place p (w ∷ ws) zero h less = (and_parts (p w) (list_all p ws) h).0
at_place p (w ∷ ws) (suc k) h less = at_place p ws k (and_parts (p w) (list_all p ws) h).1 (omega (arith, less))
