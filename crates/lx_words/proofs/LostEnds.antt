-- A byte that may not stand in a lexeme, behind one, ends it.
use Rattle.std.proofs.Common.{◌≡◌, ℕ, List, [], ◌∷◌, ◌++◌, Bool, false, ◌&&◌, ap, refl, true, Option, Some, None}
use Rattle.std.specs.List.{list_all}
use Rattle.std.proofs.lemmas.Bool.{and_right, and_parts}
use Rattle.lx_words.specs.Lexemes.{some_all, is_nil, ends_quoted, is_quoted_name_byte, ends_name}
use Rattle.lx_words.proofs.Lists.{all_lost}
use Rattle.std.specs.Prelude.{◌==◌, if◌then◌else◌}
use Rattle.lx_words.specs.declared.token.Lexeme.{Lexeme}
use Rattle.lx_words.proofs.Tests.{test_lost}

pub some_lost : (p : ℕ → Bool) (bs : List ℕ) (r : ℕ) (more : List ℕ) → p r ≡ false → some_all p (bs ++ r ∷ more) ≡ false
some_lost p [] r more e = ap (λ v. v && list_all p more) e
some_lost p (b ∷ bs) r more e = and_right (p b) (list_all p (bs ++ r ∷ more)) (all_lost p bs r more e)

pub nil_lost : (bs : List ℕ) (r : ℕ) (more : List ℕ) → is_nil (bs ++ r ∷ more) ≡ false
nil_lost [] r more = refl
nil_lost (b ∷ bs) r more = refl

pub quoted_lost : (p : ℕ → Bool) (bs : List ℕ) (r : ℕ) (more : List ℕ) → ends_quoted p bs ≡ true → ends_quoted p (bs ++ r ∷ more) ≡ false
quoted_lost p [] r more e = cc e
quoted_lost p (b ∷ bs) r more e =
    test_lost (b == 34) (is_nil bs) (p b && ends_quoted p bs) (is_nil (bs ++ r ∷ more)) (p b && ends_quoted p (bs ++ r ∷ more))
    (λ h. nil_lost bs r more)
    (λ h. and_right (p b) (ends_quoted p (bs ++ r ∷ more)) (quoted_lost p bs r more (and_parts (p b) (ends_quoted p bs) h).1))
    e

pub ended_name_lost : (bs : List ℕ) (r : ℕ) (more : List ℕ) → ends_name bs ≡ true → ends_name (bs ++ r ∷ more) ≡ false
ended_name_lost [] r more e = cc e
ended_name_lost (b ∷ bs) r more e =
    and_right (is_quoted_name_byte b) (ends_quoted is_quoted_name_byte (bs ++ r ∷ more)) (quoted_lost is_quoted_name_byte bs r more (and_parts (is_quoted_name_byte b) (ends_quoted is_quoted_name_byte bs) e).1)

pub if_lost : (v : Bool) (x y z u : Option Lexeme) (l : Lexeme) → (x ≡ Some l → z ≡ None) → (y ≡ Some l → u ≡ None) → (if v then x else y) ≡ Some l → (if v then z else u) ≡ None
if_lost true x y z u l f g e = f e
if_lost false x y z u l f g e = g e
