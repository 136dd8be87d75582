-- What a lexeme that is found was found by.
use Rattle.std.proofs.Common.{◌≡◌, ℕ, true, List, [], ◌∷◌, refl, Bool, false, Some}
use Rattle.lx_words.specs.Lexemes.{is_nil, when}
use Rattle.lx_words.specs.declared.token.Lexeme.{Lexeme}

pub nil_is : (bs : List ℕ) → is_nil bs ≡ true → bs ≡ []
nil_is [] h = refl
nil_is (b ∷ bs) h = absurd (cc h)

pub when_is : (b : Bool) (l m : Lexeme) → when b l ≡ Some m → (b ≡ true) × (l ≡ m)
when_is true l m e = let s : l ≡ m = cc in (refl, s)
when_is false l m e = absurd (cc e)
