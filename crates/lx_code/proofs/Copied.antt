-- Maps whose keys own the bytes of names.
use Rattle.std.proofs.Common.{◌≡◌, ◌∙◌, sym, subst, ℕ, Bool, true, false, cond, Option, List, refl}
use Rattle.std.specs.Prelude.{bytes_eq}
use Rattle.std.specs.Cmp.Lexicographic.{bytes_decides, nat_list_eq_equiv}
use Rattle.std.specs.HashMap.{HashMap, UpdatesBy}
use Rattle.std.specs.Map.{lookup, AreApart, IsKeyTest, KeepsOthers}

module _ {K X : Type 0} (eq : K → K → Bool) (test : K → Bool) where
  other_entries : (old new : List (K × X)) → KeepsOthers eq test old new → (other : K → Bool) → IsKeyTest eq other → AreApart test other → lookup other new ≡ lookup other old
  unfolding KeepsOthers
  other_entries old new h = h

apart : (bs cs ks : List ℕ) → bytes_eq bs cs ≡ false → bytes_eq bs ks ≡ true → bytes_eq cs ks ≡ false
apart bs cs ks n y = nat_list_eq_equiv.symm cs ks ∙ sym (nat_list_eq_equiv.congr bs ks cs y) ∙ n

module _ {W : Type 0} (f g : List ℕ → W) (bs : List ℕ) (w : W) (here : g bs ≡ w) (other : (cs : List ℕ) → bytes_eq bs cs ≡ false → g cs ≡ f cs) where
  by_test : (b : Bool) (cs : List ℕ) → bytes_eq bs cs ≡ b → g cs ≡ cond b w (f cs)
  by_test true cs e = subst (λ l. g l ≡ w) ((bytes_decides bs cs).0 e) here
  by_test false cs e = other cs e

-- what a map has at any name, once it has something at one
pub updated : {K X S : Type 0} (bytes : K → List ℕ) (bs : List ℕ) (m n : HashMap K X S) (w : Option X) → UpdatesBy (λ x y. bytes_eq (bytes x) (bytes y)) (λ k. bytes_eq bs (bytes k)) m n w
    → (cs : List ℕ) → lookup (λ k. bytes_eq cs (bytes k)) n.entries ≡ cond (bytes_eq bs cs) w (lookup (λ k. bytes_eq cs (bytes k)) m.entries)
updated bytes bs m n w h cs =
    by_test (λ ds. lookup (λ k. bytes_eq ds (bytes k)) m.entries) (λ ds. lookup (λ k. bytes_eq ds (bytes k)) n.entries) bs w h.1
    (λ ds e. other_entries _ _ _ _ h.3 _ (λ x y. nat_list_eq_equiv.congr ds (bytes x) (bytes y)) (λ k. apart bs ds (bytes k) e))
    (bytes_eq bs cs) cs refl
