-- Marks, and for whom a module's text asks behind them.
use Rattle.std.proofs.Common.{◌≡◌, ◌≢◌, ◌∙◌, ◌↔◌, ℕ, ◌+◌, ◌-◌, ◌<◌, ◌≤◌, Bool, true, false, ◌&&◌, Option, Some, None, List, refl, sym, ap, arith, nat_eq, nat_le}
use Rattle.std.proofs.lemmas.Bool.{eq-eqb, ne_eqb}
use Rattle.std.proofs.lemmas.Bool.Decides.{nat_tests}
use Rattle.lx_words.specs.Word.{Word}
use Rattle.lx_words.specs.Width.{byte_count}
use Rattle.lx_caps.specs.declared.Principal.{Principal}
use Rattle.lx_caps.specs.declared.Principal.TheVariants.{Kernel}
use Rattle.lx_model.specs.declared.request.What.{What}
use Rattle.lx_model.specs.declared.request.What.TheVariants.{Store, Copy, Fill}
use Rattle.lx_images.specs.Image.{Marks, covered, is_checked, module_asker, principal_if, top}
use Rattle.lx_monitor_laws.specs.MarkLaws.{AsksByGuard, NamesEach}

names_all : (g : ℕ × ℕ) (a n : ℕ) → 0 < n → NamesEach g a n → covered (Some g) a n ≡ true
names_all g a n some names =
    let low : g.0 ≤ a = (names a (omega arith) (omega (arith, some))).0 in
    let high : a + (n - 1) < g.0 + g.1 = (names (a + (n - 1)) (omega arith) (omega (arith, some))).1 in
    grind (arith, nat_tests, some, low, high)

leaves_out : (g : ℕ × ℕ) (a n b : ℕ) → a ≤ b → b < a + n → (g.0 ≤ b → g.0 + g.1 ≤ b) → covered (Some g) a n ≡ false
leaves_out g a n b from to out = grind (arith, nat_tests, from, to, out)

-- what asks by a guard over `n` bytes from `a` on
pub by_guard : (what : What) (a n : ℕ) → ((m : Marks) (shadow : List Principal) → module_asker m shadow what ≡ principal_if (covered m.guarded a n) shadow) → AsksByGuard what a n
by_guard what a n asks = record {
  guarded = λ m shadow g is some names. asks m shadow ∙ ap (λ x. principal_if x shadow) (ap (λ o. covered o a n) is ∙ names_all g a n some names);
  beyond = λ m shadow g b is from to out. asks m shadow ∙ ap (λ x. principal_if x shadow) (ap (λ o. covered o a n) is ∙ leaves_out g a n b from to out);
  bare = λ m shadow is. asks m shadow ∙ ap (λ x. principal_if x shadow) (ap (λ o. covered o a n) is);
}

pub checked : (a : ℕ) → is_checked (Some a) a ≡ true
checked a = eq-eqb a a refl

pub unchecked : (o : Option ℕ) (a : ℕ) → o ≢ Some a → is_checked o a ≡ false
unchecked None a other = refl
unchecked (Some b) a other = ne_eqb a b (λ same. other (ap Some (sym same)))
