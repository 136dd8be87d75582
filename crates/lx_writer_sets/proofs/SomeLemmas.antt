-- Some writer of a slot that passes a test, by its nodes and by its parts.
use Rattle.std.proofs.Common.{◌≡◌, ◌≢◌, ◌∙◌, refl, sym, ap, subst, ℕ, ◌+◌, ◌/◌, Bool, true, false, ◌&&◌, ◌||◌, List, Option, Some, None}
use Rattle.std.proofs.lemmas.Bool.{or_from}
use Rattle.lx_caps.specs.declared.Principal.{Principal}
use Rattle.lx_caps.specs.History.{History}
use Rattle.lx_caps.specs.Writers.{is_slot_writer}
use Rattle.lx_caps.proofs.Histories.{and_cases}
use Rattle.lx_writer_sets.specs.declared.entry.Entry.{Entry}
use Rattle.lx_writer_sets.specs.Sets.{Records, writes_part, IsSomePrincipal, IsSomeWriter}
use Rattle.lx_writer_sets.proofs.Lists.{and_or}
use Rattle.lx_writer_sets.proofs.Slots.{both_parts, one_alone, writer_in_first, writer_in_last}

-- a node that does not pass leaves the rest
pub some_rest : (f a r : Bool) → (f && a) ≡ false → (f && r) ≡ (f && (a || r))
some_rest true true r out = absurd (cc)
some_rest true false r out = refl
some_rest false a r out = refl

pub some_here : (f a r : Bool) → (f && a) ≡ true → (f && (a || r)) ≡ true
some_here true true r is = refl
some_here true false r is = absurd (cc)
some_here false a r is = absurd (cc)

pub same_some : (p s : Principal → Bool) → ((q : Principal) → p q ≡ s q) → (found : Option Principal) → IsSomePrincipal p found → IsSomePrincipal s found
same_some p s same None is = λ q. sym (same q) ∙ is q
same_some p s same (Some w) is = sym (same w) ∙ is

pub none_found : (found : Option Principal) → ((q : Principal) → found ≢ Some q) → found ≡ None
none_found None other = refl
none_found (Some q) other = absurd (other q refl)

module _ (lists : List (List (ℕ × Entry))) (h : History) (slot : ℕ) (stands : Records lists h) (t : Principal → Bool) where
  -- those of the slot's writers in a part that pass
  abbrev pub passing : ℕ → Principal → Bool
  passing part q = t q && writes_part lists part slot q

  pub at_part : (found : Option Principal) (part s place : ℕ) → s ≡ slot → part ≡ place → IsSomePrincipal (λ q. t q && writes_part lists part s q) found → IsSomePrincipal (passing place) found
  at_part found part s place same at is =
      subst (λ n. IsSomePrincipal (λ q. t q && writes_part lists place n q) found) same (subst (λ n. IsSomePrincipal (λ q. t q && writes_part lists n s q) found) at is)

  pub in_first : (w : Principal) → IsSomePrincipal (passing (slot / 64)) (Some w) → IsSomeWriter h slot t (Some w)
  in_first w is = and_cases (t w) (writes_part lists (slot / 64) slot w) (is_slot_writer h slot w) (writer_in_first lists h slot stands w) is

  -- nobody in the one part of a slot
  pub none_alone : slot / 64 ≡ (slot + 7) / 64 → IsSomePrincipal (passing (slot / 64)) None → IsSomeWriter h slot t None
  none_alone same none = λ q. sym (ap (λ (b : Bool). t q && b) (one_alone lists h slot stands same q)) ∙ none q

  -- nobody in the first part, so somebody in the last one or nobody
  pub in_last : IsSomePrincipal (passing (slot / 64)) None → (found : Option Principal) → IsSomePrincipal (passing ((slot + 7) / 64)) found → IsSomeWriter h slot t found
  in_last none (Some w) is = and_cases (t w) (writes_part lists ((slot + 7) / 64) slot w) (is_slot_writer h slot w) (writer_in_last lists h slot stands w) is
  in_last none None is = λ q.
      sym (and_or (t q) (writes_part lists (slot / 64) slot q) (writes_part lists ((slot + 7) / 64) slot q) ∙ ap (λ (b : Bool). t q && b) (both_parts lists h slot stands q))
      ∙ or_from (passing (slot / 64) q) (passing ((slot + 7) / 64) q) (none q) (is q)
