-- Calls and references are listed.
use Rattle.std.proofs.Common.{◌≡◌, ℕ, List, map, filter, refl, sym, ap, ◌∙◌}
use Rattle.lx_caps.specs.declared.Principal.{Principal}
use Rattle.lx_caps.specs.declared.Cap.TheVariants as cap
use Rattle.lx_caps.specs.declared.Atom.TheVariants as atom
use Rattle.lx_caps.specs.History.{History, owns, same_principal}
use Rattle.lx_model.specs.Owned.{ascending, mentioned, call_address, ref_address, owned_calls, owned_refs}
use Rattle.lx_world.specs.Listing.{IsListing}
use Rattle.lx_world.proofs.Cuts.{ascends, not_in, listing_filter, listing_one}
use Rattle.lx_world.proofs.Mentioned.{call_free, ref_free}

pub calls_listed : (h : History) (q : Principal) → (ns : List ℕ) × (owned_calls h q ≡ map cap.Call ns) × IsListing (λ a. owns h q (atom.Call a)) 0 ns
calls_listed h q = (
  filter (λ a. owns h q (atom.Call a)) (ascending (mentioned call_address h)),
  refl,
  listing_filter (λ a. owns h q (atom.Call a)) 0 (ascending (mentioned call_address h)) (ascends (mentioned call_address h))
      (λ m le n. call_free (same_principal q) h m (not_in m (mentioned call_address h) n)),
)

pub refs_listed : (h : History) (q : Principal) (ty : ℕ) → (ns : List ℕ) × (owned_refs h q ty ≡ map (cap.Ref ty) ns) × IsListing (λ a. owns h q (atom.Ref ty a)) 0 ns
refs_listed h q ty = (
  filter (λ a. owns h q (atom.Ref ty a)) (ascending (mentioned (ref_address ty) h)),
  refl,
  listing_filter (λ a. owns h q (atom.Ref ty a)) 0 (ascending (mentioned (ref_address ty) h)) (ascends (mentioned (ref_address ty) h))
      (λ m le n. ref_free (same_principal q) ty h m (not_in m (mentioned (ref_address ty) h) n)),
)

-- what is listed are the calls, and the references of a type
pub calls_are : (h : History) (q : Principal) (ns : List ℕ) → IsListing (λ a. owns h q (atom.Call a)) 0 ns → map cap.Call ns ≡ owned_calls h q
calls_are h q ns l = let x : (ms : List ℕ) × (owned_calls h q ≡ map cap.Call ms) × IsListing (λ a. owns h q (atom.Call a)) 0 ms = calls_listed h q in
    ap (map cap.Call) (listing_one (λ a. owns h q (atom.Call a)) 0 ns x.0 l x.2) ∙ sym x.1

pub refs_are : (h : History) (q : Principal) (ty : ℕ) (ns : List ℕ) → IsListing (λ a. owns h q (atom.Ref ty a)) 0 ns → map (cap.Ref ty) ns ≡ owned_refs h q ty
refs_are h q ty ns l = let x : (ms : List ℕ) × (owned_refs h q ty ≡ map (cap.Ref ty) ms) × IsListing (λ a. owns h q (atom.Ref ty a)) 0 ms = refs_listed h q ty in
    ap (map (cap.Ref ty)) (listing_one (λ a. owns h q (atom.Ref ty a)) 0 ns x.0 l x.2) ∙ sym x.1
