-- What lists of owners give a principal, gathered.
use Rattle.std.proofs.Common.{◌≡◌, refl, sym, ap, ◌∙◌, ℕ, ◌+◌, Bool, true, false, ◌&&◌, ◌||◌, List, ◌∷◌, None}
use Rattle.std.specs.Prelude.{if◌then◌else◌}
use Rattle.lx_words.proofs.Tests.{and_false, or_joined}
use Rattle.lx_caps.specs.declared.Principal.{Principal}
use Rattle.lx_caps.specs.declared.Atom.{Atom}
use Rattle.lx_caps.specs.declared.Atom.TheVariants as atom
use Rattle.lx_caps.specs.Once.{is_atom}
use Rattle.lx_caps.specs.Order.{is_call_or_ref}
use Rattle.lx_cap_lists.specs.declared.entry.Entry.{Entry}
use Rattle.lx_cap_lists.specs.declared.entry.Spot.{Spot}
use Rattle.lx_cap_lists.specs.declared.entry.Spot.TheVariants as spot
use Rattle.lx_cap_lists.specs.Atoms.{same_atom, spot_atom, entry_atom, gives_atom, atom_among}
use Rattle.lx_cap_nodes.specs.Bits.{is_set}
use Rattle.lx_cap_lists.specs.Holders.{held_by}
use Rattle.lx_cap_lists.specs.Lists.{some_below}
use Rattle.lx_cap_lists.specs.Owned.{alone, alone_by}
use Rattle.lx_cap_tables.proofs.Below.{one_more_found, some_none}
use Rattle.lx_caps.proofs.Tests.{sooner_step}

call_is : (a : ℕ) (there : Bool) (x : Atom) → (is_call_or_ref x && (there && same_atom (atom.Call a) x)) ≡ is_atom (alone (spot.Call a) there) x
call_is a true (atom.Byte b) = refl
call_is a true (atom.Call b) = refl
call_is a true (atom.Ref u b) = refl
call_is a false (atom.Byte b) = refl
call_is a false (atom.Call b) = refl
call_is a false (atom.Ref u b) = refl

ref_is : (t a : ℕ) (there : Bool) (x : Atom) → (is_call_or_ref x && (there && same_atom (atom.Ref t a) x)) ≡ is_atom (alone (spot.Ref t a) there) x
ref_is t a true (atom.Byte b) = refl
ref_is t a true (atom.Call b) = refl
ref_is t a true (atom.Ref u b) = refl
ref_is t a false (atom.Byte b) = refl
ref_is t a false (atom.Call b) = refl
ref_is t a false (atom.Ref u b) = refl

alone_is : (s : Spot) (mask : ℕ) (x : Atom) → (is_call_or_ref x && spot_atom s mask x) ≡ is_atom (alone s (is_set mask 0)) x
alone_is (spot.Part p) mask (atom.Byte b) = refl
alone_is (spot.Part p) mask (atom.Call b) = refl
alone_is (spot.Part p) mask (atom.Ref u b) = refl
alone_is (spot.Call a) mask x = call_is a (is_set mask 0) x
alone_is (spot.Ref t a) mask x = ref_is t a (is_set mask 0) x

-- the call or the reference that an entry gives is the one found
pub gives_alone : (who : Principal) (e : Entry) (x : Atom) → (is_call_or_ref x && gives_atom who x e) ≡ is_atom (alone_by who e) x
gives_alone who e x = by (held_by who e.holder)
  where
    by : (held : Bool) → (is_call_or_ref x && (held && entry_atom e x)) ≡ is_atom (if held then alone e.spot (is_set e.mask 0) else None) x
    by true = alone_is e.spot e.mask x
    by false = and_false (is_call_or_ref x)

pub or_none : (s c : Bool) → (s || (c && false)) ≡ s
or_none true c = refl
or_none false true = refl
or_none false false = refl

-- one node more
pub node_step : (who : Principal) (e : Entry) (n : ℕ) (rest : List (ℕ × Entry)) (x : Atom) (old new kind : Bool) → new ≡ (old || (kind && gives_atom who x e))
    → (new || (kind && atom_among who rest x)) ≡ (old || (kind && atom_among who ((n, e) ∷ rest) x))
node_step who e n rest x old new kind is = ap (λ t. t || (kind && atom_among who rest x)) is ∙ sooner_step old kind (gives_atom who x e) (atom_among who rest x)

pub none_below : (s c : Bool) (p : ℕ → Bool) → s ≡ (s || (c && some_below 0 p))
none_below s c p = sym (ap (λ t. s || (c && t)) (some_none p) ∙ or_none s c)

-- one number more
pub below_step : (s c old new : Bool) (n : ℕ) (p : ℕ → Bool) → old ≡ (s || (c && some_below n p)) → new ≡ (old || (c && p n)) → new ≡ (s || (c && some_below (n + 1) p))
below_step s c old new n p was is =
    is ∙ (ap (λ t. t || (c && p n)) was ∙ (or_joined s (c && some_below n p) (c && p n) ∙ ap (λ t. s || t) (one_more_found n c p)))
