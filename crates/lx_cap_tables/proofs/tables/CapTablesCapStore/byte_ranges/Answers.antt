use Rattle.std.proofs.Common.{ℕ, Bool, length, sym, ap, ◌∙◌, subst, arith}
use Rattle.lx_caps.specs.declared.Atom.TheVariants.{Byte}
use Rattle.lx_caps.specs.History.{same_principal}
use Rattle.lx_caps.specs.Ranges.{IsRanges}
use Rattle.lx_cap_lists.specs.Holders.{held_by}
use Rattle.lx_cap_lists.specs.Kept.{AreAll}
use Rattle.lx_cap_lists.specs.Tables.{is_in_order}
use Rattle.lx_cap_tables.specs.Sound.{StandsFor}
use Rattle.lx_cap_tables.proofs.HadLemmas.{owned_is}
use Rattle.lx_cap_tables.proofs.TieLemmas.{all_fit, listed_is}
use Rattle.lx_cap_tables.proofs.tables.CapTablesCapStore.byte_ranges.Goals as goal

pub owned_parts-requires : goal.owned_parts-requires
owned_parts-requires c =
    let old = c.self.invariant in
    let count = old.owner_count in
    record {
      lists = let h = old.owner_fit in omega (arith, h, count);
      threads = ap length c.as_slice.ensures.value ∙ old.threads;
      fit = all_fit c.self.inside.pool c.laws.ensures c.self.inside.owners.keys c.self.inside.atoms.keys c.self.inside.loans.items old.in_order;
    }

pub returns : goal.returns
unfolding StandsFor
returns c = λ h stands.
    let st = subst (λ t. StandsFor t h) (sym c.self.view_is) stands in
    let old = c.self.invariant in
    let pool = c.self.inside.pool in
    let owners = c.self.inside.owners.keys in
    let atoms = c.self.inside.atoms.keys in
    let loans = c.as_slice.result.now in
    let who = c.args.who in
    let order : AreAll (is_in_order owners atoms loans) pool = subst (λ ls. AreAll (is_in_order owners atoms ls) pool) (sym c.as_slice.ensures.value) old.in_order in
    subst (λ (p : ℕ → Bool). IsRanges p 0 c.in_ok-ranges.ranges.items)
    (λ j b. (c.in_ok-parts.ensures.bytes b ∙ listed_is pool c.laws.ensures owners atoms loans order who (Byte b) ∙ sym (st.1 (held_by who) (Byte b)) ∙ sym (owned_is (same_principal who) h (Byte b))) j)
    c.in_ok-ranges.ensures
