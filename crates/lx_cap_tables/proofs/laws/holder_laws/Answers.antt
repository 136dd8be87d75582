use Rattle.std.proofs.Common.{◌∙◌, sym, ap}
use Rattle.lx_caps.specs.History.{same_principal}
use Rattle.lx_cap_lists.specs.Holders.{had}
use Rattle.lx_cap_tables.proofs.HadLemmas.{kept_is, owned_is, keeper_is}
use Rattle.lx_cap_tables.proofs.laws.holder_laws.Goals as goal

pub returns : goal.returns
returns c = record {
  kept = λ h q x. ap (λ among. had among h x) (λ j s. keeper_is q s j) ∙ sym (kept_is (same_principal q) h x);
  owned = λ h q x. sym (owned_is (same_principal q) h x);
}
