use Rattle.lx_caps.proofs.Principals.{same_principal_itself}
use Rattle.lx_caps.proofs.OwnerLemmas.{reaches_itself}
use Rattle.lx_cap_lists.proofs.holder.asked_for.Goals as goal

pub returns-in-Owned : goal.returns-in-Owned
returns-in-Owned c = rw (c.in-Owned.is) (reaches_itself c.in-Owned.who)

pub returns-in-Own : goal.returns-in-Own
returns-in-Own c = rw (c.in-Own.is) (same_principal_itself c.in-Own.who)

pub returns-in-Kept : goal.returns-in-Kept
returns-in-Kept c = rw (c.in-Kept.is) (reaches_itself c.in-Kept.who)
