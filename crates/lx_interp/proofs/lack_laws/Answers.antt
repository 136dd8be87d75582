-- The laws are lemmas.
use Rattle.lx_interp.proofs.Freely.{acts_behind_lack, acts_lack, jump_lacks, leaves_lack, not_due, unpaid_top}
use Rattle.lx_interp.proofs.lack_laws.Goals as goal

pub returns : goal.returns
returns c = record {
  binary = λ to o ty x y p a lacks. lacks;
  load = λ to ty at p a lacks. lacks;
  store = λ ty v at p a lacks. lacks;
  copy = λ moves dest source len p a lacks. lacks;
  fill = λ dest byte len p a lacks. lacks;
  ret = λ v p a lacks. lacks;
  jump = jump_lacks;
  returns = λ p n at lacks. lacks;
  leaves = leaves_lack;
  acts = acts_lack;
  acts_behind = acts_behind_lack;
  ended = λ code r outcome. not_due code r outcome;
  unpaid = λ code r run top zero lacks. unpaid_top code r.fuel r.stack.top run top zero lacks.lacks;
}
