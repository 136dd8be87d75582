-- A store and the list of its acts stand for a history.
use Rattle.lx_caps.specs.History.{History}

-- the list and the store stand for it both
pub record IsLogged {L C : Type 0} (notes : L → History → Type 0) (stands : C → History → Type 0) (log : L) (caps : C) (h : History) : Type 0 where
  pub noted : notes log h
  pub owned : stands caps h
