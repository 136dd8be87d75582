-- A fault that is not there had its test passed.
use Rattle.std.proofs.Common.{◌≡◌, Bool, true, false, None, refl}
use Rattle.lx_words.proofs.Options.{some_none}
use Rattle.lx_ir.specs.Faults.{Fault, fault_unless}

pub unless_none : (b : Bool) (x : Fault) → fault_unless b x ≡ None → b ≡ true
unless_none true x e = refl
unless_none false x e = some_none e
