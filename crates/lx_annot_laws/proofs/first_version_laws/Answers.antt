use Rattle.lx_annot_laws.proofs.FirstVersion.{first_version}
use Rattle.lx_annot_laws.proofs.first_version_laws.Goals as goal

pub returns : goal.returns
returns c text i is one = first_version text i is one
