-- The laws are lemmas.
use Rattle.lx_certificates.proofs.Newest.{giver_stands, giver_newest}
use Rattle.lx_certificates.proofs.Stripping.{strip_newest, strip_none}
use Rattle.lx_certificates.proofs.laws.standing_laws.Goals as goal

pub returns : goal.returns
returns c = record { giver_stands = giver_stands; giver_newest = giver_newest; strip_newest = strip_newest; strip_none = strip_none }
