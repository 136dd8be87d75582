-- The laws are lemmas.
use Rattle.lx_linked.proofs.Globals.{lawful_globals, type_fields, global_fields}
use Rattle.lx_linked.proofs.Stores.{all_sites}
use Rattle.lx_linked.proofs.Typed.{gets_types, first_type, no_type}
use Rattle.lx_linked.proofs.site_laws.Goals as goal

pub returns : goal.returns
returns c = record {
  lawful = lawful_globals;
  paths = type_fields;
  fields = global_fields;
  sites = all_sites;
  got = gets_types;
  first = first_type;
  none = no_type;
}
