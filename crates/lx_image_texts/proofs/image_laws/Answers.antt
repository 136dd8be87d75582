-- The laws are lemmas.
use Rattle.lx_image_texts.proofs.Images.{full_guards, spared_guards}
use Rattle.lx_image_texts.proofs.Calling.{erased_lawful}
use Rattle.lx_image_texts.proofs.SparedAlike.{still_spared}
use Rattle.lx_image_texts.proofs.SparedStores.{own_stack, stack_spared}
use Rattle.lx_image_texts.proofs.SlotTypes.{same_annotated, still_agrees}
use Rattle.lx_image_texts.proofs.Closed.{lawful_closed}
use Rattle.lx_image_texts.proofs.Exact.{is_exact}
use Rattle.lx_image_texts.proofs.Named.{is_named}
use Rattle.lx_image_texts.proofs.image_laws.Goals as goal

pub returns : goal.returns
returns c = record { exact = is_exact; named = is_named; closed = lawful_closed; full = full_guards; spared = spared_guards; erased = erased_lawful; annotated = same_annotated; agrees = still_agrees; alike = still_spared; keeps = own_stack; spares = stack_spared }
