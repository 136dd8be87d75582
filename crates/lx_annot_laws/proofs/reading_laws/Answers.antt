use Rattle.lx_words.specs.declared.token.TokenRule.TheVariants as rules
use Rattle.lx_annot_laws.proofs.RenamedTexts.{interface_anew, names_same, spaces_same}
use Rattle.lx_annot_laws.proofs.reading_laws.Goals as goal

pub returns-clause-read : goal.returns-clause-read
returns-clause-read c r x y i h is names = interface_anew r x y (c.one_way.ensures rules.Interface x) names i h is

pub returns-clause-names : goal.returns-clause-names
returns-clause-names c r x y i j h is names k keeps = names_same r x y i j (c.one_way.ensures rules.Interface x) c.interface_laws.ensures.one h is names k keeps

pub returns-clause-spaces : goal.returns-clause-spaces
returns-clause-spaces c x y i j same h k = spaces_same x y i j (c.one_way.ensures rules.Interface x) c.interface_laws.ensures.one same h k
