-- A token at which the first reading of a text of prototypes stops cannot stand there.
use Rattle.lx_words.specs.declared.token.TokenRule.TheVariants as rules
use Rattle.lx_annot_laws.specs.RefusedLaws.{RefusedStandNowhere}
use Rattle.lx_cproto.specs.Texts.{FirstPrototypeFault}
use Rattle.lx_annot_laws.specs.Declarations.{ArePrototypes}

-- Where the first fault of a text is a token that cannot stand there, no text with the same tokens up to it is an interface.
abbrev pub RefusedPrototypeTokensStandNowhere : Type 0
RefusedPrototypeTokensStandNowhere = RefusedStandNowhere rules.Prototype FirstPrototypeFault ArePrototypes
