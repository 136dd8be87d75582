-- Worked rows: words, names, byte strings and numbers.
use Rattle.std.specs.Prelude.{◌≡◌, true, false, Some, None, [], ◌∷◌, pos, negsuc, codes}
use Rattle.lx_words.specs.declared.word.BinOp.TheVariants.{And}
use Rattle.lx_words.specs.declared.word.Pred.TheVariants.{Ugt}
use Rattle.lx_ir_tokens.specs.declared.keyword.InstructionWord.TheVariants.{Operator}
use Rattle.lx_ir_tokens.specs.declared.keyword.Keyword.TheVariants.{Instruction, Predicate, Align, Other}
use Rattle.lx_ir_tokens.specs.Keywords.{keyword_of, is_in_profile}
use Rattle.lx_ir_tokens.specs.Said.{name_said, bytes_said, value_of_number}

pub record WorkedTokens : Type 0 where
  pub operator : keyword_of (codes "and") ≡ Instruction (Operator And)
  pub comparison : keyword_of (codes "ugt") ≡ Predicate Ugt
  pub two_places : keyword_of (codes "align") ≡ Align
  pub string_mark : keyword_of (codes "c") ≡ Other
  pub debug : is_in_profile (keyword_of (codes "dbg")) ≡ false
  pub heading : is_in_profile (keyword_of (codes "attributes")) ≡ true
  pub plain : name_said (codes "@x.1") ≡ codes "x.1"
  pub quoted : name_said (codes "%\"x y\"") ≡ codes "x y"
  pub escapes : bytes_said (codes "c\"a\\0A\\5cz\"") ≡ 97 ∷ 10 ∷ 92 ∷ 122 ∷ []
  pub zeros : value_of_number (codes "007") ≡ Some (pos 7)
  pub least : value_of_number (codes "-170141183460469231731687303715884105728") ≡ Some (negsuc 170141183460469231731687303715884105727)
  pub wide : value_of_number (codes "170141183460469231731687303715884105728") ≡ None
