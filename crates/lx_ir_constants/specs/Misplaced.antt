-- Constant `getelementptr`s whose indices name no part.
use Rattle.std.specs.Prelude.{ℕ, Bool, true, false, not, List, [], ◌∷◌, Result, Ok, Err, if◌then◌else◌, is_some}
use Rattle.lx_ir_tokens.specs.declared.token.Tok.{Tok}
use Rattle.lx_words.specs.Word.{Word}
use Rattle.lx_ir_offsets.specs.Offsets.{part_at}
use Rattle.lx_ir_terms.specs.Context.{Context}
use Rattle.lx_ir_terms.specs.Reading.{Read, has, behind}
use Rattle.lx_ir_terms.specs.Types.{depth_limit}
use Rattle.lx_ir_constants.specs.declared.element.Element.{Element}
use Rattle.lx_ir_constants.specs.Constants.{is_element_word, element_behind, pointer_at}

-- the indices behind the first
abbrev pub further : List Word → List Word
further [] = []
further (i ∷ is) = is

-- each index behind the first names a part, as far as the types are known
abbrev pub names_parts : Context → Element → Bool
names_parts context e = is_some (part_at context.named e.ty (further e.indices))

abbrev pub goes_astray : Context → Read Element → Bool
goes_astray context (Ok e) = not (names_parts context e.0)
goes_astray context (Err f) = false

-- a constant `getelementptr` stands here that can be read to its end, and one of its indices names no part
abbrev pub is_misplaced : Context → List Tok → Bool
is_misplaced context ts =
    if has is_element_word ts then goes_astray context (element_behind context (pointer_at context depth_limit) (behind ts))
    else false
