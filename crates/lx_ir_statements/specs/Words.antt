-- Words that are passed over in the heads of statements.
use Rattle.std.specs.Prelude.{Bool, true, false, ◌||◌, List, length}
use Rattle.lx_ir_tokens.specs.declared.token.Tok.{Tok}
use Rattle.lx_ir_tokens.specs.declared.token.Kind.{Kind}
use Rattle.lx_ir_tokens.specs.declared.token.Kind.TheVariants as kinds
use Rattle.lx_ir_tokens.specs.declared.token.Mark.TheVariants.{Hash}
use Rattle.lx_ir_tokens.specs.declared.keyword.StatementWord.TheVariants as statements
use Rattle.lx_ir_tokens.specs.declared.keyword.Keyword.TheVariants as keywords
use Rattle.lx_ir_terms.specs.Reading.{Read, is_mark, has}
use Rattle.lx_ir_operands.specs.Steps.{steps_at, one_attribute_at}

abbrev pub is_linkage_word : Kind → Bool
is_linkage_word (kinds.Word keywords.Linkage) = true
is_linkage_word _ = false

abbrev pub is_any_word : Kind → Bool
is_any_word (kinds.Word w) = true
is_any_word _ = false

-- a word that does not begin the next statement
abbrev pub is_import_word : Kind → Bool
is_import_word (kinds.Word (keywords.Statement statements.Declare)) = false
is_import_word (kinds.Word (keywords.Statement statements.Define)) = false
is_import_word (kinds.Word w) = true
is_import_word _ = false

-- what stands next belongs to an import: `#`, or a word that does not begin the next statement
abbrev pub has_import_attribute : List Tok → Bool
has_import_attribute ts = has (is_mark Hash) ts || has is_import_word ts

-- the words behind the parentheses of an import
abbrev pub import_attributes_at : List Tok → Read (Unit {0})
import_attributes_at ts = steps_at has_import_attribute one_attribute_at (length ts) ts

-- what stands next belongs to a function: `#`, or a word
abbrev pub has_function_attribute : List Tok → Bool
has_function_attribute ts = has (is_mark Hash) ts || has is_any_word ts

-- the words between the parentheses of a function and its brace
abbrev pub function_attributes_at : List Tok → Read (Unit {0})
function_attributes_at ts = steps_at has_function_attribute one_attribute_at (length ts) ts
