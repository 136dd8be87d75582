-- The tokens of prototypes are tokens of interface texts.
use Rattle.std.proofs.Common.{◌≡◌, ℕ, Bool, true, false, ◌&&◌, Some, None, List, [], ◌∷◌, refl, ap, ◌∙◌}
use Rattle.std.specs.Prelude.{◌==◌, if◌then◌else◌}
use Rattle.std.specs.List.{list_all}
use Rattle.std.proofs.lemmas.Bool.{eqb-true}
use Rattle.std.proofs.lemmas.List.Elements.{All-weaker}
use Rattle.lx_words.specs.declared.token.TokenKind.{TokenKind}
use Rattle.lx_words.specs.declared.token.TokenKind.TheVariants as kinds
use Rattle.lx_words.specs.declared.token.TokenRule.TheVariants as rules
use Rattle.lx_words.specs.declared.token.Token.{Token}
use Rattle.lx_words.specs.declared.token.Lexeme.{Lexeme}
use Rattle.lx_words.specs.declared.token.Lexeme.TheVariants as lexemes
use Rattle.lx_words.specs.Lexemes.{is_space, is_digit, is_word_start, is_word_byte, is_line_byte, is_interface_mark, is_name, is_nil, is_slashed, when, lexeme_of, lexeme_behind, other_lexeme}
use Rattle.lx_words.specs.Cuts.{Scans, IsTokenOf}
use Rattle.lx_words.proofs.Standing.{tokens_stand}
use Rattle.lx_annot_expressions.specs.Tokens.{toks_of}
use Rattle.lx_annot_laws.specs.Says.{AreLexed}
use Rattle.lx_annot_laws.proofs.Named.{lexed_of}

none_said : (test : Bool) (l : Lexeme) → test ≡ false → when test l ≡ None
none_said true l e = cc
none_said false l e = refl

-- `#` is no mark
second_false : (v w : Bool) → (if v then false else w && false) ≡ false
second_false true w = refl
second_false false true = refl
second_false false false = refl

hash_marks : (bs : List ℕ) → is_interface_mark 35 bs ≡ false
hash_marks [] = refl
hash_marks (c ∷ []) = second_false (c == 61) (35 == c)
hash_marks (c ∷ d ∷ bs) = refl

no_hash : (bs : List ℕ) → lexeme_of rules.Prototype (35 ∷ bs) ≡ None
unfolding lexeme_behind other_lexeme
no_hash bs = none_said (is_interface_mark 35 bs) (lexemes.Token kinds.Mark) (hash_marks bs)

-- no token is a comment
no_comment : (test : Bool) (kind : TokenKind) → when test lexemes.Comment ≡ Some (lexemes.Token kind) → ⊥
no_comment true kind h = cc
no_comment false kind h = cc

token_by : (space percent digit start slash v n l name digits word slashed mark : Bool) (kind : TokenKind) → v ≡ false
    → (if space then when n lexemes.Space else if percent then when name (lexemes.Token kinds.Local) else if digit then when digits (lexemes.Token kinds.Number) else if start then when word (lexemes.Token kinds.Word) else if slash then when slashed lexemes.Comment else when mark (lexemes.Token kinds.Mark)) ≡ Some (lexemes.Token kind)
    → (if space then when n lexemes.Space else if v then when l lexemes.Comment else if percent then when name (lexemes.Token kinds.Local) else if digit then when digits (lexemes.Token kinds.Number) else if start then when word (lexemes.Token kinds.Word) else when mark (lexemes.Token kinds.Mark)) ≡ Some (lexemes.Token kind)
token_by space percent digit start slash true n l name digits word slashed mark kind e h = cc
token_by true percent digit start slash false n l name digits word slashed mark kind e h = h
token_by false true digit start slash false n l name digits word slashed mark kind e h = h
token_by false false true start slash false n l name digits word slashed mark kind e h = h
token_by false false false true slash false n l name digits word slashed mark kind e h = h
token_by false false false false true false n l name digits word slashed mark kind e h = absurd (no_comment slashed kind h)
token_by false false false false false false n l name digits word slashed mark kind e h = h

token_behind : (b : ℕ) (bs : List ℕ) (v : Bool) (kind : TokenKind) → b == 35 ≡ v → lexeme_of rules.Prototype (b ∷ bs) ≡ Some (lexemes.Token kind) → lexeme_of rules.Interface (b ∷ bs) ≡ Some (lexemes.Token kind)
unfolding lexeme_behind other_lexeme
token_behind b bs true kind e h =
    let none : lexeme_of rules.Prototype (b ∷ bs) ≡ None = ap (λ c. lexeme_of rules.Prototype (c ∷ bs)) (eqb-true b 35 e) ∙ no_hash bs in
    cc (none, h)
token_behind b bs false kind e h =
    token_by (is_space b) (b == 37) (is_digit b) (is_word_start b) (b == 47) (b == 35) (is_nil bs) (list_all is_line_byte bs) (is_name bs) (list_all is_digit bs) (list_all is_word_byte bs) (is_slashed bs) (is_interface_mark b bs) kind e h

-- the bytes of a token there are the same token here
pub token_here : (bytes : List ℕ) (kind : TokenKind) → lexeme_of rules.Prototype bytes ≡ Some (lexemes.Token kind) → lexeme_of rules.Interface bytes ≡ Some (lexemes.Token kind)
token_here [] kind h = cc
token_here (b ∷ bs) kind h = token_behind b bs (b == 35) kind refl h

stands_here : (text : List ℕ) (t : Token) → IsTokenOf rules.Prototype text t → IsTokenOf rules.Interface text t
stands_here text t is = record { within = is.within; is = token_here _ t.kind is.is; row = is.row }

-- all tokens of prototypes
pub scanned_lexed : (text : List ℕ) (tokens : List Token) → Scans rules.Prototype text tokens None → AreLexed (toks_of text tokens)
scanned_lexed text tokens (at, line, r) =
    lexed_of text tokens (All-weaker (IsTokenOf rules.Prototype text) (IsTokenOf rules.Interface text) (stands_here text) tokens (tokens_stand rules.Prototype text tokens at line [] r))
