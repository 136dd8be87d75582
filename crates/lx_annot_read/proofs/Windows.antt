-- The next tokens, and those behind what was read.
use Rattle.std.proofs.Common.{◌≡◌, ℕ, ◌-◌, ◌≤◌, ◌<◌, List, length, take, drop, All, min, arith}
use Rattle.std.proofs.lemmas.List.{take_all, length-map, length-drop, length-take}
use Rattle.std.proofs.lemmas.List.Elements.{All-drop, All-take}
use Rattle.lx_words.specs.declared.token.Token.{Token}
use Rattle.lx_words.specs.Cuts.{IsWithin}
use Rattle.lx_annot_expressions.specs.Tokens.{Tok, tok_of, most_tokens}
use Rattle.lx_annot_read.specs.Texts.{window, rest_behind, seen}

pub all_taken : (tokens : List Token) → length tokens ≤ most_tokens → window tokens ≡ tokens
all_taken tokens le = take_all most_tokens tokens le

pub within_window : (text : List ℕ) (tokens : List Token) → All (IsWithin text) tokens → All (IsWithin text) (take most_tokens tokens)
within_window text tokens h = All-take (IsWithin text) most_tokens tokens h

pub within_rest : (text : List ℕ) (tokens : List Token) (n : ℕ) → All (IsWithin text) tokens → All (IsWithin text) (drop n tokens)
within_rest text tokens n h = All-drop (IsWithin text) n tokens h

-- fewer tokens are left than there were
pub shorter : (text : List ℕ) (tokens : List Token) (left : List Tok) → length left < length (seen text tokens) → length (rest_behind tokens left) < length tokens
shorter text tokens left h =
    let seen_length : length (seen text tokens) ≡ length (window tokens) = length-map (window tokens) (tok_of text) in
    let window_length : length (window tokens) ≡ min most_tokens (length tokens) = length-take most_tokens tokens in
    let rest_length : length (rest_behind tokens left) ≡ length tokens - (length (window tokens) - length left) = length-drop (length (window tokens) - length left) tokens in
    omega (arith, h, seen_length, window_length, rest_length)
