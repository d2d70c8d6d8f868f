use Rattle.std.proofs.Common.{◌≡◌, ◌++◌, ℕ, List, map, drop}
use Rattle.sy_base.specs.Tokens.{PlainToken}
use Rattle.outline_reader.specs.Plain.{plain_form}
use Rattle.user_grammar.specs.MadeItems.{AreBracketsFrom, IsNotOpened}
use Rattle.user_grammar.specs.Production.{AreBrackets}
use Rattle.user_grammar.proofs.made_forms.read_brackets.Given as goal

-- the tokens that are left make brackets of the words that are left
abbrev pub invariant-loop-token : goal.invariant-loop-token
invariant-loop-token l = record {
  count : l.count ≡ l.token-index;
  left : (words : List (List ℕ)) (rest : List PlainToken) → AreBrackets words (plain_form l.tokens) rest → IsNotOpened rest
      → (left : List (List ℕ)) × (words ≡ map (λ word. word.now) l.words.items ++ left) × AreBracketsFrom l.spot left (plain_form (drop l.token-index l.tokens)) rest;
}
