use Rattle.std.proofs.Common.{◌≡◌, ◌∷◌, ◌++◌, ℕ, List, subst, sym}
use Rattle.proof_lexer.specs.View.{token_view}
use Rattle.user_grammar.specs.MadeItems.{AreBracketsFrom, taken_words}
use Rattle.user_grammar.specs.declared.made_tokens.Spot.TheVariants.{BehindWord}
use Rattle.user_grammar.proofs.MadeReadings.{word_taken}
use Rattle.user_grammar.proofs.made_forms.next_spot.Goals as goal

pub returns-in-BeforeWord : goal.returns-in-BeforeWord
returns-in-BeforeWord c = λ words tokens rest are shut.
    subst (λ s. (left : List (List ℕ)) × (words ≡ taken_words s (token_view c.args.token.now) ++ left) × AreBracketsFrom BehindWord left tokens rest) (sym c.in-BeforeWord.is)
    (word_taken words (token_view c.args.token.now) tokens rest (subst (λ s. AreBracketsFrom s words (token_view c.args.token.now ∷ tokens) rest) c.in-BeforeWord.is are))
