use Rattle.std.proofs.Common.{List, ℕ, ◌∙◌, ap, map, subst, Bor}
use Rattle.user_grammar.specs.Indexed.{HaveSame, names_in}
use Rattle.user_grammar.proofs.name_lists.assumed_index.Goals as goal

pub returns : goal.returns
returns c =
    subst (HaveSame (names_in c.in_ok-index.index))
    (ap (λ (texts : List (Bor (List ℕ))). map (λ text. text.now) texts) c.as_slice.ensures.value ∙ c.in_ok-texts.ensures) c.in_ok-index.ensures.same
