use Rattle.std.proofs.Common.{◌≡◌, List, ℕ, map}
use Rattle.user_grammar.proofs.fault_tokens.is_named.Goals as goal
use Rattle.binding_terms.proofs.Lists.{any_reverse}

pub returns : goal.returns
returns c = any_reverse (λ (one : List ℕ). one ≡ c.args.word.now) (map (λ text. text.now) c.args.named.now) c.is_listed.result c.is_listed.ensures
