use Rattle.rule_schemes.specs.Reading.{IsSpelling}
use Rattle.user_grammar.specs.Fault.{category_texts}
use Rattle.user_grammar.specs.Finding.{portions_of}
use Rattle.user_grammar.proofs.fault_names.is_no_category.Goals as goal
use Rattle.binding_terms.proofs.Lists.{none_where_not}

pub returns : goal.returns
returns c = none_where_not (λ name. IsSpelling name c.args.word.now) (category_texts (portions_of c.args.lists.now)) c.is_spelled.result c.is_spelled.ensures
