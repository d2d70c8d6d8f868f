use Rattle.term_reader.specs.View.{token}
use Rattle.derivation_text.proofs.NodeLemmas.{no_parts_empty, no_parts_by, no_parts_rule, no_parts_name, not_when}
use Rattle.derivation_text.proofs.node.by_parts.Goals as goal
use Rattle.binding_terms.proofs.Lists.{map_empty}

pub returns-then-form-eq0 : goal.returns-then-form-eq0
returns-then-form-eq0 c ts cut = no_parts_empty ts _ _ cut (map_empty token c.args.form.now c.if-form-eq0.true)

pub returns-then-not-is_word : goal.returns-then-not-is_word
returns-then-not-is_word c ts cut = no_parts_by ts _ _ _ _ _ cut (not_when c.is_word.ensures c.if-not-is_word.true)

pub returns-then-not-is_word-2 : goal.returns-then-not-is_word-2
returns-then-not-is_word-2 c ts cut = no_parts_rule ts _ _ _ _ _ cut (not_when c.is_word-2.ensures c.if-not-is_word-2.true)

pub returns-then-not-is_name_token : goal.returns-then-not-is_name_token
returns-then-not-is_name_token c ts cut = no_parts_name ts _ _ _ _ _ cut (cc (c.is_name_token.ensures, c.if-not-is_name_token.true))
