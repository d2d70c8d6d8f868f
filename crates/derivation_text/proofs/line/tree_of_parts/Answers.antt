use Rattle.std.proofs.Common.{◌≡◌, ◌∙◌, Some, map, option_map, sym, ap}
use Rattle.rule_schemes.specs.View.{theory, judgment_value}
use Rattle.rule_schemes.specs.declared.rule.JudgInst.{JudgInst}
use Rattle.term_reader.specs.View.{token}
use Rattle.derivation_text.specs.Found.{HasValue, HasNoJudgment, cited_trees}
use Rattle.derivation_text.proofs.CitedLemmas.{cited_from, cited_derive}
use Rattle.derivation_text.proofs.LineLemmas.{answer_map, value_judged, no_judgment_tree, no_parts_tree}
use Rattle.derivation_text.proofs.line.tree_of_parts.Goals as goal
use Rattle.binding_terms.proofs.Lists.{none_case, some_case}

pub returns-in-None-2 : goal.returns-in-None-2
returns-in-None-2 c =
    no_judgment_tree (theory c.args.sys.now) c.args.known.now (map token c.args.parts.now.form.now) c.args.parts.now.rule.now (map token c.args.parts.now.rest.now) (none_case (λ (v : JudgInst). HasValue (theory c.args.sys.now) (map token c.args.parts.now.form.now) (judgment_value v)) c.in_ok-judgment.field-0 c.in_ok-judgment.ensures c.in-None-2.is)

pub made-requires-clause-judged : goal.made-requires-clause-judged
made-requires-clause-judged c =
    let th = theory c.args.sys.now in
    let ts = map token c.args.parts.now.form.now in
    value_judged th c.requires.bare ts (judgment_value c.in-Some-2.judgment)
    (some_case (HasNoJudgment th ts) (λ (v : JudgInst). HasValue th ts (judgment_value v)) c.in_ok-judgment.field-0 c.in-Some-2.judgment c.in_ok-judgment.ensures c.in-Some-2.is)

pub made-requires-clause-derive : goal.made-requires-clause-derive
made-requires-clause-derive c =
    let th = theory c.args.sys.now in
    let cited : cited_trees c.args.known.now (map token c.args.parts.now.rest.now) ≡ Some c.in-Some-3.trees.items = sym c.in_ok-trees.ensures ∙ ap (option_map (λ ds. ds.items)) c.in-Some-3.is in
    let cites = cited_from c.args.known.now (map token c.args.parts.now.rest.now) c.in-Some-3.trees.items cited in
    cited_derive th c.args.known.now cites.names _ c.requires.derive cites.trees

pub returns-in-Some-3 : goal.returns-in-Some-3
returns-in-Some-3 c =
    let th = theory c.args.sys.now in
    let ts = map token c.args.parts.now.form.now in
    let value = some_case (HasNoJudgment th ts) (λ (v : JudgInst). HasValue th ts (judgment_value v)) c.in_ok-judgment.field-0 c.in-Some-2.judgment c.in_ok-judgment.ensures c.in-Some-2.is in
    let cited : cited_trees c.args.known.now (map token c.args.parts.now.rest.now) ≡ Some c.in-Some-3.trees.items = sym c.in_ok-trees.ensures ∙ ap (option_map (λ ds. ds.items)) c.in-Some-3.is in
    answer_map c.made.result
    (no_parts_tree th c.args.known.now ts c.args.parts.now.rule.now (map token c.args.parts.now.rest.now) c.in-Some.number (judgment_value c.in-Some-2.judgment) c.in-Some-3.trees.items value (sym c.in-Some.ensures.number) cited)
    (λ d is_made. record { value = judgment_value c.in-Some-2.judgment; has_value = value; number = c.in-Some.number; rule_is = sym c.in-Some.ensures.number; trees = c.in-Some-3.trees.items; cited = cited; makes = is_made })
    c.made.ensures
