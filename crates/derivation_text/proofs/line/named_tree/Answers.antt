use Rattle.std.proofs.Common.{◌≡◌, ◌∙◌, List, ℕ, map, sym, subst}
use Rattle.rule_schemes.specs.Derivation.{Derivation}
use Rattle.rule_schemes.specs.View.{theory}
use Rattle.term_reader.specs.View.{token}
use Rattle.derivation_text.proofs.LineLemmas.{names_tree, no_tree_named}
use Rattle.derivation_text.specs.Found.{IsPartsTree, HasNoPartsTree}
use Rattle.derivation_text.specs.Valid.{tree_named}
use Rattle.derivation_text.proofs.line.named_tree.Goals as goal
use Rattle.binding_terms.proofs.Lists.{none_case, none_mapped, some_case}

pub returns-in_ok-of-in-Some-2 : goal.returns-in_ok-of-in-Some-2
returns-in_ok-of-in-Some-2 c =
    let th = theory c.args.sys.now in
    let known = c.args.known.now in
    let form = map token c.in-Some.node.parts.form.now in
    let r = c.in-Some.node.parts.rule.now in
    let rest = map token c.in-Some.node.parts.rest.now in
    names_tree th known (map token c.args.tokens.now) c.in-Some.node.name.now form r rest c.in-Some-2.tree c.in_ok-of-in-Some-2.field-0 c.in-Some.ensures
    (subst (λ (w : List ℕ). tree_named known w ≡ _) c.as_bytes.ensures.value (none_mapped (λ d. d.now) c.tree_named.result _ c.tree_named.ensures (sym c.is_some.ensures ∙ c.if-is_some.false)))
    (some_case (HasNoPartsTree th known form r rest) (λ (d : Derivation). IsPartsTree th known form r rest d) c.in_ok-tree.field-0 c.in-Some-2.tree c.in_ok-tree.ensures c.in-Some-2.is)
    (c.in_ok-of-in-Some-2.ensures ∙ c.as_bytes-in-Some-2.ensures.value)

pub returns-in-None-2 : goal.returns-in-None-2
returns-in-None-2 c =
    let th = theory c.args.sys.now in
    let known = c.args.known.now in
    let form = map token c.in-Some.node.parts.form.now in
    let r = c.in-Some.node.parts.rule.now in
    let rest = map token c.in-Some.node.parts.rest.now in
    no_tree_named th known (map token c.args.tokens.now) c.in-Some.node.name.now form r rest c.in-Some.ensures
    (none_case (λ (d : Derivation). IsPartsTree th known form r rest d) c.in_ok-tree.field-0 c.in_ok-tree.ensures c.in-None-2.is)
