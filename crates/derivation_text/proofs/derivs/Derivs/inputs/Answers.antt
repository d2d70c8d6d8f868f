use Rattle.std.proofs.Common.{◌∙◌, List, length, map, option_map, sym, ap, subst}
use Rattle.std.proofs.lemmas.List.{length-map}
use Rattle.rule_schemes.specs.View.{statement as theorem, statement_input}
use Rattle.derivation_text.specs.Contents.{argument, contents, last_of}
use Rattle.derivation_text.specs.Given.{given_trees, IsWithin}
use Rattle.derivation_text.specs.declared.derivs.Argument.{Argument}
use Rattle.derivation_text.specs.declared.derivs.Named.{Named}
use Rattle.derivation_text.proofs.NodeLemmas.{not_when}
use Rattle.derivation_text.proofs.InputLemmas.{gives_inputs, other_count, no_trees, not_within}
use Rattle.derivation_text.proofs.derivs.Derivs.inputs.Goals as goal

pub returns-then-args-len : goal.returns-then-args-len
returns-then-args-len c th =
    other_count th (theorem c.args.statement.now) (contents c.args.self.now) (map argument c.in-Apply.args) c.requires (ap last_of c.in-Apply.is)
    (λ e. c.if-args-len.true (ap length c.as_slice-args.ensures ∙ sym (length-map c.in-Apply.args argument) ∙ e ∙ length-map c.args.statement.now.inputs statement_input ∙ sym c.len.ensures))

pub returns-then-are_within : goal.returns-then-are_within
returns-then-are_within c th =
    let args = map argument c.in-Apply.args in
    gives_inputs th (theorem c.args.statement.now) (contents c.args.self.now) args c.in-Some.trees.items c.requires (ap last_of c.in-Apply.is)
    (length-map c.in-Apply.args argument ∙ sym (ap length c.as_slice-args.ensures) ∙ c.if-args-len.false ∙ c.len.ensures ∙ sym (length-map c.args.statement.now.inputs statement_input))
    (sym (ap (λ (a : List Argument). given_trees c.args.self.now.named (map argument a)) c.as_slice-args.ensures)
    ∙ sym (ap (λ (ks : List Named). given_trees ks (map argument c.as_slice-args.result.now)) c.as_slice.ensures) ∙ sym c.in_ok-trees.ensures ∙ ap (option_map (λ ds. ds.items)) c.in-Some.is)
    (subst IsWithin c.as_slice-in-Some.ensures.value (c.are_within.ensures.0 c.if-are_within.true))

pub returns-else-are_within : goal.returns-else-are_within
returns-else-are_within c th =
    let args = map argument c.in-Apply.args in
    not_within th (theorem c.args.statement.now) (contents c.args.self.now) args c.in-Some.trees.items c.requires (ap last_of c.in-Apply.is)
    (sym (ap (λ (a : List Argument). given_trees c.args.self.now.named (map argument a)) c.as_slice-args.ensures)
    ∙ sym (ap (λ (ks : List Named). given_trees ks (map argument c.as_slice-args.result.now)) c.as_slice.ensures) ∙ sym c.in_ok-trees.ensures ∙ ap (option_map (λ ds. ds.items)) c.in-Some.is)
    (λ h. not_when c.are_within.ensures c.if-are_within.false (subst IsWithin (sym c.as_slice-in-Some.ensures.value) h))

pub returns-in-None : goal.returns-in-None
returns-in-None c th =
    let args = map argument c.in-Apply.args in
    no_trees th (theorem c.args.statement.now) (contents c.args.self.now) args c.requires (ap last_of c.in-Apply.is)
    (sym (ap (λ (a : List Argument). given_trees c.args.self.now.named (map argument a)) c.as_slice-args.ensures)
    ∙ sym (ap (λ (ks : List Named). given_trees ks (map argument c.as_slice-args.result.now)) c.as_slice.ensures) ∙ sym c.in_ok-trees.ensures ∙ ap (option_map (λ ds. ds.items)) c.in-None.is)
