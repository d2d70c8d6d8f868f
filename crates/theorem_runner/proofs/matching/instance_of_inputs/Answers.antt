use Rattle.std.proofs.Common.{get_or, ◌≡◌, ◌<◌, ◌++◌, ◌∷◌, [], length, map, Some, slice_get, refl, ap, sym, subst, ◌∙◌, arith}
use Rattle.std.specs.Prelude.{option_map, vec_len}
use Rattle.std.proofs.lemmas.List.{length-map}
use Rattle.std.proofs.lemmas.Result.{IfOk-weaker}
use Rattle.std.proofs.lemmas.Option.{slice_get_read, slice_get-map}
use Rattle.scheme_terms.specs.View.{names, context_value, instance}
use Rattle.rule_schemes.specs.View.{theory, statement, statement_input, judgment_scheme, judgment_value}
use Rattle.rule_schemes.specs.Derivation.{judgment, Derives}
use Rattle.rule_schemes.specs.Statement.{given, syntax_input, derived, term}
use Rattle.binding_terms.specs.View.{tree}
use Rattle.binding_terms.specs.Numbered.{AllNumbered, AnyByRecursion}
use Rattle.pattern_unify.proofs.PlainSchemes.{all_at}
use Rattle.pattern_unify.proofs.Places.{within as place_within}
use Rattle.rule_schemes.specs.Rules.{JudgmentValue}
use Rattle.scheme_match.specs.Matching.{Matching, judgments, StrictInPair, IsOnlyMatch, JudgmentsFit}
use Rattle.core_proofs.specs.Plain.{IsPlainForm}
use Rattle.rule_schemes.proofs.PlainLemmas.{plain_system}
use Rattle.theorem_runner.specs.Instances.{IsDerived, IsOnlyInstance}
use Rattle.theorem_runner.proofs.Pairs.{input_pairs}
use Rattle.derivation_check.specs.Inputs.{input_tree, input_trees}
use Rattle.theorem_runner.proofs.Pairing.{uncounted, unpaired, pairs_stop, pairs_more, pairs_end, given_at, judgments_fit, are_strict, only_instance}
use Rattle.theorem_runner.proofs.Restricting.{forms_plain}
use Rattle.theorem_runner.proofs.matching.instance_of_inputs.Goals as goal

pub returns-then-len : goal.returns-then-len
returns-then-len c =
    let inputs : length (statement c.args.of.now).inputs ≡ c.len-2.result = length-map c.args.of.now.inputs statement_input ∙ sym c.len-2.ensures in
    let items : length (input_trees c.args.inputs.now) ≡ c.len.result =
    length-map c.args.inputs.now.items.items input_tree
    ∙ sym (c.len.ensures ∙ (let e : vec_len c.args.inputs.now.items ≡ length c.args.inputs.now.items.items = omega (arith, c.args.inputs.now.items.ok.0) in e)) in
    uncounted _ (plain_system c.always_system.ensures c.requires.theory) _ c.requires.provable _ c.requires.scope _ _ (λ same. c.if-len.true (sym (sym inputs ∙ same ∙ items)))

pub add-requires : goal.add-requires
add-requires c =
    let form_here : slice_get c.args.of.now.inputs c.loop-i.i ≡ Some c.index-as_slice-i.result =
    slice_get_read c.args.of.now.inputs (length c.args.of.now.inputs) c.loop-i.i c.index-as_slice-i.result refl
    (omega (arith, c.loop-i-test.true, c.len-i-end.ensures, c.len.ensures, c.if-len.false, c.len-2.ensures))
    (subst (λ xs. c.index-as_slice-i.result ≡ get_or xs c.loop-i.i c.index-as_slice-i.result) c.as_slice-in-loop-i.ensures c.index-as_slice-i.is) in
    let given_here : slice_get (map statement_input c.args.of.now.inputs) c.loop-i.i ≡ Some (given (judgment_scheme c.in-Given.form)) =
    slice_get-map statement_input c.args.of.now.inputs c.loop-i.i ∙ ap (option_map statement_input) (form_here ∙ ap Some c.in-Given.is) in
    let plain = given_at (IsPlainForm (theory c.args.system.now) (names c.args.scope.now)) (map statement_input c.args.of.now.inputs) c.loop-i.i (judgment_scheme c.in-Given.form)
    (forms_plain (theory c.args.system.now) (plain_system c.always_system.ensures c.requires.theory) (statement c.args.of.now) c.requires.provable (names c.args.scope.now) c.requires.scope) given_here in
    let item_here : slice_get c.args.inputs.now.items.items c.loop-i.i ≡ Some c.index.result.now =
    slice_get_read c.args.inputs.now.items.items (length c.args.inputs.now.items.items) c.loop-i.i c.index.result.now refl
    (omega (arith, c.loop-i-test.true, c.len-i-end.ensures, c.args.inputs.now.items.ok.0)) c.index.ensures in
    let tree_here : slice_get (map input_tree c.args.inputs.now.items.items) c.loop-i.i ≡ Some (derived c.in-Tree.tree) =
    slice_get-map input_tree c.args.inputs.now.items.items c.loop-i.i ∙ ap (option_map input_tree) (item_here ∙ ap Some c.in-Tree.is) in
    let derives : Derives (theory c.args.system.now) c.in-Tree.tree =
    all_at (IsDerived (theory c.args.system.now)) (map input_tree c.args.inputs.now.items.items) c.loop-i.i (derived c.in-Tree.tree) c.requires.derived tree_here in
    let fit = judgments_fit (theory c.args.system.now) (plain_system c.always_system.ensures c.requires.theory) (statement c.args.of.now) c.requires.provable (names c.args.scope.now) c.requires.scope
    (judgment_scheme c.in-Given.form) c.in-Tree.tree plain derives in
    subst (λ sig. (judgment_scheme c.in-Given.form).judgment ≡ (judgment_value c.conclusion.result.now).judgment →
    JudgmentsFit sig c.loop-i.matcher.metas (judgment_scheme c.in-Given.form) (judgment_value c.conclusion.result.now)) (sym c.loop-i.invariant.sig)
    (subst (λ ms. (judgment_scheme c.in-Given.form).judgment ≡ (judgment_value c.conclusion.result.now).judgment →
    JudgmentsFit c.args.system.now.sig ms (judgment_scheme c.in-Given.form) (judgment_value c.conclusion.result.now)) (sym c.loop-i.invariant.metas)
    (subst (λ (u : JudgmentValue). (judgment_scheme c.in-Given.form).judgment ≡ u.judgment →
    JudgmentsFit c.args.system.now.sig c.args.scope.now.metas (judgment_scheme c.in-Given.form) u) (sym c.conclusion.ensures) fit))

pub returns-in-Syntax-index : goal.returns-in-Syntax-index
returns-in-Syntax-index c =
    let form_here : slice_get c.args.of.now.inputs c.loop-i.i ≡ Some c.index-as_slice-i.result =
    slice_get_read c.args.of.now.inputs (length c.args.of.now.inputs) c.loop-i.i c.index-as_slice-i.result refl
    (omega (arith, c.loop-i-test.true, c.len-i-end.ensures, c.len.ensures, c.if-len.false, c.len-2.ensures))
    (subst (λ xs. c.index-as_slice-i.result ≡ get_or xs c.loop-i.i c.index-as_slice-i.result) c.as_slice-in-loop-i.ensures c.index-as_slice-i.is) in
    let item_here : slice_get c.args.inputs.now.items.items c.loop-i.i ≡ Some c.index.result.now =
    slice_get_read c.args.inputs.now.items.items (length c.args.inputs.now.items.items) c.loop-i.i c.index.result.now refl
    (omega (arith, c.loop-i-test.true, c.len-i-end.ensures, c.args.inputs.now.items.ok.0)) c.index.ensures in
    let of_term : input_tree c.index.result.now ≡ term (tree c.in-Syntax-index.field-0) = ap input_tree c.in-Syntax-index.is in
    let is_given : statement_input c.index-as_slice-i.result ≡ given (judgment_scheme c.in-Given.form) = ap statement_input c.in-Given.is in
    unpaired _ (plain_system c.always_system.ensures c.requires.theory) _ c.requires.provable _ c.requires.scope _ _
    (pairs_stop statement_input input_tree c.args.of.now.inputs c.args.inputs.now.items.items c.loop-i.i c.index-as_slice-i.result c.index.result.now form_here item_here
    c.loop-i.matcher.pairs _ (λ is xs. ap (λ x. input_pairs (x ∷ is) (input_tree c.index.result.now ∷ xs)) is_given
    ∙ ap (λ y. input_pairs (given (judgment_scheme c.in-Given.form) ∷ is) (y ∷ xs)) of_term) c.loop-i.invariant.pairs)

pub returns-in-Syntax : goal.returns-in-Syntax
returns-in-Syntax c =
    let form_here : slice_get c.args.of.now.inputs c.loop-i.i ≡ Some c.index-as_slice-i.result =
    slice_get_read c.args.of.now.inputs (length c.args.of.now.inputs) c.loop-i.i c.index-as_slice-i.result refl
    (omega (arith, c.loop-i-test.true, c.len-i-end.ensures, c.len.ensures, c.if-len.false, c.len-2.ensures))
    (subst (λ xs. c.index-as_slice-i.result ≡ get_or xs c.loop-i.i c.index-as_slice-i.result) c.as_slice-in-loop-i.ensures c.index-as_slice-i.is) in
    let below : c.loop-i.i < length c.args.inputs.now.items.items = omega (arith, c.loop-i-test.true, c.len-i-end.ensures, c.args.inputs.now.items.ok.0) in
    let item = place_within c.args.inputs.now.items.items c.loop-i.i below in
    let is_syntax : statement_input c.index-as_slice-i.result ≡ syntax_input c.in-Syntax.field-0.0 = ap statement_input c.in-Syntax.is in
    unpaired _ (plain_system c.always_system.ensures c.requires.theory) _ c.requires.provable _ c.requires.scope _ _
    (pairs_stop statement_input input_tree c.args.of.now.inputs c.args.inputs.now.items.items c.loop-i.i c.index-as_slice-i.result item.0 form_here item.1
    c.loop-i.matcher.pairs _ (λ is xs. ap (λ x. input_pairs (x ∷ is) (input_tree item.0 ∷ xs)) is_syntax) c.loop-i.invariant.pairs)

pub loop-i-preserved : goal.loop-i-preserved
loop-i-preserved c =
    let form_here : slice_get c.args.of.now.inputs c.loop-i.i ≡ Some c.index-as_slice-i.result =
    slice_get_read c.args.of.now.inputs (length c.args.of.now.inputs) c.loop-i.i c.index-as_slice-i.result refl
    (omega (arith, c.loop-i-test.true, c.len-i-end.ensures, c.len.ensures, c.if-len.false, c.len-2.ensures))
    (subst (λ xs. c.index-as_slice-i.result ≡ get_or xs c.loop-i.i c.index-as_slice-i.result) c.as_slice-in-loop-i.ensures c.index-as_slice-i.is) in
    let item_here : slice_get c.args.inputs.now.items.items c.loop-i.i ≡ Some c.index.result.now =
    slice_get_read c.args.inputs.now.items.items (length c.args.inputs.now.items.items) c.loop-i.i c.index.result.now refl
    (omega (arith, c.loop-i-test.true, c.len-i-end.ensures, c.args.inputs.now.items.ok.0)) c.index.ensures in
    let h = c.in_ok-add-in-Tree.ensures.ok in
    let put : c.add.new.self.pairs ≡ c.loop-i.matcher.pairs ++ judgments (judgment_scheme c.in-Given.form) (judgment c.in-Tree.tree) ∷ [] =
    ap (λ (m : Matching). m.pairs) h ∙ ap (λ u. c.loop-i.matcher.pairs ++ judgments (judgment_scheme c.in-Given.form) u ∷ []) c.conclusion.ensures in
    record {
      sig = ap (λ (m : Matching). m.sig) h ∙ c.loop-i.invariant.sig;
      metas = ap (λ (m : Matching). m.metas) h ∙ c.loop-i.invariant.metas;
      knowns = ap (λ (m : Matching). m.knowns) h ∙ c.loop-i.invariant.knowns;
      root = ap (λ (m : Matching). m.root) h ∙ c.loop-i.invariant.root;
      pairs = pairs_more statement_input input_tree c.args.of.now.inputs c.args.inputs.now.items.items c.loop-i.i c.index-as_slice-i.result c.index.result.now form_here item_here
          c.loop-i.matcher.pairs c.add.new.self.pairs _ (judgment_scheme c.in-Given.form) c.in-Tree.tree (ap statement_input c.in-Given.is) (ap input_tree c.in-Tree.is) put c.loop-i.invariant.pairs;
    }

pub finish-requires : goal.finish-requires
finish-requires c =
    let paired = pairs_end statement_input input_tree c.args.of.now.inputs c.args.inputs.now.items.items c.loop-i.i c.loop-i.matcher.pairs _
    (omega (arith, c.loop-i-test.false, c.len-i-end.ensures, c.len.ensures, c.if-len.false, c.len-2.ensures))
    (omega (arith, c.loop-i-test.false, c.len-i-end.ensures, c.args.inputs.now.items.ok.0)) c.loop-i.invariant.pairs in
    let strict = are_strict (theory c.args.system.now) (plain_system c.always_system.ensures c.requires.theory) (statement c.args.of.now) c.requires.provable (names c.args.scope.now) c.requires.scope
    (context_value c.args.root.now) (input_trees c.args.inputs.now) c.requires.root c.requires.derived c.loop-i.matcher.pairs paired in
    subst (λ ms. AllNumbered (λ n decl. AnyByRecursion (StrictInPair n) c.loop-i.matcher.pairs) 0 ms) (sym c.loop-i.invariant.metas) strict

pub returns : goal.returns
returns c =
    let paired = pairs_end statement_input input_tree c.args.of.now.inputs c.args.inputs.now.items.items c.loop-i.i c.loop-i.matcher.pairs _
    (omega (arith, c.loop-i-test.false, c.len-i-end.ensures, c.len.ensures, c.if-len.false, c.len-2.ensures))
    (omega (arith, c.loop-i-test.false, c.len-i-end.ensures, c.args.inputs.now.items.ok.0)) c.loop-i.invariant.pairs in
    let same : ◌≡◌ {A = Matching} c.loop-i.matcher (record { sig = c.args.system.now.sig; metas = c.args.scope.now.metas; knowns = []; root = context_value c.args.root.now; pairs = c.loop-i.matcher.pairs }) =
    λ i. record { sig = c.loop-i.invariant.sig i; metas = c.loop-i.invariant.metas i; knowns = c.loop-i.invariant.knowns i; root = c.loop-i.invariant.root i; pairs = c.loop-i.matcher.pairs } in
    IfOk-weaker c.finish.result (λ answer. IsOnlyMatch c.loop-i.matcher (option_map instance answer))
    (λ answer. IsOnlyInstance (theory c.args.system.now) (statement c.args.of.now) (names c.args.scope.now) (context_value c.args.root.now) (input_trees c.args.inputs.now) (option_map instance answer))
    (λ answer one. only_instance (theory c.args.system.now) (plain_system c.always_system.ensures c.requires.theory) (statement c.args.of.now) c.requires.provable (names c.args.scope.now) c.requires.scope
    (context_value c.args.root.now) (input_trees c.args.inputs.now) c.requires.root c.requires.derived c.loop-i.matcher.pairs paired (option_map instance answer)
    (subst (λ (m : Matching). IsOnlyMatch m (option_map instance answer)) same one)) c.finish.ensures
