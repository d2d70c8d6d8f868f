-- What a derivation derives is a judgment.
use Rattle.std.proofs.Common.{◌≡◌, ℕ, suc, ◌+◌, ◌-◌, List, [], ◌∷◌, ◌++◌, length, map, ◌∙◌, inl, inr, refl, ap, sym, subst, arith}
use Rattle.std.specs.Prelude.{Option, Some, None, slice_get, MatchOption, count_by, ◌==◌}
use Rattle.std.proofs.lemmas.List.{append-nil}
use Rattle.binding_terms.specs.Tree.{Tree, put_in}
use Rattle.binding_terms.specs.Scope.{IsTerm}
use Rattle.binding_terms.specs.Signature.{Signature, Place, slots, IsContext}
use Rattle.binding_terms.specs.declared.grammar.CatId.{CatId}
use Rattle.scheme_terms.specs.SchemeTree.{SchemeTree}
use Rattle.scheme_terms.specs.Forms.{SchemeEntry, Names, ContextValue, Instance}
use Rattle.scheme_terms.specs.Context.{IsValue, AreEntries, AreArguments, scope_of, scope_after, variables}
use Rattle.scheme_terms.specs.Instance.{instance_of, context_instance, root_variable, FitsScope, IsEntryOf}
use Rattle.scheme_terms.specs.SchemeScope.{AreSchemes, entry_variables}
use Rattle.scheme_terms.specs.declared.scheme.Root.{Root}
use Rattle.scheme_terms.specs.declared.scheme.Root.TheVariants.{Closed, Empty, Whole}
use Rattle.scheme_terms.proofs.InstanceScopes.{instance_keeps_scope_of_metas}
use Rattle.scheme_terms.proofs.Values.{value_adds_one, entry_variable}
use Rattle.binding_terms.proofs.Scopes.{put_keeps_scope}
use Rattle.rule_schemes.specs.Rules.{JudgmentValue, Rule, Theory, IsSystemSoFar, IsJudgment, JudgmentFits, RuleFits, IsRootOf, IsBareName, IsAssumption, IsInstance, IsItsEntry, root_of, argument_slots, judgment_instance, rule_names, IsAssumptionJudgment}
use Rattle.rule_schemes.specs.Derivation.{node, leaf}
use Rattle.rule_schemes.specs.Laws.{DerivesAJudgment}
use Rattle.binding_terms.proofs.Lists.{all_found, found_with, match_map, match_some}

-- the instance of a bare context is a value of the root that the judgment assumes, and adds no variable to the root's
bare_value : (sig : Signature) (inst : Instance) (ctx : Option CatId) (root : Root) (es : List SchemeEntry) → IsBareName root es → IsRootOf ctx root
    → IsValue sig root inst.root → IsValue sig (root_of ctx) (context_instance inst (record { root = root; entries = es }))
bare_value sig inst None Closed [] bare is value = (refl, refl)
bare_value sig inst (Some c) (Whole d) [] bare is value =
    (ap (λ n. Some n) is, subst (AreEntries sig c.0 []) (sym (append-nil inst.root.entries)) (subst (λ n. AreEntries sig n [] inst.root.entries) is value.1))
bare_value sig inst (Some c) Closed [] bare is value = absurd is
bare_value sig inst None (Whole d) [] bare is value = absurd is
bare_value sig inst ctx (Empty d) es bare is value = absurd bare
bare_value sig inst ctx Closed (e ∷ es) bare is value = absurd bare
bare_value sig inst ctx (Whole d) (e ∷ es) bare is value = absurd bare

bare_scope : (sig : Signature) (inst : Instance) (root : Root) (es : List SchemeEntry) → IsBareName root es → IsValue sig root inst.root
    → scope_of sig inst.root ≡ scope_of sig (context_instance inst (record { root = root; entries = es }))
bare_scope sig inst Closed [] bare value = ap (scope_after sig []) value.1
bare_scope sig inst (Whole d) [] bare value = ap (scope_after sig []) (sym (append-nil inst.root.entries))
bare_scope sig inst (Empty d) es bare value = absurd bare
bare_scope sig inst Closed (e ∷ es) bare value = absurd bare
bare_scope sig inst (Whole d) (e ∷ es) bare value = absurd bare

bare_entries : (root : Root) (es : List SchemeEntry) → IsBareName root es → es ≡ []
bare_entries Closed [] bare = refl
bare_entries (Whole d) [] bare = refl
bare_entries (Empty d) es bare = absurd bare
bare_entries Closed (e ∷ es) bare = absurd bare
bare_entries (Whole d) (e ∷ es) bare = absurd bare

-- the instances of schemes for slots are arguments for them
arguments : (sig : Signature) (names : Names) (inst : Instance) → names.knowns ≡ [] → FitsScope sig names inst
    → (ss : List Place) (ts : List SchemeTree) → AreSchemes sig names [] ss ts → AreArguments sig (scope_of sig inst.root) ss (map (instance_of inst 0) ts)
arguments sig names inst none fits [] [] h = tt
arguments sig names inst none fits [] (t ∷ ts) h = absurd h
arguments sig names inst none fits (s ∷ ss) [] h = absurd h
arguments sig names inst none fits (s ∷ ss) (t ∷ ts) h =
    (instance_keeps_scope_of_metas sig names inst [] s.cat t none fits h.0, arguments sig names inst none fits ss ts h.1)

-- the instance of an ordinary rule's conclusion
bare_judgment : (th : Theory) (r : Rule) (inst : Instance) → RuleFits th r → FitsScope th.sig (rule_names r) inst
    → IsBareName r.conclusion.context.root r.conclusion.context.entries → IsJudgment th (judgment_instance inst r.conclusion)
bare_judgment th r inst fits scope bare =
    let none : r.conclusion.context.entries ≡ [] = bare_entries r.conclusion.context.root r.conclusion.context.entries bare in
    match_map (slice_get th.judgments r.conclusion.judgment) _ _
    (λ form h. (
      bare_value th.sig inst form.ctx r.conclusion.context.root r.conclusion.context.entries bare h.0 scope.root,
      subst (λ vs. AreArguments th.sig vs (argument_slots form.ctx (slots form.items)) (map (instance_of inst (length r.conclusion.context.entries)) r.conclusion.args))
          (bare_scope th.sig inst r.conclusion.context.root r.conclusion.context.entries bare scope.root)
          (subst (λ (es : List SchemeEntry). AreArguments th.sig (scope_of th.sig inst.root) (argument_slots form.ctx (slots form.items)) (map (instance_of inst (length es)) r.conclusion.args)) (sym none)
          (arguments th.sig (rule_names r) inst refl scope (argument_slots form.ctx (slots form.items)) r.conclusion.args
          (subst (λ (es : List SchemeEntry). AreSchemes th.sig (rule_names r) (entry_variables th.sig [] es) (argument_slots form.ctx (slots form.items)) r.conclusion.args) none h.2))),
    ))
    fits.forms.conclusion

node_judgment : (th : Theory) (r : Rule) (j : JudgmentValue) (inst : Instance) → RuleFits th r → (IsAssumption r → ⊥) → FitsScope th.sig (rule_names r) inst
    → IsInstance inst r.conclusion j → IsJudgment th j
node_judgment th r j inst fits ordinary scope is =
    elim fits.good_conclusion [
      | inl bare ↦ subst (IsJudgment th) is.same (bare_judgment th r inst fits scope bare)
      | inr h ↦ absurd (ordinary h.0)
    ]

-- the entry of an assumption rule, where it is one
its_entry : (inst : Instance) (place : ℕ) (root : Root) (es : List SchemeEntry) → IsItsEntry inst place root es
    → (c : CatId) × (declared : SchemeEntry) × (root ≡ Whole c) × (es ≡ declared ∷ []) × MatchOption (slice_get inst.root.entries place) ⊥ (IsEntryOf inst place declared)
its_entry inst place Closed es h = absurd h
its_entry inst place (Empty c) es h = absurd h
its_entry inst place (Whole c) [] h = absurd h
its_entry inst place (Whole c) (e ∷ []) h = (c, e, refl, refl, h)
its_entry inst place (Whole c) (e ∷ (f ∷ es)) h = absurd h

one_of : (xs : List ℕ) → length xs ≡ 1 → (v : ℕ) × (xs ≡ v ∷ [])
one_of [] h = absurd (omega (arith, h))
one_of (x ∷ []) h = (x, refl)
one_of (x ∷ (y ∷ xs)) h = absurd (omega (arith, h))

whole_value : (sig : Signature) (v : ContextValue) (ctx : Option CatId) (c : CatId) → IsRootOf ctx (Whole c) → IsValue sig (Whole c) v → IsValue sig (root_of ctx) v
whole_value sig v None c is value = absurd is
whole_value sig v (Some d) c is value = (value.0 ∙ ap (λ n. Some n) is, subst (λ n. AreEntries sig n [] v.entries) is value.1)

whole_context : (sig : Signature) (Rest : CatId → Type 0) (ctx : Option CatId) (c : CatId) → IsRootOf ctx (Whole c)
    → MatchOption ctx (Unit {0}) (λ d. IsContext sig d.0 × Rest d) → IsContext sig c.0
whole_context sig Rest None c is h = absurd is
whole_context sig Rest (Some d) c is h = subst (IsContext sig) (sym is) h.0

-- the instances of schemes under the entry's variable, with a variable of the root for it
put_arguments : (sig : Signature) (names : Names) (inst : Instance) (v : ℕ) (u : Tree) → names.knowns ≡ [] → FitsScope sig names inst
    → IsTerm sig (scope_of sig inst.root) v u → (ss : List Place) (ts : List SchemeTree) → AreSchemes sig names (v ∷ []) ss ts
    → AreArguments sig (scope_of sig inst.root) ss (map (λ s. put_in 0 u (instance_of inst 1 s)) ts)
put_arguments sig names inst v u none fits is [] [] h = tt
put_arguments sig names inst v u none fits is [] (t ∷ ts) h = absurd h
put_arguments sig names inst v u none fits is (s ∷ ss) [] h = absurd h
put_arguments sig names inst v u none fits is (s ∷ ss) (t ∷ ts) h = (
  put_keeps_scope sig [] (scope_of sig inst.root) s.cat v (instance_of inst 1 t) u (instance_keeps_scope_of_metas sig names inst (v ∷ []) s.cat t none fits h.0) is,
  put_arguments sig names inst v u none fits is ss ts h.1,
)

-- an assumption judgment over the root of its instance
leaf_over : (th : Theory) (r : Rule) (inst : Instance) (place : ℕ) → IsSystemSoFar th → RuleFits th r → FitsScope th.sig (rule_names r) inst
    → IsItsEntry inst place r.conclusion.context.root r.conclusion.context.entries
    → IsJudgment th (record { judgment = r.conclusion.judgment; context = inst.root; args = map (λ s. put_in 0 (root_variable inst 0 place) (instance_of inst 1 s)) r.conclusion.args })
leaf_over th r inst place system fits scope entry =
    let its = its_entry inst place r.conclusion.context.root r.conclusion.context.entries entry in
    let c : CatId = its.0 in
    let value : IsValue th.sig (Whole c) inst.root = subst (λ (root : Root). IsValue th.sig root inst.root) its.2 scope.root in
    match_map (slice_get th.judgments r.conclusion.judgment) _ _
    (λ form h.
    let is : IsRootOf form.ctx (Whole c) = subst (IsRootOf form.ctx) its.2 h.1.0 in
    let of_context : IsContext th.sig c.0 = whole_context th.sig (λ d. count_by (λ slot. slot.cat == d.0) (slots form.items) ≡ 1) form.ctx c is h.0.assumed in
    let adds = value_adds_one th.sig (Whole c) inst.root system.sig of_context value in
    let placed = match_some (slice_get inst.root.entries place) _ (found_with _ (IsEntryOf inst place its.1) inst.root.entries place adds its.4) in
    let one = one_of (variables th.sig placed.0.prod) placed.2.0 in
    let at : slice_get (scope_of th.sig inst.root) (length inst.root.entries - suc place) ≡ Some one.0 =
    entry_variable th.sig inst.root.entries adds [] place one.0 placed.0 placed.1 one.1 in
    let index : length inst.root.entries - suc place + 0 ≡ length inst.root.entries - suc place = omega arith in
    let is_variable : IsTerm th.sig (scope_of th.sig inst.root) one.0 (root_variable inst 0 place) = ap (slice_get (scope_of th.sig inst.root)) index ∙ at in
    let declared : variables th.sig its.1.prod ≡ one.0 ∷ [] = ap (variables th.sig) (sym placed.2.1.0) ∙ one.1 in
    let locals : entry_variables th.sig [] r.conclusion.context.entries ≡ one.0 ∷ [] =
    ap (entry_variables th.sig []) its.3 ∙ ap (λ vs. vs ++ []) declared in (
      whole_value th.sig inst.root form.ctx c is value,
      put_arguments th.sig (rule_names r) inst one.0 (root_variable inst 0 place) refl scope is_variable (argument_slots form.ctx (slots form.items)) r.conclusion.args
          (subst (λ ls. AreSchemes th.sig (rule_names r) ls (argument_slots form.ctx (slots form.items)) r.conclusion.args) locals h.1.2),
    ))
    (found_with (JudgmentFits th.sig) _ th.judgments r.conclusion.judgment system.judgments fits.forms.conclusion)

leaf_judgment : (th : Theory) (r : Rule) (v : ContextValue) (place : ℕ) (j : JudgmentValue) → IsSystemSoFar th → RuleFits th r → IsAssumptionJudgment th r v place j
    → IsJudgment th j
leaf_judgment th r v place j system fits h =
    subst (IsJudgment th) (λ i. record { judgment = sym h.judgment i; context = (h.root ∙ sym h.context) i; args = sym h.values i })
    (leaf_over th r h.inst place system fits h.scope h.entry)

pub derives_a_judgment : DerivesAJudgment
derives_a_judgment th (node r j ds) system h =
    let rule = all_found th.rules r system.rules h.0 in
    node_judgment th rule.0 j rule.2.inst rule.1 rule.2.ordinary rule.2.scope rule.2.conclusion
derives_a_judgment th (leaf r j place) system h =
    let rule = all_found th.rules r system.rules h in
    leaf_judgment th rule.0 j.context place j system rule.1 rule.2
