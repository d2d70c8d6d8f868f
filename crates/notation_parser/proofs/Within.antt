-- The metavariables that occur in what is read are among the names that it is read over.
use Rattle.std.proofs.Common.{◌⊎◌, ℕ, ◌+◌, ◌<◌, List, [], ◌∷◌, ◌++◌, length, inl, inr, subst, Option}
use Rattle.std.proofs.lemmas.Option.{slice_get_within}
use Rattle.binding_terms.specs.Numbered.{AnyByRecursion}
use Rattle.binding_terms.specs.Signature.{Signature}
use Rattle.binding_terms.specs.declared.grammar.CatId.{CatId}
use Rattle.binding_terms.specs.declared.grammar.Item.{Item}
use Rattle.scheme_terms.specs.SchemeTree.{SchemeTree, Values, Parts, no_parts, part, OccursIn, OccursInValues, OccursInParts}
use Rattle.scheme_terms.specs.Forms.{SchemeEntry, SchemeContext, KnownVariable}
use Rattle.scheme_terms.specs.declared.scheme.MetaDecl.{MetaDecl}
use Rattle.rule_schemes.specs.Reading.{Token, Meaning, bound, entry_of, Variable, meant, counted, Means, bare, ReadsTerm, group, metavariable, variable, production, ReadsBrackets, no_brackets, brackets, ReadsArguments, one_more, last_one, ReadsItems, all_read, terminal, binder, slot, ReadingScope, ReadsContext, root, empty_form, entry, known_entry, head_entry, ReadsForm, form_end, form_terminal, form_context, form_slot, without_context, with_context}
use Rattle.rule_schemes.specs.Rules.{JudgmentScheme}
use Rattle.rule_schemes.specs.Said.{Want, Written, ReadsWanted, reads_term, reads_judgment, reads_context, OccursInEntries}
use Rattle.rule_schemes.specs.declared.rule.Judgment.{Judgment}
use Rattle.notation_parser.specs.Renaming.{OccursInKnowns, OccursInWanted}
use Rattle.binding_terms.proofs.Lists.{any_split}

pub bare_occurs : (m : ℕ) (xs : Parts) → OccursInParts m xs → AnyByRecursion (OccursIn m) (bare xs)
bare_occurs m no_parts o = o
bare_occurs m (part n s xs) (inl o) = inl o
bare_occurs m (part n s xs) (inr o) = inr (bare_occurs m xs o)

pub parts_occur : (m : ℕ) (xs : Parts) → AnyByRecursion (OccursIn m) (bare xs) → OccursInParts m xs
parts_occur m no_parts o = o
parts_occur m (part n s xs) (inl o) = inl o
parts_occur m (part n s xs) (inr o) = inr (parts_occur m xs o)

abbrev pub OccursInContext : ℕ → SchemeContext → List KnownVariable → Type 0
OccursInContext m ctx ks = OccursInEntries m ctx.entries ⊎ OccursInKnowns m ks

abbrev pub OccursInJudgment : ℕ → JudgmentScheme → List KnownVariable → Type 0
OccursInJudgment m j ks = (OccursInEntries m j.context.entries ⊎ AnyByRecursion (OccursIn m) j.args) ⊎ OccursInKnowns m ks

-- each metavariable that occurs in what is read is one of the names
abbrev pub AreWithin : List MetaDecl → (Occurs : ℕ → Type 0) → Type 0
AreWithin metas Occurs = (m : ℕ) → Occurs m → m < length metas

variable_has_none : (n : ℕ) (vars : List Variable) (w : List ℕ) (c : ℕ) (s : SchemeTree) → Means n vars w c s → (m : ℕ) → OccursIn m s → ⊥
variable_has_none n [] w c s h m o = absurd h
variable_has_none n (v ∷ vars) w c s (inl h) m o = none v.means (subst (OccursIn m) h.2 o)
  where
    none : (means : Meaning) → OccursIn m (meant means n) → ⊥
    none bound o = o
    none (entry_of k) o = o
variable_has_none n (v ∷ vars) w c s (inr h) m o = variable_has_none (n + counted v.means) vars w c s h.1 m o

two_within : (metas : List MetaDecl) {P Q : ℕ → Type 0} → AreWithin metas P → AreWithin metas Q → AreWithin metas (λ m. P m ⊎ Q m)
two_within metas f g m (inl o) = f m o
two_within metas f g m (inr o) = g m o

module _ (sig : Signature) (metas : List MetaDecl) where
  mutual
    pub term_within : {vars : List Variable} {c : ℕ} {ts : List Token} {s : SchemeTree} → ReadsTerm sig metas vars c ts s → AreWithin metas (λ m. OccursIn m s)
    term_within (group e r) = term_within r
    term_within (metavariable {m = m} {decl = decl} e found c r) =
        two_within metas (λ n o. subst (λ k. k < length metas) o (slice_get_within metas m decl found)) (brackets_within r)
    term_within {vars} {c} {ts} (variable {w = w} {s = s} e h) = λ m o. absurd (variable_has_none 0 vars w c s h m o)
    term_within (production found c r) = items_within r

    pub brackets_within : {vars : List Variable} {params : List ℕ} {ts : List Token} {vs : Values} → ReadsBrackets sig metas vars params ts vs → AreWithin metas (λ m. OccursInValues m vs)
    brackets_within no_brackets = λ m o. absurd o
    brackets_within (brackets e r) = arguments_within r

    pub arguments_within : {vars : List Variable} {params : List ℕ} {ts : List Token} {vs : Values} → ReadsArguments sig metas vars params ts vs → AreWithin metas (λ m. OccursInValues m vs)
    arguments_within (one_more e t r) = two_within metas (term_within t) (arguments_within r)
    arguments_within (last_one e t r) = two_within metas (term_within t) (brackets_within r)

    pub items_within : {vars own : List Variable} {words : List (List ℕ)} {items : List Item} {ts : List Token} {xs : Parts} → ReadsItems sig metas vars own words items ts xs
        → AreWithin metas (λ m. OccursInParts m xs)
    items_within all_read = λ m o. absurd o
    items_within (terminal h r) = items_within r
    items_within (binder h r) = items_within r
    items_within (slot split some t r) = two_within metas (term_within t) (items_within r)

  pub form_within : {vars : List Variable} {ctx : Option CatId} {front : List Token} {items : List Item} {ts : List Token} {ss : List SchemeTree} → ReadsForm sig metas vars ctx front items ts ss
      → AreWithin metas (λ m. AnyByRecursion (OccursIn m) ss)
  form_within form_end = λ m o. absurd o
  form_within (form_terminal h r) = form_within r
  form_within (form_context e split r) = form_within r
  form_within (form_slot e split some t r) = two_within metas (term_within t) (form_within r)

  module _ (scope : ReadingScope) where
    entries_within : (es : List SchemeEntry) (p : ℕ) (xs : Parts) → AreWithin metas (λ m. OccursInEntries m es) → AreWithin metas (λ m. OccursInParts m xs)
        → AreWithin metas (λ m. OccursInEntries m (es ++ record { prod = p; args = bare xs } ∷ []))
    entries_within es p xs f g m o = go (any_split (λ (e : SchemeEntry). AnyByRecursion (OccursIn m) e.args) es (record { prod = p; args = bare xs } ∷ []) o)
      where
        go : OccursInEntries m es ⊎ OccursInEntries m (record { prod = p; args = bare xs } ∷ []) → m < length metas
        go (inl k) = f m k
        go (inr (inl k)) = g m (parts_occur m xs k)
        go (inr (inr k)) = absurd k

    pub context_within : {c : ℕ} {ts : List Token} {ctx : SchemeContext} {vars : List Variable} {ks : List KnownVariable} → ReadsContext sig scope metas c ts ctx vars ks
        → AreWithin metas (λ m. OccursInContext m ctx ks)
    context_within (root e c) = two_within metas (λ m o. absurd o) (λ m o. absurd o)
    context_within (empty_form p e c d h r) = two_within metas (λ m o. absurd o) (λ m o. absurd o)
    context_within (entry p {xs = xs} {ctx = ctx} e split context r) =
        let k = context_within context in
        two_within metas (entries_within ctx.entries p xs (λ m o. k m (inl o)) (items_within r)) (λ m o. k m (inr o))
    context_within (known_entry p b n {xs = xs} f e h is d r found named here) =
        two_within metas (λ m o. absurd o)
        (two_within metas (λ m o. items_within r m (parts_occur m xs (subst (λ (e : SchemeEntry). AnyByRecursion (OccursIn m) e.args) here o))) (λ m o. absurd o))
    context_within (head_entry {xs = xs} f e h is d r number) =
        two_within metas (λ m o. absurd o) (two_within metas (λ m o. items_within r m (parts_occur m xs o)) (λ m o. absurd o))

    pub wanted_within : (js : List Judgment) {ts : List Token} {want : Want} {written : Written} {ks : List KnownVariable} → ReadsWanted sig js scope metas ts want written ks
        → AreWithin metas (λ m. OccursInWanted m written ks)
    wanted_within js (reads_term r) = two_within metas (term_within r) (λ m o. absurd o)
    wanted_within js (reads_judgment (without_context e c r)) = two_within metas (two_within metas (λ m o. absurd o) (form_within r)) (λ m o. absurd o)
    wanted_within js (reads_judgment (with_context e c once context r)) =
        let k = context_within context in
        two_within metas (two_within metas (λ m o. k m (inl o)) (form_within r)) (λ m o. k m (inr o))
    wanted_within js (reads_context r) = context_within r
