-- What the functions over the forms of a theorem have to say, over plain variables.
use Rattle.std.proofs.Common.{◌≡◌, ◌⊎◌, ℕ, List, [], ◌∷◌, ◌++◌, map, inl, inr, refl, ap, ◌∙◌, sym, subst, Option, Some, None, MatchOption}
use Rattle.std.specs.Prelude.{flat_map}
use Rattle.std.specs.List.{AllByRecursion, AllZip}
use Rattle.outline_reader.specs.declared.parts.NamedForm.{NamedForm}
use Rattle.proof_lexer.specs.View.{kind_and_text}
use Rattle.scheme_terms.specs.SchemeScope.{AreDifferentNames}
use Rattle.scheme_terms.specs.declared.scheme.MetaDecl.{MetaDecl}
use Rattle.rule_schemes.specs.NewNames.{AreInOrder}
use Rattle.rule_schemes.specs.Reading.{Token, word}
use Rattle.rule_schemes.specs.Rules.{JudgmentScheme, Theory}
use Rattle.rule_schemes.specs.Said.{want_judgment}
use Rattle.rule_schemes.specs.Statement.{given, Theorem}
use Rattle.rule_schemes.specs.View.{statement as plain_statement}
use Rattle.rule_schemes.specs.declared.rule.Statement.{Statement}
use Rattle.notation_parser.specs.Plain.{IsPlain}
use Rattle.judgments.specs.Bare.{IsBareTheory}
use Rattle.judgments.specs.Built.{IsBuiltTheorem, bare_text}
use Rattle.judgments.specs.Collected.{IsAmong, StandsIn, IsCollected, AreCollected, AreGathered}
use Rattle.judgments.specs.Laws.{AreBareNames}
use Rattle.judgments.specs.Standing.{IsRead, AreReadOf, AreUnreadOf}
use Rattle.judgments.specs.Statements.{IsNamedFreely, AreNamedDifferently}
use Rattle.judgments.specs.Views.{given_text}
use Rattle.judgments.specs.Written.{input_tokens, settled, ReadsOnlyAs}
use Rattle.judgments.proofs.KeptNames.{different_append, kept_among, among_kept, kept_each, kept_differ, kept_order, read_any}
use Rattle.judgments.proofs.Occurring.{numbers_stand}
use Rattle.judgments.proofs.OneRule.{among_split, among_front, among_back}
use Rattle.judgments.proofs.OneStatement.{AreSorted, is_built}
use Rattle.judgments.proofs.Reordered.{IsSameOver, all_there, all_back}
use Rattle.judgments.proofs.RuleAnswers.{plain_settled}
use Rattle.judgments.proofs.RuleLemmas.{closed_names, bare_names, one_reading}
use Rattle.judgments.proofs.StatementLemmas.{AreGiven, joined_append}
use Rattle.judgments.proofs.StatementSays.{says, parts_moved}
use Rattle.judgments.proofs.WordsOfForms.{joined, word_joined}
use Rattle.binding_terms.proofs.Lists.{all_append, all_at, all_map, any_back, any_front, zip_unique}

abbrev pub form_of : NamedForm → List Token
form_of named = map kind_and_text named.form.now

front_forms : (xs : List NamedForm) → map input_tokens (map given_text xs) ≡ map form_of xs
front_forms [] = refl
front_forms (x ∷ xs) = ap (λ l. form_of x ∷ l) (front_forms xs)

joined_map : {X : Type 0} (f : X → List Token) (xs : List X) → joined (map f xs) ≡ flat_map f xs
joined_map f [] = refl
joined_map f (x ∷ xs) = ap (λ l. f x ++ l) (joined_map f xs)

are_given : (xs : List NamedForm) → AreGiven (map given_text xs)
are_given [] = tt
are_given (x ∷ xs) = (tt, are_given xs)

-- the names of a theorem's forms, sorted by where they stand
module _ (th : Theory) (bare : IsBareTheory th) (front outputs : List (List Token)) (metas : List MetaDecl) (js zs : List JudgmentScheme) (of_inputs further unread : List MetaDecl)
    (c : AreCollected th.sig.cats (joined (front ++ outputs)) metas)
    (in_reads : AllZip (ReadsOnlyAs th.sig th.judgments (closed_names metas)) front js) (out_reads : AllZip (ReadsOnlyAs th.sig th.judgments (closed_names metas)) outputs zs)
    (inputs_own : (own : List MetaDecl) × AreCollected th.sig.cats (joined front) own × AreReadOf metas js own of_inputs)
    (outputs_own : (own : List MetaDecl) × (read : List MetaDecl) × AreCollected th.sig.cats (joined outputs) own × AreReadOf metas zs own read × AreUnreadOf metas js read further)
    (others : (rest : List MetaDecl) × AreUnreadOf metas js metas rest × AreUnreadOf metas zs rest unread) where
  abbrev J : List ℕ → Type 0
  J = IsRead metas js

  abbrev Z : List ℕ → Type 0
  Z = IsRead metas zs

  abbrev NoJ : List ℕ → Type 0
  NoJ w = IsRead metas js w → ⊥

  abbrev NoZ : List ℕ → Type 0
  NoZ w = IsRead metas zs w → ⊥

  further_is : (w : List ℕ) → IsAmong w further → Z w × NoJ w
  further_is w a =
      let k = kept_among NoJ J outputs_own.1 further w outputs_own.4 a in
      ((kept_among Z NoZ outputs_own.0 outputs_own.1 w outputs_own.3 k.0).1, k.1)

  unread_is : (w : List ℕ) → IsAmong w unread → NoJ w × NoZ w
  unread_is w a =
      let k = kept_among NoZ Z others.0 unread w others.2 a in
      ((kept_among NoJ J metas others.0 w others.1 k.0).1, k.1)

  pub sorted_over : AreSorted metas js zs of_inputs further unread
  sorted_over = record {
    in_inputs = λ w a. (kept_among J NoJ inputs_own.0 of_inputs w inputs_own.2 a).1;
    in_outputs = λ w a. (further_is w a).0;
    not_inputs = λ w a. (further_is w a).1;
    unread_inputs = λ w a. (unread_is w a).0;
    unread_outputs = λ w a. (unread_is w a).1;
  }

  pub inputs_order : AreInOrder (joined front) of_inputs
  inputs_order = kept_order J NoJ (joined front) inputs_own.0 of_inputs inputs_own.2 (inputs_own.1).differ (inputs_own.1).in_order

  pub further_order : AreInOrder (joined outputs) further
  further_order =
      kept_order NoJ J (joined outputs) outputs_own.1 further outputs_own.4 (kept_differ Z NoZ outputs_own.0 outputs_own.1 outputs_own.3 (outputs_own.2).differ)
      (kept_order Z NoZ (joined outputs) outputs_own.0 outputs_own.1 outputs_own.3 (outputs_own.2).differ (outputs_own.2).in_order)

  plain : AreBareNames (closed_names metas)
  plain = record { knowns = refl; parameters = bare_names th.sig.cats (joined (front ++ outputs)) metas c.each }

  -- a name that is read in forms is collected from them
  read_collected : (forms : List (List Token)) (xs : List JudgmentScheme) (own : List MetaDecl) → AreCollected th.sig.cats (joined forms) own
      → AllZip (ReadsOnlyAs th.sig th.judgments (closed_names metas)) forms xs → (w : List ℕ) → IsRead metas xs w → IsAmong w own
  read_collected forms xs own h reads w r =
      let k = read_any metas xs w r in
      let n = numbers_stand th.sig th.judgments bare.sig bare.judgments (closed_names metas) plain forms xs reads k.0 k.4 in
      let two : Some n.0 ≡ Some k.1 = sym n.1 ∙ k.2 in
      let same : n.0 ≡ k.1 = cc in
      let i = all_at (IsCollected th.sig.cats (joined (front ++ outputs))) metas k.0 k.1 c.each k.2 in
      let stands : StandsIn (n.0).name (joined forms) = word_joined forms (n.0).name n.2 in
      subst (λ v. IsAmong v own) k.3 (h.all (k.1).name (k.1).cat.0 (subst (λ (d : MetaDecl). StandsIn d.name (joined forms)) same stands) i.cat)

  abbrev all_names : List MetaDecl
  all_names = (of_inputs ++ further) ++ unread

  sort_outputs : (w : List ℕ) → NoJ w → Z w → IsAmong w further
  sort_outputs w none r = first (among_kept Z NoZ outputs_own.0 outputs_own.1 w outputs_own.3 (read_collected outputs zs outputs_own.0 outputs_own.2 out_reads w r))
    where
      second : IsAmong w further ⊎ J w → IsAmong w further
      second (inl a) = a
      second (inr j) = absurd (none j)

      first : IsAmong w outputs_own.1 ⊎ NoZ w → IsAmong w further
      first (inl a) = second (among_kept NoJ J outputs_own.1 further w outputs_own.4 a)
      first (inr never) = absurd (never r)

  sort_inputs : (w : List ℕ) → J w → IsAmong w of_inputs
  sort_inputs w r = first (among_kept J NoJ inputs_own.0 of_inputs w inputs_own.2 (read_collected front js inputs_own.0 inputs_own.1 in_reads w r))
    where
      first : IsAmong w of_inputs ⊎ NoJ w → IsAmong w of_inputs
      first (inl a) = a
      first (inr never) = absurd (never r)

  sort : (w : List ℕ) → IsAmong w metas → IsAmong w ((of_inputs ++ further) ++ unread)
  sort w a = first (among_kept NoJ J metas others.0 w others.1 a)
    where
      second : NoJ w → IsAmong w unread ⊎ Z w → IsAmong w ((of_inputs ++ further) ++ unread)
      second none (inl b) = among_back (of_inputs ++ further) unread w b
      second none (inr r) = among_front (of_inputs ++ further) unread w (among_back of_inputs further w (sort_outputs w none r))

      first : IsAmong w others.0 ⊎ J w → IsAmong w ((of_inputs ++ further) ++ unread)
      first (inl b) = second (kept_among NoJ J metas others.0 w others.1 b).1 (among_kept NoZ Z others.0 unread w others.2 b)
      first (inr r) = among_front (of_inputs ++ further) unread w (among_front of_inputs further w (sort_inputs w r))

  abbrev Collected : MetaDecl → Type 0
  Collected = IsCollected th.sig.cats (joined (front ++ outputs))

  more_tokens : (forms : List (List Token)) (own : List MetaDecl) → ((w : List ℕ) → StandsIn w (joined forms) → StandsIn w (joined (front ++ outputs)))
      → AllByRecursion (IsCollected th.sig.cats (joined forms)) own → AllByRecursion (IsCollected th.sig.cats (joined (front ++ outputs))) own
  more_tokens forms own f each =
      all_map (IsCollected th.sig.cats (joined forms)) Collected (λ d i. record { written = f d.name i.written; cat = i.cat; params = i.params }) own each

  in_front_tokens : (w : List ℕ) → StandsIn w (joined front) → StandsIn w (joined (front ++ outputs))
  in_front_tokens w s = subst (StandsIn w) (sym (joined_append front outputs)) (any_front (λ t. t ≡ word w) (joined front) (joined outputs) s)

  in_back_tokens : (w : List ℕ) → StandsIn w (joined outputs) → StandsIn w (joined (front ++ outputs))
  in_back_tokens w s = subst (StandsIn w) (sym (joined_append front outputs)) (any_back (λ t. t ≡ word w) (joined front) (joined outputs) s)

  used_differ : AreDifferentNames (map (λ (m : MetaDecl). m.name) (of_inputs ++ further))
  used_differ =
      different_append of_inputs further (kept_differ J NoJ inputs_own.0 of_inputs inputs_own.2 (inputs_own.1).differ)
      (kept_differ NoJ J outputs_own.1 further outputs_own.4 (kept_differ Z NoZ outputs_own.0 outputs_own.1 outputs_own.3 (outputs_own.2).differ))
      (λ w a b. sorted_over.not_inputs w b (sorted_over.in_inputs w a))

  unread_apart : (w : List ℕ) → IsAmong w (of_inputs ++ further) → IsAmong w unread → ⊥
  unread_apart w a b = which (among_split of_inputs further w a)
    where
      which : IsAmong w of_inputs ⊎ IsAmong w further → ⊥
      which (inl i) = sorted_over.unread_inputs w b (sorted_over.in_inputs w i)
      which (inr f) = sorted_over.unread_outputs w b (sorted_over.in_outputs w f)

  pub sorted_names : AreGathered th.sig.cats (joined (front ++ outputs)) ((of_inputs ++ further) ++ unread)
  sorted_names = record {
    each = all_append Collected (of_inputs ++ further) unread
        (all_append Collected of_inputs further
        (more_tokens front of_inputs in_front_tokens (kept_each J NoJ (IsCollected th.sig.cats (joined front)) inputs_own.0 of_inputs inputs_own.2 (inputs_own.1).each))
        (more_tokens outputs further in_back_tokens
        (kept_each NoJ J (IsCollected th.sig.cats (joined outputs)) outputs_own.1 further outputs_own.4
        (kept_each Z NoZ (IsCollected th.sig.cats (joined outputs)) outputs_own.0 outputs_own.1 outputs_own.3 (outputs_own.2).each))))
        (kept_each NoZ Z Collected others.0 unread others.2 (kept_each NoJ J Collected metas others.0 others.1 c.each));
    all = λ w n s spelled. sort w (c.all w n s spelled);
    differ = different_append (of_inputs ++ further) unread used_differ
        (kept_differ NoZ Z others.0 unread others.2 (kept_differ NoJ J metas others.0 others.1 c.differ)) unread_apart;
  }

  -- the forms read again
  module _ (again_js again_zs : List JudgmentScheme) (again_in : AllZip (ReadsOnlyAs th.sig th.judgments (closed_names ((of_inputs ++ further) ++ unread))) front again_js)
      (again_out : AllZip (ReadsOnlyAs th.sig th.judgments (closed_names ((of_inputs ++ further) ++ unread))) outputs again_zs) where
    gathered : AreGathered th.sig.cats (joined (front ++ outputs)) metas
    gathered = record { each = c.each; all = c.all; differ = c.differ }

    same_js : AllZip (IsSameOver metas ((of_inputs ++ further) ++ unread)) js again_js
    same_js =
        let there = parts_moved th bare front outputs metas all_names gathered sorted_names front js in_reads in
        subst (λ (l : List JudgmentScheme). AllZip (IsSameOver metas all_names) js l)
        (zip_unique (ReadsOnlyAs th.sig th.judgments (closed_names all_names)) (one_reading th.sig th.judgments (closed_names all_names)) front there.0 again_js there.1 again_in) there.2

    same_zs : AllZip (IsSameOver metas ((of_inputs ++ further) ++ unread)) zs again_zs
    same_zs =
        let there = parts_moved th bare front outputs metas all_names gathered sorted_names outputs zs out_reads in
        subst (λ (l : List JudgmentScheme). AllZip (IsSameOver metas all_names) zs l)
        (zip_unique (ReadsOnlyAs th.sig th.judgments (closed_names all_names)) (one_reading th.sig th.judgments (closed_names all_names)) outputs there.0 again_zs there.1 again_out) there.2

    pub sorted_again : AreSorted ((of_inputs ++ further) ++ unread) again_js again_zs of_inputs further unread
    sorted_again = record {
      in_inputs = λ w a. all_there metas all_names js again_js same_js w (sorted_over.in_inputs w a);
      in_outputs = λ w a. all_there metas all_names zs again_zs same_zs w (sorted_over.in_outputs w a);
      not_inputs = λ w a r. sorted_over.not_inputs w a (all_back metas all_names js again_js same_js w r);
      unread_inputs = λ w a r. sorted_over.unread_inputs w a (all_back metas all_names js again_js same_js w r);
      unread_outputs = λ w a r. sorted_over.unread_outputs w a (all_back metas all_names zs again_zs same_zs w r);
    }

module _ {X : Type 0} (out : X → List Token) (th : Theory) (bare : IsBareTheory th) (inputs : List NamedForm) (outputs : List X) where
  all_form_tokens : joined (map form_of inputs ++ map out outputs) ≡ flat_map form_of inputs ++ flat_map out outputs
  all_form_tokens = joined_append (map form_of inputs) (map out outputs) ∙ (λ i. joined_map form_of inputs i ++ joined_map out outputs i)

  abbrev Reads : List MetaDecl → List Token → JudgmentScheme → Type 0
  Reads metas = ReadsOnlyAs th.sig th.judgments (closed_names metas)

  pub collected_forms : (metas : List MetaDecl) → AreCollected th.sig.cats (flat_map form_of inputs ++ flat_map out outputs) metas
      → AreCollected th.sig.cats (joined (map form_of inputs ++ map out outputs)) metas
  collected_forms metas c = subst (λ ts. AreCollected th.sig.cats ts metas) (sym all_form_tokens) c

  pub statement_none : (group : ℕ) (name : List ℕ) (metas : List MetaDecl) → AreGathered th.sig.cats (joined (map form_of inputs ++ map out outputs)) metas
      → ((js zs : List JudgmentScheme) → AllZip (ReadsOnlyAs th.sig th.judgments (closed_names metas)) (map form_of inputs) js → AllZip (ReadsOnlyAs th.sig th.judgments (closed_names metas)) (map out outputs) zs → ⊥)
      → (st : Theorem) → IsBuiltTheorem th (bare_text group name (map given_text inputs) (map out outputs)) st → ⊥
  statement_none group name metas c none st h =
      let s = says th bare (bare_text group name (map given_text inputs) (map out outputs)) st h in
      let names = (s.of_inputs ++ s.further) ++ s.unread in
      let front : map input_tokens (map given_text inputs) ≡ map form_of inputs = front_forms inputs in
      let gathered = subst (λ fs. AreGathered th.sig.cats (joined (fs ++ map out outputs)) names) front s.gathered in
      let ins = parts_moved th bare (map form_of inputs) (map out outputs) names metas gathered c (map form_of inputs) s.judgments (subst (λ fs. AllZip (Reads names) fs s.judgments) front s.in_reads) in
      let outs = parts_moved th bare (map form_of inputs) (map out outputs) names metas gathered c (map out outputs) st.outputs s.out_reads in
      none ins.0 outs.0 ins.1 outs.1

  -- the same for names that are collected
  pub none_collected : (group : ℕ) (name : List ℕ) (metas : List MetaDecl) → AreCollected th.sig.cats (flat_map form_of inputs ++ flat_map out outputs) metas
      → ((js zs : List JudgmentScheme) → AllZip (ReadsOnlyAs th.sig th.judgments (closed_names metas)) (map form_of inputs) js → AllZip (ReadsOnlyAs th.sig th.judgments (closed_names metas)) (map out outputs) zs → ⊥)
      → (st : Theorem) → IsBuiltTheorem th (bare_text group name (map given_text inputs) (map out outputs)) st → ⊥
  none_collected group name metas c none =
      let all = collected_forms metas c in
      statement_none group name metas (record { each = all.each; all = all.all; differ = all.differ }) none

  -- where the first reading is, and what was sorted by it
  module _ (metas : List MetaDecl) (js zs : List JudgmentScheme) (of_inputs further unread : List MetaDecl)
      (c : AreCollected th.sig.cats (flat_map form_of inputs ++ flat_map out outputs) metas)
      (in_reads : AllZip (ReadsOnlyAs th.sig th.judgments (closed_names metas)) (map form_of inputs) js)
      (out_reads : AllZip (ReadsOnlyAs th.sig th.judgments (closed_names metas)) (map out outputs) zs)
      (inputs_own : (own : List MetaDecl) × AreCollected th.sig.cats (flat_map form_of inputs) own × AreReadOf metas js own of_inputs)
      (outputs_own : (own : List MetaDecl) × (read : List MetaDecl) × AreCollected th.sig.cats (flat_map out outputs) own × AreReadOf metas zs own read × AreUnreadOf metas js read further)
      (others : (rest : List MetaDecl) × AreUnreadOf metas js metas rest × AreUnreadOf metas zs rest unread) where
    forms_own : (own : List MetaDecl) × AreCollected th.sig.cats (joined (map form_of inputs)) own × AreReadOf metas js own of_inputs
    forms_own = (inputs_own.0, subst (λ ts. AreCollected th.sig.cats ts inputs_own.0) (sym (joined_map form_of inputs)) inputs_own.1, inputs_own.2)

    out_own : (own : List MetaDecl) × (read : List MetaDecl) × AreCollected th.sig.cats (joined (map out outputs)) own × AreReadOf metas zs own read × AreUnreadOf metas js read further
    out_own = (outputs_own.0, outputs_own.1, subst (λ ts. AreCollected th.sig.cats ts outputs_own.0) (sym (joined_map out outputs)) outputs_own.2, outputs_own.3, outputs_own.4)

    pub names_sorted : AreGathered th.sig.cats (joined (map form_of inputs ++ map out outputs)) ((of_inputs ++ further) ++ unread)
    names_sorted = sorted_names th bare (map form_of inputs) (map out outputs) metas js zs of_inputs further unread (collected_forms metas c) in_reads out_reads forms_own out_own others

    pub statement_found : (group : ℕ) (name : List ℕ) → AllByRecursion (IsNamedFreely th.sig) (map given_text inputs) → AreNamedDifferently (map given_text inputs)
        → (again_js again_zs : List JudgmentScheme) → AllZip (ReadsOnlyAs th.sig th.judgments (closed_names ((of_inputs ++ further) ++ unread))) (map form_of inputs) again_js
        → AllZip (ReadsOnlyAs th.sig th.judgments (closed_names ((of_inputs ++ further) ++ unread))) (map out outputs) again_zs
        → IsBuiltTheorem th (bare_text group name (map given_text inputs) (map out outputs))
        (record { name = name; scope = closed_names (of_inputs ++ further); inputs = map given again_js; outputs = again_zs; targets = []; group = group })
    statement_found group name free once again_js again_zs again_in again_out =
        let front : map input_tokens (map given_text inputs) ≡ map form_of inputs = front_forms inputs in
        let names = (of_inputs ++ further) ++ unread in
        is_built th bare (map given_text inputs) (map out outputs) (are_given inputs) of_inputs further unread again_js again_zs
        (subst (λ fs. AreGathered th.sig.cats (joined (fs ++ map out outputs)) names) (sym front) names_sorted)
        (subst (λ fs. AreInOrder (joined fs) of_inputs) (sym front)
        (inputs_order th bare (map form_of inputs) (map out outputs) metas js zs of_inputs further unread (collected_forms metas c) in_reads out_reads forms_own out_own others))
        (further_order th bare (map form_of inputs) (map out outputs) metas js zs of_inputs further unread (collected_forms metas c) in_reads out_reads forms_own out_own others)
        (sorted_again th bare (map form_of inputs) (map out outputs) metas js zs of_inputs further unread (collected_forms metas c) in_reads out_reads forms_own out_own others again_js again_zs again_in again_out)
        (subst (λ fs. AllZip (Reads names) fs again_js) (sym front) again_in) again_out name group free once

    -- they make a scope in which forms are read
    pub sorted_scope : IsPlain th.sig th.judgments (settled (closed_names ((of_inputs ++ further) ++ unread))) want_judgment
    sorted_scope = plain_settled th (joined (map form_of inputs ++ map out outputs)) ((of_inputs ++ further) ++ unread) bare names_sorted

    -- the statement that is found, or that there is none
    pub found_statement : (group : ℕ) (name : List ℕ) → AllByRecursion (IsNamedFreely th.sig) (map given_text inputs) → AreNamedDifferently (map given_text inputs) → (found : Option Statement)
        → MatchOption found
        ((js zs : List JudgmentScheme) → AllZip (ReadsOnlyAs th.sig th.judgments (closed_names ((of_inputs ++ further) ++ unread))) (map form_of inputs) js
        → AllZip (ReadsOnlyAs th.sig th.judgments (closed_names ((of_inputs ++ further) ++ unread))) (map out outputs) zs → ⊥)
        (λ st. (js : List JudgmentScheme) × (zs : List JudgmentScheme)
        × (plain_statement st ≡ record { name = name; scope = closed_names (of_inputs ++ further); inputs = map given js; outputs = zs; targets = []; group = group })
        × AllZip (ReadsOnlyAs th.sig th.judgments (closed_names ((of_inputs ++ further) ++ unread))) (map form_of inputs) js
        × AllZip (ReadsOnlyAs th.sig th.judgments (closed_names ((of_inputs ++ further) ++ unread))) (map out outputs) zs)
        → MatchOption found ((st : Theorem) → IsBuiltTheorem th (bare_text group name (map given_text inputs) (map out outputs)) st → ⊥)
        (λ st. IsBuiltTheorem th (bare_text group name (map given_text inputs) (map out outputs)) (plain_statement st))
    found_statement group name free once None none = statement_none group name ((of_inputs ++ further) ++ unread) names_sorted none
    found_statement group name free once (Some st) is =
        subst (IsBuiltTheorem th (bare_text group name (map given_text inputs) (map out outputs))) (sym is.2) (statement_found group name free once is.0 is.1 is.3 is.4)
