-- The statement on derivations of metavariables and judgments: what is asked of it.
use Rattle.std.proofs.Common.{◌≡◌, ◌⊎◌, ◌+◌, ◌≤◌, ℕ, List, [], ◌∷◌, ◌++◌, length, map, inl, inr, refl, sym, subst, arith, Some, slice_get, append-nil}
use Rattle.std.specs.List.{AllByRecursion, AllZip}
use Rattle.binding_terms.specs.Numbered.{AnyByRecursion}
use Rattle.binding_terms.specs.Signature.{Signature}
use Rattle.scheme_terms.specs.Forms.{Names, SchemeContext}
use Rattle.scheme_terms.specs.SchemeScope.{AreDifferentNames, StandsWith}
use Rattle.scheme_terms.specs.declared.scheme.MetaDecl.{MetaDecl}
use Rattle.scheme_terms.specs.declared.scheme.Root.TheVariants.{Closed}
use Rattle.rule_schemes.specs.NewNames.{AreInOrder}
use Rattle.rule_schemes.specs.Reading.{Token}
use Rattle.rule_schemes.specs.Rules.{JudgmentScheme, Theory, StrictInJudgment}
use Rattle.rule_schemes.specs.Statement.{StatementInput, given, syntax_input, Theorem, OccursInJudgment, OccursInInput, StrictInInput, IsOfInputs, IsOfOutputs, StrictInStatement, InputMayStand, IsStatementForm, IsStatementInput, InputWithin}
use Rattle.rule_schemes.specs.declared.rule.Judgment.{Judgment}
use Rattle.judgments.specs.Bare.{IsBareTheory, IsGivenInput}
use Rattle.judgments.specs.Built.{IsBuiltTheorem, bare_text}
use Rattle.judgments.specs.Collected.{IsAmong, AreGathered}
use Rattle.judgments.specs.Laws.{AreBareNames}
use Rattle.judgments.specs.Named.{AreNamesOf}
use Rattle.judgments.specs.Standing.{IsRead}
use Rattle.judgments.specs.Statements.{IsNamedFreely, AreNamedDifferently}
use Rattle.judgments.specs.Written.{WrittenInput, for_derivation, for_term, input_tokens, term_words, IsInputOf, IsStatementOf, ReadsOnlyAs, OccursInStatement}
use Rattle.judgments.proofs.BareForms.{HasUsed, no_brackets_read, names_from, form_in_scope}
use Rattle.judgments.proofs.GoodRules.{strict_judgment, kept_each_of}
use Rattle.judgments.proofs.KeptNames.{read_any, any_read, any_at}
use Rattle.judgments.proofs.OneRule.{among_split, all_front, in_front}
use Rattle.judgments.proofs.RuleLemmas.{closed_names, bare_names, numbered, no_context_read}
use Rattle.judgments.proofs.StatementLemmas.{AreGiven, no_terms, any_given, given_any, read_inputs, place_front, place_back, among_at, different_front}
use Rattle.judgments.proofs.WordsOfForms.{joined}
use Rattle.binding_terms.proofs.Lists.{zip_append, zip_both, zip_right}

pub given_inputs : (sig : Signature) (js : List Judgment) (names : Names) (inputs : List WrittenInput) (xs : List StatementInput)
    → AllZip (IsInputOf sig js names) inputs xs → AllByRecursion IsGivenInput xs → AreGiven inputs
given_inputs sig js names [] [] h k = tt
given_inputs sig js names [] (x ∷ xs) h k = absurd h
given_inputs sig js names (i ∷ inputs) [] h k = absurd h
given_inputs sig js names (for_derivation name form ∷ inputs) (given j ∷ xs) h k = (tt, given_inputs sig js names inputs xs h.1 k.1)
given_inputs sig js names (for_derivation name form ∷ inputs) (syntax_input m ∷ xs) h k = absurd h.0
given_inputs sig js names (for_term w ∷ inputs) (given j ∷ xs) h k = absurd h.0
given_inputs sig js names (for_term w ∷ inputs) (syntax_input m ∷ xs) h k = absurd k.0

-- Names that stand in the inputs' readings, further ones that stand in the conclusions', and those that stand in none.
pub record AreSorted (metas : List MetaDecl) (js zs : List JudgmentScheme) (of_inputs further unread : List MetaDecl) : Type 0 where
  pub in_inputs : (w : List ℕ) → IsAmong w of_inputs → IsRead metas js w
  pub in_outputs : (w : List ℕ) → IsAmong w further → IsRead metas zs w
  pub not_inputs : (w : List ℕ) → IsAmong w further → IsRead metas js w → ⊥
  pub unread_inputs : (w : List ℕ) → IsAmong w unread → IsRead metas js w → ⊥
  pub unread_outputs : (w : List ℕ) → IsAmong w unread → IsRead metas zs w → ⊥

-- what is read is among all the names
pub read_is_among : (metas : List MetaDecl) (zs : List JudgmentScheme) (w : List ℕ) → IsRead metas zs w → IsAmong w metas
read_is_among metas zs w r = let k = read_any metas zs w r in among_at metas k.0 k.1 w k.2 k.3

module _ (th : Theory) (bare : IsBareTheory th) (inputs : List WrittenInput) (outputs : List (List Token)) (derivations : AreGiven inputs)
    (of_inputs further unread : List MetaDecl) (js zs : List JudgmentScheme)
    (c : AreGathered th.sig.cats (joined (map input_tokens inputs ++ outputs)) ((of_inputs ++ further) ++ unread))
    (inputs_order : AreInOrder (joined (map input_tokens inputs)) of_inputs) (further_order : AreInOrder (joined outputs) further)
    (sorted : AreSorted ((of_inputs ++ further) ++ unread) js zs of_inputs further unread)
    (in_reads : AllZip (ReadsOnlyAs th.sig th.judgments (closed_names ((of_inputs ++ further) ++ unread))) (map input_tokens inputs) js)
    (out_reads : AllZip (ReadsOnlyAs th.sig th.judgments (closed_names ((of_inputs ++ further) ++ unread))) outputs zs)
    (name : List ℕ) (group : ℕ) where
  abbrev front : List (List Token)
  front = map input_tokens inputs

  abbrev used : List MetaDecl
  used = of_inputs ++ further

  abbrev all : List MetaDecl
  all = (of_inputs ++ further) ++ unread

  abbrev Reads : List Token → JudgmentScheme → Type 0
  Reads = ReadsOnlyAs th.sig th.judgments (closed_names ((of_inputs ++ further) ++ unread))

  abbrev pub made : Theorem
  made = record { name = name; scope = closed_names (of_inputs ++ further); inputs = map given js; outputs = zs; targets = []; group = group }

  plain : AreBareNames (closed_names ((of_inputs ++ further) ++ unread))
  plain = record { knowns = refl; parameters = bare_names th.sig.cats (joined (front ++ outputs)) all c.each }

  bare_parameters : AllByRecursion (λ (d : MetaDecl). d.params ≡ []) (of_inputs ++ further)
  bare_parameters = all_front (λ (d : MetaDecl). d.params ≡ []) used unread plain.parameters

  the_names : AreNamesOf th.sig (term_words inputs ++ (map input_tokens inputs ++ outputs)) ((of_inputs ++ further) ++ unread)
  the_names =
      subst (λ l. AreNamesOf th.sig (l ++ (front ++ outputs)) all) (sym (no_terms inputs derivations))
      (names_from th.sig bare.sig (front ++ outputs) all
      (no_brackets_read th.sig th.judgments bare.sig bare.judgments (closed_names all) plain (front ++ outputs) (js ++ zs) (zip_append Reads front outputs js zs in_reads out_reads)) c)

  at_input : (m : ℕ) (d : MetaDecl) → slice_get of_inputs m ≡ Some d → slice_get ((of_inputs ++ further) ++ unread) m ≡ Some d
  at_input m d g = place_front used unread m d (place_front of_inputs further m d g)

  at_further : (k : ℕ) (d : MetaDecl) → slice_get further k ≡ Some d → slice_get ((of_inputs ++ further) ++ unread) (length of_inputs + k) ≡ Some d
  at_further k d g = place_front used unread (length of_inputs + k) d (place_back of_inputs further k d g)

  is_of_inputs : (m : ℕ) (d : MetaDecl) → slice_get of_inputs m ≡ Some d → IsOfInputs made (0 + m)
  is_of_inputs m d g =
      let same : m ≡ 0 + m = omega arith in
      subst (IsOfInputs made) same (any_given m js (any_at all js m d c.differ (at_input m d g) (sorted.in_inputs d.name (among_at of_inputs m d d.name g refl))))

  is_further : (k : ℕ) (d : MetaDecl) → slice_get further k ≡ Some d → (IsOfInputs made (length of_inputs + k) → ⊥) × IsOfOutputs made (length of_inputs + k)
  is_further k d g = (
    λ o. sorted.not_inputs d.name (among_at further k d d.name g refl) (any_read all js (length of_inputs + k) d (at_further k d g) (given_any (length of_inputs + k) js o)),
    any_at all zs (length of_inputs + k) d c.differ (at_further k d g) (sorted.in_outputs d.name (among_at further k d d.name g refl)),
  )

  is_unread : (k : ℕ) (d : MetaDecl) → slice_get unread k ≡ Some d → OccursInStatement (length (of_inputs ++ further) + k) made → ⊥
  is_unread k d g (inl o) =
      sorted.unread_inputs d.name (among_at unread k d d.name g refl) (any_read all js (length used + k) d (place_back used unread k d g) (given_any (length used + k) js o))
  is_unread k d g (inr o) = sorted.unread_outputs d.name (among_at unread k d d.name g refl) (any_read all zs (length used + k) d (place_back used unread k d g) o)

  pub stands : IsStatementOf th.sig th.judgments Closed name inputs outputs [] group made
  stands = record {
    named = refl;
    root_is = refl;
    no_known = refl;
    unread = unread;
    names = the_names;
    of_inputs = of_inputs;
    further = further;
    split = refl;
    are_of_inputs = numbered (IsOfInputs made) of_inputs 0 is_of_inputs;
    are_further = numbered (λ m. (IsOfInputs made m → ⊥) × IsOfOutputs made m) further (length of_inputs) is_further;
    inputs_in_order = inputs_order;
    further_in_order = further_order;
    unused = numbered (λ m. OccursInStatement m made → ⊥) unread (length used) is_unread;
    reads_inputs = read_inputs th.sig th.judgments (closed_names all) inputs js derivations in_reads;
    targets_are = tt;
    group_is = refl;
    reads_outputs = out_reads;
  }

  -- what stands in a reading is one of the statement's
  not_unread : (w : List ℕ) → IsRead ((of_inputs ++ further) ++ unread) js w ⊎ IsRead ((of_inputs ++ further) ++ unread) zs w → IsAmong w unread → ⊥
  not_unread w (inl r) a = sorted.unread_inputs w a r
  not_unread w (inr r) a = sorted.unread_outputs w a r

  either : (w : List ℕ) → IsRead ((of_inputs ++ further) ++ unread) js w ⊎ IsRead ((of_inputs ++ further) ++ unread) zs w → IsAmong w (of_inputs ++ further) ⊎ IsAmong w unread
      → IsAmong w (of_inputs ++ further)
  either w r (inl a) = a
  either w r (inr a) = absurd (not_unread w r a)

  kept_in : (m : ℕ) (d : MetaDecl) → slice_get ((of_inputs ++ further) ++ unread) m ≡ Some d → AnyByRecursion (OccursInJudgment m) js → slice_get (of_inputs ++ further) m ≡ Some d
  kept_in m d g o =
      let r = any_read all js m d g o in
      in_front used unread c.differ m d g (either d.name (inl r) (among_split used unread d.name (read_is_among all js d.name r)))

  kept_out : (m : ℕ) (d : MetaDecl) → slice_get ((of_inputs ++ further) ++ unread) m ≡ Some d → AnyByRecursion (OccursInJudgment m) zs → slice_get (of_inputs ++ further) m ≡ Some d
  kept_out m d g o =
      let r = any_read all zs m d g o in
      in_front used unread c.differ m d g (either d.name (inr r) (among_split used unread d.name (read_is_among all zs d.name r)))

  abbrev Uses : JudgmentScheme → Type 0
  Uses = HasUsed th.sig th.judgments bare.sig bare.judgments ((of_inputs ++ further) ++ unread) (closed_names (of_inputs ++ further))

  abbrev ReadsOver : List Token → JudgmentScheme → Type 0
  ReadsOver form j = ReadsOnlyAs th.sig th.judgments (closed_names ((of_inputs ++ further) ++ unread)) form j × Uses j

  in_over : AllZip ReadsOver (map input_tokens inputs) js
  in_over = zip_both Reads Uses front js in_reads (kept_each_of (λ m d. slice_get used m ≡ Some d) (λ m d. slice_get all m ≡ Some d) js kept_in)

  out_over : AllZip ReadsOver outputs zs
  out_over = zip_both Reads Uses outputs zs out_reads (kept_each_of (λ m d. slice_get used m ≡ Some d) (λ m d. slice_get all m ≡ Some d) zs kept_out)

  over_none : (form : List Token) (j : JudgmentScheme) → ReadsOver form j → j.context ≡ record { root = Closed; entries = [] }
  over_none form j h = no_context_read th.sig th.judgments bare.sig bare.apart bare.judgments (closed_names all) form j h.0

  -- what each judgment of it meets
  in_scope : (form : List Token) (j : JudgmentScheme) → ReadsOver form j → IsStatementForm th made j
  in_scope form j h = (
    form_in_scope th.sig th.judgments bare.sig bare.judgments th refl refl (closed_names all) (closed_names used) plain form j h.0 h.1,
    subst (λ (c : SchemeContext). StandsWith Closed c.root) (sym (over_none form j h)) tt,
  )

  few : (form : List Token) (j : JudgmentScheme) → ReadsOver form j → length j.context.entries ≤ 8
  few form j h = subst (λ (c : SchemeContext). length c.entries ≤ 8) (sym (over_none form j h)) (let small : 0 ≤ 8 = omega arith in small)

  strict_in : (m : ℕ) (form : List Token) (j : JudgmentScheme) → ReadsOver form j → OccursInJudgment m j → StrictInJudgment m j
  strict_in m form j h o = strict_judgment th (closed_names used) bare_parameters j (in_scope form j h).0 (over_none form j h) m o

  all_given : (P : StatementInput → Type 0) (ys : List JudgmentScheme) → AllByRecursion (λ (j : JudgmentScheme). P (given j)) ys → AllByRecursion P (map given ys)
  all_given P [] h = tt
  all_given P (y ∷ ys) h = (h.0, all_given P ys h.1)

  strict_given : (m : ℕ) (ys : List JudgmentScheme) → AllByRecursion (λ (j : JudgmentScheme). OccursInJudgment m j → StrictInJudgment m j) ys → AnyByRecursion (OccursInInput m) (map given ys)
      → AnyByRecursion (StrictInInput m) (map given ys)
  strict_given m [] h o = o
  strict_given m (y ∷ ys) h (inl o) = inl (h.0 o)
  strict_given m (y ∷ ys) h (inr o) = inr (strict_given m ys h.1 o)

  strict_of : (m : ℕ) (ys : List JudgmentScheme) → AllByRecursion (λ (j : JudgmentScheme). OccursInJudgment m j → StrictInJudgment m j) ys → AnyByRecursion (OccursInJudgment m) ys
      → AnyByRecursion (StrictInJudgment m) ys
  strict_of m [] h o = o
  strict_of m (y ∷ ys) h (inl o) = inl (h.0 o)
  strict_of m (y ∷ ys) h (inr o) = inr (strict_of m ys h.1 o)

  any_of : {A : Type 0} (xs : List A) → AllByRecursion (λ (x : A). Unit {0}) xs
  any_of [] = tt
  any_of (x ∷ xs) = (tt, any_of xs)

  pub is_built : AllByRecursion (IsNamedFreely th.sig) inputs → AreNamedDifferently inputs → IsBuiltTheorem th (bare_text group name inputs outputs) made
  is_built free once = (
    record {
      root = tt;
      targets = [];
      target_words = tt;
      written = stands;
      free_names = free;
      different_names = once;
      scope = (tt, refl, subst AreDifferentNames (sym (append-nil (map (λ (m : MetaDecl). m.name) used))) (different_front used unread c.differ));
      forms = record {
        inputs = all_given (IsStatementInput th made) js (zip_right ReadsOver (IsStatementForm th made) in_scope front js in_over);
        outputs = zip_right ReadsOver (IsStatementForm th made) in_scope outputs zs out_over;
      };
      entries = (
        all_given InputWithin js (zip_right ReadsOver (λ (j : JudgmentScheme). length j.context.entries ≤ 8) few front js in_over),
        zip_right ReadsOver (λ (j : JudgmentScheme). length j.context.entries ≤ 8) few outputs zs out_over,
      );
      no_fault = record {
        strict = numbered (StrictInStatement made) used 0 (λ m d g. record {
          inputs = strict_given (0 + m) js (zip_right ReadsOver (λ (j : JudgmentScheme). OccursInJudgment (0 + m) j → StrictInJudgment (0 + m) j) (strict_in (0 + m)) front js in_over);
          outputs = λ o n. strict_of (0 + m) zs (zip_right ReadsOver (λ (j : JudgmentScheme). OccursInJudgment (0 + m) j → StrictInJudgment (0 + m) j) (strict_in (0 + m)) outputs zs out_over) o;
        });
        inputs = all_given (InputMayStand th made) js (any_of js);
        outputs = any_of zs;
      };
    },
    record {
      root = refl;
      inputs = all_given IsGivenInput js (any_of js);
      targets = refl;
      parameters = bare_parameters;
    },
  )
