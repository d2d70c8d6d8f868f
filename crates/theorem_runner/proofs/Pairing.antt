-- The instances that give the inputs are those that make the pairs of the inputs equal.
use Rattle.std.proofs.Common.{◌≡◌, ℕ, zero, suc, ◌+◌, ◌≤◌, List, [], ◌∷◌, ◌++◌, length, map, drop, append_assoc, Option, Some, None, slice_get, unwrap_or, inl, inr, refl, ap, ◌∙◌, sym, subst, arith}
use Rattle.std.specs.Prelude.{option_map}
use Rattle.std.specs.List.{AllByRecursion, AllZip}
use Rattle.std.proofs.lemmas.List.{append-nil, drop_more, drop_all}
use Rattle.std.proofs.lemmas.Option.{same_Some, get_or_from_slice_get, slice_get_within}
use Rattle.std.proofs.lemmas.Slice.Zip.{AllZip-long}
use Rattle.binding_terms.specs.Numbered.{AnyByRecursion}
use Rattle.scheme_terms.specs.Forms.{Names, Instance, ContextValue, KnownVariable}
use Rattle.scheme_terms.specs.Context.{IsValue}
use Rattle.scheme_terms.specs.SchemeScope.{IsRoot}
use Rattle.scheme_terms.specs.Instance.{IsMetaValue, IsKnownPlace}
use Rattle.scheme_terms.specs.declared.scheme.MetaDecl.{MetaDecl}
use Rattle.scheme_terms.specs.declared.scheme.Root.TheVariants.{Closed}
use Rattle.scheme_terms.proofs.Options.{zip_at}
use Rattle.pattern_unify.proofs.Places.{numbered, numbered_at}
use Rattle.rule_schemes.specs.Plain.{IsPlainSystem}
use Rattle.rule_schemes.specs.Rules.{JudgmentScheme, Theory}
use Rattle.rule_schemes.specs.Derivation.{Derivation, judgment, Derives}
use Rattle.rule_schemes.specs.Statement.{StatementInput, given, syntax_input, Theorem, InputTree, derived, term, IsGiven, given_value, IsOfInputs, StrictInInput, StrictInStatement}
use Rattle.rule_schemes.proofs.DerivationLemmas.{derives_a_judgment}
use Rattle.scheme_match.specs.Matching.{Matched, judgments, Matching, JudgmentsFit, MakesEqual, IsMatch, IsOnlyMatch, StrictInPair, AreStrict}
use Rattle.scheme_match.proofs.Fitting.{forms_fit}
use Rattle.core_proofs.specs.Plain.{IsPlainForm}
use Rattle.proof_trees.specs.Right.{IsProofScope}
use Rattle.core_proofs.specs.Proof.{given_judgments}
use Rattle.core_proofs.specs.Provable.{IsProvable, IsOfDerivation}
use Rattle.theorem_runner.specs.Instances.{no_context_value, IsDerived, Gives, IsOnlyInstance}
use Rattle.theorem_runner.proofs.Pairs.{put_pair, input_pairs}
use Rattle.theorem_runner.proofs.OneInstance.{no_places}
use Rattle.theorem_runner.proofs.Restricting.{of_inputs_below}
use Rattle.binding_terms.proofs.Lists.{append_within}

-- what is known of the pairs so far, one input on
module _ {A B : Type 0} (f : A → StatementInput) (g : B → InputTree) (ins : List A) (outs : List B) (i : ℕ) (a : A) (b : B) (here : slice_get ins i ≡ Some a) (there : slice_get outs i ≡ Some b) where
  next_inputs : input_pairs (map f (drop i ins)) (map g (drop i outs)) ≡ input_pairs (f a ∷ map f (drop (i + 1) ins)) (g b ∷ map g (drop (i + 1) outs))
  next_inputs =
      let first : drop i ins ≡ a ∷ drop (i + 1) ins = drop_more ins i a (slice_get_within ins i a here) ∙ ap (λ x. x ∷ drop (i + 1) ins) (get_or_from_slice_get ins i a a here) in
      let second : drop i outs ≡ b ∷ drop (i + 1) outs = drop_more outs i b (slice_get_within outs i b there) ∙ ap (λ x. x ∷ drop (i + 1) outs) (get_or_from_slice_get outs i b b there) in
      ap (λ xs. input_pairs (map f xs) (map g (drop i outs))) first ∙ ap (λ ys. input_pairs (map f (a ∷ drop (i + 1) ins)) (map g ys)) second

  pub pairs_stop : (done : List Matched) (whole : Option (List Matched)) → ((inputs : List StatementInput) (xs : List InputTree) → input_pairs (f a ∷ inputs) (g b ∷ xs) ≡ None) →
      option_map (λ ps. done ++ ps) (input_pairs (map f (drop i ins)) (map g (drop i outs))) ≡ whole → whole ≡ None
  pairs_stop done whole none e = sym e ∙ ap (option_map (λ ps. done ++ ps)) (next_inputs ∙ none (map f (drop (i + 1) ins)) (map g (drop (i + 1) outs)))

  pub pairs_more : (done new : List Matched) (whole : Option (List Matched)) (j : JudgmentScheme) (d : Derivation) → f a ≡ given j → g b ≡ derived d →
      new ≡ done ++ judgments j (judgment d) ∷ [] → option_map (λ ps. done ++ ps) (input_pairs (map f (drop i ins)) (map g (drop i outs))) ≡ whole →
      option_map (λ ps. new ++ ps) (input_pairs (map f (drop (i + 1) ins)) (map g (drop (i + 1) outs))) ≡ whole
  pairs_more done new whole j d is of more e =
      let rest = input_pairs (map f (drop (i + 1) ins)) (map g (drop (i + 1) outs)) in
      let put : input_pairs (map f (drop i ins)) (map g (drop i outs)) ≡ put_pair (judgments j (judgment d)) rest =
      next_inputs ∙ ap (λ x. input_pairs (x ∷ map f (drop (i + 1) ins)) (g b ∷ map g (drop (i + 1) outs))) is
      ∙ ap (λ y. input_pairs (given j ∷ map f (drop (i + 1) ins)) (y ∷ map g (drop (i + 1) outs))) of in
      ap (λ front. option_map (λ ps. front ++ ps) rest) more ∙ shifted (judgments j (judgment d)) rest ∙ ap (option_map (λ ps. done ++ ps)) (sym put) ∙ e
    where
      shifted : (p : Matched) (o : Option (List Matched)) → option_map (λ ps. (done ++ p ∷ []) ++ ps) o ≡ option_map (λ ps. done ++ ps) (put_pair p o)
      shifted p None = refl
      shifted p (Some ps) = ap Some (append_assoc done (p ∷ []) ps)

-- no input is left
pub pairs_end : {A B : Type 0} (f : A → StatementInput) (g : B → InputTree) (ins : List A) (outs : List B) (i : ℕ) (done : List Matched) (whole : Option (List Matched)) →
    length ins ≤ i → length outs ≤ i → option_map (λ ps. done ++ ps) (input_pairs (map f (drop i ins)) (map g (drop i outs))) ≡ whole → whole ≡ Some done
pairs_end f g ins outs i done whole h k e =
    sym e ∙ ap (λ xs. option_map (λ ps. done ++ ps) (input_pairs (map f xs) (map g (drop i outs)))) (drop_all i ins h)
    ∙ ap (λ ys. option_map (λ ps. done ++ ps) (input_pairs [] (map g ys))) (drop_all i outs k) ∙ ap Some (append-nil done)

put_some : (p : Matched) (o : Option (List Matched)) (ps : List Matched) → put_pair p o ≡ Some ps → (qs : List Matched) × (o ≡ Some qs) × (p ∷ qs ≡ ps)
put_some p None ps e = absurd (let no : ⊥ = cc in no)
put_some p (Some qs) ps e = (qs, refl, same_Some (p ∷ qs) ps e)

-- a form that stands among the inputs is one of their forms
pub given_at : (P : JudgmentScheme → Type 0) (inputs : List StatementInput) (i : ℕ) (j : JudgmentScheme) → AllByRecursion P (given_judgments inputs) →
    slice_get inputs i ≡ Some (given j) → P j
given_at P [] i j all e = absurd (let no : ⊥ = cc in no)
given_at P (given k ∷ inputs) zero j all e = let same : k ≡ j = cc in subst P same all.0
given_at P (given k ∷ inputs) (suc i) j all e = given_at P inputs i j all.1 e
given_at P (syntax_input m ∷ inputs) zero j all e = absurd (let no : ⊥ = cc in no)
given_at P (syntax_input m ∷ inputs) (suc i) j all e = given_at P inputs i j all e

module _ (th : Theory) (system : IsPlainSystem th) (st : Theorem) (provable : IsProvable th st) (scope : Names) (is : IsProofScope st scope) where
  -- a form and the judgment of a derivation fit together
  pub judgments_fit : (j : JudgmentScheme) (d : Derivation) → IsPlainForm th scope j → Derives th d → j.judgment ≡ (judgment d).judgment →
      JudgmentsFit th.sig scope.metas j (judgment d)
  judgments_fit j d form derives =
      forms_fit th scope j (judgment d) (subst (IsRoot th.sig) (sym form.root) tt) form.in_scope (derives_a_judgment th d system.so_far derives)

  -- without pairs nothing gives the inputs
  unpaired_inputs : (inst : Instance) (inputs : List StatementInput) (xs : List InputTree) → AllByRecursion IsOfDerivation inputs → AllZip (IsGiven th inst) inputs xs →
      input_pairs inputs xs ≡ None → ⊥
  unpaired_inputs inst [] [] ds h e = let no : ⊥ = cc in no
  unpaired_inputs inst [] (x ∷ xs) ds h e = h
  unpaired_inputs inst (i ∷ inputs) [] ds h e = h
  unpaired_inputs inst (given j ∷ inputs) (derived d ∷ xs) ds h e = unpaired_inputs inst inputs xs ds.1 h.1 (unput (judgments j (judgment d)) (input_pairs inputs xs) e)
    where
      unput : (p : Matched) (o : Option (List Matched)) → put_pair p o ≡ None → o ≡ None
      unput p None k = refl
      unput p (Some ps) k = absurd (let no : ⊥ = cc in no)
  unpaired_inputs inst (given j ∷ inputs) (term t ∷ xs) ds h e = h.0
  unpaired_inputs inst (syntax_input m ∷ inputs) (x ∷ xs) ds h e = ds.0

  module _ (v : ContextValue) (xs : List InputTree) where
    pub unpaired : input_pairs st.inputs xs ≡ None → (inst : Instance) → Gives th st scope v xs inst → ⊥
    unpaired e inst gives = unpaired_inputs inst st.inputs xs provable.derivations gives.1.inputs e

    pub uncounted : (length st.inputs ≡ length xs → ⊥) → (inst : Instance) → Gives th st scope v xs inst → ⊥
    uncounted other inst gives = other (sym (AllZip-long (IsGiven th inst) st.inputs xs gives.1.inputs))

    module _ (closed : v ≡ no_context_value) (derive : AllByRecursion (IsDerived th) xs) (ps : List Matched) (paired : input_pairs st.inputs xs ≡ Some ps) where
      abbrev pub matching : Matching
      matching = record { sig = th.sig; metas = scope.metas; knowns = []; root = v; pairs = ps }

      strict_pairs : (m : ℕ) (inputs : List StatementInput) (ys : List InputTree) (qs : List Matched) → AllByRecursion IsOfDerivation inputs → input_pairs inputs ys ≡ Some qs →
          AnyByRecursion (StrictInInput m) inputs → AnyByRecursion (StrictInPair m) qs
      strict_pairs m [] ys qs ds e h = absurd h
      strict_pairs m (given j ∷ inputs) [] qs ds e h = absurd (let no : ⊥ = cc in no)
      strict_pairs m (given j ∷ inputs) (derived d ∷ ys) qs ds e h =
          let got = put_some (judgments j (judgment d)) (input_pairs inputs ys) qs e in
          subst (AnyByRecursion (StrictInPair m)) got.2 (elim h [
            | inl k ↦ inl k
            | inr k ↦ inr (strict_pairs m inputs ys got.0 ds.1 got.1 k)
          ])
      strict_pairs m (given j ∷ inputs) (term t ∷ ys) qs ds e h = absurd (let no : ⊥ = cc in no)
      strict_pairs m (syntax_input n ∷ inputs) ys qs ds e h = absurd ds.0

      of_inputs : (m : ℕ) (decl : MetaDecl) → slice_get scope.metas m ≡ Some decl → IsOfInputs st m
      of_inputs m decl here = subst (IsOfInputs st) (let e : 0 + m ≡ m = omega arith in e) (numbered_at (λ m decl. IsOfInputs st m) 0 scope.metas m decl is.of_inputs here)

      in_statement : (m : ℕ) (decl : MetaDecl) → slice_get scope.metas m ≡ Some decl → slice_get st.scope.metas m ≡ Some decl
      in_statement m decl here =
          ap (λ (ms : List MetaDecl). slice_get ms m) is.split ∙ append_within scope.metas is.goal_names m (slice_get_within scope.metas m decl here) ∙ here

      strict_at : (m : ℕ) (decl : MetaDecl) → slice_get scope.metas m ≡ Some decl → AnyByRecursion (StrictInPair m) ps
      strict_at m decl here =
          let strict = subst (StrictInStatement st) (let e : 0 + m ≡ m = omega arith in e)
          (numbered_at (λ m decl. StrictInStatement st m) 0 st.scope.metas m decl provable.no_fault.strict (in_statement m decl here)) in
          strict_pairs m st.inputs xs ps provable.derivations paired (strict.inputs (of_inputs m decl here))

      pub are_strict : AreStrict matching
      are_strict =
          numbered (λ m decl. AnyByRecursion (StrictInPair m) ps) 0 scope.metas
          (λ k decl here. subst (λ m. AnyByRecursion (StrictInPair m) ps) (let e : k ≡ 0 + k = omega arith in e) (strict_at k decl here))

      -- equal pairs are given inputs
      given_pairs : (inst : Instance) (inputs : List StatementInput) (ys : List InputTree) (qs : List Matched) → AllByRecursion IsOfDerivation inputs →
          AllByRecursion (IsDerived th) ys → input_pairs inputs ys ≡ Some qs → AllByRecursion (MakesEqual inst) qs → AllZip (IsGiven th inst) inputs ys
      given_pairs inst [] [] qs ds from e h = tt
      given_pairs inst [] (y ∷ ys) qs ds from e h = absurd (let no : ⊥ = cc in no)
      given_pairs inst (given j ∷ inputs) [] qs ds from e h = absurd (let no : ⊥ = cc in no)
      given_pairs inst (given j ∷ inputs) (derived d ∷ ys) qs ds from e h =
          let got = put_some (judgments j (judgment d)) (input_pairs inputs ys) qs e in
          let equal = subst (AllByRecursion (MakesEqual inst)) (sym got.2) h in
          ((from.0, equal.0), given_pairs inst inputs ys got.0 ds.1 from.1 got.1 equal.1)
      given_pairs inst (given j ∷ inputs) (term t ∷ ys) qs ds from e h = absurd (let no : ⊥ = cc in no)
      given_pairs inst (syntax_input m ∷ inputs) ys qs ds from e h = absurd ds.0

      pairs_given : (inst : Instance) (inputs : List StatementInput) (ys : List InputTree) (qs : List Matched) → AllByRecursion IsOfDerivation inputs →
          input_pairs inputs ys ≡ Some qs → AllZip (IsGiven th inst) inputs ys → AllByRecursion (MakesEqual inst) qs
      pairs_given inst [] [] qs ds e h = let none : [] ≡ qs = same_Some [] qs e in subst (AllByRecursion (MakesEqual inst)) none tt
      pairs_given inst [] (y ∷ ys) qs ds e h = absurd h
      pairs_given inst (i ∷ inputs) [] qs ds e h = absurd h
      pairs_given inst (given j ∷ inputs) (derived d ∷ ys) qs ds e h =
          let got = put_some (judgments j (judgment d)) (input_pairs inputs ys) qs e in
          subst (AllByRecursion (MakesEqual inst)) got.2 (h.0.1, pairs_given inst inputs ys got.0 ds.1 got.1 h.1)
      pairs_given inst (given j ∷ inputs) (term t ∷ ys) qs ds e h = absurd h.0
      pairs_given inst (syntax_input m ∷ inputs) (y ∷ ys) qs ds e h = absurd ds.0

      closed_value : (inst : Instance) → inst.root ≡ v → IsValue th.sig Closed inst.root
      closed_value inst root = subst (IsValue th.sig Closed) (sym (root ∙ closed)) (refl, refl)

      pub match_gives : (inst : Instance) → IsMatch matching inst → Gives th st scope v xs inst
      match_gives inst m =
          let value = closed_value inst m.root in (
            record {
              root = subst (λ r. IsValue th.sig r inst.root) (sym (is.root ∙ provable.root)) value;
              metas = m.metas;
              knowns = subst (λ (ks : List KnownVariable). AllZip (IsKnownPlace inst) ks inst.knowns) (sym is.knowns)
                  (subst (λ ps. AllZip (IsKnownPlace inst) [] ps) (sym m.knowns) tt);
            },
            record {
              value = m.root;
              fits = record {
                root = subst (λ r. IsValue th.sig r inst.root) (sym provable.root) value;
                metas = numbered (λ n decl. IsOfInputs st n → IsMetaValue th.sig inst decl (given_value inst n)) 0 st.scope.metas
                    (λ k decl here of. meta_fits inst m k decl here of);
              };
              inputs = given_pairs inst st.inputs xs ps provable.derivations derive paired m.pairs;
            },
          )
        where
          meta_fits : (inst : Instance) → IsMatch matching inst → (k : ℕ) (decl : MetaDecl) → slice_get st.scope.metas k ≡ Some decl → IsOfInputs st (0 + k) →
              IsMetaValue th.sig inst decl (given_value inst (0 + k))
          meta_fits inst m k decl here of =
              let zero_k : 0 + k ≡ k = omega arith in
              let below = of_inputs_below th system st provable scope is k (subst (IsOfInputs st) zero_k of) in
              let mine : slice_get scope.metas k ≡ Some decl = sym (ap (λ (ms : List MetaDecl). slice_get ms k) is.split ∙ append_within scope.metas is.goal_names k below) ∙ here in
              let got = zip_at (IsMetaValue th.sig inst) scope.metas inst.metas m.metas k decl mine in
              subst (λ n. IsMetaValue th.sig inst decl (given_value inst n)) (sym zero_k)
              (subst (IsMetaValue th.sig inst decl) (sym (ap (λ o. unwrap_or o None) got.1)) got.2)

      pub gives_match : (inst : Instance) → Gives th st scope v xs inst → IsMatch matching inst
      gives_match inst gives = record {
        root = gives.1.value;
        metas = gives.0.metas;
        knowns = no_places inst inst.knowns (subst (λ (ks : List KnownVariable). AllZip (IsKnownPlace inst) ks inst.knowns) is.knowns gives.0.knowns);
        pairs = pairs_given inst st.inputs xs ps provable.derivations paired gives.1.inputs;
      }

      pub only_instance : (o : Option Instance) → IsOnlyMatch matching o → IsOnlyInstance th st scope v xs o
      only_instance None none = λ inst gives. none inst (gives_match inst gives)
      only_instance (Some inst) one = (match_gives inst one.0, λ other gives. one.1 other (gives_match other gives))
