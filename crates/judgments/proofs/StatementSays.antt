-- What a statement for which a theorem stands says of its metavariables and forms, and that there is one.
use Rattle.std.proofs.Common.{◌≡◌, ◌⊎◌, ◌+◌, ℕ, List, [], ◌∷◌, ◌++◌, length, map, inl, inr, refl, ap, ◌∙◌, sym, subst, arith, Some, slice_get}
use Rattle.std.specs.List.{AllByRecursion, AllZip}
use Rattle.binding_terms.specs.Numbered.{AnyByRecursion, AllNumbered}
use Rattle.scheme_terms.specs.Forms.{Names}
use Rattle.scheme_terms.specs.declared.scheme.MetaDecl.{MetaDecl}
use Rattle.rule_schemes.specs.NewNames.{AreInOrder}
use Rattle.rule_schemes.specs.Reading.{Token}
use Rattle.rule_schemes.specs.Rules.{JudgmentScheme, Theory}
use Rattle.rule_schemes.specs.Statement.{given, Theorem, OccursInJudgment, OccursInInput, IsOfInputs, IsOfOutputs}
use Rattle.judgments.specs.Bare.{IsBareTheory}
use Rattle.judgments.specs.Built.{IsBuiltTheorem}
use Rattle.judgments.specs.Collected.{IsAmong, IsCollected, AreGathered}
use Rattle.judgments.specs.Named.{AreNamesOf}
use Rattle.judgments.specs.Standing.{IsRead}
use Rattle.judgments.specs.Texts.{TheoremText}
use Rattle.judgments.specs.Written.{input_tokens, OccursInStatement, IsStatementOf, ReadsOnlyAs, names_over}
use Rattle.judgments.proofs.BareForms.{gathered_from}
use Rattle.judgments.proofs.KeptNames.{among_place, any_read, any_at}
use Rattle.judgments.proofs.OneOrder.{same_names, same_decls}
use Rattle.judgments.proofs.OneRule.{among_split, all_front, in_front}
use Rattle.judgments.proofs.OneStatement.{given_inputs, AreSorted, read_is_among}
use Rattle.judgments.proofs.Reordered.{IsSameOver, reorder_all, all_there, all_back, all_equal, same_gathered}
use Rattle.judgments.proofs.RuleLemmas.{closed_names, bare_names, one_reading}
use Rattle.judgments.proofs.StatementLemmas.{AreGiven, no_terms, any_given, given_any, inputs_read, numbered_all, place_front, place_back, different_front, different_back}
use Rattle.judgments.proofs.WordsOfForms.{joined}
use Rattle.binding_terms.proofs.Lists.{zip_unique}

-- what a statement says
pub record SaysOf (th : Theory) (text : TheoremText) (st : Theorem) : Type 0 where
  pub of_inputs : List MetaDecl
  pub further : List MetaDecl
  pub unread : List MetaDecl
  pub metas : st.scope.metas ≡ of_inputs ++ further
  pub judgments : List JudgmentScheme
  pub inputs : st.inputs ≡ map given judgments
  pub gathered : AreGathered th.sig.cats (joined (map input_tokens text.inputs ++ text.outputs)) ((of_inputs ++ further) ++ unread)
  pub inputs_order : AreInOrder (joined (map input_tokens text.inputs)) of_inputs
  pub further_order : AreInOrder (joined text.outputs) further
  pub sorted : AreSorted ((of_inputs ++ further) ++ unread) judgments st.outputs of_inputs further unread
  pub in_reads : AllZip (ReadsOnlyAs th.sig th.judgments (closed_names ((of_inputs ++ further) ++ unread))) (map input_tokens text.inputs) judgments
  pub out_reads : AllZip (ReadsOnlyAs th.sig th.judgments (closed_names ((of_inputs ++ further) ++ unread))) text.outputs st.outputs

module _ (th : Theory) (bare : IsBareTheory th) (text : TheoremText) (st : Theorem) (h : IsBuiltTheorem th text st) where
  abbrev forms : List (List Token)
  forms = map input_tokens text.inputs ++ text.outputs

  abbrev w : IsStatementOf th.sig th.judgments st.scope.root text.name text.inputs text.outputs (h.0).targets text.group st
  w = (h.0).written

  abbrev all_names : List MetaDecl
  all_names = (w.of_inputs ++ w.further) ++ w.unread

  pub all : AreGiven text.inputs
  all = given_inputs th.sig th.judgments (names_over st.scope.root st.scope.metas w.unread) text.inputs st.inputs w.reads_inputs (h.1).inputs

  read : (js : List JudgmentScheme) × (st.inputs ≡ map given js) × AllZip (ReadsOnlyAs th.sig th.judgments (names_over st.scope.root st.scope.metas w.unread)) (map input_tokens text.inputs) js
  read = inputs_read th.sig th.judgments (names_over st.scope.root st.scope.metas w.unread) text.inputs st.inputs all w.reads_inputs

  of_inputs_from : (m : ℕ) → AnyByRecursion (OccursInJudgment m) read.0 → IsOfInputs st m
  of_inputs_from m o = subst (AnyByRecursion (OccursInInput m)) (sym read.1) (any_given m read.0 o)

  from_inputs : (m : ℕ) → IsOfInputs st m → AnyByRecursion (OccursInJudgment m) read.0
  from_inputs m o = given_any m read.0 (subst (AnyByRecursion (OccursInInput m)) read.1 o)

  over : names_over st.scope.root st.scope.metas w.unread ≡ closed_names ((w.of_inputs ++ w.further) ++ w.unread)
  over = λ i. record { root = (h.1).root i; metas = w.split i ++ w.unread; knowns = [] }

  gathered : AreGathered th.sig.cats (joined (map input_tokens text.inputs ++ text.outputs)) ((w.of_inputs ++ w.further) ++ w.unread)
  gathered =
      gathered_from th.sig bare.sig forms all_names
      (subst (λ (l : List MetaDecl). AreNamesOf th.sig forms (l ++ w.unread)) w.split
      (subst (λ l. AreNamesOf th.sig (l ++ forms) (st.scope.metas ++ w.unread)) (no_terms text.inputs all) w.names))

  unused : AllNumbered (λ m (d : MetaDecl). OccursInStatement m st → ⊥) (length (w.of_inputs ++ w.further)) w.unread
  unused = subst (λ n. AllNumbered (λ m (d : MetaDecl). OccursInStatement m st → ⊥) n w.unread) (ap length w.split) w.unused

  in_inputs : (v : List ℕ) → IsAmong v w.of_inputs → IsRead all_names read.0 v
  in_inputs v a =
      let p = among_place w.of_inputs v a in
      let zero_more : 0 + p.0 ≡ p.0 = omega arith in
      let o = from_inputs p.0 (subst (IsOfInputs st) zero_more (numbered_all (IsOfInputs st) w.of_inputs 0 w.are_of_inputs p.0 p.1 p.2)) in
      subst (IsRead all_names read.0) p.3
      (any_read all_names read.0 p.0 p.1 (place_front (w.of_inputs ++ w.further) w.unread p.0 p.1 (place_front w.of_inputs w.further p.0 p.1 p.2)) o)

  at_further : (k : ℕ) (d : MetaDecl) → slice_get w.further k ≡ Some d → slice_get all_names (length w.of_inputs + k) ≡ Some d
  at_further k d g = place_front (w.of_inputs ++ w.further) w.unread (length w.of_inputs + k) d (place_back w.of_inputs w.further k d g)

  is_further : (k : ℕ) (d : MetaDecl) → slice_get w.further k ≡ Some d → (IsOfInputs st (length w.of_inputs + k) → ⊥) × IsOfOutputs st (length w.of_inputs + k)
  is_further k d g = numbered_all (λ m. (IsOfInputs st m → ⊥) × IsOfOutputs st m) w.further (length w.of_inputs) w.are_further k d g

  in_outputs : (v : List ℕ) → IsAmong v w.further → IsRead all_names st.outputs v
  in_outputs v a =
      let p = among_place w.further v a in
      subst (IsRead all_names st.outputs) p.3 (any_read all_names st.outputs (length w.of_inputs + p.0) p.1 (at_further p.0 p.1 p.2) (is_further p.0 p.1 p.2).1)

  not_inputs : (v : List ℕ) → IsAmong v w.further → IsRead all_names read.0 v → ⊥
  not_inputs v a r =
      let p = among_place w.further v a in
      (is_further p.0 p.1 p.2).0 (of_inputs_from (length w.of_inputs + p.0)
      (any_at all_names read.0 (length w.of_inputs + p.0) p.1 gathered.differ (at_further p.0 p.1 p.2) (subst (IsRead all_names read.0) (sym p.3) r)))

  not_used : (k : ℕ) (d : MetaDecl) → slice_get w.unread k ≡ Some d → OccursInStatement (length (w.of_inputs ++ w.further) + k) st → ⊥
  not_used k d g = numbered_all (λ m. OccursInStatement m st → ⊥) w.unread (length (w.of_inputs ++ w.further)) unused k d g

  unread_inputs : (v : List ℕ) → IsAmong v w.unread → IsRead all_names read.0 v → ⊥
  unread_inputs v a r =
      let p = among_place w.unread v a in
      let m = length (w.of_inputs ++ w.further) + p.0 in
      not_used p.0 p.1 p.2
      (inl (of_inputs_from m (any_at all_names read.0 m p.1 gathered.differ (place_back (w.of_inputs ++ w.further) w.unread p.0 p.1 p.2) (subst (IsRead all_names read.0) (sym p.3) r))))

  unread_outputs : (v : List ℕ) → IsAmong v w.unread → IsRead all_names st.outputs v → ⊥
  unread_outputs v a r =
      let p = among_place w.unread v a in
      let m = length (w.of_inputs ++ w.further) + p.0 in
      not_used p.0 p.1 p.2
      (inr (any_at all_names st.outputs m p.1 gathered.differ (place_back (w.of_inputs ++ w.further) w.unread p.0 p.1 p.2) (subst (IsRead all_names st.outputs) (sym p.3) r)))

  pub says : SaysOf th text st
  says = record {
    of_inputs = w.of_inputs;
    further = w.further;
    unread = w.unread;
    metas = w.split;
    judgments = read.0;
    inputs = read.1;
    gathered = gathered;
    inputs_order = w.inputs_in_order;
    further_order = w.further_in_order;
    sorted = record { in_inputs = in_inputs; in_outputs = in_outputs; not_inputs = not_inputs; unread_inputs = unread_inputs; unread_outputs = unread_outputs };
    in_reads = subst (λ (n : Names). AllZip (ReadsOnlyAs th.sig th.judgments n) (map input_tokens text.inputs) read.0) over read.2;
    out_reads = subst (λ (n : Names). AllZip (ReadsOnlyAs th.sig th.judgments n) text.outputs st.outputs) over w.reads_outputs;
  }

-- names that are sorted in two ways
module _ (metas : List MetaDecl) (js zs : List JudgmentScheme) (of_inputs further unread : List MetaDecl) (e : metas ≡ (of_inputs ++ further) ++ unread)
    (h : AreSorted metas js zs of_inputs further unread) where
  parted : (w : List ℕ) → IsAmong w metas → (IsAmong w of_inputs ⊎ IsAmong w further) ⊎ IsAmong w unread
  parted w a = which (among_split (of_inputs ++ further) unread w (subst (IsAmong w) e a))
    where
      which : IsAmong w (of_inputs ++ further) ⊎ IsAmong w unread → (IsAmong w of_inputs ⊎ IsAmong w further) ⊎ IsAmong w unread
      which (inl b) = inl (among_split of_inputs further w b)
      which (inr b) = inr b

  pub read_inputs_among : (w : List ℕ) → IsRead metas js w → IsAmong w of_inputs
  read_inputs_among w r = which (parted w (read_is_among metas js w r))
    where
      which : (IsAmong w of_inputs ⊎ IsAmong w further) ⊎ IsAmong w unread → IsAmong w of_inputs
      which (inl (inl a)) = a
      which (inl (inr a)) = absurd (h.not_inputs w a r)
      which (inr a) = absurd (h.unread_inputs w a r)

  pub read_outputs_among : (w : List ℕ) → IsRead metas zs w → (IsRead metas js w → ⊥) → IsAmong w further
  read_outputs_among w r none = which (parted w (read_is_among metas zs w r))
    where
      which : (IsAmong w of_inputs ⊎ IsAmong w further) ⊎ IsAmong w unread → IsAmong w further
      which (inl (inl a)) = absurd (none (h.in_inputs w a))
      which (inl (inr a)) = a
      which (inr a) = absurd (h.unread_outputs w a r)

  -- a name that is read is one of the statement's
  pub read_among_used : (w : List ℕ) → IsRead metas js w ⊎ IsRead metas zs w → IsAmong w (of_inputs ++ further)
  read_among_used w r = which (among_split (of_inputs ++ further) unread w (subst (IsAmong w) e (among r)))
    where
      among : IsRead metas js w ⊎ IsRead metas zs w → IsAmong w metas
      among (inl k) = read_is_among metas js w k
      among (inr k) = read_is_among metas zs w k

      never : IsRead metas js w ⊎ IsRead metas zs w → IsAmong w unread → ⊥
      never (inl k) a = h.unread_inputs w a k
      never (inr k) a = h.unread_outputs w a k

      which : IsAmong w (of_inputs ++ further) ⊎ IsAmong w unread → IsAmong w (of_inputs ++ further)
      which (inl a) = a
      which (inr a) = absurd (never r a)

-- the forms of a theorem over the same names in another order
module _ (th : Theory) (bare : IsBareTheory th) (fronts outputs : List (List Token)) (metas others : List MetaDecl)
    (h : AreGathered th.sig.cats (joined (fronts ++ outputs)) metas) (k : AreGathered th.sig.cats (joined (fronts ++ outputs)) others) where
  pub parts_moved : (forms : List (List Token)) (xs : List JudgmentScheme) → AllZip (ReadsOnlyAs th.sig th.judgments (closed_names metas)) forms xs
      → (ys : List JudgmentScheme) × AllZip (ReadsOnlyAs th.sig th.judgments (closed_names others)) forms ys × AllZip (IsSameOver metas others) xs ys
  parts_moved forms xs r =
      reorder_all th.sig th.judgments bare.sig bare.apart bare.judgments metas others h.differ k.differ (bare_names th.sig.cats (joined (fronts ++ outputs)) metas h.each)
      (same_gathered th.sig bare.apart (joined (fronts ++ outputs)) metas others h k) (same_gathered th.sig bare.apart (joined (fronts ++ outputs)) others metas k h) forms xs r

-- a theorem stands for one statement at most
module _ (th : Theory) (bare : IsBareTheory th) (text : TheoremText) (x y : Theorem) (h : IsBuiltTheorem th text x) (k : IsBuiltTheorem th text y) where
  abbrev a : SaysOf th text x
  a = says th bare text x h

  abbrev b : SaysOf th text y
  b = says th bare text y k

  abbrev xs : List MetaDecl
  xs = (a.of_inputs ++ a.further) ++ a.unread

  abbrev ys : List MetaDecl
  ys = (b.of_inputs ++ b.further) ++ b.unread

  abbrev front : List (List Token)
  front = map input_tokens text.inputs

  moved_inputs : (zs : List JudgmentScheme) × AllZip (ReadsOnlyAs th.sig th.judgments (closed_names xs)) front zs × AllZip (IsSameOver ys xs) b.judgments zs
  moved_inputs = parts_moved th bare front text.outputs ys xs b.gathered a.gathered front b.judgments b.in_reads

  moved_outputs : (zs : List JudgmentScheme) × AllZip (ReadsOnlyAs th.sig th.judgments (closed_names xs)) text.outputs zs × AllZip (IsSameOver ys xs) y.outputs zs
  moved_outputs = parts_moved th bare front text.outputs ys xs b.gathered a.gathered text.outputs y.outputs b.out_reads

  same_inputs : AllZip (IsSameOver ys xs) b.judgments a.judgments
  same_inputs =
      subst (λ (l : List JudgmentScheme). AllZip (IsSameOver ys xs) b.judgments l)
      (zip_unique (ReadsOnlyAs th.sig th.judgments (closed_names xs)) (one_reading th.sig th.judgments (closed_names xs)) front moved_inputs.0 a.judgments moved_inputs.1 a.in_reads) moved_inputs.2

  same_outputs : AllZip (IsSameOver ys xs) y.outputs x.outputs
  same_outputs =
      subst (λ (l : List JudgmentScheme). AllZip (IsSameOver ys xs) y.outputs l)
      (zip_unique (ReadsOnlyAs th.sig th.judgments (closed_names xs)) (one_reading th.sig th.judgments (closed_names xs)) text.outputs moved_outputs.0 x.outputs moved_outputs.1 a.out_reads) moved_outputs.2

  to_y : (w : List ℕ) → IsRead xs a.judgments w → IsRead ys b.judgments w
  to_y = all_back ys xs b.judgments a.judgments same_inputs

  to_x : (w : List ℕ) → IsRead ys b.judgments w → IsRead xs a.judgments w
  to_x = all_there ys xs b.judgments a.judgments same_inputs

  inputs_there : (w : List ℕ) → IsAmong w a.of_inputs → IsAmong w b.of_inputs
  inputs_there w m = read_inputs_among ys b.judgments y.outputs b.of_inputs b.further b.unread refl b.sorted w (to_y w ((a.sorted).in_inputs w m))

  inputs_back : (w : List ℕ) → IsAmong w b.of_inputs → IsAmong w a.of_inputs
  inputs_back w m = read_inputs_among xs a.judgments x.outputs a.of_inputs a.further a.unread refl a.sorted w (to_x w ((b.sorted).in_inputs w m))

  further_there : (w : List ℕ) → IsAmong w a.further → IsAmong w b.further
  further_there w m =
      read_outputs_among ys b.judgments y.outputs b.of_inputs b.further b.unread refl b.sorted w (all_back ys xs y.outputs x.outputs same_outputs w ((a.sorted).in_outputs w m))
      (λ r. (a.sorted).not_inputs w m (to_x w r))

  further_back : (w : List ℕ) → IsAmong w b.further → IsAmong w a.further
  further_back w m =
      read_outputs_among xs a.judgments x.outputs a.of_inputs a.further a.unread refl a.sorted w (all_there ys xs y.outputs x.outputs same_outputs w ((b.sorted).in_outputs w m))
      (λ r. (b.sorted).not_inputs w m (to_y w r))

  abbrev Collected : MetaDecl → Type 0
  Collected = IsCollected th.sig.cats (joined (map input_tokens text.inputs ++ text.outputs))

  used_each : (of_inputs further unread : List MetaDecl) → AllByRecursion Collected ((of_inputs ++ further) ++ unread) → AllByRecursion Collected (of_inputs ++ further)
  used_each of_inputs further unread each = all_front Collected (of_inputs ++ further) unread each

  all_of_back : (P : MetaDecl → Type 0) (us vs : List MetaDecl) → AllByRecursion P (us ++ vs) → AllByRecursion P vs
  all_of_back P [] vs each = each
  all_of_back P (u ∷ us) vs each = all_of_back P us vs each.1

  same_of_inputs : a.of_inputs ≡ b.of_inputs
  same_of_inputs =
      same_decls th.sig bare.apart (joined (front ++ text.outputs)) a.of_inputs b.of_inputs
      (all_front Collected a.of_inputs a.further (used_each a.of_inputs a.further a.unread (a.gathered).each))
      (all_front Collected b.of_inputs b.further (used_each b.of_inputs b.further b.unread (b.gathered).each))
      (same_names (joined front) a.of_inputs b.of_inputs (different_front a.of_inputs a.further (different_front (a.of_inputs ++ a.further) a.unread (a.gathered).differ))
      (different_front b.of_inputs b.further (different_front (b.of_inputs ++ b.further) b.unread (b.gathered).differ)) a.inputs_order b.inputs_order inputs_there inputs_back)

  same_further : a.further ≡ b.further
  same_further =
      same_decls th.sig bare.apart (joined (front ++ text.outputs)) a.further b.further
      (all_of_back Collected a.of_inputs a.further (used_each a.of_inputs a.further a.unread (a.gathered).each))
      (all_of_back Collected b.of_inputs b.further (used_each b.of_inputs b.further b.unread (b.gathered).each))
      (same_names (joined text.outputs) a.further b.further (different_back a.of_inputs a.further (different_front (a.of_inputs ++ a.further) a.unread (a.gathered).differ))
      (different_back b.of_inputs b.further (different_front (b.of_inputs ++ b.further) b.unread (b.gathered).differ)) a.further_order b.further_order further_there further_back)

  same_used : a.of_inputs ++ a.further ≡ b.of_inputs ++ b.further
  same_used = λ i. same_of_inputs i ++ same_further i

  -- what is read stands at the same place in both
  keeps : (m : ℕ) (d : MetaDecl) → slice_get ys m ≡ Some d → IsRead ys b.judgments d.name ⊎ IsRead ys y.outputs d.name → slice_get xs m ≡ Some d
  keeps m d g r =
      let there = in_front (b.of_inputs ++ b.further) b.unread (b.gathered).differ m d g (read_among_used ys b.judgments y.outputs b.of_inputs b.further b.unread refl b.sorted d.name r) in
      place_front (a.of_inputs ++ a.further) a.unread m d (ap (λ (l : List MetaDecl). slice_get l m) same_used ∙ there)

  equal_inputs : a.judgments ≡ b.judgments
  equal_inputs = all_equal ys xs b.judgments a.judgments same_inputs (λ m d g o. keeps m d g (inl (any_read ys b.judgments m d g o)))

  equal_outputs : x.outputs ≡ y.outputs
  equal_outputs = all_equal ys xs y.outputs x.outputs same_outputs (λ m d g o. keeps m d g (inr (any_read ys y.outputs m d g o)))

  pub one_statement : x ≡ y
  one_statement =
      let inputs : x.inputs ≡ y.inputs = a.inputs ∙ ap (map given) equal_inputs ∙ sym b.inputs in
      let name : x.name ≡ y.name = ((h.0).written).named ∙ sym ((k.0).written).named in
      let group : x.group ≡ y.group = ((h.0).written).group_is ∙ sym ((k.0).written).group_is in
      let targets : x.targets ≡ y.targets = (h.1).targets ∙ sym (k.1).targets in
      let root : x.scope.root ≡ y.scope.root = (h.1).root ∙ sym (k.1).root in
      let knowns : x.scope.knowns ≡ y.scope.knowns = ((h.0).written).no_known ∙ sym ((k.0).written).no_known in
      let metas : x.scope.metas ≡ y.scope.metas = a.metas ∙ same_used ∙ sym b.metas in
      λ i. record { name = name i; scope = record { root = root i; metas = metas i; knowns = knowns i }; inputs = inputs i; outputs = equal_outputs i; targets = targets i; group = group i }
