-- Readings over the same metavariables in another order.
use Rattle.std.proofs.Common.{◌≡◌, ◌⊎◌, ◌<◌, ℕ, zero, suc, List, [], ◌∷◌, length, map, inl, inr, refl, ap, ◌∙◌, sym, subst, arith, Option, Some, None, slice_get}
use Rattle.std.specs.List.{AllByRecursion, AllZip}
use Rattle.binding_terms.specs.Numbered.{AnyByRecursion}
use Rattle.binding_terms.specs.Signature.{Signature}
use Rattle.scheme_terms.specs.SchemeTree.{SchemeTree, meta, known, local, con, Values, no_values, value, Parts, no_parts, part, OccursIn, OccursInValues, OccursInParts}
use Rattle.scheme_terms.specs.SchemeScope.{AreDifferentNames}
use Rattle.scheme_terms.specs.Forms.{SchemeContext, SchemeEntry}
use Rattle.scheme_terms.specs.declared.scheme.MetaDecl.{MetaDecl}
use Rattle.scheme_terms.specs.declared.scheme.Root.TheVariants.{Closed}
use Rattle.rule_schemes.specs.Reading.{Token, AreSpelledApart}
use Rattle.rule_schemes.specs.Rules.{JudgmentScheme}
use Rattle.rule_schemes.specs.Said.{want_judgment, a_judgment}
use Rattle.rule_schemes.specs.Statement.{OccursInJudgment}
use Rattle.rule_schemes.specs.declared.rule.Judgment.{Judgment}
use Rattle.notation_parser.specs.Renaming.{renamed, renamed_values, renamed_parts, renamed_context, renamed_judgment, AreReordered}
use Rattle.notation_parser.proofs.Renaming.{one_reading_renamed}
use Rattle.user_grammar.specs.Bare.{IsBareSignature}
use Rattle.judgments.specs.Bare.{IsBareJudgment}
use Rattle.judgments.specs.Collected.{IsCollected, AreGathered}
use Rattle.judgments.specs.Laws.{AreBareNames}
use Rattle.judgments.specs.Standing.{IsReadFrom, IsRead}
use Rattle.judgments.specs.Written.{settled, ReadsOnlyAs}
use Rattle.judgments.proofs.KeptNames.{among_place, read_in, in_read}
use Rattle.judgments.proofs.Occurring.{judgment_stands}
use Rattle.judgments.proofs.OneOrder.{one_place, same_decl}
use Rattle.judgments.proofs.RuleLemmas.{closed_names, no_context_read}
use Rattle.binding_terms.proofs.Lists.{all_at}

-- what stands in a scheme stands in it under its new number
mutual
  occurs_renamed : (new : ℕ → ℕ) (m : ℕ) (s : SchemeTree) → OccursIn m s → OccursIn (new m) (renamed new s)
  occurs_renamed new m (meta n vs) (inl e) = inl (ap new e)
  occurs_renamed new m (meta n vs) (inr o) = inr (occurs_values new m vs o)
  occurs_renamed new m (known k) o = o
  occurs_renamed new m (local i) o = o
  occurs_renamed new m (con p xs) o = occurs_parts new m xs o

  occurs_values : (new : ℕ → ℕ) (m : ℕ) (vs : Values) → OccursInValues m vs → OccursInValues (new m) (renamed_values new vs)
  occurs_values new m no_values o = o
  occurs_values new m (value s vs) (inl o) = inl (occurs_renamed new m s o)
  occurs_values new m (value s vs) (inr o) = inr (occurs_values new m vs o)

  occurs_parts : (new : ℕ → ℕ) (m : ℕ) (xs : Parts) → OccursInParts m xs → OccursInParts (new m) (renamed_parts new xs)
  occurs_parts new m no_parts o = o
  occurs_parts new m (part n s xs) (inl o) = inl (occurs_renamed new m s o)
  occurs_parts new m (part n s xs) (inr o) = inr (occurs_parts new m xs o)

-- and nothing else does
abbrev Stood : (ℕ → ℕ) → ℕ → (ℕ → Type 0) → Type 0
Stood new n Occurs = (m : ℕ) × (new m ≡ n) × Occurs m

mutual
  renamed_occurs : (new : ℕ → ℕ) (n : ℕ) (s : SchemeTree) → OccursIn n (renamed new s) → Stood new n (λ m. OccursIn m s)
  renamed_occurs new n (meta m vs) (inl e) = (m, e, inl refl)
  renamed_occurs new n (meta m vs) (inr o) = let k = values_occurs new n vs o in (k.0, k.1, inr k.2)
  renamed_occurs new n (known k) o = absurd o
  renamed_occurs new n (local i) o = absurd o
  renamed_occurs new n (con p xs) o = parts_occurs new n xs o

  values_occurs : (new : ℕ → ℕ) (n : ℕ) (vs : Values) → OccursInValues n (renamed_values new vs) → Stood new n (λ m. OccursInValues m vs)
  values_occurs new n no_values o = absurd o
  values_occurs new n (value s vs) (inl o) = let k = renamed_occurs new n s o in (k.0, k.1, inl k.2)
  values_occurs new n (value s vs) (inr o) = let k = values_occurs new n vs o in (k.0, k.1, inr k.2)

  parts_occurs : (new : ℕ → ℕ) (n : ℕ) (xs : Parts) → OccursInParts n (renamed_parts new xs) → Stood new n (λ m. OccursInParts m xs)
  parts_occurs new n no_parts o = absurd o
  parts_occurs new n (part i s xs) (inl o) = let k = renamed_occurs new n s o in (k.0, k.1, inl k.2)
  parts_occurs new n (part i s xs) (inr o) = let k = parts_occurs new n xs o in (k.0, k.1, inr k.2)

-- where each number that stands in it is kept, it is the same
mutual
  renamed_same : (new : ℕ → ℕ) (s : SchemeTree) → ((m : ℕ) → OccursIn m s → new m ≡ m) → renamed new s ≡ s
  renamed_same new (meta m vs) h =
      let number = h m (inl refl) in
      let rest = values_same new vs (λ k o. h k (inr o)) in
      λ i. meta (number i) (rest i)
  renamed_same new (known k) h = refl
  renamed_same new (local i) h = refl
  renamed_same new (con p xs) h = ap (con p) (parts_same new xs h)

  values_same : (new : ℕ → ℕ) (vs : Values) → ((m : ℕ) → OccursInValues m vs → new m ≡ m) → renamed_values new vs ≡ vs
  values_same new no_values h = refl
  values_same new (value s vs) h =
      let first = renamed_same new s (λ k o. h k (inl o)) in
      let rest = values_same new vs (λ k o. h k (inr o)) in
      λ i. value (first i) (rest i)

  parts_same : (new : ℕ → ℕ) (xs : Parts) → ((m : ℕ) → OccursInParts m xs → new m ≡ m) → renamed_parts new xs ≡ xs
  parts_same new no_parts h = refl
  parts_same new (part n s xs) h =
      let first = renamed_same new s (λ k o. h k (inl o)) in
      let rest = parts_same new xs (λ k o. h k (inr o)) in
      λ i. part n (first i) (rest i)

any_renamed : (new : ℕ → ℕ) (m : ℕ) (ss : List SchemeTree) → AnyByRecursion (OccursIn m) ss → AnyByRecursion (OccursIn (new m)) (map (renamed new) ss)
any_renamed new m [] o = o
any_renamed new m (s ∷ ss) (inl o) = inl (occurs_renamed new m s o)
any_renamed new m (s ∷ ss) (inr o) = inr (any_renamed new m ss o)

renamed_any : (new : ℕ → ℕ) (n : ℕ) (ss : List SchemeTree) → AnyByRecursion (OccursIn n) (map (renamed new) ss) → Stood new n (λ m. AnyByRecursion (OccursIn m) ss)
renamed_any new n [] o = absurd o
renamed_any new n (s ∷ ss) (inl o) = let k = renamed_occurs new n s o in (k.0, k.1, inl k.2)
renamed_any new n (s ∷ ss) (inr o) = let k = renamed_any new n ss o in (k.0, k.1, inr k.2)

all_same : (new : ℕ → ℕ) (ss : List SchemeTree) → ((m : ℕ) → AnyByRecursion (OccursIn m) ss → new m ≡ m) → map (renamed new) ss ≡ ss
all_same new [] h = refl
all_same new (s ∷ ss) h =
    let first = renamed_same new s (λ k o. h k (inl o)) in
    let rest = all_same new ss (λ k o. h k (inr o)) in
    λ i. first i ∷ rest i

-- the second names have each of the first
abbrev pub HasNamesOf : (metas others : List MetaDecl) → Type 0
HasNamesOf metas others = (m : ℕ) (d : MetaDecl) → slice_get metas m ≡ Some d → (n : ℕ) × (slice_get others n ≡ Some d)

-- two judgments over the same names in another order
pub record IsSameOver (metas others : List MetaDecl) (j k : JudgmentScheme) : Type 0 where
  pub judgment : k.judgment ≡ j.judgment
  pub there : (w : List ℕ) → IsReadFrom 0 metas w j → IsReadFrom 0 others w k
  pub back : (w : List ℕ) → IsReadFrom 0 others w k → IsReadFrom 0 metas w j
  pub same : ((m : ℕ) (d : MetaDecl) → slice_get metas m ≡ Some d → OccursInJudgment m j → slice_get others m ≡ Some d) → k ≡ j

at_within : (xs : List MetaDecl) (m : ℕ) → m < length xs → (d : MetaDecl) × (slice_get xs m ≡ Some d)
at_within [] m lt = absurd (let no : ⊥ = omega arith in no)
at_within (x ∷ xs) zero lt = (x, refl)
at_within (x ∷ xs) (suc m) lt = at_within xs m (omega arith)

-- the new number of each name
module _ (metas others : List MetaDecl) (has : HasNamesOf metas others) where
  abbrev pick : (m : ℕ) (o : Option MetaDecl) → slice_get metas m ≡ o → ℕ
  pick m None e = 0
  pick m (Some d) e = (has m d e).0

  picked : (m : ℕ) (o : Option MetaDecl) (e : slice_get metas m ≡ o) (d : MetaDecl) → o ≡ Some d → slice_get others (pick m o e) ≡ Some d
  picked m None e d f = absurd (let never : None ≡ Some d = f in cc)
  picked m (Some x) e d f = (has m x e).1 ∙ f

  abbrev new_place : ℕ → ℕ
  new_place m = pick m (slice_get metas m) refl

  at_new_place : (m : ℕ) (d : MetaDecl) → slice_get metas m ≡ Some d → slice_get others (new_place m) ≡ Some d
  at_new_place m d g = picked m (slice_get metas m) refl d g

module _ (sig : Signature) (js : List Judgment) (bare : IsBareSignature sig) (apart : AreSpelledApart sig) (closed : AllByRecursion IsBareJudgment js) (metas others : List MetaDecl)
    (differ : AreDifferentNames (map (λ (m : MetaDecl). m.name) metas)) (other_differ : AreDifferentNames (map (λ (m : MetaDecl). m.name) others))
    (plain : AllByRecursion (λ (m : MetaDecl). m.params ≡ []) metas) (has : HasNamesOf metas others) (had : HasNamesOf others metas) where
  abbrev there : ℕ → ℕ
  there = new_place metas others has

  abbrev back : ℕ → ℕ
  back = new_place others metas had

  reordered : AreReordered metas others there back
  reordered = record {
    kept = λ m lt. (let d = at_within metas m lt in at_new_place metas others has m d.0 d.1 ∙ sym d.1);
    from = λ m lt. (let d = at_within others m lt in at_new_place others metas had m d.0 d.1 ∙ sym d.1);
    again = λ m lt. (let d = at_within others m lt in
        one_place others (there (back m)) m d.0 d.0 other_differ (at_new_place metas others has (back m) d.0 (at_new_place others metas had m d.0 d.1)) d.1 refl);
  }

  bare_scope : AreBareNames (closed_names metas)
  bare_scope = record { knowns = refl; parameters = plain }

  -- a judgment over no context
  module _ (form : List Token) (j : JudgmentScheme) (h : ReadsOnlyAs sig js (closed_names metas) form j) where
    none : j.context ≡ record { root = Closed; entries = [] }
    none = no_context_read sig js bare apart closed (closed_names metas) form j h

    args_of : (m : ℕ) → OccursInJudgment m j → AnyByRecursion (OccursIn m) j.args
    args_of m o = which (subst (λ (c : SchemeContext). AnyByRecursion (λ (e : SchemeEntry). AnyByRecursion (OccursIn m) e.args) c.entries ⊎ AnyByRecursion (OccursIn m) j.args) none o)
      where
        which : ⊥ ⊎ AnyByRecursion (OccursIn m) j.args → AnyByRecursion (OccursIn m) j.args
        which (inl never) = absurd never
        which (inr a) = a

    abbrev new : JudgmentScheme
    new = renamed_judgment there j

    new_none : renamed_context there j.context ≡ record { root = Closed; entries = [] }
    new_none = ap (renamed_context there) none

    new_args_of : (n : ℕ) → OccursInJudgment n new → AnyByRecursion (OccursIn n) (map (renamed there) j.args)
    new_args_of n o =
        which (subst (λ (c : SchemeContext). AnyByRecursion (λ (e : SchemeEntry). AnyByRecursion (OccursIn n) e.args) c.entries ⊎ AnyByRecursion (OccursIn n) (map (renamed there) j.args)) new_none o)
      where
        which : ⊥ ⊎ AnyByRecursion (OccursIn n) (map (renamed there) j.args) → AnyByRecursion (OccursIn n) (map (renamed there) j.args)
        which (inl never) = absurd never
        which (inr a) = a

    new_reads : ReadsOnlyAs sig js (closed_names others) form new
    new_reads = record {
      within = h.within;
      reading = one_reading_renamed sig js (settled (closed_names metas)) others there back want_judgment form (record { written = a_judgment j; metas = []; knowns = [] }) reordered refl refl h.reading;
    }

    to_new : (w : List ℕ) → IsReadFrom 0 metas w j → IsReadFrom 0 others w new
    to_new w r =
        let k = read_in metas w j r in
        subst (λ v. IsReadFrom 0 others v new) k.3 (in_read others (there k.0) k.1 new (at_new_place metas others has k.0 k.1 k.2) (inr (any_renamed there k.0 j.args (args_of k.0 k.4))))

    from_new : (w : List ℕ) → IsReadFrom 0 others w new → IsReadFrom 0 metas w j
    from_new w r =
        let k = read_in others w new r in
        let s = renamed_any there k.0 j.args (new_args_of k.0 k.4) in
        let d = judgment_stands sig js bare closed (closed_names metas) bare_scope form j h s.0 (inr s.2) in
        let at_k : slice_get others k.0 ≡ Some d.0 = subst (λ n. slice_get others n ≡ Some d.0) s.1 (at_new_place metas others has s.0 d.0 d.1) in
        let two : Some d.0 ≡ Some k.1 = sym at_k ∙ k.2 in
        let same : d.0 ≡ k.1 = cc in
        subst (λ v. IsReadFrom 0 metas v j) (ap (λ (x : MetaDecl). x.name) same ∙ k.3) (in_read metas s.0 d.0 j d.1 (inr s.2))

    kept_place : ((m : ℕ) (d : MetaDecl) → slice_get metas m ≡ Some d → OccursInJudgment m j → slice_get others m ≡ Some d) → (m : ℕ) → AnyByRecursion (OccursIn m) j.args → there m ≡ m
    kept_place keeps m o =
        let d = judgment_stands sig js bare closed (closed_names metas) bare_scope form j h m (inr o) in
        one_place others (there m) m d.0 d.0 other_differ (at_new_place metas others has m d.0 d.1) (keeps m d.0 d.1 (inr o)) refl

    is_same : ((m : ℕ) (d : MetaDecl) → slice_get metas m ≡ Some d → OccursInJudgment m j → slice_get others m ≡ Some d) → new ≡ j
    is_same keeps =
        let context : renamed_context there j.context ≡ j.context = new_none ∙ sym none in
        let args : map (renamed there) j.args ≡ j.args = all_same there j.args (kept_place keeps) in
        λ i. record { judgment = j.judgment; context = context i; args = args i }

    -- what a form reads as over the other order
    pub reorder : (k : JudgmentScheme) × ReadsOnlyAs sig js (closed_names others) form k × IsSameOver metas others j k
    reorder = (new, new_reads, record { judgment = refl; there = to_new; back = from_new; same = is_same })

  -- the same for several forms
  pub reorder_all : (forms : List (List Token)) (xs : List JudgmentScheme) → AllZip (ReadsOnlyAs sig js (closed_names metas)) forms xs
      → (ys : List JudgmentScheme) × AllZip (ReadsOnlyAs sig js (closed_names others)) forms ys × AllZip (IsSameOver metas others) xs ys
  reorder_all [] [] h = ([], tt, tt)
  reorder_all [] (x ∷ xs) h = absurd h
  reorder_all (form ∷ forms) [] h = absurd h
  reorder_all (form ∷ forms) (x ∷ xs) h =
      let first = reorder form x h.0 in
      let rest = reorder_all forms xs h.1 in
      (first.0 ∷ rest.0, (first.1, rest.1), (first.2, rest.2))

-- what is said of one judgment, of several
pub all_there : (metas others : List MetaDecl) (xs ys : List JudgmentScheme) → AllZip (IsSameOver metas others) xs ys → (w : List ℕ) → IsRead metas xs w → IsRead others ys w
all_there metas others [] [] h w r = r
all_there metas others [] (y ∷ ys) h w r = absurd h
all_there metas others (x ∷ xs) [] h w r = absurd h
all_there metas others (x ∷ xs) (y ∷ ys) h w (inl r) = inl ((h.0).there w r)
all_there metas others (x ∷ xs) (y ∷ ys) h w (inr r) = inr (all_there metas others xs ys h.1 w r)

pub all_back : (metas others : List MetaDecl) (xs ys : List JudgmentScheme) → AllZip (IsSameOver metas others) xs ys → (w : List ℕ) → IsRead others ys w → IsRead metas xs w
all_back metas others [] [] h w r = r
all_back metas others [] (y ∷ ys) h w r = absurd h
all_back metas others (x ∷ xs) [] h w r = absurd h
all_back metas others (x ∷ xs) (y ∷ ys) h w (inl r) = inl ((h.0).back w r)
all_back metas others (x ∷ xs) (y ∷ ys) h w (inr r) = inr (all_back metas others xs ys h.1 w r)

pub all_equal : (metas others : List MetaDecl) (xs ys : List JudgmentScheme) → AllZip (IsSameOver metas others) xs ys
    → ((m : ℕ) (d : MetaDecl) → slice_get metas m ≡ Some d → AnyByRecursion (OccursInJudgment m) xs → slice_get others m ≡ Some d) → ys ≡ xs
all_equal metas others [] [] h keeps = refl
all_equal metas others [] (y ∷ ys) h keeps = absurd h
all_equal metas others (x ∷ xs) [] h keeps = absurd h
all_equal metas others (x ∷ xs) (y ∷ ys) h keeps =
    let first = (h.0).same (λ m d g o. keeps m d g (inl o)) in
    let rest = all_equal metas others xs ys h.1 (λ m d g o. keeps m d g (inr o)) in
    λ i. first i ∷ rest i

-- of tokens two lists of metavariables have the same
pub same_gathered : (sig : Signature) → AreSpelledApart sig → (ts : List Token) (xs ys : List MetaDecl) → AreGathered sig.cats ts xs → AreGathered sig.cats ts ys → HasNamesOf xs ys
same_gathered sig apart ts xs ys h k m d g =
    let i = all_at (IsCollected sig.cats ts) xs m d h.each g in
    let p = among_place ys d.name (k.all d.name d.cat.0 i.written i.cat) in
    let same : p.1 ≡ d = same_decl sig apart ts p.1 d (all_at (IsCollected sig.cats ts) ys p.0 p.1 k.each p.2) i p.3 in
    (p.0, p.2 ∙ ap (λ (x : MetaDecl). Some x) same)
