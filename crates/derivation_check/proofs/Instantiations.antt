-- Inputs fit exactly where they instantiate the statement.
use Rattle.std.proofs.Common.{◌≡◌, ◌<◌, ℕ, zero, suc, ◌+◌, List, [], ◌∷◌, ◌++◌, length, map, take, drop, reverse, Some, None, slice_get, inl, inr, refl, ap, ◌∙◌, sym, subst, arith, length-append}
use Rattle.std.specs.Prelude.{Option, MatchOption, unwrap_or}
use Rattle.std.specs.List.{AllByRecursion, AllZip}
use Rattle.std.proofs.lemmas.List.{length-map, take_all, take-append-drop}
use Rattle.std.proofs.lemmas.Option.{slice_get_within}
use Rattle.std.proofs.Math.Seq.{take-append_seam, drop-append_seam}
use Rattle.binding_terms.specs.Numbered.{AnyByRecursion}
use Rattle.binding_terms.specs.Tree.{Tree, var, con, Args, no_args, arg}
use Rattle.binding_terms.specs.Signature.{Signature, Place, slots, binders}
use Rattle.binding_terms.specs.Scope.{bound, IsTerm, AreParts}
use Rattle.binding_terms.specs.declared.grammar.CatId.{CatId}
use Rattle.binding_terms.proofs.Lists.{all_append, all_front, all_right, all_numbered, any_take, match_some, match_from, numbered_at, some_within, zip_map}
use Rattle.scheme_terms.specs.SchemeTree.{SchemeTree, meta, known, local, no_values, Parts, no_parts, part, OccursIn, OccursInParts, StrictIn, StrictInParts}
use Rattle.scheme_terms.specs.SchemeTree as schemes
use Rattle.scheme_terms.specs.Forms.{SchemeEntry, GroundEntry, Names, ContextValue, Instance}
use Rattle.scheme_terms.specs.Context.{AreArguments, IsValue, scope_of, scope_after}
use Rattle.scheme_terms.specs.Instance.{instance_of, entries_instance, root_entries, context_instance, IsMetaValue}
use Rattle.scheme_terms.specs.declared.scheme.MetaDecl.{MetaDecl}
use Rattle.scheme_terms.specs.declared.scheme.Root.{Root}
use Rattle.scheme_terms.specs.declared.scheme.Root.TheVariants.{Closed, Empty, Whole}
use Rattle.scheme_terms.proofs.Lists.{instance_meta}
use Rattle.scheme_terms.proofs.SchemeFacts.{length_bound}
use Rattle.rule_schemes.specs.Rules.{JudgmentScheme, JudgmentValue, Theory, IsSystemSoFar, IsJudgment, IsJudgmentScheme, IsInstance, IsBelow, AreBelow, AreClosed, judgment_instance, argument_slots}
use Rattle.rule_schemes.specs.Derivation.{Derivation, judgment, Derives}
use Rattle.rule_schemes.specs.Statement.{StatementInput, given, syntax_input, Theorem, InputTree, derived, term, IsStatement, IsStatementInput, HasNoFault, StrictInStatement, StrictInInput, OccursInInput, IsOfInputs, IsGiven, FitsFor, Instantiates, given_value}
use Rattle.rule_schemes.proofs.DerivationLemmas.{derives_a_judgment}
use Rattle.derivation_check.specs.Fitting.{GivenForm, judged, written, Piece, arg_pieces, entry_pieces, judgment_pieces, input_pieces, all_pieces, entries_below, explicit_of, EntriesAlike, AreAlike, InputAlike, IsSettled, PieceMatches, MakesInputs, IsFit}
use Rattle.derivation_check.specs.declared.inputs.Fit.TheVariants.{Fits}
use Rattle.derivation_check.specs.Laws.{form_of_input, IsDerivedInput, FitsWhereInstantiated}
use Rattle.derivation_check.proofs.InputPieces.{IsInputOf, inputs_of, inputs_typed}
use Rattle.derivation_check.proofs.NodeLemmas.{IsNoEmptyForm, judged_root}
use Rattle.derivation_check.proofs.SettledValues.{PieceMakes, restricted, values_long, settled_value, other_value, pieces_match, pieces_make}

-- the context over which a form stands, and the explicit entries behind it

below_is : (inst : Instance) (root : Root) → entries_below inst.root root ≡ root_entries inst root
below_is inst Closed = refl
below_is inst (Empty c) = refl
below_is inst (Whole c) = refl

front_is : (inst : Instance) (root : Root) (gs : List GroundEntry) → take (length (entries_below inst.root root)) (root_entries inst root ++ gs) ≡ entries_below inst.root root
front_is inst root gs =
    ap (λ xs. take (length (entries_below inst.root root)) (xs ++ gs)) (sym (below_is inst root)) ∙ take-append_seam (entries_below inst.root root) gs

behind_is : (inst : Instance) (root : Root) (gs : List GroundEntry) → drop (length (entries_below inst.root root)) (root_entries inst root ++ gs) ≡ gs
behind_is inst root gs =
    ap (λ xs. drop (length (entries_below inst.root root)) (xs ++ gs)) (sym (below_is inst root)) ∙ drop-append_seam (entries_below inst.root root) gs

-- the pieces of an instance are made, and forms whose pieces are made have that instance
module _ (inst : Instance) where
  entries_alike : (n : ℕ) (es : List SchemeEntry) → EntriesAlike es (entries_instance inst n es)
  entries_alike n [] = tt
  entries_alike n (e ∷ es) = ((refl, sym (length-map e.args (instance_of inst n))), entries_alike (n + 1) es)

  args_made : (n : ℕ) (ss : List SchemeTree) → AllByRecursion (PieceMakes inst) (arg_pieces n ss (map (instance_of inst n) ss))
  args_made n [] = tt
  args_made n (s ∷ ss) = (refl, args_made n ss)

  entries_made : (n : ℕ) (es : List SchemeEntry) → AllByRecursion (PieceMakes inst) (entry_pieces n es (entries_instance inst n es))
  entries_made n [] = tt
  entries_made n (e ∷ es) =
      all_append (PieceMakes inst) (arg_pieces n e.args (map (instance_of inst n) e.args)) (entry_pieces (n + 1) es (entries_instance inst (n + 1) es)) (args_made n e.args) (entries_made (n + 1) es)

  judgment_alike : (j : JudgmentScheme) → AreAlike inst.root j (judgment_instance inst j)
  judgment_alike j =
      record {
        judgment = refl;
        category = refl;
        before = front_is inst j.context.root (entries_instance inst 0 j.context.entries);
        explicit = subst (EntriesAlike j.context.entries) (sym (behind_is inst j.context.root (entries_instance inst 0 j.context.entries))) (entries_alike 0 j.context.entries);
        as_many = sym (length-map j.args (instance_of inst (length j.context.entries)));
      }

  judgment_made : (j : JudgmentScheme) → AllByRecursion (PieceMakes inst) (judgment_pieces inst.root j (judgment_instance inst j))
  judgment_made j =
      all_append (PieceMakes inst) (entry_pieces 0 j.context.entries (explicit_of inst.root j.context.root (context_instance inst j.context)))
      (arg_pieces (length j.context.entries) j.args (map (instance_of inst (length j.context.entries)) j.args))
      (subst (λ gs. AllByRecursion (PieceMakes inst) (entry_pieces 0 j.context.entries gs)) (sym (behind_is inst j.context.root (entries_instance inst 0 j.context.entries)))
      (entries_made 0 j.context.entries))
      (args_made (length j.context.entries) j.args)

  args_back : (n : ℕ) (ss : List SchemeTree) (ts : List Tree) → length ss ≡ length ts → AllByRecursion (PieceMakes inst) (arg_pieces n ss ts) → map (instance_of inst n) ss ≡ ts
  args_back n [] [] e made = refl
  args_back n [] (t ∷ ts) e made = absurd (omega (arith, e))
  args_back n (s ∷ ss) [] e made = absurd (omega (arith, e))
  args_back n (s ∷ ss) (t ∷ ts) e made =
      let first = made.0 in
      let rest = args_back n ss ts (omega (arith, e)) made.1 in λ i. first i ∷ rest i

  entries_back : (n : ℕ) (es : List SchemeEntry) (gs : List GroundEntry) → EntriesAlike es gs → AllByRecursion (PieceMakes inst) (entry_pieces n es gs) → entries_instance inst n es ≡ gs
  entries_back n [] [] alike made = refl
  entries_back n [] (g ∷ gs) alike made = absurd alike
  entries_back n (e ∷ es) [] alike made = absurd alike
  entries_back n (e ∷ es) (g ∷ gs) alike made =
      let prod = alike.0.0 in
      let args = args_back n e.args g.args alike.0.1 (all_front (PieceMakes inst) (arg_pieces n e.args g.args) (entry_pieces (n + 1) es gs) made) in
      let rest = entries_back (n + 1) es gs alike.1 (all_right (PieceMakes inst) (arg_pieces n e.args g.args) (entry_pieces (n + 1) es gs) made) in
      λ i. record { prod = prod i; args = args i } ∷ rest i

  judgment_back : (j : JudgmentScheme) (w : JudgmentValue) → AreAlike inst.root j w → AllByRecursion (PieceMakes inst) (judgment_pieces inst.root j w) → judgment_instance inst j ≡ w
  judgment_back j w alike made =
      let before = entry_pieces 0 j.context.entries (explicit_of inst.root j.context.root w.context) in
      let behind = arg_pieces (length j.context.entries) j.args w.args in
      let entries = entries_back 0 j.context.entries (explicit_of inst.root j.context.root w.context) alike.explicit (all_front (PieceMakes inst) before behind made) in
      let args = args_back (length j.context.entries) j.args w.args alike.as_many (all_right (PieceMakes inst) before behind made) in
      let all : root_entries inst j.context.root ++ entries_instance inst 0 j.context.entries ≡ w.context.entries =
      ap (λ xs. xs ++ entries_instance inst 0 j.context.entries) (sym (below_is inst j.context.root) ∙ sym alike.before)
      ∙ (ap (λ xs. take (length (entries_below inst.root j.context.root)) w.context.entries ++ xs) entries
      ∙ take-append-drop (length (entries_below inst.root j.context.root)) w.context.entries) in
      let same = alike.judgment in
      let cat = alike.category in λ i. record { judgment = same i; context = record { cat = cat i; entries = all i }; args = args i }

-- a judgment of a form without a context has closed terms

mutual
  term_below : (sig : Signature) (scope : List ℕ) (c n : ℕ) (t : Tree) → length scope ≡ n → IsTerm sig scope c t → IsBelow n t
  term_below sig scope c n (var i) e h = omega (arith, slice_get_within scope i c h, e)
  term_below sig scope c n (con p xs) e h =
      let found = match_some (slice_get sig.prods p) _ h in parts_below sig scope (binders found.0.items) (slots found.0.items) n xs e found.2.1

  parts_below : (sig : Signature) (scope bs : List ℕ) (ss : List Place) (n : ℕ) (xs : Args) → length scope ≡ n → AreParts sig scope bs ss xs → AreBelow n xs
  parts_below sig scope bs ss n no_args e h = tt
  parts_below sig scope bs [] n (arg m t xs) e h = absurd h
  parts_below sig scope bs (s ∷ ss) n (arg m t xs) e h = (
    term_below sig (bound bs s.binds ++ scope) s.cat (n + m) t (omega (arith, length-append (bound bs s.binds) scope, length_bound bs s.binds, h.0, e)) h.1,
    parts_below sig scope bs ss n xs e h.2,
  )

closed_terms : (sig : Signature) (ss : List Place) (ts : List Tree) → AreArguments sig [] ss ts → AllByRecursion (IsBelow 0) ts
closed_terms sig [] [] h = tt
closed_terms sig [] (t ∷ ts) h = absurd h
closed_terms sig (s ∷ ss) [] h = absurd h
closed_terms sig (s ∷ ss) (t ∷ ts) h = (term_below sig [] s.cat 0 t refl h.0, closed_terms sig ss ts h.1)

closed_where : (root : Root) (ts : List Tree) → (root ≡ Closed → AllByRecursion (IsBelow 0) ts) → AreClosed root ts
closed_where Closed ts h = h refl
closed_where (Empty c) ts h = tt
closed_where (Whole c) ts h = tt

closed_judgment : (th : Theory) (names : Names) (j : JudgmentScheme) (w : JudgmentValue) → IsJudgmentScheme th names j → IsJudgment th w → j.judgment ≡ w.judgment → AreClosed j.context.root w.args
closed_judgment th names j w form is same = closed_where j.context.root w.args (λ closed.
    let value = subst (λ (root : Root). IsValue th.sig root w.context) closed (judged_root th names j w (subst IsNoEmptyForm (sym closed) tt) form is same) in
    let found = match_some (slice_get th.judgments w.judgment) _ is in
    closed_terms th.sig (argument_slots found.0.ctx (slots found.0.items)) w.args
    (subst (λ sc. AreArguments th.sig sc (argument_slots found.0.ctx (slots found.0.items)) w.args) (ap (scope_after th.sig []) value.1) found.2.1))

-- what is strict in an input stands in it

mutual
  strict_occurs : (m : ℕ) (s : SchemeTree) → StrictIn m s → OccursIn m s
  strict_occurs m (meta n vs) h = inl h.0
  strict_occurs m (known k) h = absurd h
  strict_occurs m (local i) h = absurd h
  strict_occurs m (schemes.con p xs) h = strict_occurs_parts m xs h

  strict_occurs_parts : (m : ℕ) (xs : Parts) → StrictInParts m xs → OccursInParts m xs
  strict_occurs_parts m no_parts h = absurd h
  strict_occurs_parts m (part n s xs) (inl h) = inl (strict_occurs m s h)
  strict_occurs_parts m (part n s xs) (inr h) = inr (strict_occurs_parts m xs h)

any_weaker : {A : Type 0} (P Q : A → Type 0) → ((x : A) → P x → Q x) → (xs : List A) → AnyByRecursion P xs → AnyByRecursion Q xs
any_weaker P Q step [] h = h
any_weaker P Q step (x ∷ xs) (inl h) = inl (step x h)
any_weaker P Q step (x ∷ xs) (inr h) = inr (any_weaker P Q step xs h)

input_occurs : (m : ℕ) (i : StatementInput) → StrictInInput m i → OccursInInput m i
input_occurs m (given j) (inl h) =
    inl (any_weaker _ _ (λ e k. any_weaker (StrictIn m) (OccursIn m) (strict_occurs m) e.args k) j.context.entries h)
input_occurs m (given j) (inr h) = inr (any_weaker (StrictIn m) (OccursIn m) (strict_occurs m) j.args h)
input_occurs m (syntax_input n) h = h

settled_occurs : (m : ℕ) (is : List StatementInput) → IsSettled is m → AnyByRecursion (OccursInInput m) is
settled_occurs m is h = any_weaker (StrictInInput m) (OccursInInput m) (input_occurs m) is h

-- what stands in a piece of an input stands in the input
module _ (Q : ℕ → Type 0) where
  abbrev OfPiece : Piece → Type 0
  OfPiece p = (m : ℕ) → OccursIn m p.pattern → Q m

  args_occur : (n : ℕ) (ss : List SchemeTree) (ts : List Tree) → ((m : ℕ) → AnyByRecursion (OccursIn m) ss → Q m) → AllByRecursion OfPiece (arg_pieces n ss ts)
  args_occur n [] ts of = tt
  args_occur n (s ∷ ss) [] of = tt
  args_occur n (s ∷ ss) (t ∷ ts) of = (λ m h. of m (inl h), args_occur n ss ts (λ m h. of m (inr h)))

  entries_occur : (n : ℕ) (es : List SchemeEntry) (gs : List GroundEntry) → ((m : ℕ) → AnyByRecursion (λ e. AnyByRecursion (OccursIn m) e.args) es → Q m) → AllByRecursion OfPiece (entry_pieces n es gs)
  entries_occur n [] gs of = tt
  entries_occur n (e ∷ es) [] of = tt
  entries_occur n (e ∷ es) (g ∷ gs) of =
      all_append OfPiece (arg_pieces n e.args g.args) (entry_pieces (n + 1) es gs) (args_occur n e.args g.args (λ m h. of m (inl h))) (entries_occur (n + 1) es gs (λ m h. of m (inr h)))

  inputs_occur : (v : ContextValue) (is : List StatementInput) (xs : List GivenForm) → ((m : ℕ) → AnyByRecursion (OccursInInput m) is → Q m) → AllByRecursion OfPiece (all_pieces v is xs)
  inputs_occur v [] xs of = tt
  inputs_occur v (i ∷ is) [] of = tt
  inputs_occur v (given j ∷ is) (judged w ∷ xs) of =
      all_append OfPiece (judgment_pieces v j w) (all_pieces v is xs)
      (all_append OfPiece (entry_pieces 0 j.context.entries (explicit_of v j.context.root w.context)) (arg_pieces (length j.context.entries) j.args w.args)
      (entries_occur 0 j.context.entries (explicit_of v j.context.root w.context) (λ m h. of m (inl (inl h)))) (args_occur (length j.context.entries) j.args w.args (λ m h. of m (inl (inr h)))))
      (inputs_occur v is xs (λ m h. of m (inr h)))
  inputs_occur v (given j ∷ is) (written t ∷ xs) of = inputs_occur v is xs (λ m h. of m (inr h))
  inputs_occur v (syntax_input n ∷ is) (judged w ∷ xs) of = inputs_occur v is xs (λ m h. of m (inr h))
  inputs_occur v (syntax_input n ∷ is) (written t ∷ xs) of = (λ m h. of m (inl (alone m h)), inputs_occur v is xs (λ m h. of m (inr h)))
    where
      alone : (m : ℕ) → OccursIn m (meta n no_values) → n ≡ m
      alone m (inl e) = e
      alone m (inr h) = absurd h

-- parts of lists

zip_taken : {A B : Type 0} (R : A → B → Type 0) (n : ℕ) (xs : List A) (ys : List B) → AllZip R xs ys → AllZip R (take n xs) (take n ys)
zip_taken R zero xs ys h = tt
zip_taken R (suc n) [] [] h = tt
zip_taken R (suc n) [] (y ∷ ys) h = absurd h
zip_taken R (suc n) (x ∷ xs) [] h = absurd h
zip_taken R (suc n) (x ∷ xs) (y ∷ ys) h = (h.0, zip_taken R n xs ys h.1)

all_taken : {A : Type 0} (P : A → Type 0) (n : ℕ) (xs : List A) → AllByRecursion P xs → AllByRecursion P (take n xs)
all_taken P zero xs h = tt
all_taken P (suc n) [] h = tt
all_taken P (suc n) (x ∷ xs) h = (h.0, all_taken P n xs h.1)

from_zero : (m : ℕ) → 0 + m ≡ m
from_zero m = omega arith

module _ (th : Theory) (so_far : IsSystemSoFar th) (st : Theorem) (none : st.scope.knowns ≡ []) (statement : IsStatement th st) (no_fault : HasNoFault th st) where
  strict_settled : (m : ℕ) → m < length st.scope.metas → IsOfInputs st m → IsSettled st.inputs m
  strict_settled m less of =
      let decl = some_within st.scope.metas m less in
      let strict = subst (StrictInStatement st) (from_zero m) (numbered_at (λ m decl. StrictInStatement st m) 0 st.scope.metas m decl.0 no_fault.strict decl.1) in strict.inputs of

  module _ (inst : Instance) where
    -- what is given is of the input's kind, and its pieces are made
    abbrev IsMade : StatementInput → GivenForm → Type 0
    IsMade i x = InputAlike th st.scope.metas inst.root i x × AllByRecursion (PieceMakes inst) (input_pieces inst.root i x)

    -- an instantiation makes the inputs
    module _ (fits : FitsFor th st inst (IsOfInputs st)) where
      value_typed : (m : ℕ) (decl : MetaDecl) → slice_get st.scope.metas m ≡ Some decl → IsOfInputs st m → IsMetaValue th.sig inst decl (given_value inst m)
      value_typed m decl named of =
          subst (λ k. IsMetaValue th.sig inst decl (given_value inst k)) (from_zero m)
          (numbered_at (λ m decl. IsOfInputs st m → IsMetaValue th.sig inst decl (given_value inst m)) 0 st.scope.metas m decl fits.metas named (subst (IsOfInputs st) (sym (from_zero m)) of))

      syntax_is_made : (m : ℕ) (t : Tree) → MatchOption (slice_get st.scope.metas m) ⊥ (λ decl. decl.params ≡ []) → IsOfInputs st m → slice_get inst.metas m ≡ Some (Some t) → IsMade (syntax_input m) (written t)
      syntax_is_made m t plain of e =
          let found = match_some (slice_get st.scope.metas m) (λ decl. decl.params ≡ []) plain in
          let typed : IsTerm th.sig (reverse (map (λ c. c.0) found.0.params) ++ scope_of th.sig inst.root) found.0.cat.0 t =
          subst (IsMetaValue th.sig inst found.0) (ap (λ o. unwrap_or o None) e) (value_typed m found.0 found.1 of) in (
            match_from (slice_get st.scope.metas m) (λ decl. IsTerm th.sig (scope_of th.sig inst.root) decl.cat.0 t) found.0 found.1
                (subst (λ (ps : List CatId). IsTerm th.sig (reverse (map (λ c. c.0) ps) ++ scope_of th.sig inst.root) found.0.cat.0 t) found.2 typed),
            (instance_meta inst m ∙ ap (λ o. unwrap_or (unwrap_or o None) (var 0)) e, tt),
          )

      derivation_is_made : (j : JudgmentScheme) (d : Derivation) → Derives th d → IsInstance inst j (judgment d) → IsMade (given j) (judged (judgment d))
      derivation_is_made j d derives is = (
        (derives_a_judgment th d so_far derives, subst (AreAlike inst.root j) is.same (judgment_alike inst j)),
        subst (λ w. AllByRecursion (PieceMakes inst) (judgment_pieces inst.root j w)) is.same (judgment_made inst j),
      )

      all_made : (is : List StatementInput) (xs : List InputTree) → AllByRecursion (IsStatementInput th st) is → ((m : ℕ) → AnyByRecursion (OccursInInput m) is → IsOfInputs st m) →
          AllZip (IsGiven th inst) is xs → AllZip IsMade is (map form_of_input xs)
      all_made [] [] forms of h = tt
      all_made [] (x ∷ xs) forms of h = absurd h
      all_made (i ∷ is) [] forms of h = absurd h
      all_made (given j ∷ is) (derived d ∷ xs) forms of h = (derivation_is_made j d h.0.0 h.0.1, all_made is xs forms.1 (λ m k. of m (inr k)) h.1)
      all_made (given j ∷ is) (term t ∷ xs) forms of h = absurd h.0
      all_made (syntax_input m ∷ is) (derived d ∷ xs) forms of h = absurd h.0
      all_made (syntax_input m ∷ is) (term t ∷ xs) forms of h = (syntax_is_made m t forms.0 (of m (inl refl)) h.0, all_made is xs forms.1 (λ m k. of m (inr k)) h.1)

      pieces_of : (is : List StatementInput) (xs : List GivenForm) → AllZip IsMade is xs → AllByRecursion (PieceMakes inst) (all_pieces inst.root is xs)
      pieces_of [] xs h = tt
      pieces_of (i ∷ is) [] h = tt
      pieces_of (i ∷ is) (x ∷ xs) h = all_append (PieceMakes inst) (input_pieces inst.root i x) (all_pieces inst.root is xs) h.0.1 (pieces_of is xs h.1)

      makes_inputs : (is : List StatementInput) (xs : List GivenForm) → AllByRecursion (IsInputOf th st.scope) is → ((m : ℕ) → IsSettled is m → IsOfInputs st m) → AllZip IsMade is xs →
          MakesInputs th st.scope.metas inst.root is xs
      makes_inputs is xs forms of all =
          let alike = zip_map IsMade (InputAlike th st.scope.metas inst.root) (λ i x h. h.0) is xs all in
          record {
            alike = alike;
            inst = restricted is inst st.scope.metas;
            ground =
                record {
                  root = refl;
                  knowns = refl;
                  long = values_long is inst 0 st.scope.metas;
                  settled = λ m decl o named f settled. subst (IsMetaValue th.sig inst decl) (sym (settled_value is inst st.scope.metas m o f settled)) (value_typed m decl named (of m settled));
                  other = λ m o f none. other_value is inst st.scope.metas m o f none;
                };
            all = pieces_match th.sig st.scope none is inst (scope_of th.sig inst.root) (all_pieces inst.root is xs)
                (inputs_typed th so_far st.scope inst.root is xs forms alike) (pieces_of is xs all);
          }

      makes_first : (xs : List InputTree) → AllZip (IsGiven th inst) st.inputs xs → (n : ℕ) → MakesInputs th st.scope.metas inst.root (take n st.inputs) (take n (map form_of_input xs))
      makes_first xs are n =
          makes_inputs (take n st.inputs) (take n (map form_of_input xs)) (all_taken (IsInputOf th st.scope) n st.inputs (inputs_of th st st.inputs statement.inputs))
          (λ m settled. settled_occurs m st.inputs (any_take (StrictInInput m) n st.inputs settled))
          (zip_taken IsMade n st.inputs (map form_of_input xs) (all_made st.inputs xs statement.inputs (λ m h. h) are))

    -- inputs that are made are given
    module _ (long : length inst.metas ≡ length st.scope.metas)
        (typed : (m : ℕ) (decl : MetaDecl) (o : Option Tree) → slice_get st.scope.metas m ≡ Some decl → slice_get inst.metas m ≡ Some o → IsSettled st.inputs m → IsMetaValue th.sig inst decl o) where
      has_value : (m : ℕ) (decl : MetaDecl) → slice_get st.scope.metas m ≡ Some decl → IsOfInputs st m → (t : Tree) × (slice_get inst.metas m ≡ Some (Some t)) × IsMetaValue th.sig inst decl (Some t)
      has_value m decl named of =
          let less = slice_get_within st.scope.metas m decl named in
          let own = some_within inst.metas m (omega (arith, less, long)) in
          let value = match_some own.0 _ (typed m decl own.0 named own.1 (strict_settled m less of)) in (value.0, own.1 ∙ ap (λ o. Some o) value.1, value.2)

      syntax_given : (m : ℕ) (t : Tree) → MatchOption (slice_get st.scope.metas m) ⊥ (λ decl. decl.params ≡ []) → IsOfInputs st m → instance_of inst 0 (meta m no_values) ≡ t → slice_get inst.metas m ≡ Some (Some t)
      syntax_given m t plain of made =
          let found = match_some (slice_get st.scope.metas m) (λ decl. decl.params ≡ []) plain in
          let value = has_value m found.0 found.1 of in
          let same : value.0 ≡ t = sym (ap (λ o. unwrap_or (unwrap_or o None) (var 0)) value.1) ∙ (sym (instance_meta inst m) ∙ made) in value.1 ∙ ap (λ u. Some (Some u)) same

      derivation_given : (j : JudgmentScheme) (d : Derivation) → IsJudgmentScheme th st.scope j → Derives th d → IsMade (given j) (judged (judgment d)) → IsGiven th inst (given j) (derived d)
      derivation_given j d form derives made = (
        derives,
        record {
          same = judgment_back inst j (judgment d) made.0.1 made.1;
          closed = closed_judgment th st.scope j (judgment d) form made.0.0 made.0.1.judgment;
        },
      )

      all_given : (is : List StatementInput) (xs : List InputTree) → AllByRecursion (IsStatementInput th st) is → AllByRecursion (IsDerivedInput th) xs → ((m : ℕ) → AnyByRecursion (OccursInInput m) is → IsOfInputs st m) →
          AllZip (InputAlike th st.scope.metas inst.root) is (map form_of_input xs) → AllByRecursion (PieceMakes inst) (all_pieces inst.root is (map form_of_input xs)) → AllZip (IsGiven th inst) is xs
      all_given [] [] forms derive of alike made = tt
      all_given [] (x ∷ xs) forms derive of alike made = absurd alike
      all_given (i ∷ is) [] forms derive of alike made = absurd alike
      all_given (given j ∷ is) (derived d ∷ xs) forms derive of alike made =
          let front = all_front (PieceMakes inst) (judgment_pieces inst.root j (judgment d)) (all_pieces inst.root is (map form_of_input xs)) made in
          let rest = all_right (PieceMakes inst) (judgment_pieces inst.root j (judgment d)) (all_pieces inst.root is (map form_of_input xs)) made in
          (derivation_given j d forms.0.0 derive.0 (alike.0, front), all_given is xs forms.1 derive.1 (λ m h. of m (inr h)) alike.1 rest)
      all_given (given j ∷ is) (term t ∷ xs) forms derive of alike made = absurd alike.0
      all_given (syntax_input m ∷ is) (derived d ∷ xs) forms derive of alike made = absurd alike.0
      all_given (syntax_input m ∷ is) (term t ∷ xs) forms derive of alike made =
          (syntax_given m t forms.0 (of m (inl refl)) made.0, all_given is xs forms.1 derive.1 (λ m h. of m (inr h)) alike.1 made.1)

      fits_for : IsValue th.sig st.scope.root inst.root → FitsFor th st inst (IsOfInputs st)
      fits_for value = record {
        root = value;
        metas = all_numbered (λ m decl. IsOfInputs st m → IsMetaValue th.sig inst decl (given_value inst m)) 0 st.scope.metas (λ k decl named of.
            let has = has_value k decl named (subst (IsOfInputs st) (from_zero k) of) in
            subst (λ m. IsMetaValue th.sig inst decl (given_value inst m)) (sym (from_zero k)) (subst (IsMetaValue th.sig inst decl) (sym (ap (λ o. unwrap_or o None) has.1)) has.2));
      }

  -- inputs that one instance makes instantiate the statement
  instantiation : (v : ContextValue) (xs : List InputTree) → IsValue th.sig st.scope.root v → AllByRecursion (IsDerivedInput th) xs → MakesInputs th st.scope.metas v st.inputs (map form_of_input xs) →
      Instantiates th st v xs
  instantiation v xs value derive makes =
      let inst = makes.inst in
      let forms = map form_of_input xs in
      let back = sym makes.ground.root in
      let alike = subst (λ w. AllZip (InputAlike th st.scope.metas w) st.inputs forms) back makes.alike in
      let match = subst (λ w. AllByRecursion (PieceMatches st.inputs inst) (all_pieces w st.inputs forms)) back makes.all in
      let pieces = all_pieces inst.root st.inputs forms in
      let typed = inputs_typed th so_far st.scope inst.root st.inputs forms (inputs_of th st st.inputs statement.inputs) alike in
      let settled = inputs_occur (λ m. m < length st.scope.metas → IsSettled st.inputs m) inst.root st.inputs forms (λ m of less. strict_settled m less of) in
      let made = pieces_make th.sig st.scope (scope_of th.sig inst.root) st.inputs inst pieces typed settled match in (
        inst,
        record {
          value = makes.ground.root;
          fits = fits_for inst makes.ground.long makes.ground.settled (subst (IsValue th.sig st.scope.root) back value);
          inputs = all_given inst makes.ground.long makes.ground.settled st.inputs xs statement.inputs derive (λ m h. h) alike made;
        },
      )

  to_instantiation : (v : ContextValue) (xs : List InputTree) → AllByRecursion (IsDerivedInput th) xs → IsFit th st v (map form_of_input xs) Fits → Instantiates th st v xs
  to_instantiation v xs derive fit =
      let forms = map form_of_input xs in
      let n = length st.inputs + length forms in
      instantiation v xs fit.0 derive
      (subst (λ is. MakesInputs th st.scope.metas v is forms) (take_all n st.inputs (omega arith))
      (subst (λ ys. MakesInputs th st.scope.metas v (take n st.inputs) ys) (take_all n forms (omega arith)) (fit.1 n)))

  from_instantiation : (v : ContextValue) (xs : List InputTree) → Instantiates th st v xs → IsFit th st v (map form_of_input xs) Fits
  from_instantiation v xs is = (
    subst (IsValue th.sig st.scope.root) is.1.value is.1.fits.root,
    λ n. subst (λ w. MakesInputs th st.scope.metas w (take n st.inputs) (take n (map form_of_input xs))) is.1.value (makes_first is.0 is.1.fits xs is.1.inputs n),
  )

pub fits_where_instantiated : FitsWhereInstantiated
fits_where_instantiated th st v xs so_far none statement no_fault derive =
    (to_instantiation th so_far st none statement no_fault v xs derive, from_instantiation th so_far st none statement no_fault v xs)
