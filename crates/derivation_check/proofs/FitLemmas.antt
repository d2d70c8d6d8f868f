-- The one ground instance of what inputs settle, as it is found.
use Rattle.std.proofs.Common.{◌≡◌, ◌≤◌, ℕ, zero, suc, ◌+◌, List, [], ◌∷◌, ◌++◌, length, Some, None, slice_get, inl, inr, refl, ap, ◌∙◌, sym, subst, arith, map, take, option_map, length-append}
use Rattle.std.specs.Prelude.{Option, MatchOption, unwrap_or}
use Rattle.std.specs.List.{AllByRecursion, AllZip}
use Rattle.std.proofs.lemmas.Bool.{cases_lt}
use Rattle.std.proofs.lemmas.List.{length-map, take_all}
use Rattle.std.proofs.lemmas.Option.{slice_get_within, same_Some}
use Rattle.binding_terms.specs.Numbered.{AllNumbered}
use Rattle.binding_terms.specs.Tree.{Tree, var}
use Rattle.binding_terms.specs.Scope.{IsTerm}
use Rattle.binding_terms.proofs.Lists.{map_append, numbered_at, numbered_push, some_within}
use Rattle.binding_terms.specs.View.{tree}
use Rattle.binding_terms.specs.declared.term.Term.{Term}
use Rattle.scheme_terms.specs.SchemeTree.{SchemeTree}
use Rattle.scheme_terms.specs.Forms.{Names, ContextValue, Instance}
use Rattle.scheme_terms.specs.Context.{scope_of}
use Rattle.scheme_terms.specs.Instance.{value_of, IsMetaValue}
use Rattle.scheme_terms.specs.SchemeScope.{params_scope}
use Rattle.scheme_terms.specs.Embedding.{embedded}
use Rattle.scheme_terms.specs.declared.scheme.MetaDecl.{MetaDecl}
use Rattle.rule_schemes.specs.Rules.{Theory, IsSystemSoFar}
use Rattle.rule_schemes.specs.Statement.{StatementInput, Theorem, IsStatementInput}
use Rattle.rule_schemes.specs.View.{statement_input}
use Rattle.rule_schemes.specs.declared.rule.Input.{Input}
use Rattle.derivation_check.specs.Fitting.{GivenForm, IsSettled, InputAlike, all_pieces, PieceMatches, MakesInputs}
use Rattle.derivation_check.specs.Settling.{PiecesDemand, IsValueFor, AreValuesFor}
use Rattle.derivation_check.proofs.PieceFacts.{IsTyped, pieces_value, pieces_strict, pieces_typed}
use Rattle.derivation_check.proofs.InputPieces.{IsInputOf, inputs_typed, inputs_strict}
use Rattle.scheme_terms.proofs.Embeddings.{embedded_injective}

set_here : (inst : Instance) (k : ℕ) (o : Option Tree) (t : Tree) → slice_get inst.metas k ≡ Some o → o ≡ Some t → value_of inst k ≡ t
set_here inst k o t e f = ap (λ x. unwrap_or (unwrap_or x None) (var 0)) e ∙ ap (λ x. unwrap_or x (var 0)) f

module _ (th : Theory) (so_far : IsSystemSoFar th) (names : Names) (v : ContextValue) (is : List StatementInput) (xs : List GivenForm) (forms : AllByRecursion (IsInputOf th names) is)
    (alike : AllZip (InputAlike th names.metas v) is xs) where
  typed : AllByRecursion (IsTyped th.sig names (scope_of th.sig v)) (all_pieces v is xs)
  typed = inputs_typed th so_far names v is xs forms alike

  -- a settled metavariable of which nothing is asked
  pub none_asked : (m : ℕ) → IsSettled is m → ((w : SchemeTree) → PiecesDemand m (all_pieces v is xs) w → ⊥) → MakesInputs th names.metas v is xs → ⊥
  none_asked m settled none made =
      let found = pieces_strict is made.inst m settled (all_pieces v is xs) made.all (inputs_strict th so_far names v m is xs alike settled) in
      none found.0 found.1

  module _ (values : List (Option Tree)) (are : AreValuesFor is (all_pieces v is xs) (length names.metas) (Some values)) where
    abbrev candidate : Instance
    candidate = record { metas = values; knowns = []; root = v }

    value_at : (k : ℕ) (o : Option Tree) → slice_get values k ≡ Some o → IsValueFor is (all_pieces v is xs) k o
    value_at k o e = subst (λ n. IsValueFor is (all_pieces v is xs) n o) (let z : 0 + k ≡ k = omega arith in z) (numbered_at (IsValueFor is (all_pieces v is xs)) 0 values k o are.1 e)

    some_value : (P : Tree → Type 0) (o : Option Tree) → MatchOption o ⊥ P → (t : Tree) × (o ≡ Some t) × P t
    some_value P None h = absurd h
    some_value P (Some t) h = (t, refl, h)

    -- every other instance has these values
    same_at : (made : MakesInputs th names.metas v is xs) (k : ℕ) (o p : Option Tree) → slice_get values k ≡ Some o → slice_get made.inst.metas k ≡ Some p → p ≡ o
    same_at made k o p e f =
        elim (value_at k o e) [
          | inl settled ↦
              let given = some_value (λ t. PiecesDemand k (all_pieces v is xs) (embedded t)) o settled.1 in
              let decl = some_within names.metas k (omega (arith, are.0, slice_get_within values k o e)) in
              let own = some_value (λ t. IsTerm th.sig (params_scope decl.0 ++ scope_of th.sig made.inst.root) decl.0.cat.0 t) p (made.ground.settled k decl.0 p decl.1 f settled.0) in
              let value : value_of made.inst k ≡ own.0 = set_here made.inst k p own.0 f own.1 in
              let same : own.0 ≡ given.0 = embedded_injective own.0 given.0
              (ap embedded (sym value) ∙ pieces_value is made.inst k settled.0 th.sig names (scope_of th.sig v) (all_pieces v is xs) (embedded given.0) typed made.all given.2) in
              own.1 ∙ ap (λ t. Some t) same ∙ sym given.1
          | inr other ↦ made.ground.other k p f other.0 ∙ sym other.1
        ]

    metas_same : (made : MakesInputs th names.metas v is xs) → made.inst.metas ≡ values
    metas_same made = lists_same made.inst.metas values (made.ground.long ∙ sym are.0) (λ k o p e f. same_at made k p o f e)
      where
        lists_same : (xs ys : List (Option Tree)) → length xs ≡ length ys → ((k : ℕ) (o p : Option Tree) → slice_get xs k ≡ Some o → slice_get ys k ≡ Some p → o ≡ p) → xs ≡ ys
        lists_same [] [] e same = refl
        lists_same [] (y ∷ ys) e same = absurd (omega (arith, e))
        lists_same (x ∷ xs) [] e same = absurd (omega (arith, e))
        lists_same (x ∷ xs) (y ∷ ys) e same =
            let first : x ≡ y = same 0 x y refl refl in
            let rest = lists_same xs ys (omega (arith, e)) (λ k o p f g. same (suc k) o p f g) in
            λ i. first i ∷ rest i

    only : (made : MakesInputs th names.metas v is xs) → made.inst ≡ candidate
    only made = let metas = metas_same made in let knowns = made.ground.knowns in let root = made.ground.root in λ i. record { metas = metas i; knowns = knowns i; root = root i }

    pub candidate_as : (ks : List (Option ℕ)) (r : ContextValue) → ks ≡ [] → r ≡ v → ◌≡◌ {A = Instance} (record { metas = values; knowns = ks; root = r }) candidate
    candidate_as ks r e f = λ i. record { metas = values; knowns = e i; root = f i }

    pub none_matches : (inst : Instance) → inst ≡ candidate → (AllByRecursion (PieceMatches is inst) (all_pieces v is xs) → ⊥) → MakesInputs th names.metas v is xs → ⊥
    none_matches inst e fails made = fails (subst (λ i. AllByRecursion (PieceMatches is i) (all_pieces v is xs)) (only made ∙ sym e) made.all)

    -- where there is one, the candidate matches
    pub must_match : (inst : Instance) → inst ≡ candidate → MakesInputs th names.metas v is xs → AllByRecursion (PieceMatches is inst) (all_pieces v is xs)
    must_match inst e made = subst (λ i. AllByRecursion (PieceMatches is i) (all_pieces v is xs)) (only made ∙ sym e) made.all

    pub one_matches : (inst : Instance) → inst ≡ candidate → AllByRecursion (PieceMatches is inst) (all_pieces v is xs) → MakesInputs th names.metas v is xs
    one_matches inst e all =
        let here = subst (λ i. AllByRecursion (PieceMatches is i) (all_pieces v is xs)) e all in
        record {
          alike = alike;
          inst = candidate;
          ground =
              record {
                root = refl;
                knowns = refl;
                long = are.0;
                settled = λ m decl o named f settled. value_typed here m decl o named f settled;
                other = λ m o f none. elim (value_at m o f) [ inl settled ↦ absurd (none settled.0) | inr other ↦ other.1 ];
              };
          all = here;
        }
      where
        value_typed : AllByRecursion (PieceMatches is candidate) (all_pieces v is xs) → (m : ℕ) (decl : MetaDecl) (o : Option Tree) → slice_get names.metas m ≡ Some decl → slice_get values m ≡ Some o → IsSettled is m → IsMetaValue th.sig candidate decl o
        value_typed here m decl o named f settled =
            elim (value_at m o f) [
              | inl mine ↦
                  let given = some_value (λ t. PiecesDemand m (all_pieces v is xs) (embedded t)) o mine.1 in
                  let value = pieces_typed is candidate m settled th.sig names (scope_of th.sig v) decl named (all_pieces v is xs) typed here (inputs_strict th so_far names v m is xs alike settled) in
                  subst (IsMetaValue th.sig candidate decl) (ap (λ t. Some t) (set_here candidate m o given.0 f given.1) ∙ sym given.1) value
              | inr other ↦ absurd (other.0 settled)
            ]

-- one value more
pub one_more : (P : ℕ → Option Tree → Type 0) (all new : List (Option Term)) (i k : ℕ) (o : Option Term) → new ≡ all ++ o ∷ [] → k ≡ i → P k (option_map tree o) →
    (length (map (option_map tree) all) ≡ i) × AllNumbered P 0 (map (option_map tree) all) → (length (map (option_map tree) new) ≡ i + 1) × AllNumbered P 0 (map (option_map tree) new)
one_more P all new i k o e same here so_far =
    let shown : map (option_map tree) new ≡ map (option_map tree) all ++ option_map tree o ∷ [] = ap (map (option_map tree)) e ∙ map_append (option_map tree) all (o ∷ []) in
    let number : k ≡ 0 + length (map (option_map tree) all) = omega (arith, so_far.0, same) in (
      ap length shown ∙ grind (arith, so_far.0, length-append),
      subst (AllNumbered P 0) (sym shown) (numbered_push P 0 (map (option_map tree) all) (option_map tree o) so_far.1 (subst (λ n. P n (option_map tree o)) number here)),
    )

abbrev no_tree : Option Tree
no_tree = None

-- nothing is given for no input
none_at : (ms : List MetaDecl) (m : ℕ) (o : Option Tree) → slice_get (map (λ d. no_tree) ms) m ≡ Some o → o ≡ None
none_at [] m o e = absurd (let no : ⊥ = cc in no)
none_at (d ∷ ms) zero o e = sym (same_Some no_tree o e)
none_at (d ∷ ms) (suc m) o e = none_at ms m o e

pub nothing_given : (th : Theory) (metas : List MetaDecl) (v : ContextValue) → MakesInputs th metas v [] []
nothing_given th metas v =
    record {
      alike = tt;
      inst = record { metas = map (λ d. no_tree) metas; knowns = []; root = v };
      ground =
          record {
            root = refl;
            knowns = refl;
            long = length-map metas (λ d. no_tree);
            settled = λ m decl o named f settled. absurd settled;
            other = λ m o f none. none_at metas m o f;
          };
      all = tt;
    }

pub nothing_so_far : (th : Theory) (metas : List MetaDecl) (v : ContextValue) (is : List StatementInput) (xs : List GivenForm) (k : ℕ) → k ≤ 0 → MakesInputs th metas v (take k is) (take k xs)
nothing_so_far th metas v is xs k h = subst (λ n. MakesInputs th metas v (take n is) (take n xs)) (let e : 0 ≡ k = omega (arith, h) in e) (nothing_given th metas v)

pub all_so_far : (th : Theory) (metas : List MetaDecl) (v : ContextValue) (is : List StatementInput) (xs : List GivenForm) (i : ℕ) → length is ≤ i → length xs ≤ i →
    ((k : ℕ) → k ≤ i → MakesInputs th metas v (take k is) (take k xs)) → (n : ℕ) → MakesInputs th metas v (take n is) (take n xs)
all_so_far th metas v is xs i h k fit n =
    elim (cases_lt i n) [
      | inl more ↦ subst (λ ys. MakesInputs th metas v (take n is) ys) (take_all i xs k ∙ sym (take_all n xs (omega (arith, k, more))))
          (subst (λ js. MakesInputs th metas v js (take i xs)) (take_all i is h ∙ sym (take_all n is (omega (arith, h, more)))) (fit i (omega arith)))
      | inr less ↦ fit n less
    ]

pub forms_of_first : (th : Theory) (st : Theorem) (inputs : List Input) (n : ℕ) → AllByRecursion (IsStatementInput th st) (map statement_input inputs) → AllByRecursion (IsStatementInput th st) (map statement_input (take n inputs))
forms_of_first th st inputs zero h = tt
forms_of_first th st [] (suc n) h = tt
forms_of_first th st (i ∷ inputs) (suc n) h = (h.0, forms_of_first th st inputs n h.1)
