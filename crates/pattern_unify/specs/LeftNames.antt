-- The names that are left of a run: those that stand in what it has found. To be held against docs/notation.md, 'Unification' (that the answer is most general).
use Rattle.std.specs.Prelude.{ℕ, zero, suc, Bool, false, ◌==◌, ◌||◌, if◌then◌else◌, List, [], ◌∷◌, map}
use Rattle.scheme_terms.specs.SchemeTree.{SchemeTree, meta, local, values}
use Rattle.scheme_terms.specs.Forms.{KnownVariable, Substitution}
use Rattle.scheme_terms.specs.Substituting.{parameters, params}
use Rattle.scheme_terms.specs.declared.scheme.MetaDecl.{MetaDecl}
use Rattle.pattern_unify.specs.State.{State, names_of, applied_known}
use Rattle.pattern_unify.specs.Measure.{meta_stands, any_scheme}

-- whether the metavariable stands in a value that the run has found
abbrev pub is_meta_left : State → ℕ → Bool
is_meta_left st m = any_scheme (meta_stands m) st.so_far.metas

abbrev pub is_listed : List ℕ → ℕ → Bool
is_listed [] k = false
is_listed (j ∷ js) k = (j == k) || is_listed js k

-- whether a known variable of the start has become this one
abbrev pub is_known_left : State → ℕ → Bool
is_known_left st k = is_listed st.so_far.knowns k

-- the elements whose numbers pass the test, where the first has this number
abbrev pub picked : {A : Type 0} → (ℕ → Bool) → (first : ℕ) → List A → List A
picked test n [] = []
picked test n (x ∷ xs) = if test n then x ∷ picked test (suc n) xs else picked test (suc n) xs

-- how many numbers pass the test, of so many from the first on
abbrev pub rank : (ℕ → Bool) → (first count : ℕ) → ℕ
rank test n zero = 0
rank test n (suc k) = if test n then suc (rank test (suc n) k) else rank test (suc n) k

-- each metavariable that is left, with its new number; for one that is gone anything may stand, since it stands nowhere
abbrev pub metas_left : (ℕ → Bool) → (first : ℕ) → List MetaDecl → List SchemeTree
metas_left test n [] = []
metas_left test n (decl ∷ decls) =
    (if test n then meta (rank test 0 n) (values (parameters (params decl))) else local 0) ∷ metas_left test (suc n) decls

abbrev pub knowns_left : (ℕ → Bool) → (first : ℕ) → List KnownVariable → List ℕ
knowns_left test n [] = []
knowns_left test n (decl ∷ decls) = rank test 0 n ∷ knowns_left test (suc n) decls

-- the names of the state, each that is left for itself with its new number, into a scope of these alone
abbrev pub left_names : State → Substitution
left_names st =
    record {
      metas = metas_left (is_meta_left st) 0 (names_of st).metas;
      knowns = knowns_left (is_known_left st) 0 (names_of st).knowns;
      into = record {
        root = (names_of st).root;
        metas = picked (is_meta_left st) 0 (names_of st).metas;
        knowns = picked (is_known_left st) 0
            (map (applied_known (metas_left (is_meta_left st) 0 (names_of st).metas) (knowns_left (is_known_left st) 0 (names_of st).knowns)) (names_of st).knowns);
      };
    }
