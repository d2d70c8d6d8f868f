-- Worked calls over sums. To be held against docs/notation.md, 'Calls'.
use Rattle.std.specs.Prelude.{List, [], ◌∷◌, codes}
use Rattle.scheme_terms.specs.Forms.{Names, Substitution}
use Rattle.scheme_terms.specs.declared.scheme.MetaDecl.{MetaDecl}
use Rattle.scheme_terms.specs.declared.scheme.Root.TheVariants.{Closed}
use Rattle.rule_schemes.specs.Statement.{syntax_input, Theorem}
use Rattle.rule_schemes.specs.Sums.{sums, sum_scheme, name, name_of}
use Rattle.theorem_calls.specs.Raised.{Argument, tree_of, term_of}
use Rattle.theorem_calls.specs.Call.{with_fresh}
use Rattle.theorem_calls.specs.Answers.{called, wrong_count, arg_mismatch, IsCallAnswer}

-- forall n1 forall n2 exists n1 + n2 = n3
abbrev pub total : Theorem
total =
    record {
      name = codes "total";
      scope = record { root = Closed; metas = name_of (codes "n1") ∷ (name_of (codes "n2") ∷ (name_of (codes "n3") ∷ [])); knowns = [] };
      inputs = syntax_input 0 ∷ (syntax_input 1 ∷ []);
      outputs = sum_scheme (name 0) (name 1) (name 2) ∷ [];
      targets = 0 ∷ [];
      group = 0;
    }

-- the caller has n and n2
abbrev pub two_names : Names
two_names = record { root = Closed; metas = name_of (codes "n") ∷ (name_of (codes "n2") ∷ []); knowns = [] }

abbrev pub new_name : List MetaDecl
new_name = name_of (codes "n3") ∷ []

abbrev pub values : Substitution
values = record { metas = name 0 ∷ (name 1 ∷ (name 2 ∷ [])); knowns = []; into = with_fresh two_names new_name }

-- n, n2
abbrev pub total_args : List Argument
total_args = term_of (name 0) ∷ (term_of (name 1) ∷ [])

-- n + n2 = n3 on n, n2: n3 is new
abbrev pub NewNameIsCalled : Type 0
NewNameIsCalled =
    IsCallAnswer sums two_names new_name total total_args (sum_scheme (name 0) (name 1) (name 2) ∷ []) (called 0 values (2 ∷ []))

-- one argument is too few
abbrev pub OneIsTooFew : Type 0
OneIsTooFew = IsCallAnswer sums two_names new_name total (term_of (name 0) ∷ []) (sum_scheme (name 0) (name 1) (name 2) ∷ []) wrong_count

-- n, and a derivation
abbrev pub mixed_args : List Argument
mixed_args = term_of (name 0) ∷ (tree_of (sum_scheme (name 0) (name 1) (name 0)) ∷ [])

-- a derivation for a term is the first argument that is no instance
abbrev pub DerivationForATerm : Type 0
DerivationForATerm =
    IsCallAnswer sums two_names new_name total mixed_args (sum_scheme (name 0) (name 1) (name 2) ∷ []) (arg_mismatch 2)
