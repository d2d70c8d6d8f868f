-- The case of the rule for a successor on n1 + n2 = n3: one that is most general, and a name that is taken. To be held against docs/notation.md, 'Cases'.
use Rattle.std.specs.Prelude.{[], ◌∷◌, codes}
use Rattle.scheme_terms.specs.Forms.{Names, Substitution}
use Rattle.scheme_terms.specs.declared.scheme.Root.TheVariants.{Closed}
use Rattle.rule_schemes.specs.Sums.{nat, sums, sum_scheme, name, name_of, successor_scheme, plus_s}
use Rattle.case_split.specs.declared.choice.Place.TheVariants.{Plain}
use Rattle.case_split.specs.Choice.{JudgmentChoice}
use Rattle.case_split.specs.Choices.{rule_choice}
use Rattle.case_split.specs.Worked.{nothing_reaches, three_names}
use Rattle.coverage_check.specs.Case.{Case, head_of}
use Rattle.coverage_check.specs.MostGeneralCase.{IsMostGeneralCase, IsTaken}

-- the choice of the rule for a successor on n1 + n2 = n3
abbrev pub choice : JudgmentChoice
choice = rule_choice nothing_reaches sums three_names (sum_scheme (name 0) (name 1) (name 2)) 1 plus_s

-- n2, n, n3'
abbrev pub good_scope : Names
good_scope = record { root = Closed; metas = name_of (codes "n2") ∷ (name_of (codes "n") ∷ (name_of (codes "n3'") ∷ [])); knowns = [] }

-- n + n2 = n3' above s n + n2 = s n3'
abbrev pub good_case : Case
good_case =
    record {
      rule = 1;
      place = Plain;
      scope = good_scope;
      premises = sum_scheme (name 1) (name 0) (name 2) ∷ [];
      conclusion = sum_scheme (successor_scheme (name 1)) (name 0) (successor_scheme (name 2));
    }

-- the values of n1, n2, n3 and of the rule's names
abbrev pub found : Substitution
found =
    record {
      metas = successor_scheme (name 1) ∷ (name 0 ∷ (successor_scheme (name 2) ∷ (name 1 ∷ (name 0 ∷ (name 2 ∷ [])))));
      knowns = [];
      into = good_scope;
    }

-- the case is a most general one
abbrev pub SuccessorIsMostGeneral : Type 0
SuccessorIsMostGeneral = IsMostGeneralCase nat three_names choice good_case found

-- n2, n3, n
abbrev pub bad_scope : Names
bad_scope = record { root = Closed; metas = name_of (codes "n2") ∷ (name_of (codes "n3") ∷ (name_of (codes "n") ∷ [])); knowns = [] }

-- n + n2 = n3 above s n + n2 = s n3
abbrev pub bad_case : Case
bad_case =
    record {
      rule = 1;
      place = Plain;
      scope = bad_scope;
      premises = sum_scheme (name 2) (name 0) (name 1) ∷ [];
      conclusion = sum_scheme (successor_scheme (name 2)) (name 0) (successor_scheme (name 1));
    }

-- n3 would be refined, so its name is taken
abbrev pub ThirdIsTaken : Type 0
ThirdIsTaken = IsTaken nat three_names choice.names choice.equations bad_scope (head_of bad_case) 2
