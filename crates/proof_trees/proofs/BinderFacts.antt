-- Facts over the typed lambda calculus: assumption rules in steps and in choices, and structural steps on judgments and on trees.
use Rattle.std.specs.Prelude.{◌≡◌, ℕ, Bool, List, [], ◌∷◌, codes}
use Rattle.std.proofs.Common.{refl, ap, inl, inr, arith}
use Rattle.binding_terms.specs.Tree.{var}
use Rattle.scheme_terms.specs.SchemeTree.{meta, local, known, no_values}
use Rattle.scheme_terms.specs.Forms.{SchemeEntry, SchemeContext, Names, Substitution}
use Rattle.scheme_terms.specs.declared.scheme.Root.{Root}
use Rattle.scheme_terms.specs.declared.scheme.Root.TheVariants.{Closed, Whole}
use Rattle.rule_schemes.specs.Rules.{JudgmentScheme}
use Rattle.rule_schemes.specs.Raising.{TestsReach, raised_by}
use Rattle.rule_schemes.specs.Derivation.{leaf}
use Rattle.rule_schemes.specs.Sums.{cat}
use Rattle.rule_schemes.specs.Lambda.{lambda, typed, t_var, T1, T2, unit_type, entry_of_unit, two_entries, x1_has_unit, x_has_unit}
use Rattle.proof_trees.specs.RuleStep.{IsAssumptionInstance}
use Rattle.proof_trees.specs.ContextSteps.{IsWeakened, IsExchanged}
use Rattle.case_split.specs.Choices.{explicit_choice, known_choice}
use Rattle.proof_trees.specs.StructuralSteps.{weakened, exchanged, substituted}

-- a scope about Gamma with the names T1 and T2
abbrev pub types : Names
types = record { root = Whole (cat 2); metas = T1 ∷ (T2 ∷ []); knowns = [] }

abbrev entry : ℕ → SchemeEntry
entry m = record { prod = 6; args = meta m no_values ∷ [] }

abbrev under : List SchemeEntry → SchemeContext
under entries = record { root = Whole (cat 2); entries = entries }

-- Gamma, x : T1, x' : T2 |- x : T1
abbrev pub outer_variable : JudgmentScheme
outer_variable = record { judgment = 0; context = under (entry 0 ∷ (entry 1 ∷ [])); args = local 1 ∷ (meta 0 no_values ∷ []) }

abbrev one_type : Substitution
one_type = record { metas = meta 0 no_values ∷ []; knowns = []; into = types }

-- It is right by the rule for variables, for the first of the two entries.
pub outer_variable_is_right : (reaches : ℕ → ℕ → Bool) → TestsReach lambda reaches → IsAssumptionInstance typed types outer_variable [] t_var
outer_variable_is_right reaches tests =
    record {
      is_assumption = tt;
      none_cited = refl;
      variable = inl (
        0,
        record {
          held = entry 0;
          there = refl;
          higher = raised_by reaches [] (Whole (cat 2)) t_var;
          raised = (reaches, tests, refl);
          by = one_type;
          into = refl;
          schemes = record { metas = ((refl, tt), tt); knowns = tt };
          entries = refl;
          judgment = refl;
          args = refl;
        },
      );
    }

-- And so is Gamma |- x : T1 for a known variable x of type T1.
abbrev with_known : Names
with_known = record { root = Whole (cat 2); metas = T1 ∷ (T2 ∷ []); knowns = record { name = codes "x"; entry = entry 0 } ∷ [] }

abbrev pub known_variable : JudgmentScheme
known_variable = record { judgment = 0; context = under []; args = known 0 ∷ (meta 0 no_values ∷ []) }

pub known_variable_is_right : IsAssumptionInstance typed with_known known_variable [] t_var
known_variable_is_right =
    record {
      is_assumption = tt;
      none_cited = refl;
      variable = inr (
        0,
        record {
          decl = record { name = codes "x"; entry = entry 0 };
          there = refl;
          root = refl;
          by = record { metas = meta 0 no_values ∷ []; knowns = []; into = with_known };
          into = refl;
          schemes = record { metas = ((refl, tt), tt); knowns = tt };
          entries = refl;
          judgment = refl;
          args = refl;
        },
      );
    }

-- The choices for Gamma, x : T1 |- x : T2: for the entry, x = x, T2 = ?T and T1 = ?T; for a known variable, x is to be that one, which clashes.
abbrev pub last_variable : JudgmentScheme
last_variable = record { judgment = 0; context = under (entry 0 ∷ []); args = local 0 ∷ (meta 1 no_values ∷ []) }

pub entry_equations : (reaches : ℕ → ℕ → Bool) → (explicit_choice reaches typed types last_variable 0 t_var (entry 0) 0 (entry 0)).equations ≡
    record { locals = 1 ∷ []; left = local 0; right = local 0 } ∷ (record { locals = 1 ∷ []; left = meta 1 no_values; right = meta 2 no_values }
    ∷ (record { locals = []; left = meta 0 no_values; right = meta 2 no_values } ∷ []))
entry_equations reaches = refl

pub known_equations : (known_choice typed types last_variable 0 t_var (entry 0)).equations ≡
    record { locals = 1 ∷ []; left = local 0; right = known 0 } ∷ (record { locals = 1 ∷ []; left = meta 1 no_values; right = meta 2 no_values } ∷ [])
known_equations = refl

-- Exchanged, Gamma, x : T1, x' : T2 |- x : T1 is Gamma, x' : T2, x : T1 |- x : T1; weakened, it has its variable one further out.
pub is_exchanged : IsExchanged outer_variable (record { judgment = 0; context = under (entry 1 ∷ (entry 0 ∷ [])); args = local 0 ∷ (meta 0 no_values ∷ []) })
is_exchanged = record { judgment = refl; root = refl; front = []; earlier = entry 0; later = entry 1; before = refl; after = refl; args = refl }

tag : Root → ℕ
tag Closed = 0
tag _ = 1

pub is_weakened : IsWeakened outer_variable (record { judgment = 0; context = under (entry 0 ∷ (entry 1 ∷ (entry 0 ∷ []))); args = local 2 ∷ (meta 0 no_values ∷ []) })
unfolding tag
is_weakened =
    record {
      some_context = λ e. absurd (let apart : 1 ≡ 0 = ap tag e in omega (arith, apart));
      judgment = refl;
      root = refl;
      entry = entry 0;
      entries = refl;
      args = refl;
    }

-- The same on derivations: a leaf follows its entry.
pub leaf_exchanged : exchanged 0 (leaf 0 x1_has_unit 0) ≡ leaf 0 (record { judgment = 0; context = two_entries; args = var 0 ∷ (unit_type ∷ []) }) 1
leaf_exchanged = refl

pub leaf_weakened : weakened 0 entry_of_unit x_has_unit ≡ leaf 0 (record { judgment = 0; context = two_entries; args = var 0 ∷ (unit_type ∷ []) }) 1
leaf_weakened = refl

pub leaf_weakened_at_end : weakened 1 entry_of_unit x_has_unit ≡ leaf 0 x1_has_unit 0
leaf_weakened_at_end = refl

-- In place of a leaf at the entry that is gone stands the given derivation, weakened by what stands after that entry.
pub leaf_substituted : substituted 1 (var 0) x_has_unit (leaf 0 (record { judgment = 0; context = two_entries; args = var 0 ∷ (unit_type ∷ []) }) 1) ≡ x_has_unit
leaf_substituted = refl

pub other_leaf_substituted : substituted 1 (var 0) x_has_unit (leaf 0 x1_has_unit 0) ≡ x_has_unit
other_leaf_substituted = refl
