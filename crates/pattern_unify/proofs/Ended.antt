-- Equations and marks from lists of which one ends.
use Rattle.std.proofs.Common.{◌≡◌, ◌∙◌, ℕ, List, [], ◌∷◌, None, slice_get, option_map, unwrap_or, refl, ap}
use Rattle.scheme_terms.specs.SchemeTree.{SchemeTree, Values, no_values, value}
use Rattle.scheme_terms.specs.Forms.{Names}
use Rattle.pattern_unify.specs.Patterns.{common_arguments}
use Rattle.pattern_unify.specs.Move.{entry_args, entry_equations}

pub no_common : (vs ws : Values) → ws ≡ no_values → common_arguments vs ws ≡ []
no_common no_values ws e = refl
no_common (value s vs) no_values e = refl
no_common (value s vs) (value t ws) e = absurd (let no : ⊥ = cc in no)

pub no_entries : (ss : List SchemeTree) → entry_equations ss [] ≡ []
no_entries [] = refl
no_entries (s ∷ ss) = refl

pub none_left : (names : Names) (k : ℕ) (ts : List SchemeTree) → slice_get names.knowns k ≡ None → entry_equations (entry_args names k) ts ≡ []
none_left names k ts e = ap (λ o. entry_equations (unwrap_or (option_map (λ decl. decl.entry.args) o) []) ts) e

pub none_right : (names : Names) (k : ℕ) (ss : List SchemeTree) → slice_get names.knowns k ≡ None → entry_equations ss (entry_args names k) ≡ []
none_right names k ss e = ap (λ o. entry_equations ss (unwrap_or (option_map (λ decl. decl.entry.args) o) [])) e ∙ no_entries ss
