-- Entries and their arguments, one step on.
use Rattle.std.proofs.Common.{◌≡◌, ℕ, zero, suc, ◌+◌, List, [], ◌∷◌, ◌++◌, reverse, drop, refl, ap, sym, ◌∙◌, add-one}
use Rattle.std.proofs.lemmas.List.{map-append, reverse-append}
use Rattle.binding_terms.specs.Signature.{Signature}
use Rattle.scheme_terms.specs.declared.scheme.Scheme.{Scheme}
use Rattle.rule_schemes.specs.Printing as printing
use Rattle.form_printing.specs.declared.words.Variable as words
use Rattle.form_printing.specs.View.{variable, variables, schemes_tokens}

args_suc : (sig : Signature) (labels : printing.Labels) (vs : List printing.Variable) (ts : List Scheme) (n : ℕ)
    → drop 1 (schemes_tokens sig labels vs (drop n ts)) ≡ schemes_tokens sig labels vs (drop (suc n) ts)
args_suc sig labels vs [] zero = refl
args_suc sig labels vs [] (suc n) = refl
args_suc sig labels vs (t ∷ ts) zero = refl
args_suc sig labels vs (t ∷ ts) (suc n) = args_suc sig labels vs ts n

pub args_more : (sig : Signature) (labels : printing.Labels) (vs : List printing.Variable) (ts : List Scheme) (n : ℕ)
    → drop 1 (schemes_tokens sig labels vs (drop n ts)) ≡ schemes_tokens sig labels vs (drop (n + 1) ts)
args_more sig labels vs ts n = args_suc sig labels vs ts n ∙ ap (λ k. schemes_tokens sig labels vs (drop k ts)) (sym (add-one n))

-- the variables of a scope that is turned round
pub variables_reverse : (vs : List words.Variable) → variables (reverse vs) ≡ reverse (variables vs)
variables_reverse [] = refl
variables_reverse (v ∷ vs) =
    ap variables (reverse-append (v ∷ []) vs)
    ∙ (map-append variable (reverse vs) (v ∷ [])
    ∙ (ap (λ ws. ws ++ variable v ∷ []) (variables_reverse vs) ∙ sym (reverse-append (variable v ∷ []) (variables vs))))
