-- The arguments of a metavariable, one step on.
use Rattle.std.proofs.Common.{◌≡◌, ℕ, ◌+◌, ◌<◌, List, [], ◌∷◌, ◌++◌, length, drop, get_or, refl, ap, codes, arith}
use Rattle.binding_terms.proofs.Lists.{drop_from}
use Rattle.binding_terms.specs.Signature.{Signature}
use Rattle.scheme_terms.specs.View.{scheme}
use Rattle.scheme_terms.specs.declared.scheme.Scheme.{Scheme}
use Rattle.rule_schemes.specs.Printing as printing
use Rattle.rule_schemes.specs.Printing.{after_commas, argument, bracketed}
use Rattle.form_printing.specs.declared.page.Page.{Page}
use Rattle.form_printing.specs.Page.{written}
use Rattle.form_printing.specs.View.{values_tokens}
use Rattle.form_printing.proofs.Pages.{written_pair}

pub bracketed_none : (sig : Signature) (labels : printing.Labels) (vs : List printing.Variable) (args : List Scheme) → length args ≡ 0
    → bracketed (values_tokens sig labels vs args) ≡ []
bracketed_none sig labels vs [] h = refl
bracketed_none sig labels vs (x ∷ xs) h = absurd (let no : ⊥ = omega (arith, h) in no)

pub bracketed_all : (sig : Signature) (labels : printing.Labels) (vs : List printing.Variable) (args : List Scheme) (a : Scheme)
    → 0 < length args → a ≡ get_or args 0 a
    → (codes "[" ∷ []) ++ (argument sig labels vs (scheme a) ++ (after_commas (values_tokens sig labels vs (drop 1 args)) ++ codes "]" ∷ []))
    ≡ bracketed (values_tokens sig labels vs args)
bracketed_all sig labels vs [] a h e = absurd (let no : ⊥ = omega arith in no)
bracketed_all sig labels vs (x ∷ xs) a h e =
    ap (λ y. codes "[" ∷ (argument sig labels vs (scheme y) ++ (after_commas (values_tokens sig labels vs xs) ++ codes "]" ∷ []))) e

pub further_step : (sig : Signature) (labels : printing.Labels) (vs : List printing.Variable) (args : List Scheme) (i : ℕ) (a : Scheme)
    → i < length args → a ≡ get_or args i a
    → after_commas (values_tokens sig labels vs (drop i args))
    ≡ ((codes "," ∷ []) ++ argument sig labels vs (scheme a)) ++ after_commas (values_tokens sig labels vs (drop (i + 1) args))
further_step sig labels vs args i a h e = ap (λ xs. after_commas (values_tokens sig labels vs xs)) (drop_from args i a h e)

-- three pieces before a last one
pub written_four : (p a b c : Page) (w x y z : List (List ℕ)) → a ≡ written p w → b ≡ written a x → c ≡ written b y
    → written c z ≡ written p (w ++ (x ++ (y ++ z)))
written_four p a b c w x y z e f g = written_pair p a _ w _ e (written_pair a b _ x _ f (written_pair b c _ y z g refl))
