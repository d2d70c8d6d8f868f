-- Spellings of categories.
use Rattle.std.proofs.Common.{◌≡◌, ◌↔◌, ℕ, zero, suc, ◌+◌, ◌-◌, ◌<◌, List, [], ◌∷◌, length, take, drop, get_or, ap, ◌∙◌, sym, subst, arith}
use Rattle.std.specs.List.{AllByRecursion}
use Rattle.std.proofs.lemmas.List.{take_rest, drop_more}
use Rattle.binding_terms.specs.Signature.{Signature}
use Rattle.binding_terms.specs.declared.grammar.Cat.{Cat}
use Rattle.rule_schemes.specs.Reading.{IsSpelling, IsCategoryWord, AreSpelledApart}
use Rattle.user_grammar.specs.Names.{category_names, AreApart, AllApart}
use Rattle.user_grammar.proofs.Spellings.{one_category}
use Rattle.judgments.specs.Spellings.{IsNoSpelling}

-- a word that is no spelling of any category is none of one of them
pub none_spelled : (cats : List Cat) (c : ℕ) (w : List ℕ) → IsNoSpelling cats w → IsCategoryWord cats c w → ⊥
none_spelled [] c w none h = h
none_spelled (k ∷ cats) zero w none h = none.0 h
none_spelled (k ∷ cats) (suc c) w none h = none_spelled cats c w none.1 h

-- where no word is a spelling of two, the names are apart
names_from : (cats : List Cat) → ((c d : ℕ) (w : List ℕ) → IsCategoryWord cats c w → IsCategoryWord cats d w → c ≡ d) → AllApart (category_names cats)
names_from [] apart = tt
names_from (cat ∷ cats) apart =
    (later cats (λ d w h k. (let never : zero ≡ suc d = apart zero (suc d) w h k in omega arith)), names_from cats (λ c d w h k. (let e = apart (suc c) (suc d) w h k in omega arith)))
  where
    later : (others : List Cat) → ((d : ℕ) (w : List ℕ) → IsSpelling cat.name w → IsCategoryWord others d w → ⊥)
        → AllByRecursion (AreApart cat.name) (category_names others)
    later [] never = tt
    later (other ∷ others) never = (record { nothing_common = λ w h k. never zero w h k }, later others (λ d w h k. never (suc d) w h k))

pub apart_cats : (sig : Signature) → AllApart (category_names sig.cats) ↔ AreSpelledApart sig
apart_cats sig = ((λ apart c d w h k. one_category sig.cats c d w apart h k), names_from sig.cats)

-- one category more to compare
pub apart_step : (cats : List Cat) (i : ℕ) (c : Cat) → i < length cats → c ≡ get_or cats i c
    → AllApart (category_names (drop i cats))
    ↔ (AllByRecursion (AreApart c.name) (category_names (take (length cats - (i + 1)) (drop (i + 1) cats))) × AllApart (category_names (drop (i + 1) cats)))
apart_step cats i c lt is =
    let e : drop i cats ≡ c ∷ drop (i + 1) cats = drop_more cats i c lt ∙ ap (λ x. x ∷ drop (i + 1) cats) (sym is) in
    subst (λ (xs : List Cat). AllApart (category_names xs)
    ↔ (AllByRecursion (AreApart c.name) (category_names (take (length cats - (i + 1)) (drop (i + 1) cats))) × AllApart (category_names (drop (i + 1) cats)))) (sym e)
    (rw take_rest (λ h. h, λ h. h))
