-- Ordered calls, renamed parts, and the model of the order on sizes.
use Rattle.std.proofs.Common.{◌≡◌, ◌⊎◌, [], ◌∷◌, inl, inr, refl, ap, arith, ◌∙◌}
use Rattle.std.specs.Prelude.{◌<◌, true, false, IsTrue}
use Rattle.scheme_terms.specs.SchemeTree.{meta, local, no_values, value}
use Rattle.induction_order.specs.declared.relation.Rel.TheVariants.{Less, Equal, Unknown}
use Rattle.induction_order.specs.Order.{below_of, IsSmaller}
use Rattle.induction_order.specs.Sizes.{IsLexicographicallySmaller, OrderedCallIsSmaller, BelowIsSized}
use Rattle.induction_order.specs.Worked.{PredecessorIsLess, BodyIsLess}

-- equal at the first target and less at the second
pub second_falls : IsSmaller (Equal ∷ (Less ∷ (Unknown ∷ []))) false
second_falls = tt

-- equal at all targets is ordered where the callee stands earlier, and only there
pub earlier_in_group : IsSmaller (Equal ∷ (Equal ∷ [])) true
earlier_in_group = refl

pub equal_is_not_ordered : IsSmaller (Equal ∷ []) false → ⊥
equal_is_not_ordered h = cc

-- unknown before less is not ordered
pub unknown_first : IsSmaller (Unknown ∷ (Less ∷ [])) true → ⊥
unknown_first h = h

-- a premise of a case on an unknown derivation is unknown
pub below_unknown : below_of Unknown ≡ Unknown
below_unknown = refl

-- n is less than s n
pub predecessor_is_less : PredecessorIsLess
predecessor_is_less =
    record {
      inner = meta 0 no_values;
      binders = 0;
      place = inl (refl, refl);
      to = λ i. i;
      distinct = λ i j less more here there same. same;
      same = refl;
    }

-- t[x'] is less than fn x => t[x], for the variable x' of an explicit entry
pub body_is_less : BodyIsLess
body_is_less =
    record {
      inner = meta 0 (value (local 0) no_values);
      binders = 1;
      place = inl (refl, refl);
      to = λ i. 3;
      distinct = λ i j less more here there same. omega (arith, less, more);
      same = refl;
    }

-- the order on marks is the order on sizes
pub ordered_call_is_smaller : OrderedCallIsSmaller
ordered_call_is_smaller [] [] [] earlier sized h = inr (refl, h)
ordered_call_is_smaller [] [] (m ∷ ms) earlier sized h = absurd sized
ordered_call_is_smaller [] (n ∷ ns) ms earlier sized h = absurd sized
ordered_call_is_smaller (r ∷ rs) [] ms earlier sized h = absurd sized
ordered_call_is_smaller (r ∷ rs) (n ∷ ns) [] earlier sized h = absurd sized
ordered_call_is_smaller (Less ∷ rs) (n ∷ ns) (m ∷ ms) earlier sized h = inl (inl sized.0)
ordered_call_is_smaller (Equal ∷ rs) (n ∷ ns) (m ∷ ms) earlier sized h =
    joined sized.0 (ordered_call_is_smaller rs ns ms earlier sized.1 h)
  where
    joined : n ≡ m → IsLexicographicallySmaller ns ms ⊎ ((ns ≡ ms) × IsTrue earlier) →
        ((n < m) ⊎ ((n ≡ m) × IsLexicographicallySmaller ns ms)) ⊎ (((n ∷ ns) ≡ (m ∷ ms)) × IsTrue earlier)
    joined e (inl less) = inl (inr (e, less))
    joined e (inr same) = inr (ap (λ x. x ∷ ns) e ∙ ap (λ xs. m ∷ xs) same.0, same.1)
ordered_call_is_smaller (Unknown ∷ rs) (n ∷ ns) (m ∷ ms) earlier sized h = absurd h

pub below_is_sized : BelowIsSized
below_is_sized Less inner size target sized less = omega (arith, sized, less)
below_is_sized Equal inner size target sized less = omega (arith, sized, less)
below_is_sized Unknown inner size target sized less = tt
