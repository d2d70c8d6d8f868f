-- The context value for which a text stands.
use Rattle.std.proofs.Common.{◌≡◌, List, true, false, refl, ap, ◌∙◌, sym, true≢false}
use Rattle.binding_terms.proofs.Lists.{all_found}
use Rattle.scheme_terms.specs.declared.scheme.Root.{Root}
use Rattle.scheme_terms.specs.declared.scheme.Root.TheVariants.{Closed, Empty, Whole}
use Rattle.rule_schemes.specs.Rules.{Theory}
use Rattle.rule_schemes.specs.Statement.{IsTheoremRoot}
use Rattle.derivation_text.specs.Bare.{HasNoContexts}
use Rattle.derivation_text.specs.Laws.{TextGivesValue, ValueIsEmpty}
use Rattle.derivation_text.specs.Over.{value_for}

closed_root : (th : Theory) → HasNoContexts th → (root : Root) → IsTheoremRoot th.sig root → root ≡ Closed
closed_root th bare Closed h = refl
closed_root th bare (Empty c) h = absurd h
closed_root th bare (Whole c) h =
    absurd
    (let found = all_found {P = λ cat. cat.context ≡ false} {Q = λ cat. cat.context ≡ true} th.sig.cats c.0 bare.plain.sig.no_context h in
    true≢false (sym found.2 ∙ found.1))

pub text_value : TextGivesValue
text_value th st source xs = (
  λ s. (value_for st.scope.root s.around, record { around = s.around; contents = s.contents; text = s.text; inputs = s.inputs; value_is = refl }),
  λ p. record { around = p.1.around; contents = p.1.contents; text = p.1.text; inputs = p.1.inputs },
)

pub value_empty : ValueIsEmpty
value_empty th st source value xs bare root =
    let closed = closed_root th bare st.scope.root root in (
      λ s. (s.value_is ∙ ap (λ (r : Root). value_for r s.around) closed, record { around = s.around; contents = s.contents; text = s.text; inputs = s.inputs }),
      λ p.
          record {
            around = p.1.around;
            contents = p.1.contents;
            text = p.1.text;
            inputs = p.1.inputs;
            value_is = p.0 ∙ sym (ap (λ (r : Root). value_for r p.1.around) closed);
          },
    )
