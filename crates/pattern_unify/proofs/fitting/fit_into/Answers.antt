use Rattle.std.proofs.Common.{◌≡◌, ℕ, List, Some, map, option_map, sym, subst, ap, ◌∙◌, true≢false, length}
use Rattle.scheme_terms.specs.SchemeTree.{SchemeTree}
use Rattle.scheme_terms.specs.Forms.{Names, Substitution}
use Rattle.scheme_terms.specs.Substituting.{knowns_from}
use Rattle.scheme_terms.specs.View.{names, scheme}
use Rattle.pattern_unify.specs.Equations.{equation}
use Rattle.pattern_unify.specs.Asked.{AreAsked}
use Rattle.pattern_unify.specs.FitInto.{IsOnlyFitInto}
use Rattle.pattern_unify.proofs.OnlyOne.{none_asked, none_fits, one_fits, IsFound}
use Rattle.pattern_unify.proofs.fitting.fit_into.Goals as goal

same_answer : (ss : List SchemeTree) (ks wanted : List ℕ) (into copied : Names) → ks ≡ wanted → copied ≡ into →
    ◌≡◌ {A = Substitution} (record { metas = ss; knowns = wanted; into = into }) (record { metas = ss; knowns = ks; into = copied })
same_answer ss ks wanted into copied e f = let first = sym e in let second = sym f in λ i. record { metas = ss; knowns = first i; into = second i }

pub returns-in_default : goal.returns-in_default
returns-in_default c =
    let all = rw (c.as_slice.ensures, c.as_slice-2.ensures.value) at c.in_ok-metas.ensures in
    none_asked c.args.sig.now (names c.args.from.now) (names c.args.into.now) (map equation c.args.eqs.now.items) c.requires
    (subst (λ o. AreAsked (map equation c.args.eqs.now.items) (length c.args.from.now.metas) (option_map (map scheme) o)) c.in_default.is all)

pub returns-then-branch : goal.returns-then-branch
returns-then-branch c =
    let all = rw (c.as_slice.ensures, c.as_slice-2.ensures.value) at c.in_ok-metas.ensures in
    let tested = rw c.as_slice-3.ensures.value at c.in_ok-fits.ensures in
    let same = same_answer (map scheme c.in-Some.metas) c.in_ok-by.by.knowns (knowns_from 0 (names c.args.from.now).knowns) (names c.args.into.now) (names c.in_ok-by-2.field-0)
    (ap (λ (s : Substitution). s.knowns) c.in_ok-by.ensures) c.in_ok-by-2.ensures in
    subst (λ by. IsOnlyFitInto c.args.sig.now (names c.args.from.now) (names c.args.into.now) (map equation c.args.eqs.now.items) (Some by)) same
    (one_fits c.args.sig.now (names c.args.from.now) (names c.args.into.now) (map equation c.args.eqs.now.items) c.requires (map scheme c.in-Some.metas)
    (subst (λ o. AreAsked (map equation c.args.eqs.now.items) (length c.args.from.now.metas) (option_map (map scheme) o)) c.in-Some.is all)
    (subst (IsFound c.args.sig.now (names c.args.from.now) (names c.args.into.now) (map equation c.args.eqs.now.items) c.requires) (sym same) (tested.0 c.if-branch.true)))

pub returns-else-branch : goal.returns-else-branch
returns-else-branch c =
    let all = rw (c.as_slice.ensures, c.as_slice-2.ensures.value) at c.in_ok-metas.ensures in
    let tested = rw c.as_slice-3.ensures.value at c.in_ok-fits.ensures in
    let same = same_answer (map scheme c.in-Some.metas) c.in_ok-by.by.knowns (knowns_from 0 (names c.args.from.now).knowns) (names c.args.into.now) (names c.in_ok-by-2.field-0)
    (ap (λ (s : Substitution). s.knowns) c.in_ok-by.ensures) c.in_ok-by-2.ensures in
    none_fits c.args.sig.now (names c.args.from.now) (names c.args.into.now) (map equation c.args.eqs.now.items) c.requires (map scheme c.in-Some.metas)
    (subst (λ o. AreAsked (map equation c.args.eqs.now.items) (length c.args.from.now.metas) (option_map (map scheme) o)) c.in-Some.is all)
    (λ found. true≢false (sym (tested.1 (subst (IsFound c.args.sig.now (names c.args.from.now) (names c.args.into.now) (map equation c.args.eqs.now.items) c.requires) same found))
    ∙ c.if-branch.false))
