use Rattle.std.proofs.Common.{Some, None, map, option_map, ◌∙◌, sym, subst, true≢false}
use Rattle.binding_terms.specs.View.{tree}
use Rattle.scheme_terms.specs.View.{context_value}
use Rattle.scheme_match.specs.Matching.{AreStrict, IsOnlyMatch}
use Rattle.scheme_match.proofs.OnlyMatch.{none_unasked, none_becomes_as, one_becomes_as, candidate_is}
use Rattle.scheme_match.proofs.matcher.Matcher.finish.Goals as goal

pub returns-in-None : goal.returns-in-None
returns-in-None c =
    let asked = rw (c.as_slice-pairs.ensures.value, c.in-None.is) at c.in_ok-metas.ensures in
    subst (λ m. IsOnlyMatch m None) c.self.view_is (none_unasked _ c.self.invariant (subst AreStrict (sym c.self.view_is) c.requires) asked)

pub returns-then-not-branch : goal.returns-then-not-branch
returns-then-not-branch c =
    let asked = rw (c.as_slice-pairs.ensures.value, c.in-Some.is) at c.in_ok-metas.ensures in
    let become = rw c.as_slice-pairs.ensures.value at c.in_ok-all_become.ensures in
    subst (λ m. IsOnlyMatch m None) c.self.view_is
    (none_becomes_as _ c.self.invariant (subst AreStrict (sym c.self.view_is) c.requires) (map (option_map tree) c.in-Some.metas) asked _
    (candidate_is _ c.self.invariant (subst AreStrict (sym c.self.view_is) c.requires) (map (option_map tree) c.in-Some.metas) asked
    c.in_ok-places.field-0 (context_value c.in_ok-copy_context.field-0) c.in_ok-places.ensures c.in_ok-copy_context.ensures)
    (λ all. true≢false (sym (become.1 all) ∙ c.if-not-branch.true)))

pub returns : goal.returns
returns c =
    let asked = rw (c.as_slice-pairs.ensures.value, c.in-Some.is) at c.in_ok-metas.ensures in
    let become = rw c.as_slice-pairs.ensures.value at c.in_ok-all_become.ensures in
    subst (λ m. IsOnlyMatch m (Some (record { metas = map (option_map tree) c.in-Some.metas; knowns = c.in_ok-places.field-0; root = context_value c.in_ok-copy_context.field-0 }))) c.self.view_is
    (one_becomes_as _ c.self.invariant (subst AreStrict (sym c.self.view_is) c.requires) (map (option_map tree) c.in-Some.metas) asked _
    (candidate_is _ c.self.invariant (subst AreStrict (sym c.self.view_is) c.requires) (map (option_map tree) c.in-Some.metas) asked
    c.in_ok-places.field-0 (context_value c.in_ok-copy_context.field-0) c.in_ok-places.ensures c.in_ok-copy_context.ensures)
    (become.0 c.if-not-branch.false))
