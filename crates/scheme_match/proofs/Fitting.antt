-- The forms and the judgments of a theory go together where they are of one judgment.
use Rattle.std.proofs.Common.{◌≡◌, [], MatchOption, slice_get, refl, subst}
use Rattle.binding_terms.specs.Signature.{slots}
use Rattle.binding_terms.proofs.Lists.{match_same}
use Rattle.scheme_terms.specs.Forms.{Names}
use Rattle.scheme_terms.specs.SchemeScope.{AreSchemes, IsRoot, IsSchemeContext, entry_variables}
use Rattle.rule_schemes.specs.Rules.{Theory, JudgmentScheme, JudgmentValue, IsJudgment, IsJudgmentScheme, IsRootOf, argument_slots, root_of}
use Rattle.rule_schemes.specs.declared.rule.Judgment.{Judgment}
use Rattle.scheme_match.specs.Matching.{JudgmentsFit}

pub forms_fit : (th : Theory) (names : Names) (j : JudgmentScheme) (v : JudgmentValue) → IsRoot th.sig j.context.root → IsJudgmentScheme th names j → IsJudgment th v →
    j.judgment ≡ v.judgment → JudgmentsFit th.sig names.metas j v
forms_fit th names j v root form judged same =
    let there = subst (λ n. MatchOption (slice_get th.judgments n) ⊥ (λ (f : Judgment). IsRootOf f.ctx j.context.root × IsSchemeContext th.sig names j.context
    × AreSchemes th.sig names (entry_variables th.sig [] j.context.entries) (argument_slots f.ctx (slots f.items)) j.args)) same form in
    let both = match_same (slice_get th.judgments v.judgment) there judged in
    record {
      names = names;
      metas_are = refl;
      root = root;
      entries = both.1.1;
      form = root_of both.0.ctx;
      context = both.2.0;
      places = argument_slots both.0.ctx (slots both.0.items);
      schemes = both.1.2;
      values = both.2.1;
    }
