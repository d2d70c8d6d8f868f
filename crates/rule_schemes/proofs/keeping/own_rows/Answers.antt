use Rattle.std.proofs.Common.{◌≡◌, ◌+◌, ◌∙◌, ◌++◌, ◌∷◌, [], ap, subst, length, arith}
use Rattle.std.proofs.lemmas.List.{length_push}
use Rattle.binding_terms.proofs.Lists.{numbered_push}
use Rattle.rule_schemes.specs.Rows.{AreMarks}
use Rattle.rule_schemes.specs.Rules.{Below}
use Rattle.rule_schemes.proofs.RowLemmas.{own_marks}
use Rattle.rule_schemes.proofs.keeping.own_rows.Goals as goal

pub loop-judgment-preserved : goal.loop-judgment-preserved
loop-judgment-preserved c =
    let rows = c.loop-judgment.rows.items in
    let row = c.in_ok-own_row.field-0 in
    let pushed : c.push.new.self.items ≡ rows ++ row ∷ [] = c.in_ok-push.ensures.items in
    let own : AreMarks c.args.count (Below [] (0 + length rows)) row =
    subst (λ x. AreMarks c.args.count (Below [] x) row) (let e : c.loop-judgment.judgment ≡ 0 + length rows = omega (arith, c.loop-judgment.invariant.long) in e)
    (own_marks c.args.count c.loop-judgment.judgment row c.in_ok-own_row.ensures) in
    record {
      long = ap length pushed ∙ length_push rows row ∙ ap (λ n. n + 1) c.loop-judgment.invariant.long;
      each = rw pushed (numbered_push (λ x marks. AreMarks c.args.count (Below [] x) marks) 0 rows row c.loop-judgment.invariant.each own);
    }
