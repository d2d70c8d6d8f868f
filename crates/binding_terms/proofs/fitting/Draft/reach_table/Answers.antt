use Rattle.std.proofs.Common.{◌≡◌, ◌+◌, ◌∙◌, ap, subst, length, ◌++◌, ◌∷◌, [], arith}
use Rattle.std.proofs.lemmas.List.{length_push}
use Rattle.binding_terms.specs.Draft.{drafted}
use Rattle.binding_terms.specs.Reach.{IsColumn}
use Rattle.binding_terms.proofs.Reaching.{columns_are_table}
use Rattle.binding_terms.proofs.fitting.Draft.reach_table.Goals as goal
use Rattle.binding_terms.proofs.Lists.{numbered_push}

pub loop-number-preserved : goal.loop-number-preserved
loop-number-preserved c =
    let sig = drafted c.args.self.now in
    let columns = c.loop-number.columns.items in
    let pushed : c.push.new.self.items ≡ columns ++ c.in_ok-column.field-0 ∷ [] = c.in_ok-push.ensures.items in
    let here : IsColumn sig (0 + length columns) c.in_ok-column.field-0 =
    subst (λ n. IsColumn sig n c.in_ok-column.field-0) (let e : c.loop-number.number ≡ 0 + length columns = omega arith in e) c.in_ok-column.ensures in
    record {
      long = ap length pushed ∙ length_push columns c.in_ok-column.field-0 ∙ ap (λ n. n + 1) c.loop-number.invariant.long;
      columns = rw pushed (numbered_push (IsColumn sig) 0 columns c.in_ok-column.field-0 c.loop-number.invariant.columns here);
    }

pub returns : goal.returns
returns c =
    let sig = drafted c.args.self.now in
    let long : length c.loop-number.columns.items ≡ length sig.cats = omega arith in
    columns_are_table sig c.loop-number.columns.items long c.loop-number.invariant.columns
