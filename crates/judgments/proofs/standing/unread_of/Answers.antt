use Rattle.std.proofs.Common.{◌≡◌, ◌++◌, ◌∷◌, [], ◌∙◌, sym, ap, map, true, false}
use Rattle.scheme_terms.specs.declared.scheme.MetaDecl.{MetaDecl}
use Rattle.rule_schemes.specs.View.{judgment_scheme}
use Rattle.judgments.specs.Standing.{IsRead}
use Rattle.judgments.proofs.KeptNames.{next_kept, next_other}
use Rattle.judgments.proofs.standing.unread_of.Goals.{then-not-branch+in_ok-copy_meta+in_ok-push, else-not-branch}
use Rattle.judgments.proofs.standing.unread_of.Goals as goal

pub loop-decl-preserved : goal.loop-decl-preserved
loop-decl-preserved c =
    let is = rw c.bytes.ensures at c.in_ok-is_read.ensures in
    let Read = IsRead c.args.metas.now (map judgment_scheme c.args.forms.now) in
    elim c.if-not-branch.branch [
      | then-not-branch+in_ok-copy_meta+in_ok-push w ↦ next_kept (λ v. Read v → ⊥) Read c.args.listed.now c.loop-decl.those c.loop-decl.decl-index _ c.decl-item.result c.loop-decl-test.true c.decl-item.is c.loop-decl.invariant
          c.if-not-branch.those (λ r. (let never : false ≡ true = sym w.if-not-branch.true ∙ is.1 r in cc)) (w.those-is ∙ w.in_ok-push.ensures.ok ∙ ap (λ (d : MetaDecl). c.loop-decl.those ++ d ∷ []) w.in_ok-copy_meta.ensures)
      | else-not-branch w ↦ next_other (λ v. Read v → ⊥) Read c.args.listed.now c.loop-decl.those c.loop-decl.decl-index _ c.decl-item.result c.loop-decl-test.true c.decl-item.is c.loop-decl.invariant
          c.if-not-branch.those (is.0 w.if-not-branch.false) w.those-is
    ]
