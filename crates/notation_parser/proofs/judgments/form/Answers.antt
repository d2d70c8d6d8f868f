use Rattle.std.proofs.Common.{◌≡◌, Some, slice_get, refl, sym, subst, ◌∙◌, true≢false}
use Rattle.std.proofs.lemmas.Option.{slice_get_read}
use Rattle.rule_schemes.specs.Said.{IsBefore}
use Rattle.term_reader.specs.Firsts.{AreFirst}
use Rattle.term_reader.specs.Splitting.{AreKnown, tokens_of}
use Rattle.term_reader.specs.View.{in_scope}
use Rattle.term_reader.proofs.Finding.{AreFirst-same}
use Rattle.term_reader.proofs.SplitLemmas.{if_ok}
use Rattle.notation_parser.specs.Forms.{IsReadAs}
use Rattle.notation_parser.specs.View.{reading_scope}
use Rattle.notation_parser.proofs.Judging.{closed_read, open_read, none_read}
use Rattle.notation_parser.proofs.judgments.form.Goals as goal

pub closed-requires-clause-vars : goal.closed-requires-clause-vars
closed-requires-clause-vars c = subst (AreKnown c.args.sheet.now) (sym c.requires.vars) c.requires.scope.1

pub open-requires-clause-one : goal.open-requires-clause-one
open-requires-clause-one c = c.is_once.ensures.0 c.if-not-is_once.false

pub returns-in_ok-found-in-None : goal.returns-in_ok-found-in-None
returns-in_ok-found-in-None c =
    let sheet = c.args.sheet.now in
    let js = c.args.judgments.now in
    let scope = reading_scope c.args.scope.now in
    let ts = tokens_of sheet in
    let k = c.args.k in
    let j = c.index-judgments-k.result in
    let here : slice_get js k ≡ Some j = slice_get_read js _ k j refl c.requires.number c.index-judgments-k.is in
    if_ok c.as_judgments.result _ _ (λ found e. subst (AreFirst IsBefore (IsReadAs sheet.sig.now js scope sheet.metas.now k ts)) (sym e)
    (closed_read sheet.sig.now js scope sheet.metas.now ts k j (in_scope c.args.vars.now) _ here c.in-None.is c.requires.vars
    (rw (c.in_ok-id.ensures, c.as_slice-items.ensures) at c.in_ok-found-in-None.ensures))) c.as_judgments.ensures

pub returns-else-not-is_once : goal.returns-else-not-is_once
returns-else-not-is_once c =
    let sheet = c.args.sheet.now in
    let js = c.args.judgments.now in
    let scope = reading_scope c.args.scope.now in
    let ts = tokens_of sheet in
    let k = c.args.k in
    let j = c.index-judgments-k.result in
    let here : slice_get js k ≡ Some j = slice_get_read js _ k j refl c.requires.number c.index-judgments-k.is in
    if_ok c.open.result _ _ (λ found f. AreFirst-same IsBefore _ (IsReadAs sheet.sig.now js scope sheet.metas.now k ts) _
    (λ w x. open_read sheet.sig.now js scope sheet.metas.now ts k j c.in-Some.cat here c.in-Some.is (rw c.as_slice-items.ensures at c.is_once.ensures.0 c.if-not-is_once.false) w x) f)
    (rw (c.asking.ensures, c.in_ok-id.ensures, c.as_slice-items.ensures) at c.open.ensures)

pub returns-then-not-is_once : goal.returns-then-not-is_once
returns-then-not-is_once c =
    let sheet = c.args.sheet.now in
    let js = c.args.judgments.now in
    let scope = reading_scope c.args.scope.now in
    let k = c.args.k in
    let j = c.index-judgments-k.result in
    let here : slice_get js k ≡ Some j = slice_get_read js _ k j refl c.requires.number c.index-judgments-k.is in
    none_read sheet.sig.now js scope sheet.metas.now (tokens_of sheet) k j c.in-Some.cat here c.in-Some.is
    (λ once. true≢false (sym (c.is_once.ensures.1 (rw c.as_slice-items.ensures once)) ∙ c.if-not-is_once.true))
