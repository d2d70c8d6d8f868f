use Rattle.std.proofs.Common.{◌≡◌, ◌≤◌, ◌++◌, length, map, ap, sym, subst, ◌∙◌, arith}
use Rattle.std.proofs.lemmas.List.{length-map}
use Rattle.rule_schemes.specs.Said.{IsBefore}
use Rattle.term_reader.specs.Firsts.{listed, AreFirst}
use Rattle.term_reader.specs.View.{token}
use Rattle.notation_parser.specs.Ordered.{ReadsWantedAt}
use Rattle.notation_parser.specs.Used.{MayBeNew}
use Rattle.notation_parser.specs.View.{outcome, reading_scope, wanted}
use Rattle.notation_parser.proofs.UsedAnswer.{names_apart_all, readable_over}
use Rattle.notation_parser.proofs.reader.read.Goals as goal

pub read_over-requires : goal.read_over-requires
read_over-requires c =
    let scope = reading_scope c.args.scope.now in
    let all : c.as_slice-2.result.now ≡ scope.names.metas ++ c.in_ok-new.new =
    c.as_slice-2.ensures ∙ c.in_ok-metas.ensures ∙ ap (λ xs. xs ++ c.as_slice.result.now) c.as_slice-own.ensures ∙ ap (λ ys. scope.names.metas ++ ys) c.as_slice.ensures in
    rw all
    (readable_over scope scope.names.metas (scope.names.metas ++ c.in_ok-new.new) c.requires.over
    (names_apart_all c.args.sig.now scope (map token c.args.tokens.now) c.in_ok-new.new c.in_ok-new.ensures c.requires.over.names))

pub returns : goal.returns
returns c =
    let scope = reading_scope c.args.scope.now in
    let sig = c.args.sig.now in
    let js = c.args.judgments.now.items in
    let want = wanted c.args.want in
    let ts = map token c.args.tokens.now in
    let new = c.as_slice-3.result.now in
    let all : c.as_slice-2.result.now ≡ scope.names.metas ++ new =
    c.as_slice-2.ensures ∙ c.in_ok-metas.ensures ∙ ap (λ xs. xs ++ c.as_slice.result.now) c.as_slice-own.ensures
    ∙ ap (λ ys. scope.names.metas ++ ys) (c.as_slice.ensures ∙ sym c.as_slice-3.ensures) in
    let may : MayBeNew sig scope ts new = subst (MayBeNew sig scope ts) (sym c.as_slice-3.ensures) c.in_ok-new.ensures in
    let short : length ts ≤ 256 = omega (arith, length-map c.args.tokens.now token, c.if-tokens-gt-LONGEST.false) in
    let found : AreFirst IsBefore (ReadsWantedAt sig js scope (scope.names.metas ++ new) want ts) (listed outcome c.in_ok-found.found) =
    subst (λ metas. AreFirst IsBefore (ReadsWantedAt sig js scope metas want ts) (listed outcome c.in_ok-found.found)) all c.in_ok-found.ensures in
    c.tell.ensures sig js scope want ts (ap length c.as_slice-own.ensures) may c.requires.stand short found
