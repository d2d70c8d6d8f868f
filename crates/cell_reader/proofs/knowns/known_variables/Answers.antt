use Rattle.std.proofs.Common.{◌≡◌, [], ◌+◌, ◌-◌, ◌<◌, ◌≤◌, length, map, drop, ap, ◌∙◌, sym, subst, arith}
use Rattle.std.proofs.lemmas.List.{drop_all}
use Rattle.scheme_terms.specs.View.{known_variable}
use Rattle.rule_schemes.specs.Reading.{entry_of, known_words}
use Rattle.form_cells.specs.View.{in_scope}
use Rattle.cell_reader.proofs.KnownWords.{known_more}
use Rattle.cell_reader.proofs.knowns.known_variables.Goals as goal

pub loop-left-init : goal.loop-left-init
loop-left-init c =
    let ks = c.args.knowns.now in
    let none : drop (length ks) ks ≡ [] = drop_all (length ks) ks (omega arith) in
    (ap in_scope c.new-all.ensures ∙ ap (λ some. known_words c.args.sig.now (length ks) (map known_variable some)) (sym none), omega arith)

pub loop-left-preserved : goal.loop-left-preserved
loop-left-preserved c =
    let ks = c.args.knowns.now in
    let i = c.loop-left.left - 1 in
    let within : c.loop-left.left ≤ length ks = c.loop-left.invariant.1 in
    let lt : i < length ks = omega (arith, within) in
    let step : i + 1 ≡ c.loop-left.left = omega arith in
    let before = subst (λ m. in_scope c.loop-left.all ≡ known_words c.args.sig.now m (map known_variable (drop m ks))) (sym step) c.loop-left.invariant.0 in (
      ap in_scope c.in_ok-push.ensures.ok
          ∙ known_more c.args.sig.now ks i c.index-knowns-left.result c.loop-left.all _ lt c.index-knowns-left.is before c.bytes.ensures c.variable_of.ensures (ap entry_of c.in_ok-number.ensures),
      omega (arith, within),
    )

pub returns : goal.returns
returns c =
    let ks = c.args.knowns.now in
    let none : c.loop-left.left ≡ 0 = omega arith in
    subst (λ m. in_scope c.loop-left.all ≡ known_words c.args.sig.now m (map known_variable (drop m ks))) none c.loop-left.invariant.0
