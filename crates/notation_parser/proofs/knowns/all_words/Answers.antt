use Rattle.std.proofs.Common.{◌++◌, map, ap, ◌∙◌, sym, append-nil}
use Rattle.std.proofs.lemmas.List.{take_all}
use Rattle.scheme_terms.specs.View.{known_variable}
use Rattle.notation_parser.specs.Knowns.{known_texts}
use Rattle.notation_parser.proofs.KnownWords.{text_more}
use Rattle.notation_parser.proofs.knowns.all_words.Goals as goal

pub loop-known-init : goal.loop-known-init
loop-known-init c = c.in_ok-all.ensures ∙ sym (append-nil c.args.words.now)

pub loop-known-preserved : goal.loop-known-preserved
loop-known-preserved c =
    c.in_ok-push.ensures.ok
    ∙ text_more c.args.sig.now c.args.words.now c.args.knowns.now c.loop-known.known-index c.known-item.result c.loop-known.all _ _ c.loop-known-test.true c.known-item.is
    c.loop-known.invariant c.in_ok-text_again.ensures c.variable_of-cat.ensures

pub returns : goal.returns
returns c =
    c.loop-known.invariant
    ∙ ap (λ ks. c.args.words.now ++ known_texts c.args.sig.now (map known_variable ks)) (take_all c.loop-known.known-index c.args.knowns.now c.loop-known-test.false)
