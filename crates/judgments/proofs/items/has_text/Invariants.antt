use Rattle.std.proofs.Common.{◌↔◌, drop, map}
use Rattle.sy_base.specs.Tokens.{PlainToken}
use Rattle.proof_lexer.specs.View.{token_view}
use Rattle.user_grammar.specs.Names.{IsAmong}
use Rattle.judgments.proofs.items.has_text.Given as goal

abbrev pub invariant-loop-item : goal.invariant-loop-item
invariant-loop-item l =
    IsAmong (map (λ (item : PlainToken). item.text) (map token_view (drop l.item-index l.items))) l.text
    ↔ IsAmong (map (λ (item : PlainToken). item.text) (map token_view l.items)) l.text
