use Rattle.std.proofs.Common.{subst}
use Rattle.proof_lexer.specs.View.{token_view}
use Rattle.user_grammar.specs.Fault.{Follows, behind_slot, slot, item}
use Rattle.user_grammar.specs.Finding.{portions_of}
use Rattle.user_grammar.specs.FindingPlaces.{walk_view}
use Rattle.user_grammar.proofs.Tests.{refused}
use Rattle.user_grammar.proofs.FaultTokens.{emptied}
use Rattle.user_grammar.proofs.fault_place.pass_outside.Goals as goal

pub returns-then-is_slot_word : goal.returns-then-is_slot_word
returns-then-is_slot_word c =
    subst (λ ws. Follows (portions_of c.args.lists.now) (walk_view c.args.walk.now) (token_view c.args.token.now) (behind_slot ws))
    (emptied (λ word. word.now) c.clear.new.self.items c.clear.ensures.items)
    (slot c.requires.outside (c.is_slot_word.ensures.0 c.if-is_slot_word.true))

pub returns : goal.returns
returns c = item c.requires.outside (refused c.is_slot_word.result c.is_slot_word.ensures c.if-is_slot_word.false)
