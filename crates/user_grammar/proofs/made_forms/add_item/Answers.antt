use Rattle.std.proofs.Common.{refl, subst, sym}
use Rattle.proof_lexer.specs.View.{token_view}
use Rattle.outline_reader.specs.Plain.{plain_form}
use Rattle.user_grammar.specs.Production.{AreItems}
use Rattle.user_grammar.specs.Indexed.{names_in}
use Rattle.user_grammar.proofs.MadeReadings.{slot_stands, binder_stands, terminal_stands}
use Rattle.user_grammar.proofs.made_forms.add_item.Goals as goal
use Rattle.binding_terms.proofs.Lists.{pushed_item}

pub returns-in_ok-add_slot-in-Slot-clause-added : goal.returns-in_ok-add_slot-in-Slot-clause-added
returns-in_ok-add_slot-in-Slot-clause-added c = λ differ listed items words are.
    let slot = slot_stands c.args.cats.now listed (names_in c.args.own.now) c.in-Slot.cat (token_view c.args.token.now) (plain_form c.args.rest.now) items words
    c.requires.apart c.in-Slot.ensures are in
    let found = c.in_ok-add_slot-in-Slot.ensures.added differ slot.bound slot.binds slot.behind slot.are_brackets slot.shut slot.numbers in (
      slot.left,
      words,
      subst (λ ts. AreItems c.args.cats.now listed (names_in c.args.own.now) ts slot.left words) (sym found.0) slot.more,
      pushed_item _ _ _ _ items slot.left found.1 refl slot.same,
    )

pub returns-in_ok-push-in-Binder-clause-added : goal.returns-in_ok-push-in-Binder-clause-added
returns-in_ok-push-in-Binder-clause-added c = λ differ listed items words are.
    let binder = binder_stands c.args.cats.now listed (names_in c.args.own.now) c.in-Binder.cat (token_view c.args.token.now) (plain_form c.args.rest.now) items words
    c.requires.apart c.in-Binder.ensures are in
    (binder.left, binder.left_words, binder.more, pushed_item _ _ _ _ items binder.left c.in_ok-push-in-Binder.ensures.ok refl binder.same)

pub returns-in_ok-push-in-Other-clause-added : goal.returns-in_ok-push-in-Other-clause-added
returns-in_ok-push-in-Other-clause-added c = λ differ listed items words are.
    let terminal = terminal_stands c.args.cats.now listed (names_in c.args.own.now) (token_view c.args.token.now) (plain_form c.args.rest.now) items words c.in-Other.ensures are in
    (terminal.left, words, terminal.more, pushed_item _ _ _ _ items terminal.left c.in_ok-push-in-Other.ensures.ok c.in_ok-terminal-in-Other.ensures terminal.same)
