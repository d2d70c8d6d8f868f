use Rattle.std.proofs.Common.{refl, subst, sym}
use Rattle.proof_lexer.specs.View.{token_view}
use Rattle.outline_reader.specs.Plain.{plain_form}
use Rattle.user_grammar.specs.Production.{AreItems}
use Rattle.user_grammar.proofs.MadeReadings.{slot_stands, binder_stands, terminal_stands, pushed_word}
use Rattle.user_grammar.proofs.made_forms.add_word.Goals as goal

pub returns-in_ok-read_brackets-in-Slot-clause-added : goal.returns-in_ok-read_brackets-in-Slot-clause-added
returns-in_ok-read_brackets-in-Slot-clause-added c = λ listed own items words are.
    let slot = slot_stands c.args.cats.now listed own c.in-Slot.field-0 (token_view c.args.token.now) (plain_form c.args.rest.now) items words c.requires.apart c.in-Slot.ensures are in
    let found = c.in_ok-read_brackets-in-Slot.ensures.found slot.bound slot.behind slot.are_brackets slot.shut in
    (slot.left, words, subst (λ ts. AreItems c.args.cats.now listed own ts slot.left words) (sym found.1) slot.more, refl)

pub returns-in_ok-push-in-Binder-clause-added : goal.returns-in_ok-push-in-Binder-clause-added
returns-in_ok-push-in-Binder-clause-added c = λ listed own items words are.
    let binder = binder_stands c.args.cats.now listed own c.in-Binder.field-0 (token_view c.args.token.now) (plain_form c.args.rest.now) items words c.requires.apart c.in-Binder.ensures are in (
      binder.left,
      binder.left_words,
      binder.more,
      pushed_word (λ word. word.now) c.args.all.now.items c.push.new.self.items c.as_bytes.result c.args.token.now.text.now words binder.left_words
          c.in_ok-push-in-Binder.ensures.items c.as_bytes.ensures.value binder.same_words,
    )

pub returns-in-Other-clause-added : goal.returns-in-Other-clause-added
returns-in-Other-clause-added c = λ listed own items words are.
    let terminal = terminal_stands c.args.cats.now listed own (token_view c.args.token.now) (plain_form c.args.rest.now) items words c.in-Other.ensures are in
    (terminal.left, words, terminal.more, refl)
