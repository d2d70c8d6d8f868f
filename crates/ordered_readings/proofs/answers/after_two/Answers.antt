use Rattle.std.proofs.Common.{sym, ◌∙◌, true≢false}
use Rattle.rule_schemes.specs.Said.{IsBefore}
use Rattle.ordered_readings.specs.NodeView.{reading}
use Rattle.ordered_readings.proofs.Adding.{two_sooner, two_kept, two_first, two_second, two_third}
use Rattle.ordered_readings.proofs.Transitive.{before_transitive}
use Rattle.ordered_readings.proofs.answers.after_two.Goals as goal

pub returns-then-sooner : goal.returns-then-sooner
returns-then-sooner c = λ order h.
    two_sooner IsBefore before_transitive (reading c.args.new) (reading c.args.a) (reading c.args.b) order h (c.same_scheme.ensures.0 c.if-same_scheme.true)
    (c.is_before-sooner.ensures.0 c.if-sooner.true)

pub returns-then-same_scheme : goal.returns-then-same_scheme
returns-then-same_scheme c = λ order h.
    two_kept IsBefore before_transitive (reading c.args.new) (reading c.args.a) (reading c.args.b) order h (c.same_scheme.ensures.0 c.if-same_scheme.true)
    (λ b. true≢false (sym (c.is_before-sooner.ensures.1 b) ∙ c.if-sooner.false))

pub returns-then-sooner-2 : goal.returns-then-sooner-2
returns-then-sooner-2 c = λ order h.
    two_first IsBefore before_transitive (reading c.args.new) (reading c.args.a) (reading c.args.b) order h
    (λ e. true≢false (sym (c.same_scheme.ensures.1 e) ∙ c.if-same_scheme.false)) (c.is_before-sooner.ensures.0 c.if-sooner-2.true)

pub returns-then-is_before : goal.returns-then-is_before
returns-then-is_before c = λ order h.
    two_second IsBefore before_transitive (reading c.args.new) (reading c.args.a) (reading c.args.b) order h
    (λ e. true≢false (sym (c.same_scheme.ensures.1 e) ∙ c.if-same_scheme.false))
    (λ b. true≢false (sym (c.is_before-sooner.ensures.1 b) ∙ c.if-sooner-2.false)) (c.is_before.ensures.0 c.if-is_before.true)

pub returns : goal.returns
returns c = λ order h.
    two_third IsBefore before_transitive (reading c.args.new) (reading c.args.a) (reading c.args.b) order h
    (λ b. true≢false (sym (c.is_before.ensures.1 b) ∙ c.if-is_before.false))
