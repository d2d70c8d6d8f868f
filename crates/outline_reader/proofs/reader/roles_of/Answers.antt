use Rattle.std.proofs.Common.{◌≡◌, ◌+◌, ◌∷◌, [], ◌++◌, reverse, length, get_or, drop, Some, None, sym, ◌∙◌, ap, subst, Err, rules}
use Rattle.std.proofs.lemmas.List.{drop_all}
use Rattle.outline_reader.specs.declared.fault.OutlineFault.TheVariants.{Unexpected}
use Rattle.outline_reader.specs.Reading as spec
use Rattle.outline_reader.specs.Machine as machine
use Rattle.outline_reader.specs.Limits as limits
use Rattle.outline_reader.specs.Derives.{level}
use Rattle.outline_reader.proofs.ReadingLemmas.{turn, turn_stuck, turn_end, no_token, seen_as}
use Rattle.outline_reader.proofs.reader.roles_of.Goals as goal

pub returns-in_default : goal.returns-in_default
returns-in_default c = λ had_memory.
    let stuck : machine.take (reverse c.loop-token.stack.items) (seen_as c.loop-token.before (get_or c.args.tokens.now c.loop-token.token-index no_token)) ≡ None = search rules in
    let place : length c.loop-token.roles.items ≡ c.len.result = search rules in
    turn_stuck _ c.loop-token.roles.items (reverse c.loop-token.stack.items) c.loop-token.counts c.loop-token.before c.args.tokens.now c.loop-token.token-index no_token c.loop-token-test.true c.loop-token.invariant stuck
    ∙ ap (λ f. Err f) (ap (λ n. spec.first_fault c.loop-token.counts (get_or c.args.tokens.now c.loop-token.token-index no_token).line (Unexpected n)) place ∙ sym (c.unexpected.ensures had_memory))

pub loop-token-preserved : goal.loop-token-preserved
loop-token-preserved c =
    let pushed : c.push.new.self.items ≡ c.loop-token.roles.items ++ c.in-Some.role ∷ [] = search rules in
    let taken : machine.take (reverse c.loop-token.stack.items) (seen_as c.loop-token.before (get_or c.args.tokens.now c.loop-token.token-index no_token)) ≡ Some (c.in-Some.role, reverse c.take.new.stack.items) = search rules in
    turn _ c.loop-token.roles.items (reverse c.loop-token.stack.items) (reverse c.take.new.stack.items) c.loop-token.counts c.loop-token.before c.args.tokens.now c.loop-token.token-index no_token c.in-Some.role c.loop-token-test.true c.loop-token.invariant taken
    ∙ ap (λ roles. spec.with_roles roles (spec.read (length roles) (reverse c.take.new.stack.items) (limits.counted c.loop-token.counts c.in-Some.role (get_or c.args.tokens.now c.loop-token.token-index no_token).line (level (reverse c.take.new.stack.items))) (Some (get_or c.args.tokens.now c.loop-token.token-index no_token).line) (drop (c.loop-token.token-index + 1) c.args.tokens.now))) (sym pushed)
    ∙ ap (λ counts. spec.with_roles c.push.new.self.items (spec.read (length c.push.new.self.items) (reverse c.take.new.stack.items) counts (Some (get_or c.args.tokens.now c.loop-token.token-index no_token).line) (drop (c.loop-token.token-index + 1) c.args.tokens.now)))
    (sym (c.count-counts.ensures ∙ ap (λ stack. limits.counted c.loop-token.counts c.in-Some.role (get_or c.args.tokens.now c.loop-token.token-index no_token).line (level (reverse stack))) c.deref.ensures.value))

pub returns : goal.returns
returns c =
    let all : spec.roles c.args.tokens.now ≡ spec.with_roles c.loop-token.roles.items (spec.at_end c.loop-token.counts c.loop-token.before c.missing.result) =
    turn_end _ c.loop-token.roles.items (reverse c.loop-token.stack.items) c.loop-token.counts c.loop-token.before (drop c.loop-token.token-index c.args.tokens.now) (drop_all _ _ c.loop-token-test.false) c.loop-token.invariant
    ∙ ap (λ part. spec.with_roles c.loop-token.roles.items (spec.at_end c.loop-token.counts c.loop-token.before part)) (sym c.missing.ensures) in
    subst (λ (answer : spec.Answer). spec.Gives (λ roles. roles.items) c.at_end.result answer) (sym all) c.at_end.ensures
