use Rattle.std.proofs.Common.{◌≡◌, ◌+◌, ◌++◌, List, map, drop, subst}
use Rattle.proof_lexer.specs.declared.token.Token.{Token}
use Rattle.term_reader.specs.View.{token}
use Rattle.derivation_text.specs.Contents.{argument}
use Rattle.derivation_text.specs.Ending.{Given, HasNoFront, IsFront, IsRest, HasNoRest}
use Rattle.derivation_text.specs.declared.arguments.Argued.{Argued}
use Rattle.derivation_text.proofs.EndingLemmas.{no_rest_arguments, false_case, behind_is}
use Rattle.derivation_text.proofs.arguments.arguments.Goals as goal
use Rattle.binding_terms.proofs.Lists.{map_empty_back, some_case}

pub returns-else-branch : goal.returns-else-branch
returns-else-branch c =
    let known = c.args.known.now in
    let ts = map token c.args.tokens.now in
    let place = c.in-Some.found.more + 1 in
    no_rest_arguments known ts (map token (drop place c.args.tokens.now)) (argument c.in-Some.found.argument)
    (λ e. c.if-tokens-eq0.false (map_empty_back token c.args.tokens.now e))
    (some_case (HasNoFront known ts) (λ (p : Argued). IsFront known ts (argument p.argument) (map token (drop (p.more + 1) c.args.tokens.now))) c.in_ok-found.field-0 c.in-Some.found (c.in_ok-found.ensures.front) c.in-Some.is)
    (subst (λ (x : List Token). HasNoRest known (map token x)) (behind_is c.args.tokens.now place)
    (false_case ((more : List Given) × (_ ≡ _ ++ more) × IsRest known (map token _) more) c.in_ok-further.field-0 c.in_ok-further.ensures c.if-branch.false))
