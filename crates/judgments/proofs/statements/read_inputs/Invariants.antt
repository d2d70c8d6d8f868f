use Rattle.std.proofs.Common.{take, map}
use Rattle.std.specs.List.{AllZip}
use Rattle.scheme_terms.specs.View.{names}
use Rattle.proof_lexer.specs.View.{kind_and_text}
use Rattle.rule_schemes.specs.View.{judgment_scheme}
use Rattle.judgments.specs.Written.{ReadsOnlyAs}
use Rattle.judgments.proofs.statements.read_inputs.Given as goal

abbrev pub invariant-loop-named : goal.invariant-loop-named
invariant-loop-named l =
    AllZip (ReadsOnlyAs l.sys.sig l.sys.judgments (names l.scope.scope)) (map (λ named. map kind_and_text named.form.now) (take l.named-index l.inputs)) (map judgment_scheme l.all.items)
