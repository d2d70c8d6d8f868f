use Rattle.std.proofs.Common.{take, map}
use Rattle.std.specs.List.{AllZip}
use Rattle.scheme_terms.specs.View.{names}
use Rattle.proof_lexer.specs.View.{kind_and_text}
use Rattle.rule_schemes.specs.View.{judgment_scheme}
use Rattle.judgments.specs.Written.{ReadsOnlyAs}
use Rattle.judgments.proofs.readings.read_forms.Given as goal

abbrev pub invariant-loop-form : goal.invariant-loop-form
invariant-loop-form l =
    AllZip (ReadsOnlyAs l.sig l.judgments.items (names l.scope.scope)) (map (λ form. map kind_and_text form.now) (take l.form-index l.forms)) (map judgment_scheme l.all)
