use Rattle.std.proofs.Common.{◌≡◌, map, take}
use Rattle.term_reader.specs.View.{token}
use Rattle.derivation_text.specs.Contents.{kept_token}
use Rattle.derivation_text.proofs.arguments.kept_form.Given as goal

abbrev pub invariant-loop-one : goal.invariant-loop-one
invariant-loop-one l = map kept_token l.all ≡ map token (take l.one-index l.tokens)
