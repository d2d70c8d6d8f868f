-- Forms in which nothing binds are read in their scope.
use Rattle.std.proofs.Common.{◌≡◌, List, [], sym, subst}
use Rattle.binding_terms.specs.Signature.{Signature}
use Rattle.rule_schemes.specs.Reading.{ReadingScope}
use Rattle.rule_schemes.specs.Said.{Want}
use Rattle.rule_schemes.specs.declared.rule.Judgment.{Judgment}
use Rattle.term_reader.specs.Names.{NamesApart}
use Rattle.notation_parser.specs.Renaming.{OccursInKnowns}
use Rattle.notation_parser.specs.Shapes.{KnownsApart}
use Rattle.notation_parser.specs.Plain.{IsReadable, IsPlain}

-- what is asked of a scope without known variables
pub readable : (scope : ReadingScope) → NamesApart scope.names.metas → scope.names.knowns ≡ [] → IsReadable scope
readable scope names none =
    record {
      over = record { names = names; apart = subst KnownsApart (sym none) tt };
      stand = λ _. record { within = λ m o. absurd (subst (OccursInKnowns m) none o) };
    }

pub plain_readable : (sig : Signature) (js : List Judgment) (scope : ReadingScope) (want : Want) → IsPlain sig js scope want → IsReadable scope
plain_readable sig js scope want p = readable scope p.nothing_binds.names p.knowns
