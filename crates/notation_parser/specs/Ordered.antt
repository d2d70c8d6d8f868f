-- Readings of what is wanted at their places in the reading order.
use Rattle.std.specs.Prelude.{◌≡◌, List}
use Rattle.binding_terms.specs.Signature.{Signature}
use Rattle.scheme_terms.specs.Forms.{KnownVariable}
use Rattle.scheme_terms.specs.declared.scheme.MetaDecl.{MetaDecl}
use Rattle.rule_schemes.specs.Reading.{Token, ReadingScope}
use Rattle.rule_schemes.specs.Said.{Want, Written, ReadsWanted, Way, way_of_wanted}
use Rattle.rule_schemes.specs.declared.rule.Judgment.{Judgment}

-- what a form writes, and the known variable that a context in it writes
abbrev pub WrittenForm : Type 0
WrittenForm = Written × List KnownVariable

-- a reading of what is wanted that stands at this place
abbrev pub ReadsWantedAt : Signature → List Judgment → ReadingScope → List MetaDecl → Want → List Token → Way → WrittenForm → Type 0
ReadsWantedAt sig js scope metas want ts w x = (r : ReadsWanted sig js scope metas ts want x.0 x.1) × (way_of_wanted r ≡ w)
