-- Readings of contexts and of what is wanted, each at its place in the reading order. Held against `way_of_wanted` of
-- rule_schemes/specs/Said.antt.
use Rattle.std.specs.Prelude.{◌≡◌, ◌≢◌, ℕ, List, [], ◌∷◌}
use Rattle.std.specs.List.{AllByRecursion}
use Rattle.binding_terms.specs.Signature.{Signature}
use Rattle.scheme_terms.specs.Forms.{SchemeContext, KnownVariable}
use Rattle.scheme_terms.specs.declared.scheme.MetaDecl.{MetaDecl}
use Rattle.rule_schemes.specs.Reading.{Token, Variable, ReadingScope, ReadsContext}
use Rattle.rule_schemes.specs.Said.{Want, Written, ReadsWanted, Way, way_of_context, way_of_wanted}
use Rattle.rule_schemes.specs.declared.rule.Judgment.{Judgment}

-- a reading of a context that stands at this place
abbrev pub ReadsContextAt : Signature → ReadingScope → List MetaDecl → (cat : ℕ) → List Token → Way → SchemeContext → List Variable → List KnownVariable → Type 0
ReadsContextAt sig scope metas c tokens w ctx vars ks = (r : ReadsContext sig scope metas c tokens ctx vars ks) × (way_of_context r ≡ w)

-- what a form writes, and the known variable that a context in it writes
abbrev pub WrittenForm : Type 0
WrittenForm = Written × List KnownVariable

-- a reading of what is wanted that stands at this place
abbrev pub ReadsWantedAt : Signature → List Judgment → ReadingScope → List MetaDecl → Want → List Token → Way → WrittenForm → Type 0
ReadsWantedAt sig js scope metas want tokens w x = (r : ReadsWanted sig js scope metas tokens want x.0 x.1) × (way_of_wanted r ≡ w)

-- no two known variables have one name
abbrev pub KnownsApart : List KnownVariable → Type 0
KnownsApart [] = Unit {0}
KnownsApart (k ∷ ks) = AllByRecursion (λ l. k.name ≢ l.name) ks × KnownsApart ks
