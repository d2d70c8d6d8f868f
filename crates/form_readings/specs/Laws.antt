-- The readings of one form stand in order. Held against docs/notation.md on the reading order.
use Rattle.std.specs.Prelude.{◌≡◌, ◌⊎◌, ℕ, List}
use Rattle.binding_terms.specs.Signature.{Signature}
use Rattle.scheme_terms.specs.Forms.{SchemeContext, KnownVariable}
use Rattle.scheme_terms.specs.declared.scheme.MetaDecl.{MetaDecl}
use Rattle.rule_schemes.specs.Reading.{Token, Variable, ReadingScope}
use Rattle.rule_schemes.specs.Said.{Want, Way, IsBefore}
use Rattle.rule_schemes.specs.declared.rule.Judgment.{Judgment}
use Rattle.ordered_readings.specs.Names.{NamesApart}
use Rattle.form_readings.specs.Forms.{ReadsContextAt, ReadsWantedAt, WrittenForm, KnownsApart}

-- Where no two metavariables and no two known variables have one name: of two readings of tokens as a context, one is before the other,
-- or both are at one place, are the same context, leave the same variables in scope and write the same known variable.
abbrev pub ContextLaw : Type 0
ContextLaw =
    (sig : Signature) (scope : ReadingScope) (metas : List MetaDecl) (cat : ℕ) (tokens : List Token) (v w : Way) (a b : SchemeContext)
    (vs us : List Variable) (ks ls : List KnownVariable) → NamesApart metas → KnownsApart scope.names.knowns
    → ReadsContextAt sig scope metas cat tokens v a vs ks → ReadsContextAt sig scope metas cat tokens w b us ls
    → IsBefore v w ⊎ (((v ≡ w) × (a ≡ b) × (vs ≡ us) × (ks ≡ ls)) ⊎ IsBefore w v)

-- and of two readings as what is wanted, one is before the other, or both are at one place and write the same
abbrev pub WantedLaw : Type 0
WantedLaw =
    (sig : Signature) (js : List Judgment) (scope : ReadingScope) (metas : List MetaDecl) (want : Want) (tokens : List Token) (v w : Way) (x y : WrittenForm)
    → NamesApart metas → KnownsApart scope.names.knowns
    → ReadsWantedAt sig js scope metas want tokens v x → ReadsWantedAt sig js scope metas want tokens w y
    → IsBefore v w ⊎ (((v ≡ w) × (x ≡ y)) ⊎ IsBefore w v)
