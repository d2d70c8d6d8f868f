-- The slots of a form for which it has arguments. To be held against docs/notation.md, 'Rules and statements'.
use Rattle.std.specs.Prelude.{List, drop, Some}
use Rattle.binding_terms.specs.Signature.{Place}
use Rattle.rule_schemes.specs.Rules.{argument_slots}
use Rattle.form_scopes.specs.declared.arguments.Skip.{Skip}
use Rattle.form_scopes.specs.declared.arguments.Skip.TheVariants.{Nothing, First, Of}

-- the slots without the one that is left out
abbrev pub kept_slots : Skip → List Place → List Place
kept_slots Nothing ss = ss
kept_slots First ss = drop 1 ss
kept_slots (Of c) ss = argument_slots (Some c) ss
