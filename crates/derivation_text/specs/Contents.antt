-- What a contract sees of the lines that were read.
use Rattle.std.specs.Prelude.{map}
use Rattle.rule_schemes.specs.Reading.{Token}
use Rattle.term_reader.specs.View.{kind_number}
use Rattle.derivation_text.specs.Forms as forms
use Rattle.derivation_text.specs.Valid.{Last, no_last, applied, given_out, Contents}
use Rattle.derivation_text.specs.declared.derivs.Kept.{Kept}
use Rattle.derivation_text.specs.declared.derivs.Argument.{Argument}
use Rattle.derivation_text.specs.declared.derivs.Argument.TheVariants.{Name, Term}
use Rattle.derivation_text.specs.declared.derivs.Ending.{Ending}
use Rattle.derivation_text.specs.declared.derivs.Ending.TheVariants.{Open, Apply, Gives}
use Rattle.derivation_text.specs.declared.derivs.Derivs.{Derivs}

abbrev pub kept_token : Kept → Token
kept_token k = (kind_number k.kind, k.text)

abbrev pub argument : Argument → forms.Argument
argument (Name w) = forms.by_name w
argument (Term form) = forms.enclosed (map kept_token form)

abbrev pub last_of : Ending → Last
last_of Open = no_last
last_of (Apply args) = applied (map argument args)
last_of (Gives names) = given_out names

abbrev pub contents : Derivs → Contents
contents d = record { named = d.named; last = last_of d.ending }
