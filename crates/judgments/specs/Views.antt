-- What contracts see of the types of this crate, and of the inputs that a file lends.
use Rattle.std.specs.Prelude.{map}
use Rattle.outline_reader.specs.Plain.{plain_input}
use Rattle.outline_reader.specs.Views.{input_view}
use Rattle.outline_reader.specs.declared.parts.InputText.{InputText}
use Rattle.outline_reader.specs.declared.parts.NamedForm.{NamedForm}
use Rattle.proof_lexer.specs.View.{kind_and_text}
use Rattle.judgments.specs.Texts.{written_input}
use Rattle.judgments.specs.Written.{WrittenInput, for_derivation, for_term}
use Rattle.judgments.specs.Theory.{Declared, a_judgment, a_rule, a_theorem}
use Rattle.judgments.specs.declared.naming.Declares.{Declares}
use Rattle.judgments.specs.declared.naming.Declares.TheVariants as declares_what

abbrev pub declares : Declares → Declared
declares declares_what.Judgment = a_judgment
declares declares_what.Rule = a_rule
declares declares_what.Theorem = a_theorem

-- an input, as it is written
abbrev pub input_text : InputText → WrittenInput
input_text input = written_input (plain_input (input_view input))

-- a derivation's input, as it is read
abbrev pub given_text : NamedForm → WrittenInput
given_text named = for_derivation named.name.now.text.now (map kind_and_text named.form.now)

abbrev pub IsForDerivation : WrittenInput → Type 0
IsForDerivation (for_derivation name form) = Unit {0}
IsForDerivation (for_term w) = ⊥
