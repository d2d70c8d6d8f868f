-- The portions as contracts see them: with their tokens, wherever these lie.
use Rattle.std.specs.Prelude.{Bool, List, map, Option, option_map}
use Rattle.proof_lexer.specs.declared.token.Token.{Token}
use Rattle.outline_reader.specs.declared.fault.Part.{Part}
use Rattle.outline_reader.specs.declared.parts.Just.{Just}
use Rattle.outline_reader.specs.declared.parts.Just.TheVariants as just
use Rattle.outline_reader.specs.declared.parts.Portion.{Portion}
use Rattle.outline_reader.specs.declared.parts.Portion.TheVariants as portion
use Rattle.outline_reader.specs.declared.parts.ArgText.{ArgText}
use Rattle.outline_reader.specs.declared.parts.ArgText.TheVariants as arg
use Rattle.outline_reader.specs.declared.parts.InputText.{InputText}
use Rattle.outline_reader.specs.declared.parts.InputText.TheVariants as input
use Rattle.outline_reader.specs.declared.parts.NamedForm.{NamedForm}

-- an argument: a name, or a form without the parentheses around it
pub data Argument : Type 0 where
  name_alone : Token → Argument
  enclosed : List Token → Argument

-- a form with its name
pub record Labelled : Type 0 where
  pub name : Token
  pub form : List Token

pub data Input : Type 0 where
  given : Labelled → Input
  of_syntax : Token → Input

abbrev pub arg_view : ArgText → Argument
arg_view (arg.Name name) = name_alone name.now
arg_view (arg.Form form) = enclosed form.now

abbrev pub named_view : NamedForm → Labelled
named_view labelled = record { name = labelled.name.now; form = labelled.form.now }

abbrev pub input_view : InputText → Input
input_view (input.Given labelled) = given (named_view labelled)
input_view (input.Syntax name) = of_syntax name.now

-- what justifies a step
pub data Justification : Type 0 where
  by_rule : Token → List Argument → Justification
  -- the word `theorem` or `lemma`, the name, the arguments
  by_theorem : Token → Token → List Argument → Justification
  by_hypothesis : List Argument → Justification
  by_cases : Argument → Justification
  by_induction : Argument → Justification
  by_contradiction : Argument → Justification
  by_weakening : Token → Justification
  by_exchange : Token → Justification
  by_substitution : Token → Token → Justification
  by_none : Justification
  by_names : List Token → Justification

-- a portion of a file; the first token of each is its first word, but of a rule and a category
pub data Piece : Type 0 where
  terminals : Token → List Token → Piece
  syntax : Token → Piece
  -- the name, the `::=`, the productions
  category : Token → Token → List (List Token) → Piece
  -- the first token, the name, the form, what is assumed
  judgment : Token → Token → List Token → Option Token → Piece
  -- the premises, the name, the conclusion
  rule : List (List Token) → Token → List Token → Piece
  -- the first token, whether `and` stands in front, the word `theorem` or `lemma`, the name, what is assumed, the inputs, the conclusions, the targets
  theorem : Token → Bool → Token → Token → Option Token → List Input → List (List Token) → List Token → Piece
  -- the first token, the names, the forms
  step : Token → List Token → List (List Token) → Justification → Piece
  -- the first token, the subject, the premises, the rule's name, the conclusion
  inversion : Token → Argument → List Labelled → Token → Labelled → Piece
  case_rule : Token → List Labelled → Token → Labelled → Piece
  -- the first token, the form, what is assumed
  case_term : Token → List Token → Option (List Token) → Piece
  end_line : Token → Part → Piece

abbrev pub just_view : Just → Justification
just_view (just.Rule name on) = by_rule name.now (map arg_view on.items)
just_view (just.Theorem kind name on) = by_theorem kind.now name.now (map arg_view on.items)
just_view (just.Hypothesis on) = by_hypothesis (map arg_view on.items)
just_view (just.Cases subject) = by_cases (arg_view subject)
just_view (just.Induction subject) = by_induction (arg_view subject)
just_view (just.Contradiction subject) = by_contradiction (arg_view subject)
just_view (just.Weakening name) = by_weakening name.now
just_view (just.Exchange name) = by_exchange name.now
just_view (just.Substitution name second) = by_substitution name.now second.now
just_view just.Unproved = by_none
just_view (just.Names names) = by_names (map (λ name. name.now) names.items)

abbrev pub portion_view : Portion → Piece
portion_view (portion.Terminals first items) = terminals first.now items.now
portion_view (portion.Syntax first) = syntax first.now
portion_view (portion.Category name mark productions) = category name.now mark.now (map (λ form. form.now) productions.items)
portion_view (portion.Judgment first name form assumes) = judgment first.now name.now form.now (option_map (λ name. name.now) assumes)
portion_view (portion.Rule premises name conclusion) = rule (map (λ form. form.now) premises.items) name.now conclusion.now
portion_view (portion.Theorem first joined kind name assumes inputs outputs targets) =
    theorem first.now joined kind.now name.now (option_map (λ name. name.now) assumes) (map input_view inputs.items) (map (λ form. form.now) outputs.items) (map (λ name. name.now) targets.items)
portion_view (portion.Step first names forms why) = step first.now (map (λ name. name.now) names.items) (map (λ form. form.now) forms.items) (just_view why)
portion_view (portion.Inversion first subject premises name conclusion) = inversion first.now (arg_view subject) (map named_view premises.items) name.now (named_view conclusion)
portion_view (portion.CaseRule first premises name conclusion) = case_rule first.now (map named_view premises.items) name.now (named_view conclusion)
portion_view (portion.CaseTerm first form assumes) = case_term first.now form.now (option_map (λ form. form.now) assumes)
portion_view (portion.End first part) = end_line first.now part
